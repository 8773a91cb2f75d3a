-- `correction::edges::protect_edges` meets its contract: before row y the rows below it are given, and its medians are in the room. Assumes nothing.
use mathlib.Core.Path.{◌≡◌}
use mathlib.Core.List.{List}
use Prim.Native.Nat.{ℕ, ◌<◌, ◌≤◌}
use lib.ListN.{length}
use lib.Ieee.{Float}
use Rattle.inputs.specs.declared.sizes.Window.{Window}
use Rattle.inputs.specs.Window.{cut_samples}
use Rattle.correction.specs.declared.edges.Radii.{Radii}
use Rattle.correction.specs.Inner.{Medians}
use Rattle.correction.proofs.bitmap.Stretch.{Rowed}
use Rattle.correction.proofs.edges.Byte.{byte}
use Rattle.correction.proofs.edges.protect_edges.Given as goal

pub record Inv (st₀ : List ℕ) (xs room₀ : List Float) (g : Window) (r : Radii) (st : List ℕ) (room : List Float) (y : ℕ) : Type 0 where
  pub few : y ≤ g.height
  pub long : length room ≡ length room₀
  pub there : y < g.height → Medians g xs room y
  pub done : Rowed (byte (cut_samples g xs) g r) g st₀ y st

abbrev pub invariant-loop-y : goal.invariant-loop-y
invariant-loop-y l = Inv l.initial.stencil l.xs l.initial.room l.b l.r l.stencil l.room l.y
