-- The byte that edge protection leaves in a cell, and the cells of a row and of all rows that have it. Assumes nothing.
--     row_painted   one row
--     all_painted   all rows
use mathlib.Core.Path.{◌≡◌, refl}
use mathlib.Core.Bool.{Bool, true, false, cond, ◌&&◌}
use mathlib.Core.List.{List}
use Prim.Native.Nat.{ℕ, ◌/◌, ◌%◌}
use lib.Dec.{eqb}
use lib.Ieee.{Float}
use lib.ListN.{length, get_or}
use Rattle.ranges.specs.declared.config.Settings.{Settings}
use Rattle.ranges.specs.Config.{radius}
use Rattle.ground.specs.Lists.{tab, painted}
use Rattle.ground.proofs.Laws.Fill.{tab_same}
use Rattle.inputs.specs.declared.sizes.Window.{Window}
use Rattle.inputs.specs.Stencil.{set_protected}
use Rattle.correction.specs.declared.edges.Radii.{Radii}
use Rattle.correction.specs.Bitmap.{texel}
use Rattle.correction.specs.Edges.{some_edge, edges_protect}
use Rattle.correction.proofs.bitmap.Stretch.{swept, rowed}

-- a pair protects texel x, y of the window whose samples are xs
abbrev pub edge : List Float → Window → Radii → ℕ → ℕ → Bool
edge xs b r x y = some_edge (texel xs b.width b.channels) b.width b.height r.horizontal r.vertical r.diagonal x y

-- what is left in its cell that has the byte v
abbrev pub byte : List Float → Window → Radii → ℕ → ℕ → ℕ → ℕ
byte xs b r v x y = cond (edge xs b r x y) (set_protected v) v

both : (p q : Bool) (u v : ℕ) → cond p (cond q u v) v ≡ cond (p && q) u v
both true q u v = refl
both false q u v = refl

pub row_painted : (xs : List Float) (b : Window) (r : Radii) (y : ℕ) (st : List ℕ) → tab (length st) (rowed (byte xs b r) b.width y st) ≡ painted set_protected (λ k. eqb (k / b.width) y && edge xs b r (k % b.width) (k / b.width)) st
unfolding painted
row_painted xs b r y st = tab_same (length st) _ _ (λ k l. both (eqb (k / b.width) y) (edge xs b r (k % b.width) (k / b.width)) (set_protected (get_or st k 0)) (get_or st k 0))

-- rh, rv and rd are the radii of the three lengths
pub all_painted : (xs : List Float) (b : Window) (s : Settings) (rh rv rd : Float) → rh ≡ radius s.horizontal → rv ≡ radius s.vertical → rd ≡ radius s.diagonal → (st : List ℕ) → tab (length st) (swept (byte xs b (record { horizontal = rh; vertical = rv; diagonal = rd })) b.width st) ≡ painted set_protected (λ k. edges_protect (texel xs b.width b.channels) b.width b.height s (k % b.width) (k / b.width)) st
unfolding painted edges_protect
all_painted xs b s rh rv rd p q r st = rw (p, q, r)
