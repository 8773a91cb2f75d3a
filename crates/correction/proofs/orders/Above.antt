-- A byte with the order of its texel above it. Assumes nothing.
--     above          the byte
--     order_made     the byte that is made of them
use mathlib.Core.Path.{◌≡◌, ◌∙◌, ap}
use mathlib.Core.List.{List}
use Prim.Native.Nat.{ℕ, ◌+◌, ◌*◌, ◌<◌}
use lib.Ieee.{Float}
use Rattle.detectors.specs.Orders.{order_code}
use Rattle.inputs.specs.declared.sizes.Window.{Window}
use Rattle.inputs.specs.Window.{cell_in, cut_samples}
use Rattle.inputs.specs.Inner.{Sampled}
use Rattle.correction.specs.Bitmap.{texel}
use Rattle.correction.specs.Inner.{samples_at}
use Rattle.correction.proofs.bitmap.Centres.{texel_read}

abbrev pub above : Window → List Float → ℕ → ℕ → ℕ → ℕ
above g xs v x y = v + 8 * order_code (texel (cut_samples g xs) g.width g.channels x y)

module _ (g : Window) (xs : List Float) (s : Sampled g xs) {x y : ℕ} (l : x < g.width) (b : y < g.height) {ch : ℕ} (c : g.channels ≡ ch) where
  placed : cell_in g x y * ch ≡ cell_in g x y * g.channels
  placed = rw c

  pub order_made : (v : ℕ) {r : ℕ} → r ≡ v + 8 * order_code (samples_at xs (cell_in g x y * ch)) → r ≡ above g xs v x y
  order_made v e = e ∙ ap (λ (o : List Float). v + 8 * order_code o) (texel_read g x y l b xs s placed)
