-- A texel of a window as it is read, and a texel among its neighbours. Assumes nothing.
--     place_cut     a sample of texel x, y is one of the window's
--     sample_cut    it is what stands in the sheet at the place of that texel
--     texel_cut     so its first three channels are
--     texel_read    which are the three samples from its place on
--     texel_held    and these are there
--     centred       a centre, as it is read
use mathlib.Core.Path.{◌≡◌, refl, sym, ◌∙◌, ap}
use mathlib.Core.List.{List, [], ◌∷◌}
use Prim.Native.Nat.{ℕ, ◌+◌, ◌*◌, ◌<◌}
use native.Mathlib.Nat.{add-zero}
use native.Mathlib.Omega.{arith}
use lib.Arith.{digits_lt}
use lib.ListN.{get_or, length}
use lib.Ieee.{Float, nan}
use Rattle.ground.proofs.Laws.Picked.{picked_at}
use Rattle.inputs.specs.declared.sizes.Window.{Window}
use Rattle.inputs.specs.Window.{cell_in, sample_shown, cut_samples}
use Rattle.inputs.specs.Inner.{Sampled}
use Rattle.inputs.proofs.Laws.Places.{cell_lt}
use Rattle.inputs.proofs.Laws.Windows.{cell_shown_law, sample_shown_law}
use Rattle.correction.specs.declared.bitmap.Centre.{Centre}
use Rattle.correction.specs.Bitmap.{cell, texel}
use Rattle.correction.specs.Inner.{samples_at, centre_of, Centred}

module _ (g : Window) (x y : ℕ) (p : x < g.width) (q : y < g.height) where
  pub place_cut : (r : ℕ) → r < g.channels → cell g.width x y * g.channels + r < g.height * g.width * g.channels
  place_cut r l = digits_lt (cell_lt g.width g.height x y p q) l

  pub sample_cut : (xs : List Float) (r : ℕ) → r < g.channels → get_or (cut_samples g xs) (cell g.width x y * g.channels + r) nan ≡ get_or xs (cell_in g x y * g.channels + r) nan
  sample_cut xs r l =
      picked_at nan (g.height * g.width * g.channels) (sample_shown g) xs (cell g.width x y * g.channels + r) (place_cut r l)
      ∙ ap (λ (k : ℕ). get_or xs k nan) (sample_shown_law g (cell g.width x y) r l ∙ ap (λ (k : ℕ). k * g.channels + r) (cell_shown_law g x y p))

  pub texel_cut : (xs : List Float) → Sampled g xs → texel (cut_samples g xs) g.width g.channels x y ≡ (get_or xs (cell_in g x y * g.channels + 0) nan ∷ get_or xs (cell_in g x y * g.channels + 1) nan ∷ get_or xs (cell_in g x y * g.channels + 2) nan ∷ [])
  unfolding texel
  texel_cut xs s = rw (sample_cut xs 0 (omega (arith, s.some)), sample_cut xs 1 (omega (arith, s.some)), sample_cut xs 2 (omega (arith, s.some)))

  module _ (xs : List Float) (s : Sampled g xs) {at : ℕ} (e : at ≡ cell_in g x y * g.channels) where
    pub texel_read : samples_at xs at ≡ texel (cut_samples g xs) g.width g.channels x y
    texel_read = rw e (rw add-zero at (sym (texel_cut xs s)))

    pub texel_held : at + 2 < length xs
    texel_held = omega (arith, e, s.held x y p q, s.some)

pub centred : (xs : List Float) (w h ch x y : ℕ) (t : Centre) → t ≡ centre_of xs w ch x y → x < w → y < h → Centred xs w h ch t
centred xs w h ch x y t e p q = rw e (record { column = p; row = q; samples = refl; median = refl })
