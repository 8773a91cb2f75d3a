-- `reading::text::Page::put_flagged` meets its contract. Assumes nothing.
use mathlib.Core.List.{List}
use mathlib.Core.Bool.{true}
use mathlib.Core.Path.{◌≡◌, sym, ◌∙◌, subst}
use Prim.Native.Nat.{ℕ, ◌*◌, ◌/◌, ◌%◌, ◌<◌}
use native.Mathlib.Nat.{add-zero}
use lib.Ieee.{Float}
use lib.ListN.{get_or}
use Rattle.reading.proofs.page.Puts.{put_as, nothing}
use Rattle.numbers.specs.declared.scalar.Middle.{Middle}
use Rattle.detectors.specs.Texel.{texel_middle}
use Rattle.detectors.proofs.Laws.Texel.{texel_channel_below}
use Rattle.inputs.specs.Stencil.{is_error}
use Rattle.correction.specs.Bitmap.{cell_texel}
use Rattle.reading.specs.Text.{texel_text, flagged_text}
use Rattle.reading.proofs.text.Lengths.{cell_short}
use Rattle.reading.proofs.text.Page+u8.put_flagged.Goals as goal
use Rattle.reading.proofs.text.Page+u8.put_flagged.Goals.{After-median-m}

-- the text of a cell that is flagged
flagged_at : (w : ℕ) (st : List ℕ) (texels : ℕ → List Float) (k : ℕ) (m : Middle) → is_error (get_or st k 0) ≡ true → m ≡ texel_middle (texels k) → texel_text (k % w) (k / w) m ≡ flagged_text w st texels k
unfolding flagged_text
flagged_at w st texels k m e d = simp (e, d)

median_is : (c : After-median-m) → let d = c.args in c.median-m.result ≡ texel_middle (cell_texel d.xs.now d.b.channels d.k)
median_is c = let d = c.args in rw (add-zero (d.k * d.b.channels)) c.median-m.ensures

pub put_texel-requires : goal.put_texel-requires
put_texel-requires c =
    let z = cell_short c.args.k c.args.b.width c.requires.texels.2 in
    (c.requires.room.0, z.0, z.1, subst (λ (t : Middle). t.channel < 3) (sym (median_is (goal.at.put_texel-requires c).After-median-m)) (texel_channel_below _))

pub returns-then-is_error : goal.returns-then-is_error
returns-then-is_error c =
    let d = c.args in
    put_as _ (flagged_at d.b.width d.st.now (cell_texel d.xs.now d.b.channels) d.k _ (sym c.is_error.ensures ∙ c.if-is_error.true) (median_is (goal.at.returns-then-is_error c).After-median-m)) c.put_texel.ensures

pub returns-else-is_error : goal.returns-else-is_error
unfolding flagged_text
returns-else-is_error c = simp (sym c.is_error.ensures ∙ c.if-is_error.false) (nothing _)
