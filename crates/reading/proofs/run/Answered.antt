-- What an accepted case leaves in the stencil, and the samples that it was given, are what is printed of it. Assumes nothing.
use mathlib.Core.Bool.{Bool, true, false, cond}
use mathlib.Core.List.{List}
use mathlib.Core.Path.{◌≡◌, refl, sym, ap, ◌∙◌}
use Prim.Native.Nat.{ℕ, ◌*◌, ◌≤◌, ◌<◌}
use native.Mathlib.Nat.{mul-le-mul_left}
use native.Mathlib.Omega.{arith}
use lib.Ieee.{Float, binary32}
use lib.ListN.{length, replicate}
use borrow.Author.Tests.{eqb-true}
use Rattle.numbers.specs.Constants.{zero_of}
use Rattle.ranges.specs.declared.config.Settings.{Settings}
use Rattle.inputs.specs.Checks.{Input, refusal_number, accepted}
use Rattle.inputs.proofs.Laws.Checks.{sizes, passed}
use Rattle.correction.specs.Bitmap.{cell_texel}
use Rattle.correction.specs.Pass.{pass_stencil, answer, stencil_after}
use Rattle.correction.proofs.Laws.Leaves as Leaves
use Rattle.plain.specs.Answer.{plain_answer, untested}
use Rattle.reading.specs.Inner.{counts_line, of_pass, of_plain, judged, judged_text}
use Rattle.reading.specs.Answer.{lent_room}
use Rattle.reading.proofs.Copied.{repeated}
use Rattle.reading.specs.Text.{accepted_with, refused_text}
use Rattle.std.specs.Prelude.{Ok, Err}
use Rattle.inputs.specs.declared.refusal.Refusal.{Refusal}
use Rattle.inputs.specs.Refusal.{number, place}
use Rattle.correction.specs.declared.pass.Corrected.{Corrected}
use Rattle.reading.specs.declared.engines.Judged.{Judged}

-- ---- what acceptance says of the sizes

pub record Sized (i : Input) : Type 0 where
  pub wide : 1 ≤ i.width
  pub narrow : i.width ≤ 4096
  pub high : i.height ≤ 4096
  pub deep : 3 ≤ i.channels
  pub shallow : i.channels ≤ 4
  pub samples : length i.samples ≡ i.width * i.height * i.channels
  pub cells : length i.stencil ≡ i.width * i.height

-- acceptance says the sizes
pub sized : (i : Input) → accepted i ≡ true → Sized i
unfolding accepted
sized i a =
    let z = sizes _ _ _ _ _ (passed i (eqb-true (refusal_number i) 0 a)).sizes in
    record { wide = z.wide.0; narrow = z.wide.1; high = z.high.1; deep = z.channels.0; shallow = z.channels.1; samples = z.samples; cells = z.cells }

-- ---- the answer

accepted_go : (plain b : Bool) (c : Judged) (d : Corrected) (r : Refusal) → Ok c ≡ cond plain (of_plain (untested (cond b (Ok d) (Err r)))) (of_pass (cond b (Ok d) (Err r))) → b ≡ true
unfolding untested of_plain of_pass
accepted_go plain true c d r e = refl
accepted_go true false c d r e = absurd (let z : ◌≡◌ {A = ℕ} 0 1 = cc in omega arith)
accepted_go false false c d r e = absurd (let z : ◌≡◌ {A = ℕ} 0 1 = cc in omega arith)

-- an answer that counts is one of acceptance
pub was_accepted : (plain : Bool) (i : Input) (c : Judged) → Ok c ≡ judged plain i → accepted i ≡ true
unfolding judged plain_answer answer
was_accepted plain i c e = accepted_go plain (accepted i) c _ _ e

module _ (i : Input) (a : accepted i ≡ true) where
  -- what an accepted pass leaves in the stencil
  pub stencil_left : stencil_after i ≡ pass_stencil i
  unfolding stencil_after
  stencil_left = simp a

  -- and how long that is
  pub stencil_length : length (pass_stencil i) ≡ i.width * i.height
  stencil_length = ap length (sym stencil_left) ∙ Leaves.stencil_length i a

-- ---- the text

-- what is printed from the stencil that an accepted pass leaves and the samples that it was given
pub accepted_text_law : (plain : Bool) (i : Input) (c : Judged) (st : List ℕ) (xs : List Float) → Ok c ≡ judged plain i → st ≡ stencil_after i → xs ≡ i.samples → accepted_with i.width i.height i.channels (counts_line c.counts c.tests) st (cell_texel xs i.channels) ≡ judged_text i (judged plain i)
unfolding judged_text
accepted_text_law plain i c st xs e p q = rw (p, q, stencil_left i (was_accepted plain i c e)) (ap (judged_text i) e)

-- there is room for it
pub record Roomy (i : Input) (st : List ℕ) (xs : List Float) : Type 0 where
  pub sizes : (0 < i.width) × (3 ≤ i.channels) × (i.height ≤ 4096) × (i.width * i.height ≤ 4096)
  pub cells : i.width * i.height ≤ length st
  pub samples : i.width * i.height * i.channels ≤ length xs

-- the stencil and the samples are long enough to be printed
pub roomy : (plain : Bool) (i : Input) (c : Judged) (st : List ℕ) (xs : List Float) → Ok c ≡ judged plain i → length i.samples ≤ 12288 → st ≡ stencil_after i → xs ≡ i.samples → Roomy i st xs
roomy plain i c st xs e few p q =
    let a = was_accepted plain i c e in
    let z = sized i a in
    record {
      sizes = (z.wide, z.deep, z.high, omega (arith, z.samples, mul-le-mul_left (i.width * i.height) z.deep));
      cells = omega (arith, ap length (p ∙ stencil_left i a), stencil_length i a);
      samples = omega (arith, ap length q, z.samples);
    }

-- what is printed of a refusal
pub refused_text_law : (plain : Bool) (i : Input) (r : Refusal) → Err r ≡ judged plain i → refused_text (number r) (place r) ≡ judged_text i (judged plain i)
unfolding judged_text
refused_text_law plain i r e = ap (judged_text i) e

-- ---- the room

-- what an array of zeros lends
pub lent : replicate 8192 (zero_of binary32) ≡ lent_room
unfolding lent_room
lent = repeated 8192 (zero_of binary32)

-- what is printed in it, with the settings as the input has them
pub printed_as : (plain : Bool) (f : Settings → List Float → Input) {t u : Settings} → t ≡ u → let r = replicate 8192 (zero_of binary32) in judged_text (f t r) (judged plain (f t r)) ≡ judged_text (f u lent_room) (judged plain (f u lent_room))
printed_as plain f e = λ j. judged_text (f (e j) (lent j)) (judged plain (f (e j) (lent j)))
