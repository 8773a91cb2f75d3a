-- What is written is the front of the output, which `answer` filled from the front of the input.
use Rattle.std.proofs.Common.{◌≡◌, ℕ, List, ◌++◌, Option, Result, OnOk, IfSome, length, take, sym, ap, ◌∙◌, subst, le_refl, take_all}
use Rattle.std.proofs.lemmas.Result.{on_ok_weaker}
use Rattle.std.proofs.lemmas.Option.{IfSome_then}
use Rattle.std.specs.Io.KnownBytes.{Appends}
use Rattle.reading.specs.Answer.{written}
use lib.Seq.{take-append-le}
use Rattle.rungtwine.proofs.run.Goals as goal

-- as much of a list as its front is long is that front
front_of : (front rest whole : List ℕ) (m : ℕ) → m ≡ length front → whole ≡ front ++ rest → take m whole ≡ front
front_of front rest whole m e f =
    ap (take m) f ∙ ap (λ k. take k (front ++ rest)) e ∙ take-append-le (length front) front rest (le_refl _) ∙ take_all (length front) front (le_refl _)

-- the answer to what was taken of the bytes that came in
answered : {T E : Type 0} (r : Result T E) (came old new : Option (List ℕ)) (input output rest : List ℕ) (taken room m : ℕ) → 65537 ≡ taken → 131072 ≡ room
    → IfSome came (λ xs. input ≡ take taken xs) → m ≡ length (written room input) → output ≡ written room input ++ rest → OnOk r (Appends old new (take m output))
    → OnOk r (IfSome came (λ xs. Appends old new (written 131072 (take 65537 xs))))
answered r came old new input output rest taken room m t e read long filled wrote =
    let text = front_of (written room input) rest output m long filled ∙ ap (λ k. written k input) (sym e) in
    on_ok_weaker r
    (λ w. IfSome_then came read (λ xs i. subst (Appends old new) (text ∙ ap (written 131072) (i ∙ ap (λ k. take k xs) (sym t))) w))
    wrote

pub returns : goal.returns
returns g c =
    answered _ _ _ _ _ _ _ _ _ _ c.input_buffer-input.ensures c.output_buffer-output.ensures c.in_ok-n.ensures.bytes c.answer-m.ensures.0 c.answer-m.ensures.1 c.write_all.ensures.bytes
