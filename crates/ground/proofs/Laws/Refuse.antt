-- Checks in order, of which the first that fails answers. Assumes nothing.
--     Each          of each entry of a list
--     Passes        each check passes
--     numbered      no check has the number 0
--     none_fails    where each passes the answer is 0
--     all_pass      and where it is 0 each passes
--     zero_parts    where it is 0 of two lists together it is 0 of both
--     fails_at      those before pass and this one fails: its number answers
--     fails_in      where one of the first checks fails these answer
--     passes_to     where each of them passes the rest answer
--     answer_is     what 0 and each number has the answer has
use mathlib.Core.Path.{◌≡◌, refl}
use mathlib.Core.Bool.{Bool, true, false, cond, not, ◌&&◌}
use mathlib.Core.List.{List, [], ◌∷◌, ◌++◌}
use Prim.Native.Nat.{ℕ}
use lib.Dec.{eqb}
use borrow.Author.Tests.{eqb-false, not-true}
use Rattle.ground.specs.Refuse.{first_failing}
use Rattle.ground.proofs.Laws.Bools.{both_hold}

abbrev pub Each : {A : Type 0} → (A → Type 0) → List A → Type 0
Each P [] = Unit
Each P (x ∷ xs) = P x × Each P xs

abbrev pub Passes : List (Bool × ℕ) → Type 0
Passes cs = Each (λ c. c.0 ≡ false) cs

abbrev pub numbered : List (Bool × ℕ) → Bool
numbered [] = true
numbered (c ∷ cs) = not (eqb c.1 0) && numbered cs

pub none_fails : (cs : List (Bool × ℕ)) → Passes cs → first_failing cs ≡ 0
unfolding first_failing
none_fails [] p = refl
none_fails (c ∷ cs) p = rw (p.0, none_fails cs p.1)

zero_passes : (b : Bool) (n r : ℕ) → (n ≡ 0 → ⊥) → cond b n r ≡ 0 → (b ≡ false) × (r ≡ 0)
zero_passes true n r h e = absurd (h e)
zero_passes false n r h e = (refl, e)

pub all_pass : (cs : List (Bool × ℕ)) → numbered cs ≡ true → first_failing cs ≡ 0 → Passes cs
unfolding first_failing
all_pass [] h e = tt
all_pass (c ∷ cs) h e =
    let k = both_hold (not (eqb c.1 0)) (numbered cs) h in
    let p = zero_passes c.0 c.1 (first_failing cs) (eqb-false c.1 0 (not-true _ k.0)) e in
    (p.0, all_pass cs k.1 p.1)

pub zero_parts : (cs ds : List (Bool × ℕ)) → numbered cs ≡ true → first_failing (cs ++ ds) ≡ 0 → (first_failing cs ≡ 0) × (first_failing ds ≡ 0)
unfolding first_failing
zero_parts [] ds h e = (refl, e)
zero_parts (c ∷ cs) ds h e =
    let k = both_hold (not (eqb c.1 0)) (numbered cs) h in
    let p = zero_passes c.0 c.1 (first_failing (cs ++ ds)) (eqb-false c.1 0 (not-true _ k.0)) e in
    let r = zero_parts cs ds k.1 p.1 in
    (rw (p.0, r.0), r.1)

pub passes_to : (cs ds : List (Bool × ℕ)) → Passes cs → first_failing (cs ++ ds) ≡ first_failing ds
unfolding first_failing
passes_to [] ds p = refl
passes_to (c ∷ cs) ds p = rw (p.0, passes_to cs ds p.1)

pub fails_at : (cs : List (Bool × ℕ)) (b : Bool) (n : ℕ) (ds : List (Bool × ℕ)) → Passes cs → b ≡ true → first_failing (cs ++ (b, n) ∷ ds) ≡ n
unfolding first_failing
fails_at cs b n ds p e = rw (passes_to cs ((b, n) ∷ ds) p, e)

same_lead : (b : Bool) (n r s : ℕ) → (cond b n r ≡ 0 → ⊥) → ((r ≡ 0 → ⊥) → s ≡ r) → cond b n s ≡ cond b n r
same_lead true n r s h f = refl
same_lead false n r s h f = f h

pub fails_in : (cs ds : List (Bool × ℕ)) → (first_failing cs ≡ 0 → ⊥) → first_failing (cs ++ ds) ≡ first_failing cs
unfolding first_failing
fails_in [] ds h = absurd (h refl)
fails_in (c ∷ cs) ds h = same_lead c.0 c.1 (first_failing cs) (first_failing (cs ++ ds)) h (fails_in cs ds)

either_has : (P : ℕ → Type 0) (b : Bool) (n r : ℕ) → P n → P r → P (cond b n r)
either_has P true n r p q = p
either_has P false n r p q = q

pub answer_is : (P : ℕ → Type 0) (cs : List (Bool × ℕ)) → P 0 → Each (λ c. P c.1) cs → P (first_failing cs)
unfolding first_failing
answer_is P [] z p = z
answer_is P (c ∷ cs) z p = either_has P c.0 c.1 (first_failing cs) p.0 (answer_is P cs z p.1)
