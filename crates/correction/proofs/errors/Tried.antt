-- The verdicts of some that are tried in order, each unless there is an artifact before. Assumes nothing.
--     up_to          the verdict of the first n
--     up_to_first   the first comes after nothing
--     up_to_next    with one more, after no artifact
--     up_to_then    so it is with the number that `then` makes of the two
--     up_to_ended   after an artifact it stays
--     eight         of eight it is that of the first four and of the others
use mathlib.Core.Path.{◌≡◌, refl, ◌∙◌, ap}
use mathlib.Core.Bool.{Bool, true, false, cond, ◌||◌}
use mathlib.Core.List.{[], ◌∷◌}
use Prim.Native.Nat.{ℕ, zero, suc, ◌+◌, ◌%◌, ◌^◌, ◌<◌, ◌≤◌}
use native.Mathlib.Omega.{arith}
use Rattle.ground.specs.Lists.{spent_in}
use Rattle.ground.proofs.Laws.Spent.{unless_small}
use Rattle.detectors.specs.Verdict.{verdict}
use Rattle.detectors.specs.Inner.{or_else}
use Rattle.detectors.proofs.Laws.Verdict.{as_clear, then_adds, or_ended, or_next, or_else_law}
use Rattle.correction.specs.Errors.{in_order}

abbrev pub up_to : ℕ → (ℕ → ℕ) → ℕ
up_to zero v = 0
up_to (suc n) v = or_else (up_to n v) (v n)

pub up_to_first : (v : ℕ → ℕ) {r : ℕ} → r ≡ v 0 → r ≡ up_to 1 v
up_to_first v e = e ∙ omega arith ∙ or_next 0 (v 0) (v 0) (omega arith) refl

pub up_to_next : (n : ℕ) (v : ℕ → ℕ) {t r : ℕ} → t ≡ up_to n v → t < 128 → r ≡ v n → t + r ≡ up_to (suc n) v
up_to_next n v {t} {r} e l f = or_next t r (v n) l f ∙ ap (λ (z : ℕ). or_else z (v n)) e

pub up_to_then : (n : ℕ) (v : ℕ → ℕ) {t r s : ℕ} → s ≡ (t + r) % 2 ^ 64 → t ≡ up_to n v → t < 128 → r ≡ v n → r < 65536 → s ≡ up_to (suc n) v
up_to_then n v {t} {r} {s} sum e l f m = then_adds t r s sum (omega (arith, l, m)) ∙ up_to_next n v e l f

-- k more than n
abbrev more : ℕ → ℕ → ℕ
more zero n = n
more (suc k) n = suc (more k n)

pub up_to_ended : (n k : ℕ) (v : ℕ → ℕ) {t : ℕ} → t ≡ up_to n v → 128 ≤ t → t ≡ up_to (more k n) v
up_to_ended n zero v e l = e
up_to_ended n (suc k) v {t} e l = or_ended t (v (more k n)) l ∙ ap (λ (z : ℕ). or_else z (v (more k n))) (up_to_ended n k v e l)

some_of_law : (a b c d e : Bool) → ((((a || b) || c) || d) || e) ≡ (a || (b || (c || (d || e))))
some_of_law true b c d e = refl
some_of_law false true c d e = refl
some_of_law false false true d e = refl
some_of_law false false false d e = refl

made_of : (a b c d e : Bool) (k l m n o : ℕ) →
    k + cond a 0 l + cond (a || b) 0 m + cond ((a || b) || c) 0 n + cond (((a || b) || c) || d) 0 o ≡ k + cond a 0 (l + cond b 0 (m + cond c 0 (n + cond d 0 (o + cond e 0 0))))
made_of true b c d e k l m n o = omega arith
made_of false true c d e k l m n o = omega arith
made_of false false true d e k l m n o = omega arith
made_of false false false true e k l m n o = omega arith
made_of false false false false true k l m n o = omega arith
made_of false false false false false k l m n o = omega arith

-- four after what was tried before
four : (a b c d e : Bool) (k l m n o : ℕ) → k ≤ 31 → l ≤ 31 → m ≤ 31 → n ≤ 31 →
    or_else (or_else (or_else (or_else (verdict a k) (verdict b l)) (verdict c m)) (verdict d n)) (verdict e o)
    ≡ verdict (a || (b || (c || (d || e)))) (k + cond a 0 (in_order ((b, l) ∷ (c, m) ∷ (d, n) ∷ (e, o) ∷ [])))
unfolding spent_in
four a b c d e k l m n o p q r s =
    let two : k + cond a 0 l ≤ 62 = omega (arith, p, unless_small a l 31 q) in
    let three : k + cond a 0 l + cond (a || b) 0 m ≤ 93 = omega (arith, two, unless_small (a || b) m 31 r) in
    let four : k + cond a 0 l + cond (a || b) 0 m + cond ((a || b) || c) 0 n < 128 = omega (arith, three, unless_small ((a || b) || c) n 31 s) in
    ap (λ (v : ℕ). or_else (or_else (or_else v (verdict c m)) (verdict d n)) (verdict e o)) (or_else_law a b k l (omega (arith, p)))
    ∙ ap (λ (v : ℕ). or_else (or_else v (verdict d n)) (verdict e o)) (or_else_law (a || b) c (k + cond a 0 l) m (omega (arith, two)))
    ∙ ap (λ (v : ℕ). or_else v (verdict e o)) (or_else_law ((a || b) || c) d (k + cond a 0 l + cond (a || b) 0 m) n (omega (arith, three)))
    ∙ or_else_law (((a || b) || c) || d) e (k + cond a 0 l + cond (a || b) 0 m + cond ((a || b) || c) 0 n) o four
    ∙ (λ i. verdict (some_of_law a b c d e i) (made_of a b c d e k l m n o i))

module _ (f : ℕ → Bool) (c : ℕ → ℕ) (h : (k : ℕ) → c k ≤ 31) where
  abbrev sides : Bool
  sides = f 0 || (f 1 || (f 2 || f 3))

  abbrev made : ℕ
  made = in_order ((f 0, c 0) ∷ (f 1, c 1) ∷ (f 2, c 2) ∷ (f 3, c 3) ∷ [])

  abbrev at : ℕ → ℕ
  at k = verdict (f k) (c k)

  firsts : up_to 4 at ≡ verdict sides made
  firsts =
      ap (λ (v : ℕ). or_else (or_else (or_else (or_else v (at 0)) (at 1)) (at 2)) (at 3)) (as_clear {a = false} 0 refl)
      ∙ four false (f 0) (f 1) (f 2) (f 3) 0 (c 0) (c 1) (c 2) (c 3) (omega arith) (h 0) (h 1) (h 2) ∙ ap (verdict sides) (omega arith)

  pub eight : made ≤ 31 → up_to 8 at ≡ verdict (sides || (f 4 || (f 5 || (f 6 || f 7)))) (made + cond sides 0 (in_order ((f 4, c 4) ∷ (f 5, c 5) ∷ (f 6, c 6) ∷ (f 7, c 7) ∷ [])))
  eight l =
      ap (λ (v : ℕ). or_else (or_else (or_else (or_else v (at 4)) (at 5)) (at 6)) (at 7)) firsts
      ∙ four sides (f 4) (f 5) (f 6) (f 7) made (c 4) (c 5) (c 6) (c 7) l (h 4) (h 5) (h 6)
