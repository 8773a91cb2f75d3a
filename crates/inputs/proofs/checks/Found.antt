-- What a search finds, and what a check says that refuses where it finds something. Assumes nothing.
--     found_first   what the library's `position` finds is the first
--     found_alike   what two searches find is the same
--     hit_refuses      a hit refuses, with its place
--     none_passes      none passes
use mathlib.Core.Path.{◌≡◌, refl, sym, ◌∙◌, ap}
use mathlib.Core.Bool.{Bool, true, false, cond}
use mathlib.Core.List.{List}
use Prim.Native.Nat.{ℕ, ◌<◌, ◌≤◌}
use native.Mathlib.Omega.{arith}
use lib.Dec.{ltb}
use lib.ListN.{length, get_or}
use borrow.Author.Tests.{lt-ltb, le-ltb}
use Rattle.std.specs.List.{AllWithin, HoldsAt}
use Rattle.std.specs.Prelude.{Option, Some, None, MatchOption}
use Rattle.ground.specs.Lists.{first}
use Rattle.ground.proofs.Laws.Search.{first_is, first_is_end}
use Rattle.inputs.specs.Checks.{Found}

pub found_first : {A : Type 0} (p : A → Bool) (xs : List A) (d : A) (r : Option ℕ)
    → MatchOption r (AllWithin (λ x. p x ≡ false) xs 0 (length xs)) (λ i. (i < length xs) × HoldsAt (λ x. p x ≡ true) xs i × AllWithin (λ x. p x ≡ false) xs 0 i)
    → Found (length xs) (first (length xs) (λ j. p (get_or xs j d))) r
found_first p xs d None h = first_is_end (λ j. p (get_or xs j d)) (length xs) (λ k l. h k d (omega arith) l)
found_first p xs d (Some i) h =
    (sym (first_is (λ j. p (get_or xs j d)) (length xs) i (λ k l. h.2 k d (omega arith) l) h.0 (h.1 d)), h.0)

pub found_alike : (n place : ℕ) (r s : Option ℕ) → Found n place r → Found n place s → r ≡ s
found_alike n place None None p q = refl
found_alike n place None (Some j) p q = absurd (omega (arith, p, q.0, q.1))
found_alike n place (Some i) None p q = absurd (omega (arith, q, p.0, p.1))
found_alike n place (Some i) (Some j) p q = ap Some (p.0 ∙ sym q.0)

module _ {place n : ℕ} (k : ℕ) where
  pub hit_refuses : {p : ℕ} → p ≡ place → p < n → (k ≡ cond (ltb place n) k 0) × (p ≡ cond (ltb place n) place 0)
  hit_refuses {p} e l = let b : place < n = omega arith in (rw (lt-ltb place n b), rw (lt-ltb place n b) e)

  pub none_passes : place ≡ n → (0 ≡ cond (ltb place n) k 0) × (0 ≡ cond (ltb place n) place 0)
  none_passes e = let b : n ≤ place = omega arith in (rw (le-ltb place n b), rw (le-ltb place n b))
