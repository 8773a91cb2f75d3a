-- What the code works out whole and the definitions choose from. Assumes nothing.
--     moved      both moved ends are tested, and one of the two tests counts
--     of_pair    both roots are tested, and one that is not there is 0, which is not inside
use Rattle.std.proofs.Common.{◌≡◌, ℕ, ◌≤◌, Bool, true, false, cond, not, ◌&&◌, ◌||◌, List, [], ◌∷◌, length, get_or, sym, refl, ap, ◌∙◌, le_of_suc-le-suc, not-suc-le-zero}
use lib.Ieee.{Float, binary64, lt, of_bits}
use Rattle.ground.specs.Lists.{some}
use Rattle.numbers.specs.Constants.{zero_of, one_of}
use Rattle.numbers.specs.EquationSolver.{Listed}
use Rattle.numbers.proofs.Laws.EquationSolver.{at_most_two}
use Rattle.ranges.specs.Classifier.{range_test}
use Rattle.detectors.specs.Pairs.{inside}
use Rattle.detectors.specs.Diagonal.{curve_median, pair_roots, quadratic_roots, turns, moved_end, turning_test, diagonal_at, diagonal_pair}

choice : (p q t a b : Bool) → ((p && q) && (t && a || not t && b)) ≡ ((p && q) && cond t a b)
choice true true true true b = refl
choice true true true false b = refl
choice true true false a b = refl
choice true false t a b = refl
choice false q t a b = refl

pub moved : (span : Float) (protected : Bool) (am dm : Float) (m : List (List Float)) (t xm e : Float) {em : Float} {u l : Bool}
    → em ≡ curve_median m e → u ≡ range_test span protected (zero_of binary64) e t am em xm → l ≡ range_test span protected e (one_of binary64) t em dm xm
    → ((lt (zero_of binary64) e && lt e (one_of binary64)) && (lt t e && u || not (lt t e) && l)) ≡ turning_test span protected am dm m t xm e
unfolding turns moved_end turning_test
moved span protected am dm m t xm e {em} {u} {l} p q r =
    choice (lt (zero_of binary64) e) (lt e (one_of binary64)) (lt t e) u l ∙ rw (q, r, p)

no_root : inside (zero_of binary64) ≡ false
unfolding inside lt of_bits
no_root = refl

or_false : (a : Bool) → (a || false) ≡ a
or_false true = refl
or_false false = refl

-- a test that fails at 0, of the two values that a list of at most two has, the unused ones 0
both : (f : Float → Bool) → f (zero_of binary64) ≡ false → (xs : List Float) → length xs ≤ 2 → (f (get_or xs 0 (zero_of binary64)) || f (get_or xs 1 (zero_of binary64))) ≡ some f xs
unfolding some
both f z [] h = rw z
both f z (x ∷ []) h = rw z
both f z (x ∷ y ∷ []) h = ap (λ (b : Bool). f x || b) (sym (or_false (f y)))
both f z (x ∷ y ∷ v ∷ xs) h = absurd (not-suc-le-zero (le_of_suc-le-suc (le_of_suc-le-suc h)))

module _ (span : Float) (protected : Bool) (am dm : Float) (m : List (List Float)) (p : ℕ) where
  at : Float → Bool
  at t = diagonal_at span protected am dm m p t

  outside : at (zero_of binary64) ≡ false
  unfolding at diagonal_at
  outside = rw no_root

  few : length (pair_roots m p) ≤ 2
  unfolding pair_roots quadratic_roots
  few = at_most_two _ _ _

  pub of_pair : {n : ℕ} {u v : Float} {a b : Bool} → Listed (pair_roots m p) n u v → a ≡ diagonal_at span protected am dm m p u → b ≡ diagonal_at span protected am dm m p v → (a || b) ≡ diagonal_pair span protected am dm m p
  unfolding at diagonal_pair
  of_pair l e f = rw (e, f, l.one, l.two) (both at outside (pair_roots m p) few)
