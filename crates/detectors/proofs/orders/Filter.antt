-- A pair of channels that is level or rises in all four texels, or is level or falls in all, has no root inside; and where no root is inside, the pair is no artifact and takes no test. Assumes nothing.
use Rattle.std.proofs.Common.{◌≡◌, ℕ, ◌+◌, Bool, true, false, cond, ◌&&◌, ◌||◌, T, List, [], ◌∷◌, refl, subst}
use lib.Ieee.{Float, binary32, sub, neg}
use Rattle.ground.specs.Lists.{some, spent_in}
use Rattle.detectors.specs.Pairs.{inside, next, difference}
use Rattle.detectors.specs.Diagonal.{of_a, of_b, of_c, of_d, curve_median, middle_difference, pair_roots, root_tests, root_test_count, diagonal_at, diagonal_pair, diagonal_tests_at, diagonal_pair_tests}
use Rattle.detectors.proofs.orders.Samples.{Sample}
use Rattle.detectors.proofs.orders.Texels.{Rises, rising_texels, falling_texels}

-- channels p and `next p` of four texels
pub record Samples (m : List (List Float)) (p : ℕ) : Type 0 where
  pub ap : Sample (of_a m p)
  pub aj : Sample (of_a m (next p))
  pub bp : Sample (of_b m p)
  pub bj : Sample (of_b m (next p))
  pub cp : Sample (of_c m p)
  pub cj : Sample (of_c m (next p))
  pub dp : Sample (of_d m p)
  pub dj : Sample (of_d m (next p))

module _ (m : List (List Float)) (p : ℕ) (h : Samples m p) where
  pub rising_pair : Rises (sub binary32 (of_a m (next p)) (of_a m p)) → Rises (sub binary32 (of_b m (next p)) (of_b m p)) → Rises (sub binary32 (of_c m (next p)) (of_c m p)) → Rises (sub binary32 (of_d m (next p)) (of_d m p))
      → some inside (pair_roots m p) ≡ false
  unfolding pair_roots difference middle_difference
  rising_pair = rising_texels (of_a m p) (of_a m (next p)) (of_b m p) (of_b m (next p)) (of_c m p) (of_c m (next p)) (of_d m p) (of_d m (next p)) h.ap h.aj h.bp h.bj h.cp h.cj h.dp h.dj

  pub falling_pair : Rises (neg (sub binary32 (of_a m (next p)) (of_a m p))) → Rises (neg (sub binary32 (of_b m (next p)) (of_b m p))) → Rises (neg (sub binary32 (of_c m (next p)) (of_c m p))) → Rises (neg (sub binary32 (of_d m (next p)) (of_d m p)))
      → some inside (pair_roots m p) ≡ false
  unfolding pair_roots difference middle_difference
  falling_pair = falling_texels (of_a m p) (of_a m (next p)) (of_b m p) (of_b m (next p)) (of_c m p) (of_c m (next p)) (of_d m p) (of_d m (next p)) h.ap h.aj h.bp h.bj h.cp h.cj h.dp h.dj

-- ---- a search that goes behind `inside` only
halves : (p q : Bool) → p || q ≡ false → (p ≡ false) × (q ≡ false)
halves true q h = absurd (subst T h tt)
halves false q h = (refl, h)

pub none_and : (g : Float → Bool) (xs : List Float) → some inside xs ≡ false → some (λ (t : Float). inside t && g t) xs ≡ false
unfolding some
none_and g [] h = refl
none_and g (x ∷ xs) h =
    let k = halves (inside x) (some inside xs) h in
    λ i. (k.0 i && g x) || none_and g xs k.1 i

pub spent_and : (g : Float → Bool) (n : ℕ) (xs : List Float) → some inside xs ≡ false → spent_in (λ (t : Float). inside t && g t) (λ (t : Float). cond (inside t) n 0) xs ≡ 0
unfolding some spent_in
spent_and g n [] h = refl
spent_and g n (x ∷ xs) h =
    let k = halves (inside x) (some inside xs) h in
    λ i. cond (k.0 i) n 0 + cond (k.0 i && g x) 0 (spent_and g n xs k.1 i)

module _ (span : Float) (protected : Bool) (am dm : Float) (m : List (List Float)) (p : ℕ) (h : some inside (pair_roots m p) ≡ false) where
  pub no_artifact : diagonal_pair span protected am dm m p ≡ false
  unfolding diagonal_pair diagonal_at
  no_artifact = none_and (λ (t : Float). root_tests span protected am dm m p t (curve_median m t)) (pair_roots m p) h

  pub no_tests : diagonal_pair_tests span protected am dm m p ≡ 0
  unfolding diagonal_pair_tests diagonal_at diagonal_tests_at
  no_tests = spent_and (λ (t : Float). root_tests span protected am dm m p t (curve_median m t)) (root_test_count m p) (pair_roots m p) h
