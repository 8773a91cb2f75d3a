-- A positive discriminant of a diagonal pair is a normal value, so that no zero, no subnormal value, no infinity and no NaN reaches the root. Assumes nothing.
--     pair_discriminant_normal  of finite coefficients a positive one is normal
--     pair_discriminant_least   and at least 2^-298
--     pair_discriminant_most    of small texels any one is within 2^51
--     pair_normal_roots         so the roots that the detector tries, by the root without branches, are the pair's
use Rattle.std.proofs.Common.{◌≡◌, ℕ, ◌<◌, true, false, T, List, negsuc, lit≤}
use lib.Ieee.{Float, fin, binary64, lt, le}
use Rattle.numbers.specs.Constants.{zero_of}
use Rattle.numbers.specs.SquareRoot.{PositiveNormal}
use Rattle.numbers.proofs.Laws.Bounds.{Within}
use Rattle.numbers.proofs.Laws.NormalRoots.{discriminant_within, discriminant_least, discriminant_normal, solvers_agree}
use Rattle.detectors.specs.Diagonal.{quadratic_roots, pair_roots}
use Rattle.detectors.specs.Discriminant.{quadratic_discriminant, pair_discriminant, normal_quadratic_roots, normal_pair_roots}
use Rattle.detectors.proofs.Laws.Finite.{SmallFour}
use Rattle.detectors.proofs.Laws.RootCount.{Coefficients, coefficients_small}

pub pair_discriminant_normal : (m : List (List Float)) (p : ℕ) → Coefficients m p → lt (zero_of binary64) (pair_discriminant m p) ≡ true → PositiveNormal (pair_discriminant m p)
unfolding pair_discriminant quadratic_discriminant
pair_discriminant_normal m p c h = discriminant_normal _ _ _ c.square c.linear c.constant h

pub pair_discriminant_least : (m : List (List Float)) (p : ℕ) → Coefficients m p → lt (zero_of binary64) (pair_discriminant m p) ≡ true → T (le (fin false 1 (negsuc 297)) (pair_discriminant m p))
unfolding pair_discriminant quadratic_discriminant
pair_discriminant_least m p c h = discriminant_least _ _ _ c.square c.linear c.constant h

pub pair_discriminant_most : (m : List (List Float)) (p : ℕ) → SmallFour m → p < 3 → Within 51 (pair_discriminant m p)
unfolding pair_discriminant quadratic_discriminant
pair_discriminant_most m p s h =
    let c = coefficients_small m p s h in
    discriminant_within 25 25 21 50 _ _ _ (lit≤ tt) (lit≤ tt) (lit≤ tt) c.square c.linear c.constant

pub pair_normal_roots : (m : List (List Float)) (p : ℕ) → Coefficients m p → normal_pair_roots m p ≡ pair_roots m p
unfolding normal_pair_roots normal_quadratic_roots pair_roots quadratic_roots
pair_normal_roots m p c = solvers_agree _ _ _ c.square c.linear c.constant
