-- On accepted input every diagonal pair has as many roots as whole numbers say of its stored coefficients, and every side pair a crossing or none likewise. Assumes nothing.
-- Not claimed: where a root lies is rounded, so one beside 0.01 or 0.99 may fall on either side of it; and the coefficients are themselves rounded differences of the samples.
--     four_tested        the four texels that the diagonal test looks at
--     pass_coefficients  the coefficients of a diagonal pair's quadratic are finite values of binary32
--     pass_roots         so the number of its roots is the true one
--     pass_crossings     a side pair's crossing is divided by zero just where its two differences are equal, and then none is inside
use mathlib.Core.Path.{◌≡◌, refl}
use mathlib.Core.Bool.{Bool, true, false, ◌&&◌}
use Prim.Native.Nat.{ℕ, ◌-◌, ◌<◌}
use lib.ListN.{length}
use lib.Ieee.{Float, binary32, binary64, sub, eq}
use borrow.Author.Tests.{eqb-true}
use Rattle.numbers.specs.Constants.{zero_of}
use Rattle.detectors.specs.Pairs.{inside, difference}
use Rattle.detectors.specs.Linear.{crossing}
use Rattle.detectors.specs.Diagonal.{pair_roots, has_diagonal_artifact}
use Rattle.detectors.specs.RootCount.{pair_count}
use Rattle.detectors.proofs.Laws.RootCount.{Coefficients, coefficients_finite, pair_roots_true, side_divisor, side_none}
use Rattle.inputs.specs.Bounds.{in_bounds}
use Rattle.correction.specs.Errors.{diagonal_artifact}
use Rattle.inputs.specs.Checks.{Input, refusal_number, accepted}
use Rattle.correction.specs.Pass.{texels, four_at}
use Rattle.inputs.proofs.Laws.Checks.{passed}
use Rattle.correction.proofs.Laws.Finite.{small_four}

pub four_tested : (i : Input) (span : Float) (protected : Bool) (m : Float) (x y nx ny : ℕ)
    → diagonal_artifact (texels i) i.width i.height span protected m (texels i x y) x y nx ny ≡ (in_bounds i.width i.height nx ny && has_diagonal_artifact span protected m (four_at i x y nx ny))
unfolding diagonal_artifact
four_tested i span protected m x y nx ny = refl

pub pass_coefficients : (i : Input) → accepted i ≡ true → (x y nx ny p : ℕ) → x < i.width → y < i.height → in_bounds i.width i.height nx ny ≡ true → p < 3 → Coefficients (four_at i x y nx ny) p
unfolding accepted
pass_coefficients i ok x y nx ny p inX inY e h = coefficients_finite (four_at i x y nx ny) p (small_four i (passed i (eqb-true (refusal_number i) 0 ok)) x y nx ny inX inY e) h

pub pass_roots : (i : Input) → accepted i ≡ true → (x y nx ny p : ℕ) → x < i.width → y < i.height → in_bounds i.width i.height nx ny ≡ true → p < 3
    → length (pair_roots (four_at i x y nx ny) p) ≡ pair_count (four_at i x y nx ny) p
pass_roots i ok x y nx ny p inX inY e h = pair_roots_true (four_at i x y nx ny) p (pass_coefficients i ok x y nx ny p inX inY e h)

-- of texel x, y and its side neighbour at column nx and row ny, counted from 1
pub record Crosses (i : Input) (x y nx ny p : ℕ) : Type 0 where
  pub divisor : eq (sub binary32 (difference (texels i x y) p) (difference (texels i (nx - 1) (ny - 1)) p)) (zero_of binary64) ≡ eq (difference (texels i x y) p) (difference (texels i (nx - 1) (ny - 1)) p)
  pub none : eq (difference (texels i x y) p) (difference (texels i (nx - 1) (ny - 1)) p) ≡ true → inside (crossing (difference (texels i x y) p) (difference (texels i (nx - 1) (ny - 1)) p)) ≡ false

pub pass_crossings : (i : Input) → accepted i ≡ true → (x y nx ny p : ℕ) → x < i.width → y < i.height → in_bounds i.width i.height nx ny ≡ true → p < 3 → Crosses i x y nx ny p
unfolding accepted
pass_crossings i ok x y nx ny p inX inY e h =
    let f = small_four i (passed i (eqb-true (refusal_number i) 0 ok)) x y nx ny inX inY e in
    record {
      divisor = side_divisor (texels i x y) (texels i (nx - 1) (ny - 1)) p f.a f.d h;
      none = side_none (texels i x y) (texels i (nx - 1) (ny - 1)) p f.a f.d h;
    }
