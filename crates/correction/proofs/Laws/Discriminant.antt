-- On accepted input the root is asked of positive normal values alone: no zero, no subnormal value, no infinity and no NaN reaches it. Assumes nothing.
--     pass_discriminant_normal  a positive discriminant of a diagonal pair is a normal value
--     pass_discriminant_least, pass_discriminant_most  it is at least 2^-298 and at most 2^51
--     pass_normal_roots         so the roots that the pass tries, by the root without branches, are the pair's
use mathlib.Core.Path.{◌≡◌}
use mathlib.Core.Bool.{true, false}
use Prim.Native.Nat.{ℕ, ◌<◌}
use lib.IntN.{pos, negsuc}
use lib.Dec.{T}
use lib.Ieee.{fin, binary64, lt, le}
use borrow.Author.Tests.{eqb-true}
use Rattle.numbers.specs.Constants.{zero_of}
use Rattle.numbers.specs.SquareRoot.{PositiveNormal}
use Rattle.numbers.proofs.Laws.Order.{le_of_abs_le}
use Rattle.numbers.proofs.Laws.Bounds.{le_of_within}
use Rattle.detectors.specs.Diagonal.{pair_roots}
use Rattle.detectors.specs.Discriminant.{pair_discriminant, normal_pair_roots}
use Rattle.detectors.proofs.Laws.Discriminant.{pair_discriminant_normal, pair_discriminant_least, pair_discriminant_most, pair_normal_roots}
use Rattle.inputs.specs.Bounds.{in_bounds}
use Rattle.inputs.specs.Checks.{Input, refusal_number, accepted}
use Rattle.correction.specs.Pass.{four_at}
use Rattle.inputs.proofs.Laws.Checks.{passed}
use Rattle.correction.proofs.Laws.Finite.{small_four}
use Rattle.correction.proofs.Laws.RootCount.{pass_coefficients}

module _ (i : Input) (ok : accepted i ≡ true) (x y nx ny p : ℕ) (inX : x < i.width) (inY : y < i.height) (e : in_bounds i.width i.height nx ny ≡ true) (h : p < 3) where
  pub pass_discriminant_normal : lt (zero_of binary64) (pair_discriminant (four_at i x y nx ny) p) ≡ true → PositiveNormal (pair_discriminant (four_at i x y nx ny) p)
  pass_discriminant_normal = pair_discriminant_normal (four_at i x y nx ny) p (pass_coefficients i ok x y nx ny p inX inY e h)

  pub pass_discriminant_least : lt (zero_of binary64) (pair_discriminant (four_at i x y nx ny) p) ≡ true → T (le (fin false 1 (negsuc 297)) (pair_discriminant (four_at i x y nx ny) p))
  pass_discriminant_least = pair_discriminant_least (four_at i x y nx ny) p (pass_coefficients i ok x y nx ny p inX inY e h)

  pub pass_discriminant_most : T (le (pair_discriminant (four_at i x y nx ny) p) (fin false 1 (pos 51)))
  unfolding accepted
  pass_discriminant_most =
      let D = pair_discriminant (four_at i x y nx ny) p in
      le_of_abs_le D (fin false 1 (pos 51)) (le_of_within 51 D (pair_discriminant_most (four_at i x y nx ny) p (small_four i (passed i (eqb-true (refusal_number i) 0 ok)) x y nx ny inX inY e) h))

  pub pass_normal_roots : normal_pair_roots (four_at i x y nx ny) p ≡ pair_roots (four_at i x y nx ny) p
  pass_normal_roots = pair_normal_roots (four_at i x y nx ny) p (pass_coefficients i ok x y nx ny p inX inY e h)
