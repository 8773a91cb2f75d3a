-- `numbers::equation_solver::solve_normal_quadratic` meets its contract. Assumes nothing.
use Rattle.std.proofs.Common.{sym, ◌∙◌}
use lib.Ieee.{binary64, to_bits}
use Rattle.ground.proofs.Laws.Bools.{holds}
use Rattle.numbers.specs.Constants.{zero_of}
use Rattle.numbers.specs.SquareRoot.{normal_root}
use Rattle.numbers.proofs.Laws.Order.{number_right, le_of_lt}
use Rattle.numbers.proofs.Laws.EquationSolver.{normal_linear, normal_square, by_two, by_fewer}
use Rattle.numbers.proofs.equation_solver.solve_normal_quadratic.Goals as goal

pub returns-then-is_linear : goal.returns-then-is_linear
returns-then-is_linear c =
    let p = c.before.before in
    let k = p.before.args in
    rw (normal_linear k.a k.b k.c (sym p.is_linear.ensures ∙ c.before.if-is_linear.true)) c.solve_linear.ensures

-- what is above 0 is no NaN
pub float_to_bits-d : goal.float_to_bits-d
float_to_bits-d c =
    let d = c.before.before.discriminant-d.result in
    number_right (zero_of binary64) d (le_of_lt (zero_of binary64) d (holds _ (sym c.before.is_positive.ensures ∙ c.if-is_positive.true)))

pub returns-then-is_positive : goal.returns-then-is_positive
returns-then-is_positive c =
    let q = c.before.before.before in
    let d = q.before in
    let p = d.before.before in
    let k = p.before.args in
    rw (
      normal_square k.a k.b k.c (sym p.is_linear.ensures ∙ d.before.if-is_linear.false),
      ← d.discriminant-d.ensures,
      by_two (normal_root (to_bits binary64 d.discriminant-d.result)) k.a k.b d.discriminant-d.result (sym q.is_positive.ensures ∙ c.before.before.if-is_positive.true),
      ← c.before.normal_root.ensures,
    ) c.two_roots.ensures

pub returns : goal.returns
returns c =
    let q = c.before.before in
    let d = q.before in
    let p = d.before.before in
    let k = p.before.args in
    rw (
      normal_square k.a k.b k.c (sym p.is_linear.ensures ∙ d.before.if-is_linear.false),
      ← d.discriminant-d.ensures,
      by_fewer (normal_root (to_bits binary64 d.discriminant-d.result)) k.a k.b d.discriminant-d.result (sym q.is_positive.ensures ∙ c.before.if-is_positive.false),
    ) c.at_most_one_root.ensures
