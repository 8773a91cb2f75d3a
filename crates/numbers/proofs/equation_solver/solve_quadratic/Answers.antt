-- `numbers::equation_solver::solve_quadratic` meets its contract. Assumes nothing.
use Rattle.std.proofs.Common.{sym, ◌∙◌}
use Rattle.numbers.proofs.Laws.EquationSolver.{roots_linear, roots_square, square_two, square_fewer}
use Rattle.numbers.proofs.equation_solver.solve_quadratic.Goals as goal

pub returns-then-is_linear : goal.returns-then-is_linear
returns-then-is_linear c =
    let p = c.before.before in
    let k = p.before.args in
    rw (roots_linear k.a k.b k.c (sym p.is_linear.ensures ∙ c.before.if-is_linear.true)) c.solve_linear.ensures

pub returns-then-is_positive : goal.returns-then-is_positive
returns-then-is_positive c =
    let q = c.before.before.before in
    let d = q.before in
    let p = d.before.before in
    let k = p.before.args in
    rw (
      roots_square k.a k.b k.c (sym p.is_linear.ensures ∙ d.before.if-is_linear.false),
      ← d.discriminant-d.ensures,
      square_two k.a k.b d.discriminant-d.result (sym q.is_positive.ensures ∙ c.before.before.if-is_positive.true),
      ← c.before.sqrt.ensures,
    ) c.two_roots.ensures

pub returns : goal.returns
returns c =
    let q = c.before.before in
    let d = q.before in
    let p = d.before.before in
    let k = p.before.args in
    rw (
      roots_square k.a k.b k.c (sym p.is_linear.ensures ∙ d.before.if-is_linear.false),
      ← d.discriminant-d.ensures,
      square_fewer k.a k.b d.discriminant-d.result (sym q.is_positive.ensures ∙ c.before.if-is_positive.false),
    ) c.at_most_one_root.ensures
