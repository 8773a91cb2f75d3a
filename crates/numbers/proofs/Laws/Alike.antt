-- Each public function's promise determines its answer: any two answers that it permits for the same arguments are the same. Assumes nothing.
-- `Post` is a function's promise as the checker makes it of the `ensures` in the source, or of the trait. No argument is lent but the one of `next`, so elsewhere the answer is all that a call leaves
-- behind. The other methods of `Iterator`, which `Roots` has without writing them, are the library's.
--     roots_alike  two answers with one list of roots are the same
--     NAME-alike   so it is with the promise of the function NAME
--     next_leaves_alike  and with what `next` leaves of the answer that it is asked of
use Rattle.std.proofs.Common.{◌≡◌, List, [], ◌∷◌, Option, None, Some, sym, ap, ◌∙◌}
use Rattle.std.specs.Prelude.{MatchOption}
use lib.Ieee.{Float}
use Rattle.ground.proofs.Laws.Alike.{Alike, alike}
use Rattle.numbers.specs.EquationSolver.{roots_of, normal_roots_of, listed}
use Rattle.numbers.specs.declared.equation_solver.Roots.{Roots}
use Rattle.numbers.proofs.Laws.EquationSolver.{listed_only}
use Rattle.numbers.proofs.scalar.min.Kinds as min_kinds
use Rattle.numbers.proofs.scalar.min.Reads as min
use Rattle.numbers.proofs.scalar.max.Kinds as max_kinds
use Rattle.numbers.proofs.scalar.max.Reads as max
use Rattle.numbers.proofs.scalar.median_value.Kinds as median_value_kinds
use Rattle.numbers.proofs.scalar.median_value.Reads as median_value
use Rattle.numbers.proofs.scalar.median.Kinds as median_kinds
use Rattle.numbers.proofs.scalar.median.Reads as median
use Rattle.numbers.proofs.scalar.abs32.Kinds as abs32_kinds
use Rattle.numbers.proofs.scalar.abs32.Reads as abs32
use Rattle.numbers.proofs.scalar.abs64.Kinds as abs64_kinds
use Rattle.numbers.proofs.scalar.abs64.Reads as abs64
use Rattle.numbers.proofs.scalar.mix.Kinds as mix_kinds
use Rattle.numbers.proofs.scalar.mix.Reads as mix
use Rattle.numbers.proofs.rounding.narrow.Kinds as narrow_kinds
use Rattle.numbers.proofs.rounding.narrow.Reads as narrow
use Rattle.numbers.proofs.rounding.floor_to_i64.Kinds as floor_to_i64_kinds
use Rattle.numbers.proofs.rounding.floor_to_i64.Reads as floor_to_i64
use Rattle.numbers.proofs.square_root.normal_root.Kinds as normal_root_kinds
use Rattle.numbers.proofs.square_root.normal_root.Reads as normal_root
use Rattle.numbers.proofs.square_root.sqrt.Kinds as sqrt_kinds
use Rattle.numbers.proofs.square_root.sqrt.Reads as sqrt
use Rattle.numbers.proofs.equation_solver.Roots.or_zero.Kinds as or_zero_kinds
use Rattle.numbers.proofs.equation_solver.Roots.or_zero.Reads as or_zero
use Rattle.numbers.proofs.equation_solver.RootsIterator.next.Kinds as next_kinds
use Rattle.numbers.proofs.equation_solver.RootsIterator.next.Reads as next
use Rattle.numbers.proofs.equation_solver.solve_quadratic.Kinds as solve_quadratic_kinds
use Rattle.numbers.proofs.equation_solver.solve_quadratic.Reads as solve_quadratic
use Rattle.numbers.proofs.equation_solver.solve_normal_quadratic.Kinds as solve_normal_quadratic_kinds
use Rattle.numbers.proofs.equation_solver.solve_normal_quadratic.Reads as solve_normal_quadratic

pub roots_alike : (xs : List Float) (r s : Roots) → listed r ≡ xs → listed s ≡ xs → r ≡ s
roots_alike xs r s p q = listed_only r s (p ∙ sym q)

-- ---- each function
pub min_alike : Alike 0 min_kinds.ps min_kinds.r min.Post
min_alike κs a r s e f = alike

pub max_alike : Alike 0 max_kinds.ps max_kinds.r max.Post
max_alike κs a r s e f = alike

pub median_value_alike : Alike 0 median_value_kinds.ps median_value_kinds.r median_value.Post
median_value_alike κs a r s e f = alike

pub median_alike : Alike 0 median_kinds.ps median_kinds.r median.Post
median_alike κs a r s e f = alike

pub abs32_alike : Alike 0 abs32_kinds.ps abs32_kinds.r abs32.Post
abs32_alike κs a r s e f = alike

pub abs64_alike : Alike 0 abs64_kinds.ps abs64_kinds.r abs64.Post
abs64_alike κs a r s e f = alike

pub mix_alike : Alike 0 mix_kinds.ps mix_kinds.r mix.Post
mix_alike κs a r s e f = alike

pub narrow_alike : Alike 0 narrow_kinds.ps narrow_kinds.r narrow.Post
narrow_alike κs a r s e f = alike

pub floor_to_i64_alike : Alike 0 floor_to_i64_kinds.ps floor_to_i64_kinds.r floor_to_i64.Post
floor_to_i64_alike κs a r s e f = alike

pub normal_root_alike : Alike 0 normal_root_kinds.ps normal_root_kinds.r normal_root.Post
normal_root_alike κs a r s e f = alike

pub sqrt_alike : Alike 0 sqrt_kinds.ps sqrt_kinds.r sqrt.Post
sqrt_alike κs a r s e f = alike

pub solve_quadratic_alike : Alike 0 solve_quadratic_kinds.ps solve_quadratic_kinds.r solve_quadratic.Post
solve_quadratic_alike κs a r s e f = roots_alike (roots_of a.0 a.1.0 a.1.1.0) r s

pub solve_normal_quadratic_alike : Alike 0 solve_normal_quadratic_kinds.ps solve_normal_quadratic_kinds.r solve_normal_quadratic.Post
solve_normal_quadratic_alike κs a r s e f = roots_alike (normal_roots_of a.0 a.1.0 a.1.1.0) r s

pub or_zero_alike : Alike 0 or_zero_kinds.ps or_zero_kinds.r or_zero.Post
or_zero_alike κs a r s e f = alike

-- `next` of a solver's answer: what it gives, and the answer that is left.
abbrev first : List Float → Option Float
first [] = None
first (x ∷ xs) = Some x

abbrev rest : List Float → List Float
rest [] = []
rest (x ∷ xs) = xs

stepped : (xs : List Float) (z : Option Float) (t : Roots) → MatchOption z ((xs ≡ []) × (listed t ≡ [])) (λ (x : Float). xs ≡ x ∷ listed t) → (z ≡ first xs) × (listed t ≡ rest xs)
stepped xs None t p = (sym (ap first p.0), p.1 ∙ sym (ap rest p.0))
stepped xs (Some x) t p = (sym (ap first p), sym (ap rest p))

pub next_alike : Alike 1 next_kinds.ps next_kinds.r next.Post
next_alike κs a r s e f p q = alike (stepped _ r _ p.0).0 (stepped _ s _ q.0).0

pub next_leaves_alike : (κs : _) (a : _) (r s : _) (e f : _) → next.Post κs a r e → next.Post κs a s f → e.0.now ≡ f.0.now
next_leaves_alike κs a r s e f p q = roots_alike _ _ _ (stepped _ r _ p.0).1 (stepped _ s _ q.0).1
