-- Each public function's promise determines its answer: any two answers that it permits for the same arguments are the same. Assumes nothing.
-- `Post` is a function's promise as the checker makes it of the `ensures` in the source. No public function has a `requires`, and no argument is lent, so the answer is all that a call leaves behind.
use Rattle.std.specs.Prelude.{◌≡◌, ℕ, ◌<◌, Option, Some, None, MatchOption, refl}
use Rattle.std.proofs.Common.{sym, ◌∙◌, ap}
use native.Mathlib.Omega.{arith}
use Rattle.ground.proofs.Laws.Alike.{Alike, alike}
use Rattle.ranges.specs.declared.config.Mode.{Mode}
use Rattle.ranges.specs.Config.{mode_number}
use Rattle.ranges.proofs.Laws.Modes.{mode_few, modes_alike}
use Rattle.ranges.proofs.config.Settings.side_span.Kinds as side_span_kinds
use Rattle.ranges.proofs.config.Settings.side_span.Reads as side_span
use Rattle.ranges.proofs.config.Settings.diagonal_span.Kinds as diagonal_span_kinds
use Rattle.ranges.proofs.config.Settings.diagonal_span.Reads as diagonal_span
use Rattle.ranges.proofs.config.Mode.of.Kinds as of_kinds
use Rattle.ranges.proofs.config.Mode.of.Reads as of
use Rattle.ranges.proofs.classifier.Classifier.range_test.Kinds as range_test_kinds
use Rattle.ranges.proofs.classifier.Classifier.range_test.Reads as range_test

-- The span of a side neighbour.
pub side_span_alike : Alike 0 side_span_kinds.ps side_span_kinds.r side_span.Post
side_span_alike κs a r s e f = alike

-- The span of a diagonal one.
pub diagonal_span_alike : Alike 0 diagonal_span_kinds.ps diagonal_span_kinds.r diagonal_span.Post
diagonal_span_alike κs a r s e f = alike

-- The range test.
pub range_test_alike : Alike 0 range_test_kinds.ps range_test_kinds.r range_test.Post
range_test_alike κs a r s e f = alike

-- The mode of a number.
above : (m : Mode) (n : ℕ) → mode_number m ≡ n → 3 < n → ⊥
above m n e l = omega (arith, mode_few m, e, l)

options_alike : (n : ℕ) (r s : Option Mode) → MatchOption r (3 < n) (λ m. mode_number m ≡ n) → MatchOption s (3 < n) (λ m. mode_number m ≡ n) → r ≡ s
options_alike n None None p q = refl
options_alike n None (Some b) p q = absurd (above b n q p)
options_alike n (Some a) None p q = absurd (above a n p q)
options_alike n (Some a) (Some b) p q = ap Some (modes_alike a b (p ∙ sym q))

pub of_alike : Alike 0 of_kinds.ps of_kinds.r of.Post
of_alike κs a r s e f = options_alike _ r s
