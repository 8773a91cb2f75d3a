-- Each public function's promise determines its answer: any two answers that it permits for the same arguments are the same. Assumes nothing.
-- `Post` is a function's promise as the checker makes it of the `ensures` in the source. No public function has a `requires`, and no argument is lent, so the answer is all that a call leaves behind.
use Rattle.ground.proofs.Laws.Alike.{Alike, alike}
use Rattle.detectors.proofs.verdict.Verdict.clear.Kinds as clear_kinds
use Rattle.detectors.proofs.verdict.Verdict.clear.Reads as clear
use Rattle.detectors.proofs.verdict.Verdict.artifact.Kinds as artifact_kinds
use Rattle.detectors.proofs.verdict.Verdict.artifact.Reads as artifact
use Rattle.detectors.proofs.verdict.Verdict.is_artifact.Kinds as is_artifact_kinds
use Rattle.detectors.proofs.verdict.Verdict.is_artifact.Reads as is_artifact
use Rattle.detectors.proofs.verdict.Verdict.tests.Kinds as tests_kinds
use Rattle.detectors.proofs.verdict.Verdict.tests.Reads as tests
use Rattle.detectors.proofs.verdict.Verdict.then.Kinds as then_kinds
use Rattle.detectors.proofs.verdict.Verdict.then.Reads as then
use Rattle.detectors.proofs.texel.median.Kinds as median_kinds
use Rattle.detectors.proofs.texel.median.Reads as median
use Rattle.detectors.proofs.texel.guard.Kinds as guard_kinds
use Rattle.detectors.proofs.texel.guard.Reads as guard
use Rattle.detectors.proofs.linear.has_linear_artifact.Kinds as has_linear_artifact_kinds
use Rattle.detectors.proofs.linear.has_linear_artifact.Reads as has_linear_artifact
use Rattle.detectors.proofs.diagonal.has_guarded_artifact.Kinds as has_guarded_artifact_kinds
use Rattle.detectors.proofs.diagonal.has_guarded_artifact.Reads as has_guarded_artifact
use Rattle.detectors.proofs.diagonal.has_diagonal_artifact.Kinds as has_diagonal_artifact_kinds
use Rattle.detectors.proofs.diagonal.has_diagonal_artifact.Reads as has_diagonal_artifact
use Rattle.detectors.proofs.orders.order_code.Kinds as order_code_kinds
use Rattle.detectors.proofs.orders.order_code.Reads as order_code
use Rattle.detectors.proofs.orders.doubt.Kinds as doubt_kinds
use Rattle.detectors.proofs.orders.doubt.Reads as doubt
use Rattle.detectors.proofs.edge.radius.Kinds as radius_kinds
use Rattle.detectors.proofs.edge.radius.Reads as radius
use Rattle.detectors.proofs.edge.away.Kinds as away_kinds
use Rattle.detectors.proofs.edge.away.Reads as away
use Rattle.detectors.proofs.edge.pair_protects.Kinds as pair_protects_kinds
use Rattle.detectors.proofs.edge.pair_protects.Reads as pair_protects

-- A verdict: made, read, and added to.
pub clear_alike : Alike 0 clear_kinds.ps clear_kinds.r clear.Post
clear_alike κs a r s e f = alike

pub artifact_alike : Alike 0 artifact_kinds.ps artifact_kinds.r artifact.Post
artifact_alike κs a r s e f = alike

pub is_artifact_alike : Alike 0 is_artifact_kinds.ps is_artifact_kinds.r is_artifact.Post
is_artifact_alike κs a r s e f = alike

pub tests_alike : Alike 0 tests_kinds.ps tests_kinds.r tests.Post
tests_alike κs a r s e f = alike

pub then_alike : Alike 0 then_kinds.ps then_kinds.r then.Post
then_alike κs a r s e f = alike

-- The median of a texel.
pub median_alike : Alike 0 median_kinds.ps median_kinds.r median.Post
median_alike κs a r s e f = alike

-- Which texel of two is tested.
pub guard_alike : Alike 0 guard_kinds.ps guard_kinds.r guard.Post
guard_alike κs a r s e f = alike

-- The verdict of the linear detector.
pub has_linear_artifact_alike : Alike 0 has_linear_artifact_kinds.ps has_linear_artifact_kinds.r has_linear_artifact.Post
has_linear_artifact_alike κs a r s e f = alike

-- The verdict of the diagonal detector once its guard has passed.
pub has_guarded_artifact_alike : Alike 0 has_guarded_artifact_kinds.ps has_guarded_artifact_kinds.r has_guarded_artifact.Post
has_guarded_artifact_alike κs a r s e f = alike

-- The verdict of the diagonal detector.
pub has_diagonal_artifact_alike : Alike 0 has_diagonal_artifact_kinds.ps has_diagonal_artifact_kinds.r has_diagonal_artifact.Post
has_diagonal_artifact_alike κs a r s e f = alike

-- The radius of edge protection.
pub radius_alike : Alike 0 radius_kinds.ps radius_kinds.r radius.Post
radius_alike κs a r s e f = alike

-- How far a median is from the outline.
pub away_alike : Alike 0 away_kinds.ps away_kinds.r away.Post
away_alike κs a r s e f = alike

-- Whether a texel of a pair is protected.
pub pair_protects_alike : Alike 0 pair_protects_kinds.ps pair_protects_kinds.r pair_protects.Post
pair_protects_alike κs a r s e f = alike

-- The code of a texel's order.
pub order_code_alike : Alike 0 order_code_kinds.ps order_code_kinds.r order_code.Post
order_code_alike κs a r s e f p q = alike p.0 q.0

-- The pairs that four orders leave in doubt.
pub doubt_alike : Alike 0 doubt_kinds.ps doubt_kinds.r doubt.Post
doubt_alike κs a r s e f p q = alike p.0 q.0
