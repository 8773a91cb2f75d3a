-- `detectors::diagonal::has_diagonal_artifact` meets its contract. Assumes nothing.
use Rattle.std.proofs.Common.{List, sym, ap, ◌∙◌, arith}
use lib.Ieee.{Float}
use Rattle.numbers.specs.declared.scalar.Middle.{Middle}
use Rattle.detectors.specs.Orders.{Doubts}
use Rattle.detectors.proofs.Laws.Guard.{untested, tested}
use Rattle.detectors.proofs.Laws.Orders.{doubted_all}
use Rattle.detectors.proofs.diagonal.has_diagonal_artifact.Goals as goal

-- all three pairs are named
all : (m : List (List Float)) → Doubts 7 m
all m = record { first = λ e. absurd (omega (arith, e)); second = λ e. absurd (omega (arith, e)); third = λ e. absurd (omega (arith, e)) }

pub returns-then-guard : goal.returns-then-guard
returns-then-guard c =
    c.has_guarded_artifact.ensures ∙ doubted_all 7 _ (all _) _ _ _ _ ∙ tested _ _ _ _ _ (ap (λ (m : Middle). m.value) c.median-dm.ensures) (sym c.guard.ensures ∙ c.if-guard.true)

pub returns : goal.returns
returns c = untested _ _ _ _ _ (ap (λ (m : Middle). m.value) c.median-dm.ensures) (sym c.guard.ensures ∙ c.if-guard.false)
