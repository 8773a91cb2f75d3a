-- `reading::answer_into` meets its contract: the grammar, the pass and the text put together. Assumes nothing.
use native.Mathlib.Nat.{le_refl, le_trans}
use Rattle.ground.proofs.Laws.Write.{written_as, written_front}
use Rattle.reading.proofs.Printed.{some, printed_bad, printed_case, no_channels, printed_fits}
use Rattle.reading.specs.Inner.{printed_by}
use Rattle.reading.specs.Text.{bad_text}
use native.Mathlib.Omega.{arith}
use mathlib.Core.Path.{◌∙◌, ap}
use Rattle.reading.proofs.answer_into.Goals as goal

pub returns-in-Err : goal.returns-in-Err
returns-in-Err g c =
    let q = c.in-Err.ensures in
    written_front (written_as (printed_by g.E.Engine.plainly c.args.input.now) (ap bad_text q.0 ∙ printed_bad _ _ (λ z. q.1 (q.0 ∙ z))) c.put_bad.ensures) (le_trans (printed_fits g.E.Engine.plainly c.args.input.now) c.requires)

pub bounds-input-7 : goal.bounds-input-7
bounds-input-7 g c = omega (arith, c.in-Ok.ensures.1.headed)

pub returns-then-input-eq0 : goal.returns-then-input-eq0
returns-then-input-eq0 g c =
    written_front (written_as (printed_by g.E.Engine.plainly c.args.input.now) (no_channels _ _ c.if-input-eq0.true ∙ printed_case _ _ c.in-Ok.ensures.0) c.put_refused.ensures) (le_trans (printed_fits g.E.Engine.plainly c.args.input.now) c.requires)

pub answer_case-requires : goal.answer_case-requires
answer_case-requires g c = record { whole = c.in-Ok.ensures.1; room = (c.requires, some _ c.if-input-eq0.false); lent = record { samples = le_refl 12288; cells = le_refl 12288; colours = le_refl 256; coords = le_refl 512; ends = le_refl 64 } }

pub returns : goal.returns
returns g c =
    written_front (written_as (printed_by g.E.Engine.plainly c.args.input.now) (printed_case _ _ c.in-Ok.ensures.0) c.answer_case.ensures) (le_trans (printed_fits g.E.Engine.plainly c.args.input.now) c.requires)
