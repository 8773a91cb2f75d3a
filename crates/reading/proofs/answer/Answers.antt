-- `reading::answer` meets its contract: it is `answer_by` with the first engine. Assumes nothing.
use Rattle.reading.specs.Inner.{written_by}
use Rattle.reading.proofs.answer.Goals as goal

pub returns : goal.returns
unfolding written_by
returns c = c.answer_by.ensures
