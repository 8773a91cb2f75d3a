-- `reading::text::put_bad` meets its contract. Assumes nothing.
use Rattle.std.proofs.Common.{rules}
use Rattle.reading.specs.Text.{bad_text}
use Rattle.reading.proofs.page.Puts.{lent}
use Rattle.reading.proofs.text.put_bad.Goals as goal

pub returns : goal.returns
unfolding bad_text
returns c = lent c.put_named.ensures (λ e. search rules)
