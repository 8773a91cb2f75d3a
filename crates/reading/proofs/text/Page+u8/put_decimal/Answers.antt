-- `reading::text::Page::put_decimal` meets its contract: the library's digits are those of the definition. Assumes nothing.
use Rattle.std.proofs.Common.{◌≡◌, length, ap, ◌∙◌, arith}
use Rattle.reading.specs.Decimal.{decimal}
use Rattle.reading.proofs.Laws.Decimal.{decimal_std}
use Rattle.reading.proofs.page.Puts.{put_as}
use Rattle.reading.proofs.text.Page+u8.put_decimal.Goals as goal
use Rattle.reading.proofs.text.Page+u8.put_decimal.Goals.{After-as_bytes}

-- what is put
text : (c : After-as_bytes) → c.as_bytes.result.now ≡ decimal c.args.n
text c = c.as_bytes.ensures.value ∙ c.format.ensures.text ∙ decimal_std c.args.n c.ranges.n.fits

pub put_all-requires : goal.put_all-requires
put_all-requires c = omega (arith, ap length (text c))

pub returns : goal.returns
returns c = put_as _ (text (goal.at.returns c).After-as_bytes) c.put_all.ensures
