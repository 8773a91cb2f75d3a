-- `reading::decode::decode_outline` meets its contract: before contour i those below it are decoded. Assumes nothing.
use Rattle.reading.proofs.decode.Decoded.{Decoding}
use Rattle.reading.proofs.decode.decode_outline.Given as goal

abbrev pub invariant-contours : goal.invariant-contours
invariant-contours l = Decoding l.s l.k l.initial.colour_page l.colour_page l.initial.coord_page l.coord_page l.initial.end_page l.end_page l.place l._i
