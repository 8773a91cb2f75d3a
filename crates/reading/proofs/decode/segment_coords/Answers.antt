-- `reading::decode::segment_coords` meets its contract. Assumes nothing.
use native.Mathlib.Omega.{arith}
use Rattle.ground.proofs.Laws.Write.{written_length}
use Rattle.reading.proofs.page.Puts.{put_then}
use Rattle.reading.proofs.decode.segment_coords.Goals as goal

pub put-requires-2 : goal.put-requires-2
put-requires-2 c = omega (arith, c.put.ensures.written.to, written_length c.put.ensures.written)

pub returns : goal.returns
returns c = rw (← c.f64_at.ensures, ← c.f64_at-2.ensures) (put_then c.put.ensures c.put-2.ensures)
