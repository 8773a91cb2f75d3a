-- `reading::fields::read` meets its contract: a turn is at a reader of the input and at the field that it tells, and a contour more leaves fewer that may come. Assumes nothing.
use Rattle.std.proofs.Common.{◌≡◌, ◌-◌}
use Rattle.reading.specs.Inner.{Told, Outlining, Rowing}
use Rattle.reading.proofs.fields.read.Given as goal

abbrev pub invariant-contours : goal.invariant-contours
invariant-contours l = record {
  src : l.r.src.now ≡ l.s;
  told : Told l.s l.f.at l.f;
  outlining : Outlining l.s l.f.at l.rows.count l.rows.bytes l.l.rows l.l.contours l.l.segments;
}

abbrev pub decreases-contours : goal.decreases-contours
decreases-contours l = 64 - l.l.contours

abbrev pub invariant-rows : goal.invariant-rows
invariant-rows l = record {
  src : l.r.src.now ≡ l.s;
  told : Told l.s l.f.at l.f;
  rowing : Rowing l.s l.f.at (l.rows.count - l._y) l.rows.bytes l.l.rows l.l.contours l.l.segments;
}
