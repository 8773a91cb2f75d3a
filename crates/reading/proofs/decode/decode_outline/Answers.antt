-- `reading::decode::decode_outline` meets its contract: before contour i those below it are decoded. Assumes nothing.
use mathlib.Core.Path.{refl}
use Prim.Native.Nat.{◌+◌}
use native.Mathlib.Omega.{arith}
use Rattle.std.proofs.Common.{rules}
use Rattle.ground.proofs.Laws.Fill.{tab_length}
use Rattle.ground.proofs.Laws.Write.{written_length, written_to}
use Rattle.reading.specs.Grammar.{before}
use Rattle.reading.proofs.page.Puts.{lent}
use Rattle.reading.proofs.decode.Decoded.{decoding_none, decoding_room, decoding_more, decoding_all}
use Rattle.reading.proofs.decode.decode_outline.Goals as goal

pub contour_colours-requires : goal.contour_colours-requires
contour_colours-requires c =
    let r = decoding_room c.requires.outlined c.contours.invariant c.contours-test.true c.requires.room.0 c.requires.room.1 c.field_at-f.ensures in
    (r.0, r.1)

pub contour_coords-requires : goal.contour_coords-requires
contour_coords-requires c =
    let r = decoding_room c.requires.outlined c.contours.invariant c.contours-test.true c.requires.room.0 c.requires.room.1 c.field_at-f.ensures in
    (r.0, r.2)

pub put-requires : goal.put-requires
put-requires c =
    let w = c.contours.invariant.ends.written in
    omega (arith, c.requires.room.2, c.contours-test.true, w.to, written_length w, tab_length c.contours._i (λ j. before c.args.s.now (j + 1)))

pub contours-preserved : goal.contours-preserved
contours-preserved c =
    decoding_more c.requires.outlined c.contours.invariant c.contours-test.true c.field_at-f.ensures c.contour_colours.ensures c.contour_coords.ensures c.put.ensures

pub returns : goal.returns
returns c =
    let d = decoding_all c.requires.outlined c.contours.invariant c.contours-test.false refl in
    record {
      colours = written_to _ d.0.1 (lent d.0.0 (λ e. search rules));
      coords = written_to _ d.1.1 (lent d.1.0 (λ e. search rules));
      ends = written_to _ d.2.1 (lent d.2.0 (λ e. search rules));
    }

pub contours-init : goal.contours-init
contours-init c = decoding_none _ _ _ _ _ refl refl
