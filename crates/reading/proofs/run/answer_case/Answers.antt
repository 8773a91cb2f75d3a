-- `reading::run::answer_case` meets its contract: each slice's front is what was decoded into it. Assumes nothing.
use mathlib.Core.Path.{◌∙◌, ap}
use Prim.Native.Nat.{◌*◌, ◌<◌, ◌≤◌}
use native.Mathlib.Nat.{le_trans}
use native.Mathlib.Omega.{arith}
use lib.ListN.{length, get_or}
use Rattle.ground.proofs.Laws.Write.{written_fits, front, front_length, written_as}
use Rattle.reading.specs.Inner.{judged, judged_text}
use Rattle.reading.proofs.decode.Decoded.{decoded_samples, decoded_case, whole_samples, whole_cells, whole_rows}
use Rattle.reading.proofs.fields.Sizes.{row_fits, pair_fits}
use Rattle.reading.proofs.run.answer_case.Given.{Over}
use Rattle.reading.proofs.run.answer_case.Goals as goal
use Rattle.reading.proofs.run.answer_case.Goals.{After-be16-2, After-clear-c, After-decode_samples-a, Start}

-- ---- places of the code, each from the next

-- ---- what was decoded fits what is lent

samples_few : (g : Over) (c : After-decode_samples-a g) → c.decode_samples-a.result ≤ 12288
samples_few g c = omega (arith, c.decode_samples-a.ensures.1, whole_samples c.requires.whole c.be16.ensures.0 c.be16-2.ensures.0)

samples_fit : (g : Over) (c : After-decode_samples-a g) → c.decode_samples-a.result ≤ length c.args.samples.now
samples_fit g c = le_trans (samples_few g c) c.requires.lent.samples

cells_few : (g : Over) (c : After-be16-2 g) → c.be16.result * c.be16-2.result ≤ length c.args.stencil.now
cells_few g c = le_trans (whole_cells c.requires.whole c.be16.ensures.0 c.be16-2.ensures.0 c.requires.room.1) c.requires.lent.cells

cells_fit : (g : Over) (c : After-clear-c g) → c.clear-c.result ≤ length c.args.stencil.now
cells_fit g c = omega (arith, c.clear-c.ensures.1, cells_few g (goal.at.After-clear-c g c).After-be16-2)

outline_fits : (g : Over) (c : Start g) → (c.args.l.segments ≤ length c.args.colours.now) × (2 * c.args.l.segments ≤ length c.args.coords.now) × (c.args.l.contours ≤ length c.args.ends.now)
outline_fits g c =
    let o = c.requires.whole.outlined in
    let l = c.requires.lent in
    (omega (arith, o.sparse, l.colours), omega (arith, o.sparse, l.coords), omega (arith, o.few, l.ends))

-- ---- the needs

pub overflow_mul-b : goal.overflow_mul-b
overflow_mul-b g c =
    let k : get_or c.args.s.now 7 0 < 256 = omega (arith, c.shared_slice_known-2-1.given 7) in
    omega (arith, row_fits _ _ c.be16.ensures.1 k)

pub decode_samples-a-requires : goal.decode_samples-a-requires
decode_samples-a-requires g c =
    let w = c.requires.whole in
    (whole_rows w c.be16.ensures.0 c.be16-2.ensures.0, le_trans (whole_samples w c.be16.ensures.0 c.be16-2.ensures.0) c.requires.lent.samples)

pub overflow_mul-b-2 : goal.overflow_mul-b-2
overflow_mul-b-2 g c = omega (arith, pair_fits _ _ c.be16.ensures.1 c.be16-2.ensures.1)

pub slice_bounds-run-end : goal.slice_bounds-run-end
slice_bounds-run-end g c = written_fits c.decode_samples-a.ensures.0 (samples_fit g (goal.at.slice_bounds-run-end g c).After-decode_samples-a)

pub slice_bounds-run-end-2 : goal.slice_bounds-run-end-2
slice_bounds-run-end-2 g c = front_length c.decode_samples-a.ensures.0 (samples_fit g (goal.at.slice_bounds-run-end-2 g c).After-decode_samples-a)

pub slice_bounds-run-end-3 : goal.slice_bounds-run-end-3
slice_bounds-run-end-3 g c = written_fits c.clear-c.ensures.0 (cells_fit g (goal.at.slice_bounds-run-end-3 g c).After-clear-c)

pub slice_bounds-run-end-4 : goal.slice_bounds-run-end-4
slice_bounds-run-end-4 g c = front_length c.clear-c.ensures.0 (cells_fit g (goal.at.slice_bounds-run-end-4 g c).After-clear-c)

pub slice_bounds-run-end-5 : goal.slice_bounds-run-end-5
slice_bounds-run-end-5 g c = written_fits c.decode_outline.ensures.colours (outline_fits g (goal.at.slice_bounds-run-end-5 g c).Start).0

pub slice_bounds-run-end-6 : goal.slice_bounds-run-end-6
slice_bounds-run-end-6 g c = front_length c.decode_outline.ensures.colours (outline_fits g (goal.at.slice_bounds-run-end-6 g c).Start).0

pub slice_bounds-run-end-7 : goal.slice_bounds-run-end-7
slice_bounds-run-end-7 g c = written_fits c.decode_outline.ensures.coords (outline_fits g (goal.at.slice_bounds-run-end-7 g c).Start).1

pub slice_bounds-run-end-8 : goal.slice_bounds-run-end-8
slice_bounds-run-end-8 g c = front_length c.decode_outline.ensures.coords (outline_fits g (goal.at.slice_bounds-run-end-8 g c).Start).1

pub slice_bounds-run-end-9 : goal.slice_bounds-run-end-9
slice_bounds-run-end-9 g c = written_fits c.decode_outline.ensures.ends (outline_fits g (goal.at.slice_bounds-run-end-9 g c).Start).2

pub slice_bounds-run-end-10 : goal.slice_bounds-run-end-10
slice_bounds-run-end-10 g c = front_length c.decode_outline.ensures.ends (outline_fits g (goal.at.slice_bounds-run-end-10 g c).Start).2

pub run-requires : goal.run-requires
run-requires g c =
    (c.requires.room.0, omega (arith, front_length c.decode_samples-a.ensures.0 (samples_fit g (goal.at.run-requires g c).After-decode_samples-a), samples_few g (goal.at.run-requires g c).After-decode_samples-a), omega (arith, c.requires.whole.headed))

pub returns : goal.returns
returns g c =
    let o = c.decode_outline.ensures in
    let w = c.be16.ensures.0 in
    let h = c.be16-2.ensures.0 in
    let f = outline_fits g (goal.at.returns g c).Start in
    let e =
    decoded_case c.requires.whole w h (front c.decode_samples-a.ensures.0 (samples_fit g (goal.at.returns g c).After-decode_samples-a) ∙ decoded_samples c.requires.whole w h) (front c.clear-c.ensures.0 (cells_fit g (goal.at.returns g c).After-clear-c)) (front o.colours f.0)
    (front o.coords f.1) (front o.ends f.2) in
    written_as _ (ap (λ i. judged_text i (judged g.E.Engine.plainly i)) e) c.run.ensures

pub overflow_cast-b : goal.overflow_cast-b
overflow_cast-b g c = omega (arith, c.shared_slice_known-2-1.given 7)

pub clear-c-requires : goal.clear-c-requires
clear-c-requires g c = cells_few g (goal.at.clear-c-requires g c).After-be16-2

pub overflow_mul-n : goal.overflow_mul-n
overflow_mul-n g c = omega (arith, c.requires.whole.outlined.sparse)
