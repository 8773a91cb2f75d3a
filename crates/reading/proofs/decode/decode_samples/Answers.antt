-- `reading::decode::decode_samples` meets its contract: before row y those below it are decoded. Assumes nothing.
use Rattle.std.proofs.Common.{rules}
use mathlib.Core.Path.{◌≡◌, ◌∙◌, ap}
use Prim.Native.Nat.{◌+◌, ◌*◌}
use native.Mathlib.Nat.{zero-mul}
use native.Mathlib.Omega.{arith}
use Rattle.ground.proofs.Laws.Write.{written_length}
use Rattle.reading.proofs.page.Puts.{joined_none, joined_more, joined_all, lent}
use Rattle.reading.proofs.decode.Decoded.{row_length}
use Rattle.reading.proofs.fields.Sizes.{next_row, row_within}
use Rattle.reading.proofs.decode.decode_samples.Goals as goal
use Rattle.reading.proofs.decode.decode_samples.Invariants.{row}

pub loop-y-init : goal.loop-y-init
loop-y-init c = record { count = omega (arith, zero-mul c.args.n); put = joined_none _ _ }

pub decode_row-requires : goal.decode_row-requires
decode_row-requires c =
    let d = c.args in
    let i = c.loop-y.invariant in
    (omega (arith, row_within (3 + 4 * d.n) c.loop-y-test.true), omega (arith, i.count, written_length i.put.written, row_within d.n c.loop-y-test.true))

pub loop-y-preserved : goal.loop-y-preserved
loop-y-preserved c =
    let i = c.loop-y.invariant in
    let d = c.args in
    let w = c.decode_row.ensures in
    record {
      count = omega (arith, i.count, next_row d.n c.loop-y.y, w.written.to, row_length d.s.now (d.from + c.loop-y.y * (3 + 4 * d.n)) d.n);
      put = joined_more _ (row d.s.now d.from d.n) i.put w;
    }

pub returns : goal.returns
returns c =
    let z : c.loop-y.y ≡ c.args.h = omega arith in
    (lent (joined_all _ (row _ _ _) c.loop-y.invariant.put z) (λ e. search rules), c.loop-y.invariant.count ∙ ap (λ x. x * c.args.n) z)
