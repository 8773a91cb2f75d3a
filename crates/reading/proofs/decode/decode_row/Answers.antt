-- `reading::decode::decode_row` meets its contract: before sample j those below it are decoded. Assumes nothing.
use mathlib.Core.List.{List}
use mathlib.Core.Path.{◌≡◌, sym, ap, ◌∙◌}
use Prim.Native.Nat.{ℕ, ◌+◌, ◌*◌, ◌<◌}
use native.Mathlib.Nat.{add_assoc}
use native.Mathlib.Omega.{arith}
use lib.Ieee.{binary32, of_bits}
use lib.ListN.{get_or, take, drop}
use Rattle.ground.specs.Bytes.{be16, be32, f32_at}
use Rattle.ground.proofs.Laws.Picked.{part_at}
use Rattle.ground.proofs.Laws.Fill.{tab_length}
use Rattle.ground.proofs.Laws.Write.{written_length}
use Rattle.reading.specs.Case.{row_samples}
use Rattle.reading.proofs.page.Puts.{put_none, put_more, put_all}
use Rattle.reading.proofs.decode.decode_row.Goals as goal
use Rattle.reading.proofs.decode.decode_row.Invariants.{sample}

-- two bytes, and a float, within a part of the bytes
be16_part : (s : List ℕ) (from n k : ℕ) → k + 1 < n → be16 (take n (drop from s)) k ≡ be16 s (from + k)
unfolding be16
be16_part s from n k l = λ i. part_at 0 s from n k (omega (arith, l)) i * 256 + (part_at 0 s from n (k + 1) l ∙ ap (λ (j : ℕ). get_or s j 0) (sym (add_assoc from k 1))) i

f32_part : (s : List ℕ) (from n k : ℕ) → k + 3 < n → f32_at (take n (drop from s)) k ≡ f32_at s (from + k)
unfolding f32_at be32
f32_part s from n k l =
    ap (of_bits binary32) (λ i. be16_part s from n k (omega (arith, l)) i * 65536 + (be16_part s from n (k + 2) (omega (arith, l)) ∙ ap (be16 s) (sym (add_assoc from k 2))) i)

pub loop-j-init : goal.loop-j-init
loop-j-init c = put_none _ _

pub put-requires : goal.put-requires
put-requires c = let w = c.loop-j.invariant.written in omega (arith, w.to, written_length w, tab_length c.loop-j.j (sample c.args.s.now c.args.from))

pub loop-j-preserved : goal.loop-j-preserved
loop-j-preserved c =
    put_more _ (sample c.args.s.now c.args.from) c.loop-j.invariant (c.f32_at.ensures ∙ f32_part c.args.s.now (c.args.from + 3) _ (4 * c.loop-j.j) (omega arith)) c.put.ensures

pub returns : goal.returns
unfolding row_samples
returns c = let z : c.loop-j.j ≡ c.args.n = omega arith in put_all _ (sample c.args.s.now c.args.from) c.loop-j.invariant z
