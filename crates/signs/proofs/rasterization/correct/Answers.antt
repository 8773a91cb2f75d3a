-- `signs::rasterization::correct` meets its contract: the steps together leave what the rules say. Assumes nothing.
use mathlib.Core.Path.{◌≡◌, sym, ◌∙◌, ap, subst}
use mathlib.Core.List.{List}
use Prim.Native.Nat.{ℕ, ◌*◌, ◌≤◌}
use native.Mathlib.Omega.{arith}
use lib.IntN.{ℤ}
use lib.ListN.{length}
use lib.Ieee.{binary32}
use Rattle.ground.specs.Lists.{tab}
use Rattle.ground.proofs.Laws.Fill.{tab_length}
use Rattle.inputs.proofs.Laws.Checks.{good_number}
use Rattle.signs.specs.Checks.{Input, input}
use Rattle.signs.specs.Signs.{match_at}
use Rattle.signs.specs.Inner.{Mapped}
use Rattle.signs.proofs.checks.Passed.{Passed, passed, numbers, many, few, texels, some}
use Rattle.signs.proofs.rasterization.Together.{flipped_length, held, one_left, three_left, four_left}
use Rattle.signs.proofs.rasterization.correct.Goals as goal
use Rattle.signs.proofs.rasterization.correct.Goals.{After-flip_texels, Start}

-- all that comes in, which has passed the checks
abbrev given : Start → Input
given s = input s.args.b.width s.args.b.height s.args.b.channels s.args.xs.now s.args.zero s.args.filled.now s.args.matches.now

ok : (s : Start) → Passed (given s)
ok s = passed (given s) s.requires

pub correct_alone-requires : goal.correct_alone-requires
correct_alone-requires c =
    (subst (λ (n : ℕ). length c.args.xs.now ≡ length c.args.filled.now * n) c.if-b-eq1.true (many (given (goal.at.correct_alone-requires c).Start) (ok (goal.at.correct_alone-requires c).Start)), omega arith, few (given (goal.at.correct_alone-requires c).Start) (ok (goal.at.correct_alone-requires c).Start))

-- the match map that the vote reads
mapped : (s : Start) (ms : List ℤ) → ms ≡ tab (length s.args.filled.now) (match_at s.args.xs.now s.args.b.channels s.args.zero s.args.filled.now) → Mapped s.args.b.width s.args.b.height ms
mapped s ms e =
    let a = s.args in
    let p = ok s in
    subst (Mapped a.b.width a.b.height) (sym e)
    (record {
      any = p.sizes.wide.0;
      wide = p.sizes.wide.1;
      high = p.sizes.high.1;
      long = tab_length (length a.filled.now) (match_at a.xs.now a.b.channels a.zero a.filled.now) ∙ texels (given s) p;
      held = held a.b.width a.b.height a.xs.now a.zero a.filled.now a.b.channels;
    })

pub match_texels-requires : goal.match_texels-requires
match_texels-requires c =
    let p = ok (goal.at.match_texels-requires c).Start in record { sizes = (many (given (goal.at.match_texels-requires c).Start) p, some (given (goal.at.match_texels-requires c).Start) p c.if-b-eq1.false, p.sizes.few, few (given (goal.at.match_texels-requires c).Start) p, p.matches ∙ sym p.filled); numbers = (good_number binary32 _ p.zero, numbers (given (goal.at.match_texels-requires c).Start) p) }

pub flip_texels-requires : goal.flip_texels-requires
flip_texels-requires c =
    let p = ok (goal.at.flip_texels-requires c).Start in
    let g = mapped (goal.at.flip_texels-requires c).Start c.match_texels.new.matches c.match_texels.ensures in record { mapped = g; sizes = (some (given (goal.at.flip_texels-requires c).Start) p c.if-b-eq1.false, p.sizes.few, many (given (goal.at.flip_texels-requires c).Start) p ∙ ap (λ (n : ℕ). n * c.args.b.channels) (texels (given (goal.at.flip_texels-requires c).Start) p ∙ sym g.long)) }

-- the samples are as many as they were
still : (f : After-flip_texels) → length f.flip_texels.new.xs ≡ length f.args.xs.now
still f = ap length f.flip_texels.ensures ∙ flipped_length _ _ _

pub correct_alone-requires-then-b-eq4 : goal.correct_alone-requires-then-b-eq4
correct_alone-requires-then-b-eq4 c =
    (subst (λ (n : ℕ). length c.flip_texels.new.xs ≡ length c.args.filled.now * n) c.if-b-eq4.true (still (goal.at.correct_alone-requires-then-b-eq4 c).After-flip_texels ∙ many (given (goal.at.correct_alone-requires-then-b-eq4 c).Start) (ok (goal.at.correct_alone-requires-then-b-eq4 c).Start)), omega arith, subst (λ (n : ℕ). n ≤ 67108864) (sym (still (goal.at.correct_alone-requires-then-b-eq4 c).After-flip_texels)) (few (given (goal.at.correct_alone-requires-then-b-eq4 c).Start) (ok (goal.at.correct_alone-requires-then-b-eq4 c).Start)))

pub returns-then-b-eq1 : goal.returns-then-b-eq1
returns-then-b-eq1 c =
    let g = c.args in
    let p = ok (goal.at.returns-then-b-eq1 c).Start in let all = one_left g.b.width g.b.height g.b.channels g.xs.now g.zero g.filled.now _ _ c.if-b-eq1.true (p.matches ∙ sym p.filled) c.correct_alone.ensures c.clear_matches.ensures in record { writes = all.0; leaves = all.1 }

pub returns-then-b-eq4 : goal.returns-then-b-eq4
returns-then-b-eq4 c =
    let g = c.args in let all = four_left g.b.width g.b.height g.b.channels g.xs.now g.zero g.filled.now _ _ _ c.if-b-eq4.true c.flip_texels.ensures c.correct_alone-then-b-eq4.ensures c.match_texels.ensures in record { writes = all.0; leaves = all.1 }

pub returns-else-b-eq4 : goal.returns-else-b-eq4
returns-else-b-eq4 c =
    let g = c.args in
    let p = ok (goal.at.returns-else-b-eq4 c).Start in
    let q : g.b.channels ≡ 3 = omega (arith, some (given (goal.at.returns-else-b-eq4 c).Start) p c.if-b-eq1.false, p.sizes.few, c.if-b-eq4.false) in let all = three_left g.b.width g.b.height g.b.channels g.xs.now g.zero g.filled.now _ _ q c.flip_texels.ensures c.match_texels.ensures in record { writes = all.0; leaves = all.1 }
