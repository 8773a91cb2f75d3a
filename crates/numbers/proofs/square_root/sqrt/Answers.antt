-- `numbers::square_root::sqrt` meets its contract (`Rooting.antt`). Assumes nothing.
use Rattle.std.proofs.Common.{T, sym, ap, ◌∙◌, subst}
use lib.Ieee.{binary64, fits, of_bits, div}
use Rattle.numbers.proofs.square_root.Rooting.{Small, small, smaller, normal, above_bits, above_top, at_zero, at_rest}
use Rattle.numbers.proofs.square_root.sqrt.Goals as goal
use Rattle.numbers.proofs.square_root.sqrt.Goals.{Start, Then-b-lt4503599627370496}

held : (c : Start) → T (fits binary64 c.args.x)
held c = subst T (sym c.well_formed.0.1) tt

-- below the smallest normal value
tiny : (c : Then-b-lt4503599627370496) → Small c.before.before.args.x
unfolding of_bits
tiny c = small c.before.before.args.x (held c.before.before) c.before.if-x.true c.if-b-lt4503599627370496.true

pub float_to_bits-b : goal.float_to_bits-b
unfolding of_bits
float_to_bits-b c = (above_bits c.before.args.x (held c.before) c.if-x.true).0

pub returns-then-b-lt4503599627370496 : goal.returns-then-b-lt4503599627370496
returns-then-b-lt4503599627370496 c = ap smaller c.normal_root.ensures ∙ (tiny c.before).right

pub returns-then-b-lt9218868437227405312 : goal.returns-then-b-lt9218868437227405312
returns-then-b-lt9218868437227405312 c =
    let t = c.before in
    c.normal_root-then-b-lt9218868437227405312.ensures ∙ normal t.before.before.before.args.x (held t.before.before.before) t.before.if-b-lt4503599627370496.false t.if-b-lt9218868437227405312.true

pub returns-then-x : goal.returns-then-x
unfolding of_bits
returns-then-x c = above_top c.before.before.before.args.x (held c.before.before.before) c.before.before.if-x.true c.if-b-lt9218868437227405312.false

pub returns-then-x-2 : goal.returns-then-x-2
unfolding of_bits
returns-then-x-2 c = at_zero c.before.before.args.x c.if-x-2.true

pub returns : goal.returns
unfolding of_bits div
returns c = sym (at_rest c.before.before.args.x c.before.if-x.false c.if-x-2.false)

pub float_to_bits-y : goal.float_to_bits-y
float_to_bits-y c = (tiny c).some
