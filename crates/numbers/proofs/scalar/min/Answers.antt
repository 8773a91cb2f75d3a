-- `numbers::scalar::min` meets its contract (`Zeros.antt` where neither is less). Assumes nothing.
use Rattle.std.proofs.Common.{sym, ◌∙◌}
use Rattle.numbers.specs.Scalar.{min_of}
use Rattle.numbers.proofs.scalar.Zeros.{apart_min, second_number, min_minus, min_plus}
use Rattle.numbers.proofs.scalar.min.Goals as goal
use Rattle.numbers.proofs.scalar.min.Goals.{then-is_nan-via-then-is_nan, then-is_nan-via-else-is_nan+then-y-x}

pub returns-then-is_nan : goal.returns-then-is_nan
unfolding min_of
returns-then-is_nan c =
    elim c.then-is_nan.branch [
      | then-is_nan-via-then-is_nan w ↦ rw (sym c.is_nan.ensures.value ∙ w.if-is_nan.true)
      | then-is_nan-via-else-is_nan+then-y-x w ↦ rw (sym c.is_nan.ensures.value ∙ w.if-is_nan.false, w.if-y-x.true)
    ]

pub returns-then-y-x-2 : goal.returns-then-y-x-2
unfolding min_of
returns-then-y-x-2 c = rw (sym c.is_nan.ensures.value ∙ c.if-is_nan.false, apart_min c.args.x c.args.y c.if-y-x.false c.if-y-x-2.true)

pub is_sign_negative-requires : goal.is_sign_negative-requires
is_sign_negative-requires c = second_number c.args.x c.args.y c.well_formed.0.1 c.well_formed.1.0.1 c.if-y-x-2.false

pub returns-then-is_sign_negative : goal.returns-then-is_sign_negative
returns-then-is_sign_negative c =
    min_minus c.args.x c.args.y c.well_formed.0.1 c.well_formed.1.0.1 c.if-y-x-2.false (sym c.is_sign_negative.ensures ∙ c.if-is_sign_negative.true)

pub returns-else-is_sign_negative : goal.returns-else-is_sign_negative
returns-else-is_sign_negative c =
    min_plus c.args.x c.args.y c.well_formed.0.1 c.well_formed.1.0.1 c.if-y-x-2.false (sym c.is_sign_negative.ensures ∙ c.if-is_sign_negative.false)
