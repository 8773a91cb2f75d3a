-- `numbers::scalar::max` meets its contract (`Zeros.antt` where neither is less). Assumes nothing.
use Rattle.std.proofs.Common.{sym, ◌∙◌}
use Rattle.numbers.specs.Scalar.{max_of}
use Rattle.numbers.proofs.scalar.Zeros.{apart_max, second_number, max_minus, max_plus}
use Rattle.numbers.proofs.scalar.max.Goals as goal
use Rattle.numbers.proofs.scalar.max.Goals.{then-is_nan-via-then-is_nan, then-is_nan-via-else-is_nan+then-x-y}

pub returns-then-is_nan : goal.returns-then-is_nan
unfolding max_of
returns-then-is_nan c =
    elim c.then-is_nan.branch [
      | then-is_nan-via-then-is_nan w ↦ rw (sym c.is_nan.ensures.value ∙ w.if-is_nan.true)
      | then-is_nan-via-else-is_nan+then-x-y w ↦ rw (sym c.is_nan.ensures.value ∙ w.if-is_nan.false, w.if-x-y.true)
    ]

pub returns-then-y-x : goal.returns-then-y-x
unfolding max_of
returns-then-y-x c = rw (sym c.is_nan.ensures.value ∙ c.if-is_nan.false, apart_max c.args.x c.args.y c.if-x-y.false c.if-y-x.true)

pub is_sign_negative-requires : goal.is_sign_negative-requires
is_sign_negative-requires c = second_number c.args.x c.args.y c.well_formed.0.1 c.well_formed.1.0.1 c.if-y-x.false

pub returns-then-is_sign_negative : goal.returns-then-is_sign_negative
returns-then-is_sign_negative c =
    max_minus c.args.x c.args.y c.well_formed.0.1 c.well_formed.1.0.1 c.if-y-x.false (sym c.is_sign_negative.ensures ∙ c.if-is_sign_negative.true)

pub returns-else-is_sign_negative : goal.returns-else-is_sign_negative
returns-else-is_sign_negative c =
    max_plus c.args.x c.args.y c.well_formed.0.1 c.well_formed.1.0.1 c.if-y-x.false (sym c.is_sign_negative.ensures ∙ c.if-is_sign_negative.false)
