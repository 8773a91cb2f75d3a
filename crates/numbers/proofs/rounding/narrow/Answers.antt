-- `numbers::rounding::narrow` meets its contract: each way's pattern is that of the rounded value (`Narrowing.antt`). Assumes nothing.
use Rattle.std.proofs.Common.{◌≡◌, ℕ, ◌+◌, ◌-◌, ◌/◌, ◌%◌, ◌<◌, not, T, sym, ap, ◌∙◌, subst, arith}
use lib.Ieee.{Float, fits, is_nan, binary64, to_bits, of_bits, div, nan_bits}
use lib.Ieee.Bits.{to_bits-lt, of_bits-to_bits}
use Rattle.numbers.specs.Rounding.{narrow_of}
use Rattle.ground.proofs.Laws.Nan.{ne_self, is_nan_law}
use Rattle.numbers.proofs.rounding.Narrowing.{Right, size_of, y_of, Tiny, small_digits, size_no_nan, narrow_small, narrow_mid, narrow_high}
use Rattle.numbers.proofs.rounding.narrow.Goals as goal
use Rattle.numbers.proofs.rounding.narrow.Goals.{Else-b-lt5183643171103440896, Start, Then-b-lt4039728865751334912, Then-b-lt5183643171103440896}

held : (c : Start) → T (fits binary64 c.args.x)
held c = subst T (sym c.well_formed.0.1) tt

abbrev n_of : Start → ℕ
n_of c = to_bits binary64 c.args.x

n_lt : (c : Start) → n_of c < 18446744073709551616
n_lt c = to_bits-lt binary64 c.args.x (held c)

back : (c : Start) → of_bits binary64 (n_of c) ≡ c.args.x
back c = of_bits-to_bits binary64 c.args.x (held c)

pub returns-then-is_nan : goal.returns-then-is_nan
unfolding div of_bits narrow_of
returns-then-is_nan c = ap narrow_of (sym (is_nan_law c.args.x (ne_self c.args.x ∙ sym c.is_nan.ensures.value ∙ c.if-is_nan.true)))

pub float_from_bits-y : goal.float_from_bits-y
float_from_bits-y c = size_no_nan (n_of (goal.at.float_from_bits-y c).Start) (omega arith)

pub float_from_bits-y-then-b-lt4039728865751334912 : goal.float_from_bits-y-then-b-lt4039728865751334912
unfolding nan_bits
float_from_bits-y-then-b-lt4039728865751334912 c = tt

last : (c : Then-b-lt4039728865751334912) → Tiny (n_of (goal.at.Then-b-lt4039728865751334912 c).Start)
last c = small_digits (n_of (goal.at.Then-b-lt4039728865751334912 c).Start) c.if-b-lt4039728865751334912.true

low : (c : Then-b-lt4039728865751334912) → Right (n_of (goal.at.Then-b-lt4039728865751334912 c).Start) (to_bits binary64 (y_of (n_of (goal.at.Then-b-lt4039728865751334912 c).Start)) - 4170333254945079296)
low c = narrow_small (n_of (goal.at.Then-b-lt4039728865751334912 c).Start) (n_lt (goal.at.Then-b-lt4039728865751334912 c).Start) c.if-b-lt4039728865751334912.true

pub returns-then-b-lt4039728865751334912 : goal.returns-then-b-lt4039728865751334912
returns-then-b-lt4039728865751334912 c = (low c).0 ∙ ap narrow_of (back (goal.at.returns-then-b-lt4039728865751334912 c).Start)

mid : (c : Then-b-lt5183643171103440896) → let b = size_of (n_of (goal.at.Then-b-lt5183643171103440896 c).Start) in Right (n_of (goal.at.Then-b-lt5183643171103440896 c).Start) ((b + 268435455 + b / 536870912 % 2) / 536870912 - 7516192768)
mid c = narrow_mid (n_of (goal.at.Then-b-lt5183643171103440896 c).Start) (n_lt (goal.at.Then-b-lt5183643171103440896 c).Start) c.if-b-lt4039728865751334912.false c.if-b-lt5183643171103440896.true

pub returns-then-b-lt5183643171103440896 : goal.returns-then-b-lt5183643171103440896
returns-then-b-lt5183643171103440896 c = (mid c).0 ∙ ap narrow_of (back (goal.at.returns-then-b-lt5183643171103440896 c).Start)

high : (c : Else-b-lt5183643171103440896) → Right (n_of (goal.at.Else-b-lt5183643171103440896 c).Start) 2139095040
high c =
    let s = (goal.at.Else-b-lt5183643171103440896 c).Start in
    narrow_high (n_of s) (n_lt s) c.if-b-lt5183643171103440896.false (subst (λ (v : Float). T (not (is_nan v))) (sym (back s)) c.if-is_nan.ensures.not_nan)

pub returns : goal.returns
returns c = (high c).0 ∙ ap narrow_of (back (goal.at.returns c).Start)

pub float_to_bits-bits : goal.float_to_bits-bits
float_to_bits-bits c = c.if-is_nan.ensures.not_nan

pub overflow_cast-sign : goal.overflow_cast-sign
overflow_cast-sign c = omega (arith, n_lt (goal.at.overflow_cast-sign c).Start)

pub overflow_mul-sign : goal.overflow_mul-sign
overflow_mul-sign c = omega (arith, n_lt (goal.at.overflow_mul-sign c).Start)

pub float_to_bits-q : goal.float_to_bits-q
float_to_bits-q c = (last c).some

pub overflow_sub-q : goal.overflow_sub-q
overflow_sub-q c = (last c).lo

pub overflow_cast-result : goal.overflow_cast-result
overflow_cast-result c = let d = last c in omega arith

pub overflow_add-result : goal.overflow_add-result
overflow_add-result c = let d = last c in omega (arith, n_lt (goal.at.overflow_add-result c).Start)

pub float_from_bits-result : goal.float_from_bits-result
float_from_bits-result c = (low c).1

pub overflow_add-result-then-b-lt5183643171103440896 : goal.overflow_add-result-then-b-lt5183643171103440896
overflow_add-result-then-b-lt5183643171103440896 c = omega (arith, n_lt (goal.at.overflow_add-result-then-b-lt5183643171103440896 c).Start)

pub float_from_bits-result-then-b-lt5183643171103440896 : goal.float_from_bits-result-then-b-lt5183643171103440896
float_from_bits-result-then-b-lt5183643171103440896 c = (mid c).1

pub overflow_add-result-2 : goal.overflow_add-result-2
overflow_add-result-2 c = omega (arith, n_lt (goal.at.overflow_add-result-2 c).Start)

pub float_from_bits-result-2 : goal.float_from_bits-result-2
float_from_bits-result-2 c = (high c).1
