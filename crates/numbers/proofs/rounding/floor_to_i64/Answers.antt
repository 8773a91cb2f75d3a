-- `numbers::rounding::floor_to_i64` meets its contract: each way's number is the floor of the pattern (`Flooring.antt`). Assumes nothing.
use Rattle.std.proofs.Common.{◌≡◌, ℕ, ◌-◌, ◌<◌, true, false, not, T, ℤ, pos, negsuc, neg_ℤ, sym, ap, ◌∙◌, subst, arith}
use lib.Ieee.{Float, is_nan, binary64, to_bits, of_bits}
use lib.Ieee.Bits.{of_bits-to_bits}
use Rattle.numbers.specs.Rounding.{floor_of}
use Rattle.numbers.specs.Inner.{scaled}
use Rattle.ground.proofs.Laws.Nan.{ne_self, is_nan_law}
use Rattle.numbers.proofs.rounding.Narrowing.{exp}
use Rattle.numbers.proofs.rounding.Flooring.{m_of, scaled_lt, no_sign, sign, plain, minus_none, minus_cut, minus_whole, out, kept, kept_fits, after_fits, after_kept, minus_fits, minus_kept}
use Rattle.numbers.proofs.rounding.floor_to_i64.Goals as goal
use Rattle.numbers.proofs.rounding.floor_to_i64.Goals.{After-scale, After-scale-then-e-lt1075, After-scale-then-e-lt1086-2, Else-is_nan, Start}

abbrev n_of : Start → ℕ
n_of c = to_bits binary64 c.args.x

back : (c : Start) → of_bits binary64 (n_of c) ≡ c.args.x
back c = of_bits-to_bits binary64 c.args.x (subst T (sym c.well_formed.0.1) tt)

-- from the floor of the pattern to that of the value
by : (c : Start) (z : ℤ) → floor_of (of_bits binary64 (n_of c)) ≡ z → z ≡ floor_of c.args.x
by c z e = sym e ∙ ap floor_of (back c)

some : (c : Else-is_nan) → T (not (is_nan (of_bits binary64 (n_of (goal.at.Else-is_nan c).Start))))
some c = subst (λ (v : Float). T (not (is_nan v))) (sym (back (goal.at.Else-is_nan c).Start)) c.if-is_nan.ensures.not_nan

pub returns-then-is_nan : goal.returns-then-is_nan
unfolding floor_of
returns-then-is_nan c = ap floor_of (sym (is_nan_law c.args.x (ne_self c.args.x ∙ sym c.is_nan.ensures.value ∙ c.if-is_nan.true)))

pub float_to_bits-bits : goal.float_to_bits-bits
float_to_bits-bits c = c.if-is_nan.ensures.not_nan

-- what `scale` answers is an i64
in_range_law : (r m e : ℕ) → r ≡ scaled m e → m < 9007199254740992 → e < 1086 → r < 9223372036854775808
in_range_law r m e h a b = subst (λ (q : ℕ). q < 9223372036854775808) (sym h) (scaled_lt m e a b)

first : (c : After-scale) → c.scale.result < 9223372036854775808
first c = let n = n_of (goal.at.After-scale c).Start in in_range_law c.scale.result (m_of n) (exp n) c.scale.ensures (omega arith) (omega arith)

pub returns-then-e-lt1086 : goal.returns-then-e-lt1086
returns-then-e-lt1086 c =
    let s = (goal.at.returns-then-e-lt1086 c).Start in
    kept c.scale.result (first c) ∙ ap pos c.scale.ensures ∙ by s (pos (scaled (m_of (n_of s)) (exp (n_of s)))) (plain (n_of s) c.if-bits-lt9223372036854775808.true c.if-e-lt1086.true)

pub returns-then-bits-lt9223372036854775808 : goal.returns-then-bits-lt9223372036854775808
returns-then-bits-lt9223372036854775808 c =
    let s = (goal.at.returns-then-bits-lt9223372036854775808 c).Start in
    by s (pos 9223372036854775807) (out (n_of s) false (no_sign (n_of s) c.if-bits-lt9223372036854775808.true) c.if-e-lt1086.false (some (goal.at.returns-then-bits-lt9223372036854775808 c).Else-is_nan))

pub returns-then-b-eq0 : goal.returns-then-b-eq0
returns-then-b-eq0 c = let s = (goal.at.returns-then-b-eq0 c).Start in by s (pos 0) (minus_none (n_of s) c.if-bits-lt9223372036854775808.false c.if-b-eq0.true)

second : (c : After-scale-then-e-lt1075) → c.scale-then-e-lt1075.result < 9223372036854775808
second c = let n = n_of (goal.at.After-scale-then-e-lt1075 c).Start in in_range_law c.scale-then-e-lt1075.result (m_of n - 1) (exp n) c.scale-then-e-lt1075.ensures (omega arith) (omega arith)

pub returns-then-e-lt1075 : goal.returns-then-e-lt1075
returns-then-e-lt1075 c =
    let s = (goal.at.returns-then-e-lt1075 c).Start in
    after_kept c.scale-then-e-lt1075.result (second c)
    ∙ ap negsuc c.scale-then-e-lt1075.ensures
    ∙ by s (negsuc (scaled (m_of (n_of s) - 1) (exp (n_of s)))) (minus_cut (n_of s) c.if-bits-lt9223372036854775808.false c.if-b-eq0.false c.if-e-lt1075.true)

third : (c : After-scale-then-e-lt1086-2) → c.scale-then-e-lt1086-2.result < 9223372036854775808
third c = let n = n_of (goal.at.After-scale-then-e-lt1086-2 c).Start in in_range_law c.scale-then-e-lt1086-2.result (m_of n) (exp n) c.scale-then-e-lt1086-2.ensures (omega arith) (omega arith)

pub returns-then-e-lt1086-2 : goal.returns-then-e-lt1086-2
returns-then-e-lt1086-2 c =
    let s = (goal.at.returns-then-e-lt1086-2 c).Start in
    minus_kept c.scale-then-e-lt1086-2.result (third c)
    ∙ ap (λ (q : ℕ). neg_ℤ (pos q)) c.scale-then-e-lt1086-2.ensures
    ∙ by s (neg_ℤ (pos (scaled (m_of (n_of s)) (exp (n_of s))))) (minus_whole (n_of s) c.if-bits-lt9223372036854775808.false c.if-e-lt1075.false c.if-e-lt1086-2.true)

pub returns : goal.returns
returns c =
    let s = (goal.at.returns c).Start in
    by s (negsuc 9223372036854775807) (out (n_of s) true (sign (n_of s) c.if-bits-lt9223372036854775808.false) c.if-e-lt1086-2.false (some (goal.at.returns c).Else-is_nan))

pub overflow_cast-result : goal.overflow_cast-result
overflow_cast-result c = kept_fits c.scale.result (first c)

pub overflow_cast-result-then-e-lt1075 : goal.overflow_cast-result-then-e-lt1075
overflow_cast-result-then-e-lt1075 c = kept_fits c.scale-then-e-lt1075.result (second c)

pub overflow_sub-result : goal.overflow_sub-result
overflow_sub-result c = after_fits c.scale-then-e-lt1075.result (second c)

pub overflow_cast-result-then-e-lt1086-2 : goal.overflow_cast-result-then-e-lt1086-2
overflow_cast-result-then-e-lt1086-2 c = kept_fits c.scale-then-e-lt1086-2.result (third c)

pub overflow_sub-result-then-e-lt1086-2 : goal.overflow_sub-result-then-e-lt1086-2
overflow_sub-result-then-e-lt1086-2 c = minus_fits c.scale-then-e-lt1086-2.result (third c)
