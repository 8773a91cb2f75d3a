-- `numbers::scalar::median_value` meets its contract: what `nan_median` promises where one is a NaN, else the median by value (`Zeros.antt`). Assumes nothing.
use Rattle.std.proofs.Common.{◌≡◌, Bool, true, false, not, ◌||◌, T, sym, ◌∙◌, subst}
use lib.Ieee.{Float, binary32, eq, is_nan, of_bits, of_fields, odd}
use Rattle.numbers.specs.Orders.{Number}
use Rattle.numbers.proofs.Laws.Order.{nought}
use Rattle.numbers.proofs.scalar.Zeros.{by_value, median_by_value, median_zero}
use Rattle.numbers.proofs.scalar.median_value.Goals as goal
use Rattle.numbers.proofs.scalar.median_value.Goals.{After-greater-m, Start}

-- after the calls
abbrev start : After-greater-m → Start
start c = c.before.before.before.before.before.before

none : (a b c : Bool) → a || b || c ≡ false → T (not a) × T (not b) × T (not c)
none true b c e = absurd (subst T e tt)
none false true c e = absurd (subst T e tt)
none false false true e = absurd (subst T e tt)
none false false false e = (tt, tt, tt)

numbers : (c : After-greater-m) → let a = (start c).args in Number binary32 a.a × Number binary32 a.b × Number binary32 a.c
numbers c =
    let left = c.before.before.before.before in
    let s = start c in
    let n = none (is_nan s.args.a) (is_nan s.args.b) (is_nan s.args.c) (sym left.before.some_nan.ensures ∙ left.if-some_nan.false) in
    ((subst T (sym s.well_formed.0.1) tt, n.0), (subst T (sym s.well_formed.1.0.1) tt, n.1), (subst T (sym s.well_formed.1.1.0.1) tt, n.2))

value : (c : After-greater-m) → let a = (start c).args in c.greater-m.result ≡ by_value a.a a.b a.c
value c = cc

pub zero_median-requires : goal.zero_median-requires
unfolding of_bits of_fields odd
zero_median-requires c =
    let a = (start c.before).args in
    let n = numbers c.before in record { numbers = (n.0.1, n.1.1, n.2.1); zero = median_zero binary32 a.a a.b a.c n.0 n.1 n.2 (subst (λ (v : Float). eq v nought ≡ true) (value c.before) c.if-m.true) }

pub returns-else-m : goal.returns-else-m
unfolding of_bits of_fields odd
returns-else-m c =
    let a = (start c.before).args in
    let n = numbers c.before in
    value c.before ∙ median_by_value binary32 a.a a.b a.c n.0 n.1 n.2 (subst (λ (v : Float). eq v nought ≡ false) (value c.before) c.if-m.false)

pub nan_median-requires : goal.nan_median-requires
nan_median-requires c = sym c.before.some_nan.ensures ∙ c.if-some_nan.true

pub returns-then-some_nan : goal.returns-then-some_nan
returns-then-some_nan c = c.nan_median.ensures
