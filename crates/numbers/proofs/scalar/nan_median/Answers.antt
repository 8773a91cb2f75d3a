-- `numbers::scalar::nan_median` meets its contract: what a NaN does to the order. Assumes nothing.
use Rattle.std.proofs.Common.{◌≡◌, Bool, true, false, cond, ◌||◌, sym, ap, ◌∙◌}
use lib.Ieee.{Float, is_nan}
use Rattle.numbers.specs.Scalar.{median_of}
use Rattle.ground.proofs.Laws.Nan.{ne_self, is_nan_law}
use Rattle.numbers.proofs.Laws.Scalar.{median_nan_first, median_nan_second, median_nan_third}
use Rattle.numbers.proofs.scalar.nan_median.Goals as goal

first : (a b c : Float) (t : Bool) → is_nan a ≡ true → is_nan b ≡ t → median_of a b c ≡ cond t c b
first a b c t h k = ap (λ (v : Float). median_of v b c) (is_nan_law a (ne_self a ∙ h)) ∙ median_nan_first b c ∙ ap (λ (s : Bool). cond s c b) k

-- where neither of two tests passes the third does
last : (a b c : Bool) → a ≡ false → b ≡ false → a || b || c ≡ true → c ≡ true
last a b c e f h = sym (ap (λ (s : Bool). s || b || c) e ∙ ap (λ (s : Bool). s || c) f) ∙ h

pub returns-then-is_nan-2 : goal.returns-then-is_nan-2
returns-then-is_nan-2 c = let a = c.args in sym (first a.a a.b a.c true (sym c.is_nan.ensures.value ∙ c.if-is_nan.true) (sym c.is_nan-then-is_nan.ensures.value ∙ c.if-is_nan-2.true))

pub returns-then-is_nan : goal.returns-then-is_nan
returns-then-is_nan c = let a = c.args in sym (first a.a a.b a.c false (sym c.is_nan.ensures.value ∙ c.if-is_nan.true) (sym c.is_nan-then-is_nan.ensures.value ∙ c.if-is_nan-2.false))

pub returns-then-is_nan-3 : goal.returns-then-is_nan-3
returns-then-is_nan-3 c =
    let a = c.args in
    sym (ap (λ (v : Float). median_of a.a v a.c) (is_nan_law a.b (ne_self a.b ∙ sym c.is_nan-2.ensures.value ∙ c.if-is_nan-3.true)) ∙ median_nan_second a.a a.c c.if-is_nan.ensures.not_nan)

pub returns : goal.returns
returns c =
    let a = c.args in
    let three = last (is_nan a.a) (is_nan a.b) (is_nan a.c) (sym c.is_nan.ensures.value ∙ c.if-is_nan.false) (sym c.is_nan-2.ensures.value ∙ c.if-is_nan-3.false) c.requires in
    c.max.ensures ∙ sym (ap (median_of a.a a.b) (is_nan_law a.c (ne_self a.c ∙ three)) ∙ median_nan_third a.a a.b c.if-is_nan.ensures.not_nan c.if-is_nan-3.ensures.not_nan)
