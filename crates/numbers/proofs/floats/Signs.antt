-- The bit pattern of a value without its sign: the pattern's rest by the sign's weight is the pattern of the value's size. Assumes nothing.
use Rattle.std.proofs.Common.{◌≡◌, ℕ, ◌+◌, ◌*◌, ◌%◌, ◌<◌, Bool, true, false, not, T, ℤ, sym, ap, ◌∙◌, subst, mod-eq_of_lt, zero-add, arith, lit<}
use native.Mathlib.Nat.{add-mod_left}
use lib.Ieee.{Float, nan, inf, fin, Format, binary32, binary64, fits, is_nan, neg, to_bits, of_bits, nan_bits, top, hid, ones}
use lib.Ieee.Fits.{neg-fits}
use lib.Ieee.Bits.{to_bits-lt, of_bits-to_bits, nan_bits_is}
use Rattle.numbers.specs.Scalar.{abs_of}
use Rattle.numbers.proofs.Laws.Order.{abs_number, abs_fits}

pub negative_bits : (f : Format) (m : ℕ) (e : ℤ) → to_bits f (fin true m e) ≡ top f + to_bits f (fin false m e)
unfolding to_bits
negative_bits f m e = omega arith

flipped : (f : Format) (m : ℕ) (e : ℤ) → T (fits f (fin false m e)) → T (fits f (fin true m e))
unfolding neg
flipped f m e h = neg-fits f (fin false m e) h

pub size_lt_top : (f : Format) (m : ℕ) (e : ℤ) → T (fits f (fin false m e)) → to_bits f (fin false m e) < top f
size_lt_top f m e h = omega (arith, subst (λ (n : ℕ). n < 2 * top f) (negative_bits f m e) (to_bits-lt f (fin true m e) (flipped f m e h)))

pub inf_lt : (f : Format) → ones f * hid f < top f
inf_lt binary32 = lit< tt
inf_lt binary64 = lit< tt

abs_bits : (f : Format) (x : Float) → T (fits f x) → T (not (is_nan x)) → to_bits f x % top f ≡ to_bits f (abs_of x)
unfolding abs_of is_nan
abs_bits f nan h n = absurd n
abs_bits f (inf true) h n = unfold to_bits in add-mod_left (top f) (ones f * hid f) ∙ mod-eq_of_lt (inf_lt f) ∙ sym (zero-add _)
abs_bits f (inf false) h n = unfold to_bits in ap (λ (x : ℕ). x % top f) (zero-add (ones f * hid f)) ∙ mod-eq_of_lt (inf_lt f) ∙ sym (zero-add _)
abs_bits f (fin true m e) h n =
    ap (λ (x : ℕ). x % top f) (negative_bits f m e) ∙ add-mod_left (top f) _ ∙ mod-eq_of_lt (size_lt_top f m e (abs_fits f (fin true m e) h))
abs_bits f (fin false m e) h n = mod-eq_of_lt (size_lt_top f m e h)

-- so the pattern's rest is read as the value's size, and is no NaN's
pub read_abs : (f : Format) (x : Float) → fits f x ≡ true → T (not (is_nan x)) → (of_bits f (to_bits f x % top f) ≡ abs_of x) × T (not (nan_bits f (to_bits f x % top f)))
read_abs f x g n =
    let h : T (fits f x) = subst T (sym g) tt in
    let is : of_bits f (to_bits f x % top f) ≡ abs_of x = ap (of_bits f) (abs_bits f x h n) ∙ of_bits-to_bits f (abs_of x) (abs_fits f x h) in
    (is, subst (λ (b : Bool). T (not b)) (sym (nan_bits_is f (to_bits f x % top f) ∙ ap is_nan is ∙ abs_number x)) n)
