-- A finite value is a whole number of its format's smallest values, read off the value or off its pattern. Assumes nothing.
--     value_held      a value of the format that is a fraction is a finite one
--     steps_value     a finite value of a format is that many of its smallest values exactly
--     whole_of_value  so is a value whose fraction is over the smallest values' denominator
--     whole_of_bits_law   the whole number of a pattern's value is the pattern's
--     finite_of_bits  a pattern whose exponent's field is not all ones is a finite value's
--     whole_figures   evaluated: the smallest value is 1, a zero of either sign 0, and the largest (2^24 − 1)·2^253
--     abs_signed      a signed number's size
use Rattle.std.proofs.Common.{◌≡◌, ℕ, zero, suc, ◌+◌, ◌-◌, ◌*◌, ◌/◌, ◌%◌, ◌^◌, ◌<◌, Bool, true, false, cond, T, eqb, leb, ℤ, pos, negsuc, nat_abs, sym, refl, ap, ◌∙◌, subst, lt_irrefl, mul-one, mul-div_cancel, ne_eqb}
use lib.Ieee.{Float, nan, inf, fin, Format, binary32, prec, low, down, hid, top, ones, odd, fits, of_fields, of_bits}
use lib.Ieee.Fits.{down_pos}
use lib.Ieee.Exact.{HasValue, odd_sign}
use lib.Ieee.Bits.{of_bits-fits}
use Rattle.numbers.specs.Whole.{Finite, signed, steps, whole_of, FiniteBits, steps_of_fields, whole_of_bits}
use Rattle.numbers.proofs.floats.Values.{with_value}
use Rattle.numbers.proofs.floats.Held.{held, count}

-- ---- from the value
-- a value that is a fraction is finite
pub value_held : (f : Format) (x : Float) (s : Bool) (a c : ℕ) → HasValue x s a c → T (fits f x) → Finite f x
value_held f x s a c h = with_value (λ x. T (fits f x) → Finite f x) x s a c h (λ m e p q. q)

-- a value that a format holds is counted by its smallest values
pub steps_is : (f : Format) (s : Bool) (m : ℕ) (e : ℤ) (p : T (fits f (fin s m e))) → steps f m e ≡ count f m e (held f s m e p)
steps_is f s m e p = let h = held f s m e p in ap (λ (x : ℕ). x / down e) h.value ∙ mul-div_cancel (count f m e h) (down_pos e)

pub steps_value : (f : Format) (s : Bool) (m : ℕ) (e : ℤ) → T (fits f (fin s m e)) → HasValue (fin s m e) s (steps f m e) (2 ^ low f)
steps_value f s m e p = let h = held f s m e p in (refl, h.value ∙ ap (λ (x : ℕ). x * down e) (sym (steps_is f s m e p)))

pub whole_of_value : (f : Format) (x : Float) (s : Bool) (a : ℕ) → HasValue x s a (2 ^ low f) → whole_of f x ≡ signed s a
unfolding whole_of
whole_of_value f x s a h = with_value (λ x. whole_of f x ≡ signed s a) x s a (2 ^ low f) h (λ m e p. ap (signed s) (ap (λ (k : ℕ). k / down e) p ∙ mul-div_cancel a (down_pos e)))

-- ---- from the pattern
fields_value : (f : Format) (s : Bool) (x t : ℕ) → x < ones f → HasValue (of_fields f s x t) s (steps_of_fields f x t) (2 ^ low f)
unfolding of_fields
fields_value f s zero t h = subst (λ (k : ℕ). HasValue (odd (prec f) s t 0 (low f)) s k (2 ^ low f)) (mul-one t) (odd_sign (prec f) s t 0 (low f))
fields_value f s (suc x) t h =
    subst (λ (b : Bool). HasValue (cond b (cond (eqb t 0) (inf s) nan) (odd (prec f) s (hid f + t) x (low f))) s ((hid f + t) * 2 ^ x) (2 ^ low f))
    (sym (ne_eqb (suc x) (ones f) (λ e. lt_irrefl (ones f) (subst (λ (k : ℕ). k < ones f) e h)))) (odd_sign (prec f) s (hid f + t) x (low f))

bits_value : (f : Format) (b : ℕ) → FiniteBits f b → HasValue (of_bits f b) (leb (top f) b) (steps_of_fields f (b % top f / hid f) (b % hid f)) (2 ^ low f)
unfolding of_bits
bits_value f b h = fields_value f (leb (top f) b) (b % top f / hid f) (b % hid f) h

pub whole_of_bits_law : (f : Format) (b : ℕ) → FiniteBits f b → whole_of f (of_bits f b) ≡ whole_of_bits f b
unfolding whole_of_bits
whole_of_bits_law f b h = whole_of_value f (of_bits f b) (leb (top f) b) (steps_of_fields f (b % top f / hid f) (b % hid f)) (bits_value f b h)

pub finite_of_bits : (f : Format) (b : ℕ) → FiniteBits f b → Finite f (of_bits f b)
finite_of_bits f b h = value_held f (of_bits f b) (leb (top f) b) (steps_of_fields f (b % top f / hid f) (b % hid f)) (2 ^ low f) (bits_value f b h) (of_bits-fits f b)

-- the smallest value, it with a minus, both zeros, the smallest with a leading digit, 1 and the largest
pub whole_figures : (whole_of_bits binary32 0x0000_0001 ≡ pos 1)
    × (whole_of_bits binary32 0x8000_0001 ≡ negsuc 0)
    × (whole_of_bits binary32 0x0000_0000 ≡ pos 0)
    × (whole_of_bits binary32 0x8000_0000 ≡ pos 0)
    × (whole_of_bits binary32 0x0080_0000 ≡ pos (2 ^ 23))
    × (whole_of_bits binary32 0x3f80_0000 ≡ pos (2 ^ 149))
    × (whole_of_bits binary32 0x7f7f_ffff ≡ pos ((2 ^ 24 - 1) * 2 ^ 253))
unfolding whole_of_bits
whole_figures = (refl, refl, refl, refl, refl, refl, refl)

-- ---- signs
pub abs_signed : (s : Bool) (n : ℕ) → nat_abs (signed s n) ≡ n
abs_signed false n = refl
abs_signed true zero = refl
abs_signed true (suc n) = refl
