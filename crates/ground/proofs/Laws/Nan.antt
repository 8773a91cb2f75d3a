-- Which bit patterns are a NaN's, and what a test for a NaN says. Assumes nothing.
--     ne_self       x differs from itself just where it is a NaN
--     is_nan_law        what differs from itself is the NaN
--     no_nan        and what does not is none
--     nan_bits_law      a pattern above infinity's, the sign aside, is a NaN's
--     no_nan_bits   any other is not
--     zero_by_zero  0 / 0 is the NaN
use mathlib.Core.Path.{◌≡◌, refl, sym, ap, subst, ◌∙◌}
use mathlib.Core.Bool.{Bool, true, false, not, ◌&&◌}
use Prim.Native.Nat.{ℕ, ◌*◌, ◌/◌, ◌%◌, ◌<◌, ◌≤◌}
use native.Mathlib.Omega.{arith}
use lib.Dec.{T, leb, eqb, eqb_refl}
use lib.Ieee.Compare.{differs_from_itself}
use lib.Ieee.Bits.{is_true}
use lib.Ieee.{Float, Format, nan, inf, fin, binary32, binary64, hid, ones, top, of_fields, of_bits, nan_bits, div, up, down, ne, is_nan}
use borrow.Author.Tests.{ne_eqb, eqb-true, eqb-false}

pub ne_self : (x : Float) → ne x x ≡ is_nan x
unfolding ne is_nan
ne_self nan = refl
ne_self (inf true) = refl
ne_self (inf false) = refl
ne_self (fin true m e) = ap (λ (b : Bool). not (b && true)) (is_true (eqb (m * up e * down e) (m * up e * down e)) (eqb_refl (m * up e * down e)))
ne_self (fin false m e) = ap (λ (b : Bool). not (b && true)) (is_true (eqb (m * up e * down e) (m * up e * down e)) (eqb_refl (m * up e * down e)))

pub is_nan_law : (x : Float) → ne x x ≡ true → x ≡ nan
is_nan_law x h = differs_from_itself x (subst T (sym h) tt)

pub no_nan : (x : Float) → ne x x ≡ false → T (not (is_nan x))
no_nan x h = subst (λ (b : Bool). T (not b)) (sym (sym (ne_self x) ∙ h)) tt

-- a field of ones over digits that are not 0
nan_fields : (f : Format) (s : Bool) (x t : ℕ) → x ≡ ones f → (t ≡ 0 → ⊥) → of_fields f s x t ≡ nan
unfolding of_fields
nan_fields binary32 s x t e n = rw e (simp (ne_eqb t 0 n))
nan_fields binary64 s x t e n = rw e (simp (ne_eqb t 0 n))

pub nan_bits_law : (f : Format) (n : ℕ) → ones f * hid f < n % top f → of_bits f n ≡ nan
unfolding of_bits
nan_bits_law binary32 n h = nan_fields binary32 (leb 2147483648 n) (n % 2147483648 / 8388608) (n % 8388608) (omega arith) (λ z. omega arith)
nan_bits_law binary64 n h = nan_fields binary64 (leb 9223372036854775808 n) (n % 9223372036854775808 / 4503599627370496) (n % 4503599627370496) (omega arith) (λ z. omega arith)

not_both : (a b : Bool) → (a ≡ true → b ≡ false → ⊥) → T (not (a && not b))
not_both true true h = tt
not_both true false h = h refl refl
not_both false b h = tt

pub no_nan_bits : (f : Format) (n : ℕ) → n % top f ≤ ones f * hid f → T (not (nan_bits f n))
unfolding nan_bits
no_nan_bits binary32 n h = not_both (eqb (n % 2147483648 / 8388608) 255) (eqb (n % 8388608) 0) (λ e u. eqb-false (n % 8388608) 0 u (omega (arith, eqb-true (n % 2147483648 / 8388608) 255 e)))
no_nan_bits binary64 n h = not_both (eqb (n % 9223372036854775808 / 4503599627370496) 2047) (eqb (n % 4503599627370496) 0) (λ e u. eqb-false (n % 4503599627370496) 0 u (omega (arith, eqb-true (n % 9223372036854775808 / 4503599627370496) 2047 e)))

pub zero_by_zero : (f : Format) → div f (of_bits f 0) (of_bits f 0) ≡ nan
unfolding div of_bits
zero_by_zero binary32 = refl
zero_by_zero binary64 = refl
