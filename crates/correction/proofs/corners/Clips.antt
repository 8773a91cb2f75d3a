-- A signed column or row as `clip` has it, by the tests and the cast of `clipped` as the machine reads the number back from its bits. Assumes nothing.
--     at_far    less than -1
--     at_near   -1
--     cast      0 or more: the cast is allowed
--     at_in     below n
--     at_out    n or more
use mathlib.Core.Path.{◌≡◌, refl, sym, subst}
use mathlib.Core.Bool.{true, false}
use Prim.Native.Nat.{ℕ, zero, suc, ◌+◌, ◌<◌, ◌≤◌}
use native.Mathlib.Nat.{not-suc-le-zero}
use native.Mathlib.Numerals.{add-one}
use native.Mathlib.Omega.{arith}
use lib.Dec.{T}
use lib.IntN.{ℤ, pos, negsuc, nat_abs}
use lib.Signed.{lt_z, non_neg}
use mir.Syntax.{w64}
use mir.Val.{Fits, SFits, to_z, of_z}
use mir.ValLaws.{to_z-of_z}
use borrow.Author.Tests.{ltb-true, ltb-false, lt-ltb, le-ltb}
use Rattle.correction.specs.Inner.{clip}

clip_far : (z : ℤ) (n : ℕ) → lt_z z (negsuc 0) ≡ true → n + 1 ≡ clip z n
unfolding clip
clip_far (pos k) n p = let z : ◌≡◌ {A = ℕ} 0 1 = cc in omega arith
clip_far (negsuc zero) n p = absurd (not-suc-le-zero (ltb-true 0 0 p))
clip_far (negsuc (suc k)) n p = add-one n

clip_near : (z : ℤ) (n : ℕ) → lt_z z (negsuc 0) ≡ false → lt_z z (pos 0) ≡ true → 0 ≡ clip z n
unfolding clip
clip_near (pos k) n p q = absurd (not-suc-le-zero (ltb-true k 0 q))
clip_near (negsuc zero) n p q = refl
clip_near (negsuc (suc k)) n p q = absurd (not-suc-le-zero (ltb-false 0 (suc k) p))

clip_in : (z : ℤ) (n : ℕ) → lt_z z (pos 0) ≡ false → nat_abs z < n → nat_abs z + 1 ≡ clip z n
unfolding clip
clip_in (pos k) n p l = simp (lt-ltb k n l) (add-one k)
clip_in (negsuc k) n p l = let z : ◌≡◌ {A = ℕ} 0 1 = cc in omega arith

clip_out : (z : ℤ) (n : ℕ) → lt_z z (pos 0) ≡ false → n ≤ nat_abs z → n + 1 ≡ clip z n
unfolding clip
clip_out (pos k) n p l = simp (le-ltb k n l) (add-one n)
clip_out (negsuc k) n p l = let z : ◌≡◌ {A = ℕ} 0 1 = cc in omega arith

not_neg : (z : ℤ) → lt_z z (pos 0) ≡ false → T (non_neg z)
not_neg (pos k) p = tt
not_neg (negsuc k) p = let z : ◌≡◌ {A = ℕ} 0 1 = cc in omega arith

abs_fits : (z : ℤ) → SFits w64 z → Fits w64 (nat_abs z)
abs_fits (pos k) f = omega arith
abs_fits (negsuc k) f = omega arith

module _ (z : ℤ) (f : SFits w64 z) where
  abbrev read : ℤ
  read = to_z w64 (of_z w64 z)

  back : z ≡ read
  back = sym (to_z-of_z w64 z f)

  pub at_far : (n : ℕ) → lt_z read (negsuc 0) ≡ true → n + 1 ≡ clip z n
  at_far n p = clip_far z n (rw back p)

  pub at_near : (n : ℕ) → lt_z read (negsuc 0) ≡ false → lt_z read (pos 0) ≡ true → 0 ≡ clip z n
  at_near n p q = clip_near z n (rw back p) (rw back q)

  pub cast : lt_z read (pos 0) ≡ false → T (non_neg read) × Fits w64 (nat_abs read)
  cast p = subst (λ (y : ℤ). T (non_neg y) × Fits w64 (nat_abs y)) back (not_neg z (rw back p), abs_fits z f)

  pub at_in : (n : ℕ) → lt_z read (pos 0) ≡ false → nat_abs read < n → nat_abs read + 1 ≡ clip z n
  at_in n p l = subst (λ (y : ℤ). nat_abs y < n → nat_abs y + 1 ≡ clip z n) back (clip_in z n (rw back p)) l

  pub at_out : (n : ℕ) → lt_z read (pos 0) ≡ false → n ≤ nat_abs read → n + 1 ≡ clip z n
  at_out n p l = clip_out z n (rw back p) (rw back l)
