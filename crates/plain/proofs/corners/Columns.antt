-- The two columns or rows beside a point, of which there are n, by the tests and the casts of `first_beside` and `second_beside` as the machine reads the signed number back from its bits. Assumes nothing.
--     first_left, first_in, first_out    the first: of a negative number, below n, and n or more
--     second_far, second_near            the second: of a number less than -1, and of -1
--     second_in, second_out              below n, and n or more
--     cast, next_fits                    0 or more: the cast is allowed, and one more is no overflow
--     beside_at                          a column is the first or the second exactly where it lies beside the point
use Rattle.std.proofs.Common.{◌≡◌, ℕ, zero, suc, ◌+◌, ◌<◌, ◌≤◌, true, false, ◌||◌, T, eqb, ℤ, pos, negsuc, nat_abs, sym, refl, subst, not-suc-le-zero, arith, w64, Fits, SFits, to_z, of_z, ltb-false, ltb-true, le-ltb, lt-ltb, ne_eqb}
use mathlib.Core.Logic.{dite}
use native.Mathlib.Decide.{dec_lt}
use lib.Signed.{lt_z, non_neg}
use mir.ValLaws.{to_z-of_z}
use Rattle.correction.specs.Corners.{beside}
use Rattle.plain.specs.Inner.{first_beside, second_beside}

-- ---- by the number itself

left_first : (z : ℤ) (n : ℕ) → lt_z z (pos 0) ≡ true → n ≡ first_beside z n
unfolding first_beside
left_first (pos k) n p = absurd (not-suc-le-zero (ltb-true k 0 p))
left_first (negsuc k) n p = refl

in_first : (z : ℤ) (n : ℕ) → lt_z z (pos 0) ≡ false → nat_abs z < n → nat_abs z ≡ first_beside z n
unfolding first_beside
in_first (pos k) n p l = simp (lt-ltb k n l)
in_first (negsuc k) n p l = let z : ◌≡◌ {A = ℕ} 0 1 = cc in omega arith

out_first : (z : ℤ) (n : ℕ) → n ≤ nat_abs z → n ≡ first_beside z n
unfolding first_beside
out_first (pos k) n l = simp (le-ltb k n l)
out_first (negsuc k) n l = refl

far_second : (z : ℤ) (n : ℕ) → lt_z z (negsuc 0) ≡ true → n ≡ second_beside z n
unfolding second_beside
far_second (pos k) n p = let z : ◌≡◌ {A = ℕ} 0 1 = cc in omega arith
far_second (negsuc zero) n p = absurd (not-suc-le-zero (ltb-true 0 0 p))
far_second (negsuc (suc k)) n p = refl

near_second : (z : ℤ) (n : ℕ) → lt_z z (negsuc 0) ≡ false → lt_z z (pos 0) ≡ true → 0 ≡ second_beside z n
unfolding second_beside
near_second (pos k) n p q = absurd (not-suc-le-zero (ltb-true k 0 q))
near_second (negsuc zero) n p q = refl
near_second (negsuc (suc k)) n p q = absurd (not-suc-le-zero (ltb-false 0 (suc k) p))

in_second : (z : ℤ) (n : ℕ) → lt_z z (pos 0) ≡ false → nat_abs z + 1 < n → nat_abs z + 1 ≡ second_beside z n
unfolding second_beside
in_second (pos k) n p l = simp (lt-ltb (k + 1) n l)
in_second (negsuc k) n p l = let z : ◌≡◌ {A = ℕ} 0 1 = cc in omega arith

out_second : (z : ℤ) (n : ℕ) → lt_z z (pos 0) ≡ false → n ≤ nat_abs z + 1 → n ≡ second_beside z n
unfolding second_beside
out_second (pos k) n p l = simp (le-ltb (k + 1) n l)
out_second (negsuc k) n p l = let z : ◌≡◌ {A = ℕ} 0 1 = cc in omega arith

not_neg : (z : ℤ) → lt_z z (pos 0) ≡ false → T (non_neg z)
not_neg (pos k) p = tt
not_neg (negsuc k) p = let z : ◌≡◌ {A = ℕ} 0 1 = cc in omega arith

next_abs : (z : ℤ) → SFits w64 z → Fits w64 (nat_abs z + 1)
next_abs (pos k) f = omega arith
next_abs (negsuc k) f = omega arith

-- ---- as the machine reads it

module _ (z : ℤ) (f : SFits w64 z) where
  abbrev read : ℤ
  read = to_z w64 (of_z w64 z)

  back : z ≡ read
  back = sym (to_z-of_z w64 z f)

  pub first_left : (n : ℕ) → lt_z read (pos 0) ≡ true → n ≡ first_beside z n
  first_left n p = left_first z n (rw back p)

  pub first_in : (n : ℕ) → lt_z read (pos 0) ≡ false → nat_abs read < n → nat_abs read ≡ first_beside z n
  first_in n p l = subst (λ (y : ℤ). nat_abs y < n → nat_abs y ≡ first_beside z n) back (in_first z n (rw back p)) l

  pub first_out : (n : ℕ) → n ≤ nat_abs read → n ≡ first_beside z n
  first_out n l = out_first z n (rw back l)

  pub second_far : (n : ℕ) → lt_z read (negsuc 0) ≡ true → n ≡ second_beside z n
  second_far n p = far_second z n (rw back p)

  pub second_near : (n : ℕ) → lt_z read (negsuc 0) ≡ false → lt_z read (pos 0) ≡ true → 0 ≡ second_beside z n
  second_near n p q = near_second z n (rw back p) (rw back q)

  pub second_in : (n : ℕ) → lt_z read (pos 0) ≡ false → nat_abs read + 1 < n → nat_abs read + 1 ≡ second_beside z n
  second_in n p l = subst (λ (y : ℤ). nat_abs y + 1 < n → nat_abs y + 1 ≡ second_beside z n) back (in_second z n (rw back p)) l

  pub second_out : (n : ℕ) → lt_z read (pos 0) ≡ false → n ≤ nat_abs read + 1 → n ≡ second_beside z n
  second_out n p l = out_second z n (rw back p) (rw back l)

  pub next_fits : Fits w64 (nat_abs read + 1)
  next_fits = subst (λ (y : ℤ). Fits w64 (nat_abs y + 1)) back (next_abs z f)

  pub cast : lt_z read (pos 0) ≡ false → T (non_neg read) × Fits w64 (nat_abs read)
  cast p = (subst (λ (y : ℤ). T (non_neg y)) back (not_neg z (rw back p)), omega (arith, next_fits))

-- ---- both

pub beside_at : (z : ℤ) (n x : ℕ) → x < n → (eqb x (first_beside z n) || eqb x (second_beside z n)) ≡ beside z x
unfolding first_beside second_beside beside
beside_at (pos l) n x p =
    dite (dec_lt (l + 1) n)
    (λ a. simp (lt-ltb l n (omega arith), lt-ltb (l + 1) n a))
    (λ a.
    dite (dec_lt l n)
    (λ b. simp (lt-ltb l n b, le-ltb (l + 1) n (omega arith), ne_eqb x n (omega arith), ne_eqb x (l + 1) (omega arith)))
    (λ b. simp (le-ltb l n (omega arith), le-ltb (l + 1) n (omega arith), ne_eqb x n (omega arith), ne_eqb x l (omega arith), ne_eqb x (l + 1) (omega arith))))
beside_at (negsuc zero) n x p = simp (ne_eqb x n (omega arith))
beside_at (negsuc (suc l)) n x p = simp (ne_eqb x n (omega arith))
