-- The value of a format that is nearest to a fraction: IEEE 754's roundTiesToEven, over whole numbers. Definitions only.
-- `Laws/Nearest.antt` below `proofs/` shows that `round` of lib.Ieee gives a value that `Nearest` admits, and that it admits no other.
use Rattle.std.specs.Prelude.{◌≡◌, ℕ, suc, ◌+◌, ◌-◌, ◌*◌, ◌/◌, ◌%◌, ◌^◌, ◌<◌, ◌≤◌, Bool, cond, ◌&&◌, T, ◌≢◌, ℤ, nat_lt, to_bits, Float}
use Rattle.std.specs.Bool.{beq}
use Rattle.std.specs.Float.{nan, inf, fin, Format}
use Rattle.std.specs.Float.Ieee.{prec, emax, up, down, fits}

-- how far two whole numbers are apart
abbrev pub apart : ℕ → ℕ → ℕ
apart a b = (a - b) + (b - a)

-- how far num / den is from m * 2 ^ e, which is the fraction m * up e / down e: counted in parts of 1 / (den * down e)
abbrev pub distance : ℕ → ℕ → ℕ → ℤ → ℕ
distance num den m e = apart (num * down e) (m * up e * den)

-- the format's largest finite value: all its digits are 1, and they stand as high as they may
abbrev pub largest : Format → ℕ
largest f = (2 ^ prec f - 1) * 2 ^ (suc (emax f) - prec f)

-- the middle between it and 2 ^ (emax + 1), which would be the next value if the format went on
abbrev pub middle : Format → ℕ
middle f = (largest f + 2 ^ suc (emax f)) / 2

-- the last digit, the lowest bit of the pattern, is 0
abbrev pub Even : Format → Float → Type 0
Even f x = to_bits f x % 2 ≡ 0

-- ±m * 2 ^ e is a value of the format, no value of that sign is nearer to ±num / den, and where another one is as near, it is the one that is even.
-- That no value of the other sign is nearer either is `other_sign` in `Laws/Nearest.antt`.
pub record Closest (f : Format) (s : Bool) (num den m : ℕ) (e : ℤ) : Type 0 where
  pub held : T (fits f (fin s m e))
  pub no_nearer : (n : ℕ) (d : ℤ) → T (fits f (fin s n d)) → distance num den m e * down d ≤ distance num den n d * down e
  pub tie : (n : ℕ) (d : ℤ) → T (fits f (fin s n d)) → fin s n d ≢ fin s m e → distance num den m e * down d ≡ distance num den n d * down e → Even f (fin s m e)

-- The value is ±num / den, negative where s is true, rounded to the format: infinite exactly from the middle on, and otherwise the closest.
abbrev pub Nearest : Format → Bool → ℕ → ℕ → Float → Type 0
Nearest f s num den nan = ⊥
Nearest f s num den (inf t) = (t ≡ s) × (middle f * den ≤ num)
Nearest f s num den (fin t m e) = (t ≡ s) × (num < middle f * den) × Closest f t num den m e

-- the size of the exact sum of ±a and ±b, negative where s or t is true
abbrev pub sum_size : Bool → ℕ → Bool → ℕ → ℕ
sum_size s a t b = cond (beq s t) (a + b) (apart a b)

-- its sign, that of the larger of the two; of two that are as large it is negative only where both are, so x - x is +0
abbrev pub sum_sign : Bool → ℕ → Bool → ℕ → Bool
sum_sign s a t b = cond (nat_lt a b) t (cond (nat_lt b a) s (s && t))
