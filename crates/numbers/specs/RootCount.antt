-- How many roots a * x * x + b * x + c has, of whole numbers a, b and c: nothing here is a float and nothing is rounded. Definitions only.
-- `Laws/RootCount.antt` below `proofs/` shows that of any three finite values of f32, counted as page `Whole` counts them, the solver gives that many.
use Rattle.std.specs.Prelude.{ℕ, zero, suc, ◌*◌, ◌^◌, Bool, cond, ◌||◌, ℤ, pos, negsuc, ◌-ℤ◌, ◌*ℤ◌, ◌==◌, nat_lt, unsigned_abs}

-- a = 0 or |b| > 10^12·|a|
unfoldable pub true_linear : ℤ → ℤ → Bool
true_linear a b = unsigned_abs a == 0 || nat_lt (10 ^ 12 * unsigned_abs a) (unsigned_abs b)

-- b·b − 4·a·c
unfoldable pub true_discriminant : ℤ → ℤ → ℤ → ℤ
true_discriminant a b c = b *ℤ b -ℤ pos 4 *ℤ a *ℤ c

-- two, one or no roots as D is positive, zero or negative
unfoldable pub square_count : ℤ → ℕ
square_count (pos zero) = 1
square_count (pos (suc n)) = 2
square_count (negsuc n) = 0

-- one root of b * x + c, or none if b = 0
unfoldable pub linear_count : ℤ → ℕ
linear_count b = cond (unsigned_abs b == 0) 0 1

-- how many roots the rule gives
unfoldable pub true_count : ℤ → ℤ → ℤ → ℕ
true_count a b c = cond (true_linear a b) (linear_count b) (square_count (true_discriminant a b c))
