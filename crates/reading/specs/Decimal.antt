-- Numbers in decimal, and the number that digits say. The digits 0 to 9 are the bytes 48 to 57. Definitions only.
use Rattle.std.specs.Prelude.{ℕ, zero, suc, ◌+◌, ◌-◌, ◌*◌, ◌/◌, ◌%◌, ◌<◌, ◌≤◌, cond, List, [], ◌∷◌, ◌++◌, ◌≡◌, ltb, length, get_or}

-- the last k digits of n, or all where it has fewer: those of n / 10, unless n has one digit, and then n's last
unfoldable pub decimal_by : ℕ → ℕ → List ℕ
decimal_by zero n = []
decimal_by (suc k) n = cond (ltb n 10) [] (decimal_by k (n / 10)) ++ ((48 + n % 10) ∷ [])

-- n in decimal: all its digits, since it has at most n + 1
unfoldable pub decimal : ℕ → List ℕ
decimal n = decimal_by (suc n) n

-- the number that digits say after others that say v, and by themselves
unfoldable pub value_from : ℕ → List ℕ → ℕ
value_from v [] = v
value_from v (d ∷ t) = value_from (10 * v + (d - 48)) t

unfoldable pub value_of : List ℕ → ℕ
value_of t = value_from 0 t

-- a text of a number: one digit or more, and nothing but digits; one that begins with 0 is 0
pub record Decimal (t : List ℕ) : Type 0 where
  pub some : 1 ≤ length t
  pub digits : (k : ℕ) → k < length t → (48 ≤ get_or t k 0) × (get_or t k 0 ≤ 57)
  pub first : get_or t 0 0 ≡ 48 → t ≡ 48 ∷ []
