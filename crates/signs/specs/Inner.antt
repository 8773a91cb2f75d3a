-- What the inner functions promise each other. No public function's promise rests on this page. Definitions only.
use Rattle.std.specs.Prelude.{◌≡◌, ℕ, ◌+◌, ◌*◌, ◌/◌, ◌%◌, ◌<◌, ◌≤◌, Bool, not, ◌&&◌, ◌||◌, List, get_or, length, set, T, ltb, ℤ, pos, nat_abs, Float}
use Rattle.std.specs.Float.{nan}
use Rattle.std.specs.Float.Ieee.{is_nan}
use Rattle.signs.specs.Flip.{flip_of}
use Rattle.signs.specs.Signs.{turns}

-- two of three tests hold
unfoldable pub two_of : Bool → Bool → Bool → Bool
two_of a b c = (a && b) || ((a || b) && c)

-- the three samples from a place on are flipped
unfoldable pub flipped_at : Float → List Float → ℕ → List Float
flipped_at zero xs at =
    set (set (set xs at (flip_of zero (get_or xs at nan))) (at + 1) (flip_of zero (get_or xs (at + 1) nan))) (at + 2) (flip_of zero (get_or xs (at + 2) nan))

-- sample j is one of the first three channels of a texel that turns
unfoldable pub turns_at : ℕ → ℕ → ℕ → List ℤ → ℕ → Bool
turns_at w h ch ms j = ltb (j % ch) 3 && turns w h ms (j / ch % w) (j / ch / w)

-- a number from -n to n
pub record UpTo (n : ℕ) (z : ℤ) : Type 0 where
  pub size : nat_abs z ≤ n

-- sizes that the checks let through, and a match map for them
pub record Mapped (w h : ℕ) (ms : List ℤ) : Type 0 where
  pub any : 1 ≤ w
  pub wide : w ≤ 4096
  pub high : h ≤ 4096
  pub long : length ms ≡ h * w
  pub held : (k : ℕ) → UpTo 1 (get_or ms k (pos 0))

-- no sample is a NaN
pub record Numbers (xs : List Float) : Type 0 where
  pub number : (j : ℕ) → j < length xs → T (not (is_nan (get_or xs j nan)))
