-- The square root of a float, rounded to the nearest value of binary64: IEEE 754's squareRoot, over whole numbers. Definitions only.
-- `Laws/SquareRoot.antt` below `proofs/` shows that of a positive value `sqrt_of` is the only one that `NearestRoot` admits, and that of a positive normal value's pattern
-- `normal_root` is the same.
use Rattle.std.specs.Prelude.{ℕ, zero, suc, ◌+◌, ◌-◌, ◌*◌, ◌/◌, ◌%◌, ◌^◌, ◌<◌, ◌≤◌, true, false, cond, T, ℤ, nat_le, to_bits, Float}
use Prim.Native.Nat.{compare}
use Rattle.std.specs.Float.{nan, inf, fin, Format, binary64}
use Rattle.std.specs.Float.Ieee.{prec, low, up, down, size, nearest, units, fits, hid, ones, top}

-- r + 1 where its square is at most n, and r where it is not
abbrev pub another : ℕ → ℕ → ℕ
another r n = cond (nat_le (suc r * suc r) n) (suc r) r

-- The largest r with r * r ≤ n, for an n below 4 ^ d: twice that of n / 4, or one more.
unfoldable pub root_by : ℕ → ℕ → ℕ
root_by zero n = 0
root_by (suc d) n = another (2 * root_by d (n / 4)) n

-- the largest r with r * r ≤ n
unfoldable pub root : ℕ → ℕ
unfolding root_by
root n = root_by (size n) n

-- The value of the format f that is nearest to the square root of num / den, for a den above 0: `round` (of lib.Ieee) with roots.
-- In units of f's smallest value the root's square is n / den. Of the root's whole part the format keeps the `prec` leading digits and drops k.
-- In units of 2 ^ k smallest values the root's square is n / u and its whole part q, and the half between q and q + 1 is (2 * q + 1) / 2.
unfoldable pub root_of : Format → ℕ → ℕ → Float
root_of f num den =
    let n = num * 4 ^ low f in
    let k = size (root (n / den)) - prec f in
    let u = den * 4 ^ k in
    let q = root (n / u) in
    units f false (nearest q (compare (n * 4) ((2 * q + 1) * (2 * q + 1) * u))) k

-- IEEE 754's squareRoot: a zero keeps its sign, ∞ stays, and a NaN and what is below zero give `nan`
unfoldable pub sqrt_of : Float → Float
sqrt_of nan = nan
sqrt_of (inf true) = nan
sqrt_of (inf false) = inf false
sqrt_of (fin s zero e) = fin s zero e
sqrt_of (fin true (suc m) e) = nan
sqrt_of (fin false (suc m) e) = root_of binary64 (suc m * up e) (down e)

-- a positive normal value, by its pattern: no sign, and an exponent's field that is neither 0, as a zero's and a subnormal's, nor all ones, as an infinity's
abbrev pub PositiveNormal : Float → Type 0
PositiveNormal x = (hid binary64 ≤ to_bits binary64 x) × (to_bits binary64 x < ones binary64 * hid binary64)

-- the normal number that a pattern's fields stand for, whatever the pattern, in units of 2 ^ -1075: no sign is looked at, and a field of 0 or of all ones is an exponent like any other
abbrev pub normal_size : ℕ → ℕ
normal_size b = (hid binary64 + b % hid binary64) * 2 ^ (b % top binary64 / hid binary64)

-- its square root
unfoldable pub normal_root : ℕ → Float
normal_root b = root_of binary64 (normal_size b) (2 ^ suc (low binary64))

-- The square of the midpoint between a / c and b / d is above num / den, and below it.
abbrev pub MidpointAbove : ℕ → ℕ → ℕ → ℕ → ℕ → ℕ → Type 0
MidpointAbove a c b d num den = 4 * num * ((c * d) * (c * d)) < (a * d + b * c) * (a * d + b * c) * den

abbrev pub MidpointBelow : ℕ → ℕ → ℕ → ℕ → ℕ → ℕ → Type 0
MidpointBelow a c b d num den = (a * d + b * c) * (a * d + b * c) * den < 4 * num * ((c * d) * (c * d))

-- The square root of num / den is nearer to r than to any other value of the format that is not negative: between r and a larger one the midpoint lies
-- above the root, and between r and a smaller one below it. So it is with r's two neighbours, and the root is never a midpoint.
pub record NearestRoot (f : Format) (num den : ℕ) (m : ℕ) (e : ℤ) : Type 0 where
  pub held : T (fits f (fin false m e))
  pub above : (n : ℕ) (d : ℤ) → T (fits f (fin false n d)) → m * up e * down d < n * up d * down e → MidpointAbove (m * up e) (down e) (n * up d) (down d) num den
  pub below : (n : ℕ) (d : ℤ) → T (fits f (fin false n d)) → n * up d * down e < m * up e * down d → MidpointBelow (m * up e) (down e) (n * up d) (down d) num den
