-- A value as a byte and a byte as a value, both judged on exact fractions of whole numbers. Definitions only.
-- `Laws/Byte.antt` below `proofs/` shows that `byte_of` gives what `IsByte` asks for, and that nothing else is it.
use Rattle.std.specs.Prelude.{◌≡◌, ◌≢◌, false, cond, Float}
use Prim.Native.Nat.{ℕ, ◌*◌, ◌/◌, ◌%◌, ◌≤◌, min, compare}
use Rattle.std.specs.Float.{nan, inf, fin, binary32}
use Rattle.std.specs.Float.Ieee.{up, down, nearest, round}
use Rattle.numbers.specs.Nearest.{apart}

-- ---- a value v, held to 0..1, is the fraction held v / parts v

-- how many parts make 1: m * 2 ^ e is m * up e / down e
unfoldable pub parts : Float → ℕ
parts nan = 1
parts (inf s) = 1
parts (fin s m e) = down e

-- how many of them v has: none where it is below 0, and all where it is above 1
unfoldable pub held : Float → ℕ
held nan = 0
held (inf s) = cond s 0 1
held (fin s m e) = cond s 0 (min (m * up e) (down e))

-- ---- out

-- how far k is from 255·v, counted in parts of 1 / parts v
unfoldable pub away : Float → ℕ → ℕ
away v k = apart (255 * held v) (k * parts v)

-- k is the byte of v: no byte is nearer to 255·v, and where another one is as near, k is even.
pub record IsByte (v : Float) (k : ℕ) : Type 0 where
  pub byte : k ≤ 255
  pub least : (l : ℕ) → l ≤ 255 → away v k ≤ away v l
  pub tie : (l : ℕ) → l ≤ 255 → l ≢ k → away v l ≡ away v k → k % 2 ≡ 0

-- 255·v as a quotient and a remainder: the quotient, or the next number up, by how twice the remainder compares with the parts, and at a tie the even one
unfoldable pub byte_of : Float → ℕ
byte_of v =
    let n = 255 * held v in
    let d = parts v in
    nearest (n / d) (compare (n % d * 2) d)

-- ---- in

-- the f32 nearest to k / 255
unfoldable pub sample_of : ℕ → Float
sample_of k = round binary32 false k 255
