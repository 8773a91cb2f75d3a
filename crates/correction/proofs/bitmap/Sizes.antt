-- What checks 1 to 4 say of a texel: it has its cell and its samples, and every product fits. Assumes nothing.
use mathlib.Core.Path.{◌≡◌}
use Prim.Native.Nat.{ℕ, ◌+◌, ◌*◌, ◌<◌, ◌≤◌}
use native.Mathlib.Nat.{mul_comm, mul-le-mul_right, le-mul_of_pos_right}
use native.Mathlib.Omega.{arith}
use Rattle.inputs.proofs.Laws.Checks.{Sizes, volume_fits}
use Rattle.inputs.proofs.Laws.Places.{cell_lt, next_row}

-- where texel x, y lies
pub record Lies (w ch x y n m : ℕ) : Type 0 where
  pub cell : y * w + x < m
  pub last : (y * w + x) * ch + ch ≤ n
  pub few : n ≤ 67108864
  pub under : y * w + x ≤ (y * w + x) * ch

pub lies : (w h ch x y n m : ℕ) → Sizes w h ch n m → x < w → y < h → Lies w ch x y n m
lies w h ch x y n m s p q =
    let k : y * w + x < h * w = cell_lt w h x y p q in
    let c : h * w ≡ w * h = mul_comm h w in
    let l : (y * w + x + 1) * ch ≤ w * h * ch = mul-le-mul_right ch (omega arith) in
    record {
      cell = omega (arith, s.cells);
      last = omega (arith, s.samples, next_row ch (y * w + x));
      few = omega (arith, s.samples, volume_fits w h ch s.wide.1 s.high.1 s.channels.1);
      under = le-mul_of_pos_right (y * w + x) (omega (arith, s.channels.0));
    }
