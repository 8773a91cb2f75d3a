-- What passing each of checks 1 to 4 says, and all of them. Assumes nothing.
--     channel_bound, side_bound, size_bound, sample_count, cell_count_law   each by itself
--     sizes          the sides and the channels are within their bounds, and both lengths are as they should be
--     sizes_pass     and the other way round
--     sized, cells   the same as the functions behind the checks ask for it
use mathlib.Core.Path.{◌≡◌, refl, sym, ◌∙◌, ap}
use mathlib.Core.Bool.{Bool, true, false, ◌||◌, true≢false}
use Prim.Native.Nat.{ℕ, ◌*◌, ◌≤◌}
use native.Mathlib.Nat.{mul_comm, mul-le-mul}
use native.Mathlib.Omega.{arith}
use mathlib.Core.List.{List}
use lib.Dec.{eqb, leb}
use lib.ListN.{length}
use lib.Ieee.{Float}
use borrow.Author.Tests.{eqb-true, leb-true, not-false, le-leb, eq-eqb}
use Rattle.inputs.specs.Checks.{bad_channels, bad_side, bad_size, bad_sample_count, bad_cell_count, size_checks, size_refusal}
use Rattle.inputs.specs.Inner.{Sized}
use Rattle.ground.proofs.Laws.Bools.{both_hold, both_fail}
use Rattle.ground.proofs.Laws.Refuse.{all_pass, none_fails}

pub side_bound : (n : ℕ) → bad_side n ≡ false → (1 ≤ n) × (n ≤ 4096)
unfolding bad_side
side_bound n p =
    let q = both_hold (leb 1 n) (leb n 4096) (not-false _ p) in
    (leb-true 1 n q.0, leb-true n 4096 q.1)

either : (ch : ℕ) (a b : Bool) → eqb ch 3 ≡ a → eqb ch 4 ≡ b → (a || b) ≡ true → (3 ≤ ch) × (ch ≤ 4)
either ch true b p q r = let e : ch ≡ 3 = eqb-true ch 3 p in omega arith
either ch false true p q r = let e : ch ≡ 4 = eqb-true ch 4 q in omega arith
either ch false false p q r = absurd (true≢false (sym r))

pub channel_bound : (ch : ℕ) → bad_channels ch ≡ false → (3 ≤ ch) × (ch ≤ 4)
unfolding bad_channels
channel_bound ch p = either ch (eqb ch 3) (eqb ch 4) refl refl (not-false _ p)

pub size_bound : (w h : ℕ) → bad_size w h ≡ false → ((1 ≤ w) × (w ≤ 4096)) × ((1 ≤ h) × (h ≤ 4096))
unfolding bad_size
size_bound w h p = let q = both_fail (bad_side w) (bad_side h) p in (side_bound w q.0, side_bound h q.1)

pub sample_count : (w h ch n : ℕ) → bad_sample_count w h ch n ≡ false → n ≡ w * h * ch
unfolding bad_sample_count
sample_count w h ch n p = eqb-true n (w * h * ch) (not-false _ p)

pub cell_count_law : (w h m : ℕ) → bad_cell_count w h m ≡ false → m ≡ w * h
unfolding bad_cell_count
cell_count_law w h m p = eqb-true m (w * h) (not-false _ p)

pub area_fits : (w h : ℕ) → w ≤ 4096 → h ≤ 4096 → w * h ≤ 16777216
area_fits w h p q = mul-le-mul p q

pub volume_fits : (w h ch : ℕ) → w ≤ 4096 → h ≤ 4096 → ch ≤ 4 → w * h * ch ≤ 67108864
volume_fits w h ch p q r = mul-le-mul (area_fits w h p q) r

-- n samples and m cells, of a bitmap that checks 1 to 4 let through
pub record Sizes (w h ch n m : ℕ) : Type 0 where
  pub wide : (1 ≤ w) × (w ≤ 4096)
  pub high : (1 ≤ h) × (h ≤ 4096)
  pub channels : (3 ≤ ch) × (ch ≤ 4)
  pub samples : n ≡ w * h * ch
  pub cells : m ≡ w * h

pub sizes : (w h ch n m : ℕ) → size_refusal w h ch n m ≡ 0 → Sizes w h ch n m
unfolding size_refusal
sizes w h ch n m p =
    let f = all_pass (size_checks w h ch n m) refl p in
    let b = size_bound w h f.1.0 in
    record { wide = b.0; high = b.1; channels = channel_bound ch f.0; samples = sample_count w h ch n f.1.1.0; cells = cell_count_law w h m f.1.1.1.0 }

pub sized : (w h ch : ℕ) (xs : List Float) (m : ℕ) → Sizes w h ch (length xs) m → Sized w h ch xs
sized w h ch xs m s =
    record {
      any = s.wide.0;
      wide = s.wide.1;
      high = s.high.1;
      some = s.channels.0;
      few = s.channels.1;
      long = s.samples ∙ ap (λ (k : ℕ). k * ch) (mul_comm w h);
    }

pub cells : (w h ch n m : ℕ) → Sizes w h ch n m → m ≡ h * w
cells w h ch n m s = s.cells ∙ mul_comm w h

-- the other way round: sizes that are within their bounds pass
pub sizes_pass : (w h ch n m : ℕ) → bad_channels ch ≡ false → (1 ≤ w) × (w ≤ 4096) → (1 ≤ h) × (h ≤ 4096) → n ≡ w * h * ch → m ≡ w * h → size_refusal w h ch n m ≡ 0
unfolding size_refusal bad_size bad_side bad_sample_count bad_cell_count
sizes_pass w h ch n m c a b p q =
    none_fails (size_checks w h ch n m)
    (c, (rw (le-leb 1 w a.0, le-leb w 4096 a.1, le-leb 1 h b.0, le-leb h 4096 b.1), (rw (eq-eqb n (w * h * ch) p), (rw (eq-eqb m (w * h) q), tt))))
