-- What passing the checks says. Assumes nothing.
--     channel_bound   channels that are not bad are 1, 3 or 4, so at most 4
--     sizes           what passing checks 1 to 3 says
--     passed          what passing all of them says
--     number          a value that is not oversize is no NaN
--     numbers, many, few, texels   the same as the functions behind the checks ask for it
use mathlib.Core.Path.{◌≡◌, refl, sym, ◌∙◌, ap}
use mathlib.Core.Bool.{Bool, true, false, not, ◌&&◌}
use mathlib.Core.Logic.{◌⊎◌, inl, inr}
use mathlib.Core.List.{List}
use Prim.Native.Nat.{ℕ, ◌*◌, ◌<◌, ◌≤◌}
use native.Mathlib.Nat.{mul_comm}
use native.Mathlib.Omega.{arith}
use lib.Dec.{eqb}
use lib.ListN.{length, get_or}
use lib.Ieee.{binary32, nan}
use borrow.Author.Tests.{eqb-true, not-false}
use Rattle.ground.proofs.Laws.Bools.{both_fail}
use Rattle.ground.proofs.Laws.Refuse.{all_pass, zero_parts}
use Rattle.inputs.specs.Checks as Pass
use Rattle.inputs.proofs.Laws.Checks as pass
use Rattle.signs.specs.Checks.{Input, bad_channels, bad_zero, some_above, bad_filled, bad_matches, size_checks, content_checks, size_refusal, refusal_number}
use Rattle.signs.specs.Inner.{Numbers}

-- one channel, or three or four
abbrev pub Channels : ℕ → Type 0
Channels ch = (ch ≡ 1) ⊎ ((3 ≤ ch) × (ch ≤ 4))

either : (ch : ℕ) (b : Bool) → eqb ch 1 ≡ b → (not b && Pass.bad_channels ch) ≡ false → Channels ch
either ch true p h = inl (eqb-true ch 1 p)
either ch false p h = inr (pass.channel_bound ch h)

pub channels : (ch : ℕ) → bad_channels ch ≡ false → Channels ch
unfolding bad_channels
channels ch p = either ch (eqb ch 1) refl p

at_most : (ch : ℕ) → Channels ch → ch ≤ 4
at_most ch (inl e) = omega arith
at_most ch (inr b) = b.1

pub channel_bound : (ch : ℕ) → bad_channels ch ≡ false → ch ≤ 4
channel_bound ch p = at_most ch (channels ch p)

-- n samples, of a bitmap that checks 1 to 3 let through
pub record Sizes (w h ch n : ℕ) : Type 0 where
  pub wide : (1 ≤ w) × (w ≤ 4096)
  pub high : (1 ≤ h) × (h ≤ 4096)
  pub channels : Channels ch
  pub few : ch ≤ 4
  pub samples : n ≡ w * h * ch

pub sizes : (w h ch n : ℕ) → size_refusal w h ch n ≡ 0 → Sizes w h ch n
unfolding size_refusal
sizes w h ch n p =
    let q = all_pass (size_checks w h ch n) refl p in
    let b = pass.size_bound w h q.1.0 in
    record { wide = b.0; high = b.1; channels = channels ch q.0; few = channel_bound ch q.0; samples = pass.sample_count w h ch n q.1.1.0 }

-- all checks
pub record Passed (i : Input) : Type 0 where
  pub sizes : Sizes i.width i.height i.channels (length i.samples)
  pub samples : (j : ℕ) → j < length i.samples → Pass.oversize binary32 (get_or i.samples j nan) ≡ false
  pub zero : Pass.oversize binary32 i.zero ≡ false
  pub filled : length i.filled ≡ i.width * i.height
  pub matches : length i.matches ≡ i.width * i.height

filled_long : (n : ℕ) (filled : List ℕ) → bad_filled n filled ≡ false → length filled ≡ n
unfolding bad_filled
filled_long n filled p = eqb-true (length filled) n (not-false _ (both_fail (not (eqb (length filled) n)) (some_above filled) p).0)

matches_long : (n m : ℕ) → bad_matches n m ≡ false → m ≡ n
unfolding bad_matches
matches_long n m p = eqb-true m n (not-false _ p)

pub passed : (i : Input) → refusal_number i ≡ 0 → Passed i
unfolding refusal_number size_refusal bad_zero
passed i p =
    let a = zero_parts (size_checks i.width i.height i.channels (length i.samples)) (content_checks i) refl p in
    let f = all_pass (content_checks i) refl a.1 in
    record {
      sizes = sizes i.width i.height i.channels (length i.samples) a.0;
      samples = pass.good_samples i.samples f.0;
      zero = f.1.0;
      filled = filled_long (i.width * i.height) i.filled f.1.1.0;
      matches = matches_long (i.width * i.height) (length i.matches) f.1.1.1.0;
    }

pub numbers : (i : Input) → Passed i → Numbers i.samples
numbers i p = record { number = λ j l. pass.good_number binary32 (get_or i.samples j nan) (p.samples j l) }

-- the samples are so many for each texel, and not too many, and the texels are rows of the width
pub many : (i : Input) → Passed i → length i.samples ≡ length i.filled * i.channels
many i p = p.sizes.samples ∙ ap (λ (n : ℕ). n * i.channels) (sym p.filled)

pub few : (i : Input) → Passed i → length i.samples ≤ 67108864
few i p = let s = p.sizes in rw s.samples (pass.volume_fits i.width i.height i.channels s.wide.1 s.high.1 s.few)

pub texels : (i : Input) → Passed i → length i.filled ≡ i.height * i.width
texels i p = p.filled ∙ mul_comm i.width i.height

-- with more than one channel there are three or four
pub some : (i : Input) → Passed i → (i.channels ≡ 1 → ⊥) → 3 ≤ i.channels
some i p n = by_kind p.sizes.channels
  where
    by_kind : Channels i.channels → 3 ≤ i.channels
    by_kind (inl e) = absurd (n e)
    by_kind (inr b) = b.0
