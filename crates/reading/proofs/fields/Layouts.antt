-- The whole input: which check finds the breach, and what is there where none does. Assumes nothing.
use mathlib.Core.List.{List}
use mathlib.Core.Path.{◌≡◌, sym, ◌∙◌}
use Prim.Native.Nat.{ℕ, ◌*◌, ◌≤◌, ◌<◌}
use native.Mathlib.Nat.{mul_assoc, mul_left_comm}
use native.Mathlib.Omega.{arith}
use lib.Dec.{ltb}
use lib.ListN.{length}
use borrow.Author.Tests.{lt-ltb, le-ltb, ltb-false}
use Rattle.reading.specs.Grammar.{or_else, size_breach, settings_breach, outline_breach, rows_breach, end_breach, field_breach, breach, width, height, channels, row_size, rows_at, end_at}
use Rattle.reading.proofs.fields.Breaches.{found, passed, both_fine, test_fine, field_fine}

-- the sample count with the height in front
pub samples_by_rows : (w h ch : ℕ) → h * (w * ch) ≡ w * h * ch
samples_by_rows w h ch = mul_left_comm h w ch ∙ sym (mul_assoc w h ch)

-- the size without a breach
pub size_fine : (s : List ℕ) → length s ≤ 65536 → size_breach s ≡ 65537 → (8 ≤ length s) × (width s * height s * channels s ≤ 12288)
unfolding size_breach
size_fine s short e =
    let p = both_fine (field_breach s 0 1 5) _ e in
    (field_fine s short 0 1 5 (omega arith) p.0, ltb-false 12288 _ (test_fine (ltb 12288 (width s * height s * channels s)) 0 65537 (λ z. omega arith) p.1).0)

-- too long
pub breach_long : (s : List ℕ) → 65536 < length s → breach s ≡ 65536
unfolding breach
breach_long s l = simp (lt-ltb 65536 (length s) l)

module _ (s : List ℕ) (short : length s ≤ 65536) where
  -- the size field has the breach
  pub breach_size : (size_breach s ≡ 65537 → ⊥) → breach s ≡ size_breach s
  unfolding breach
  breach_size n = simp (le-ltb 65536 (length s) short) (found (size_breach s) _ n)

  module _ (sized : size_breach s ≡ 65537) where
    -- the settings field has it
    pub breach_settings : (field_breach s 8 2 33 ≡ 65537 → ⊥) → breach s ≡ field_breach s 8 2 33
    unfolding breach settings_breach
    breach_settings n = simp (le-ltb 65536 (length s) short) (passed (size_breach s) _ sized ∙ found (field_breach s 8 2 33) _ n)

    module _ (set : field_breach s 8 2 33 ≡ 65537) where
      -- what follows the settings
      breach_tail : breach s ≡ or_else (outline_breach s) (or_else (rows_breach (height s) s (rows_at s) (row_size s)) (end_breach s (end_at s)))
      unfolding breach settings_breach
      breach_tail = simp (le-ltb 65536 (length s) short) (passed (size_breach s) _ sized ∙ passed (field_breach s 8 2 33) _ set)

      -- a contour has it
      pub breach_outline : (outline_breach s ≡ 65537 → ⊥) → breach s ≡ outline_breach s
      breach_outline n = breach_tail ∙ found (outline_breach s) _ n

      -- a row has it
      pub breach_rows : outline_breach s ≡ 65537 → (rows_breach (height s) s (rows_at s) (row_size s) ≡ 65537 → ⊥) → breach s ≡ rows_breach (height s) s (rows_at s) (row_size s)
      breach_rows u n = breach_tail ∙ passed (outline_breach s) _ u ∙ found (rows_breach (height s) s (rows_at s) (row_size s)) _ n

      -- the end decides
      pub breach_end : outline_breach s ≡ 65537 → rows_breach (height s) s (rows_at s) (row_size s) ≡ 65537 → breach s ≡ end_breach s (end_at s)
      breach_end u e = breach_tail ∙ passed (outline_breach s) _ u ∙ passed (rows_breach (height s) s (rows_at s) (row_size s)) _ e

-- an input without a breach is short, and has few samples
pub breach_small : (s : List ℕ) → breach s ≡ 65537 → width s * height s * channels s ≤ 12288
unfolding breach
breach_small s e =
    let p = test_fine (ltb 65536 (length s)) 65536 _ (λ z. omega arith) e in
    let q = both_fine (size_breach s) _ p.1 in
    (size_fine s (ltb-false 65536 (length s) p.0) q.0).1
