-- A loop that collapses the flagged texels: before cell k the samples below its texel are as `collapsed` has them, the others as they were. Assumes nothing.
--     third_below    the last of the texel's first three samples is one of all
--     turned_more    a turn, whose answer r says whether the texel is flagged
--     turned_all     at the end all are
use Rattle.std.proofs.Common.{◌≡◌, ℕ, ◌+◌, ◌*◌, ◌<◌, ◌≤◌, Bool, true, false, cond, List, length, get_or, sym, refl, subst, mul-le-mul_right, arith}
use lib.Ieee.{Float, nan}
use Rattle.ground.proofs.Laws.Fill.{Filled, filled_at_law, filled_all}
use Rattle.inputs.specs.Stencil.{is_error}
use Rattle.inputs.proofs.Laws.Places.{place_lt, next_row}
use Rattle.correction.specs.Collapse.{collapsed_sample, collapsed}
use Rattle.correction.specs.Numbered.{collapsed_at}
use Rattle.correction.proofs.Laws.Collapse.{kept, flat}
use Rattle.plain.specs.Inner.{Collapsible}

-- the cells with the error bit
abbrev pub flags : List ℕ → ℕ → Bool
flags st k = is_error (get_or st k 0)

-- the loop has come to cell k, and left xs
abbrev pub Turned : (ℕ → Bool) → List Float → ℕ → List Float → ℕ → Type 0
Turned flag xs₀ ch xs k = Filled nan (collapsed_sample xs₀ ch flag) xs₀ (k * ch) xs

module _ (flag : ℕ → Bool) (xs₀ : List Float) {ch m : ℕ} (s : Collapsible ch (length xs₀) m) {xs : List Float} {k : ℕ} (i : Turned flag xs₀ ch xs k) where
  pub third_below : k < m → k * ch + 2 < length xs
  third_below l = omega (arith, i.len, s.long, place_lt ch k m s.some l)

  pub turned_more : {r : Bool} {ys : List Float} → k < m → r ≡ flag k → ys ≡ cond r (collapsed_at xs (k * ch)) xs → Turned flag xs₀ ch ys (k + 1)
  turned_more {r} {ys} l e q = filled_at_law nan f xs₀ ((k + 1) * ch) (subst (Filled nan f xs₀ (k * ch + ch)) (sym q) (go r (sym e))) (sym (next_row ch k))
    where
      f : ℕ → Float
      f = collapsed_sample xs₀ ch flag

      go : (b : Bool) → flag k ≡ b → Filled nan f xs₀ (k * ch + ch) (cond b (collapsed_at xs (k * ch)) xs)
      go true p = flat flag xs₀ ch xs k (k * ch) refl i p s.some (third_below l)
      go false p = kept flag xs₀ ch xs k (k * ch) refl i p

  pub turned_all : m ≤ k → xs ≡ collapsed xs₀ ch flag
  unfolding collapsed
  turned_all l = filled_all nan (collapsed_sample xs₀ ch flag) xs₀ i (omega (arith, s.long, mul-le-mul_right ch l))
