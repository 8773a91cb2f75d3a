-- Collapsing the flagged texels of a window in their order: the samples of the first n texels are as `collapsed` has them, the others as they were. Assumes nothing.
--     flag_at           what the byte of texel x, y says, of the flags of its row
--     turning_none      before the first row
--     turning_sampled   the samples are as many as they were
--     turning_next      after texel x, y, by what its byte says
--     turning_row       after a row whose flagged texels have been collapsed
--     turning_all       after the last texel the window's samples are collapsed
--     row_none          where only texels of row y are flagged: before the first of them
--     row_all           after the last of them
use mathlib.Core.Path.{◌≡◌, refl, sym, ◌∙◌, ap, subst}
use mathlib.Core.Bool.{Bool, true, false, cond, ◌&&◌}
use mathlib.Core.List.{List, [], ◌∷◌}
use mathlib.Core.Logic.{dite}
use Prim.Native.Nat.{ℕ, ◌+◌, ◌-◌, ◌*◌, ◌/◌, ◌%◌, ◌<◌, ◌≤◌}
use native.Mathlib.Nat.{zero-mul, add-zero, mul-le-mul_right, div-mul-le_self, le-div_iff_mul-le, div-lt_iff_lt-mul}
use native.Mathlib.Decide.{dec_lt}
use native.Mathlib.Omega.{arith}
use lib.Arith.{digits_div}
use lib.Dec.{eqb}
use lib.ListN.{length, get_or, set, get_or-eq_default}
use lib.Ieee.{Float, nan}
use borrow.Author.Tests.{eq-eqb, ne_eqb}
use Rattle.ground.proofs.Laws.Fill.{Filled, filled_none, filled_at_law, filled_run, filled_all, tab_at}
use Rattle.ground.proofs.Laws.Picked.{picked_length, picked_at, pasted_none, pasted_then, pasted_more, pasted_as}
use Rattle.detectors.specs.Texel.{texel_median}
use Rattle.inputs.specs.declared.sizes.Window.{Window}
use Rattle.inputs.specs.Window.{cell_in, sample_shown, cut_cells, cut_samples, SamplesPasted}
use Rattle.inputs.specs.Inner.{Sampled}
use Rattle.inputs.specs.Stencil.{is_error}
use Rattle.inputs.proofs.Laws.Places.{cell_lt, place_lt, next_row}
use Rattle.inputs.proofs.Laws.Windows.{cell_shown_law, sample_shown_law, samples_apart, still_sampled}
use Rattle.correction.specs.Bitmap.{cell}
use Rattle.correction.specs.Collapse.{collapsed_sample, collapsed}
use Rattle.correction.specs.Numbered.{collapsed_at}
use Rattle.correction.proofs.Laws.Collapse.{kept, flat}
use Rattle.correction.proofs.bitmap.Stretch.{cell_cut, in_row_law}

-- the cells with the error bit
abbrev pub flags : List ℕ → ℕ → Bool
flags st k = is_error (get_or st k 0)

-- those of row y
abbrev pub in_row : ℕ → ℕ → (ℕ → Bool) → ℕ → Bool
in_row w y flag k = eqb (k / w) y && flag k

-- the first n texels have been collapsed, which left xs
pub record Turning (flag : ℕ → Bool) (g : Window) (xs₀ : List Float) (n : ℕ) (xs : List Float) : Type 0 where
  pub filled : Filled nan (collapsed_sample (cut_samples g xs₀) g.channels flag) (cut_samples g xs₀) (n * g.channels) (cut_samples g xs)
  pub rest : SamplesPasted g xs₀ xs (cut_samples g xs)

-- what is left of the byte of a cell once it has no order
abbrev pub bare : ℕ → ℕ → ℕ → ℕ
bare v x y = v % 8

-- ---- a row

pub flag_at : (g : Window) (st : List ℕ) (x y : ℕ) {k : ℕ} → x < g.width → y < g.height → k ≡ cell_in g x y → is_error (get_or st k 0) ≡ in_row g.width y (flags (cut_cells g st)) (cell g.width x y)
flag_at g st x y l b e =
    let q : (y * g.width + x) / g.width ≡ y = digits_div y l in
    rw (e, q, eq-eqb y y refl, cell_cut g st x y l b)

-- a texel of another row is not flagged there, and one of row y is where it was
row_below : (flag : ℕ → Bool) (w y k : ℕ) → 1 ≤ w → k < y * w → in_row w y flag k ≡ false
row_below flag w y k o l = rw (ne_eqb (k / w) y (λ q. let r = (in_row_law w y k o q).0 in absurd (omega arith)))

row_above : (flag : ℕ → Bool) (w y k : ℕ) → 1 ≤ w → y * w + w ≤ k → in_row w y flag k ≡ false
row_above flag w y k o l = rw (ne_eqb (k / w) y (λ q. let r = (in_row_law w y k o q).1 in absurd (omega arith)))

row_own : (flag : ℕ → Bool) (w y k : ℕ) → y * w ≤ k → k < y * w + w → in_row w y flag k ≡ flag k
row_own flag w y k l m =
    let d : (y * w + (k - y * w)) / w ≡ y = digits_div y (omega arith) in
    let q : k / w ≡ y = ap (λ (z : ℕ). z / w) (omega arith) ∙ d in
    rw (eq-eqb (k / w) y q)

-- ---- a sample

-- of a texel that is not flagged
still : (flag : ℕ → Bool) (xs : List Float) (ch j : ℕ) → flag (j / ch) ≡ false → collapsed_sample xs ch flag j ≡ get_or xs j nan
unfolding collapsed_sample
still flag xs ch j e = simp e

-- collapsing rests on what stands in the texel
from_texel : (p q : ℕ → Bool) (xs ys : List Float) (ch j : ℕ) → p (j / ch) ≡ q (j / ch) → ((i : ℕ) → j / ch * ch ≤ i → get_or xs i nan ≡ get_or ys i nan) → collapsed_sample xs ch p j ≡ collapsed_sample ys ch q j
unfolding collapsed_sample
from_texel p q xs ys ch j e same =
    let k : ℕ = j / ch in
    rw (e, same (k * ch + 0) (omega arith), same (k * ch + 1) (omega arith), same (k * ch + 2) (omega arith), same j (div-mul-le_self j ch))

-- ---- a texel

-- a texel of a window collapses, and so does it in what is cut out
module _ (g : Window) {xs : List Float} (s : Sampled g xs) (x y : ℕ) (p : x < g.width) (q : y < g.height) where
  abbrev n : ℕ
  n = g.height * g.width * g.channels

  k : ℕ
  k = cell g.width x y * g.channels

  at : ℕ
  at = cell_in g x y * g.channels

  -- its first three samples
  lies : (r : ℕ) → r < 3 → sample_shown g (k + r) ≡ at + r
  unfolding k at
  lies r l = sample_shown_law g (cell g.width x y) r (omega (arith, s.some)) ∙ ap (λ (m : ℕ). m * g.channels + r) (cell_shown_law g x y p)

  low : (r : ℕ) → r < 3 → k + r < n
  unfolding k
  low r l = omega (arith, place_lt g.channels (cell g.width x y) (g.height * g.width) s.some (cell_lt g.width g.height x y p q))

  held : (r : ℕ) → r < 3 → at + r < length xs
  unfolding at
  held r l = omega (arith, s.some, s.held x y p q)

  same : (r : ℕ) → r < 3 → get_or xs (at + r) nan ≡ get_or (cut_samples g xs) (k + r) nan
  same r l = sym (picked_at nan n (sample_shown g) xs (k + r) (low r l) ∙ ap (λ (m : ℕ). get_or xs m nan) (lies r l))

  collapses : SamplesPasted g xs (collapsed_at xs (cell_in g x y * g.channels)) (collapsed_at (cut_samples g xs) (cell g.width x y * g.channels))
  unfolding k at
  collapses =
      let m : Float = texel_median (get_or xs at nan ∷ get_or xs (at + 1) nan ∷ get_or xs (at + 2) nan ∷ []) in
      let a = samples_apart g s in
      let z : SamplesPasted g xs xs (cut_samples g xs) = pasted_none nan n (sample_shown g) xs in
      let p₀ = pasted_more nan n (sample_shown g) z a k at m (rw add-zero at (low 0 (omega arith))) (rw (add-zero k, add-zero at) at (lies 0 (omega arith))) (rw add-zero at (held 0 (omega arith))) in
      let p₁ = pasted_more nan n (sample_shown g) p₀ a (k + 1) (at + 1) m (low 1 (omega arith)) (lies 1 (omega arith)) (held 1 (omega arith)) in
      let p₂ = pasted_more nan n (sample_shown g) p₁ a (k + 2) (at + 2) m (low 2 (omega arith)) (lies 2 (omega arith)) (held 2 (omega arith)) in
      let e : m ≡ texel_median (get_or (cut_samples g xs) k nan ∷ get_or (cut_samples g xs) (k + 1) nan ∷ get_or (cut_samples g xs) (k + 2) nan ∷ []) = rw (rw (add-zero k, add-zero at) at (same 0 (omega arith)), same 1 (omega arith), same 2 (omega arith)) in
      pasted_as nan n (sample_shown g) p₂ (ap (λ (v : Float). set (set (set (cut_samples g xs) k v) (k + 1) v) (k + 2) v) e)

-- ---- one after another

module _ (flag : ℕ → Bool) (g : Window) (xs₀ : List Float) where
  abbrev f : ℕ → Float
  f = collapsed_sample (cut_samples g xs₀) g.channels flag

  pub turning_none : Turning flag g xs₀ (0 * g.width) xs₀
  turning_none =
      record {
        filled = filled_at_law nan f (cut_samples g xs₀) (0 * g.width * g.channels) (filled_none nan f (cut_samples g xs₀)) (sym (ap (λ (m : ℕ). m * g.channels) (zero-mul g.width) ∙ zero-mul g.channels));
        rest = pasted_none nan (g.height * g.width * g.channels) (sample_shown g) xs₀;
      }

  module _ (s : Sampled g xs₀) where
    -- the texel of a sample
    above : (m j : ℕ) → m * g.channels ≤ j → m ≤ j / g.channels
    above m j l = let o : 0 < g.channels = omega (arith, s.some) in (le-div_iff_mul-le o).1 l

    below : (m j : ℕ) → j < m * g.channels → j / g.channels < m
    below m j l = let o : 0 < g.channels = omega (arith, s.some) in (div-lt_iff_lt-mul o).1 l

    module _ {n : ℕ} {xs : List Float} (i : Turning flag g xs₀ n xs) where
      -- no texel from n up to m is flagged
      turning_run : (m : ℕ) → n ≤ m → ((k : ℕ) → n ≤ k → k < m → flag k ≡ false) → Turning flag g xs₀ m xs
      turning_run m l none =
          record {
            filled =
                filled_run nan f (cut_samples g xs₀) (m * g.channels) i.filled (mul-le-mul_right g.channels l)
                (λ j a b. sym (still flag (cut_samples g xs₀) g.channels j (none (j / g.channels) (above n j a) (below m j b))));
            rest = i.rest;
          }

      pub turning_sampled : Sampled g xs
      turning_sampled = still_sampled g s xs i.rest.long

      pub turning_all : g.height * g.width ≤ n → SamplesPasted g xs₀ xs (collapsed (cut_samples g xs₀) g.channels flag)
      unfolding collapsed
      turning_all l =
          let c : ℕ = g.height * g.width * g.channels in
          pasted_as nan c (sample_shown g) i.rest (filled_all nan f (cut_samples g xs₀) i.filled (omega (arith, picked_length nan c (sample_shown g) xs₀, mul-le-mul_right g.channels l)))

    pub turning_next : {x y : ℕ} {b : Bool} {xs ys : List Float} → Turning flag g xs₀ (cell g.width x y) xs → x < g.width → y < g.height → b ≡ flag (cell g.width x y) → ys ≡ cond b (collapsed_at xs (cell_in g x y * g.channels)) xs → Turning flag g xs₀ (cell g.width (x + 1) y) ys
    turning_next {x} {y} {b} {xs} {ys} i l h d e =
        record {
          filled = filled_at_law nan f (cut_samples g xs₀) (cell g.width (x + 1) y * g.channels) after.0 (sym (ap (λ (m : ℕ). m * g.channels) step ∙ next_row g.channels k));
          rest = after.1;
        }
      where
        k : ℕ
        k = cell g.width x y

        step : cell g.width (x + 1) y ≡ cell g.width x y + 1
        step = omega arith

        n : ℕ
        n = g.height * g.width * g.channels

        Then : List Float → Type 0
        Then zs = Filled nan f (cut_samples g xs₀) (k * g.channels + g.channels) (cut_samples g zs) × SamplesPasted g xs₀ zs (cut_samples g zs)

        third : k * g.channels + 2 < length (cut_samples g xs)
        third = subst (λ (m : ℕ). k * g.channels + 2 < m) (sym (picked_length nan n (sample_shown g) xs)) (place_lt g.channels k (g.height * g.width) s.some (cell_lt g.width g.height x y l h))

        go : (b : Bool) → b ≡ flag k → Then (cond b (collapsed_at xs (cell_in g x y * g.channels)) xs)
        go true p =
            let c = collapses g (turning_sampled i) x y l h in (
              subst (Filled nan f (cut_samples g xs₀) (k * g.channels + g.channels)) (sym c.inside) (flat flag (cut_samples g xs₀) g.channels (cut_samples g xs) k (k * g.channels) refl i.filled (sym p) s.some third),
              pasted_as nan n (sample_shown g) (pasted_then nan n (sample_shown g) i.rest c) (sym c.inside),
            )
        go false p = (kept flag (cut_samples g xs₀) g.channels (cut_samples g xs) k (k * g.channels) refl i.filled (sym p), i.rest)

        after : Then ys
        after = subst Then (sym e) (go b d)

    pub turning_row : {y : ℕ} {xs ys : List Float} (other : ℕ → Bool) → Turning flag g xs₀ (y * g.width) xs → y < g.height → ((k : ℕ) → y * g.width ≤ k → other k ≡ flag k) → SamplesPasted g xs ys (collapsed (cut_samples g xs) g.channels (in_row g.width y other)) → Turning flag g xs₀ ((y + 1) * g.width) ys
    unfolding collapsed
    turning_row {y} {xs} {ys} other i b same p =
        let w : ℕ = g.width in
        let ch : ℕ = g.channels in
        let n : ℕ = g.height * w * ch in
        let row : (y + 1) * w ≡ y * w + w = next_row w y in
        let long : length (cut_samples g xs) ≡ n = picked_length nan n (sample_shown g) xs in
        let long' : length (cut_samples g ys) ≡ n = picked_length nan n (sample_shown g) ys in
        let long₀ : length (cut_samples g xs₀) ≡ n = picked_length nan n (sample_shown g) xs₀ in
        let within : (y + 1) * w * ch ≤ n = mul-le-mul_right ch (mul-le-mul_right w (omega arith)) in
        let less : y * w * ch ≤ (y + 1) * w * ch = mul-le-mul_right ch (omega arith) in
        let at : (j : ℕ) → j < n → get_or (cut_samples g ys) j nan ≡ collapsed_sample (cut_samples g xs) ch (in_row w y other) j =
        λ j l. ap (λ (z : List Float). get_or z j nan) p.inside ∙ tab_at (length (cut_samples g xs)) (collapsed_sample (cut_samples g xs) ch (in_row w y other)) j nan (omega arith) in
        record {
          filled = record {
            len = long' ∙ sym long₀;
            done =
                λ j l.
                at j (omega arith)
                ∙ dite (dec_lt j (y * w * ch))
                (λ o. still (in_row w y other) (cut_samples g xs) ch j (row_below other w y (j / ch) s.fits.any (below (y * w) j o)) ∙ i.filled.done j o)
                (λ o.
                let low : y * w ≤ j / ch = above (y * w) j (omega arith) in
                let high : j / ch < (y + 1) * w = below ((y + 1) * w) j l in
                let base : y * w * ch ≤ j / ch * ch = mul-le-mul_right ch low in
                from_texel (in_row w y other) flag (cut_samples g xs) (cut_samples g xs₀) ch j
                (row_own other w y (j / ch) low (omega arith) ∙ same (j / ch) low)
                (λ k m. i.filled.rest k (omega arith)));
            rest =
                λ j l.
                dite (dec_lt j n)
                (λ o.
                let low : (y + 1) * w ≤ j / ch = above ((y + 1) * w) j l in
                at j o ∙ still (in_row w y other) (cut_samples g xs) ch j (row_above other w y (j / ch) s.fits.any (omega arith)) ∙ i.filled.rest j (omega arith))
                (λ o. get_or-eq_default (cut_samples g ys) nan (omega arith) ∙ sym (get_or-eq_default (cut_samples g xs₀) nan (omega arith)));
          };
          rest = pasted_as nan n (sample_shown g) (pasted_then nan n (sample_shown g) i.rest p) (sym p.inside);
        }

-- ---- one row alone

module _ (flag : ℕ → Bool) (g : Window) (xs₀ : List Float) (s : Sampled g xs₀) (y : ℕ) where
  abbrev own : ℕ → Bool
  own = in_row g.width y flag

  pub row_none : Turning own g xs₀ (cell g.width 0 y) xs₀
  row_none = turning_run own g xs₀ s (turning_none own g xs₀) (cell g.width 0 y) (omega arith) (λ k p q. row_below flag g.width y k s.fits.any (omega arith))

  pub row_all : {x : ℕ} {xs : List Float} → Turning own g xs₀ (cell g.width x y) xs → g.width ≤ x → SamplesPasted g xs₀ xs (collapsed (cut_samples g xs₀) g.channels own)
  row_all {x} i l =
      let m : ℕ = cell g.width x y + g.height * g.width in
      turning_all own g xs₀ s (turning_run own g xs₀ s i m (omega arith) (λ k p q. row_above flag g.width y k s.fits.any (omega arith))) (omega arith)
