-- A row of a window, whose cells and whose samples lie side by side in the sheet. Assumes nothing.
--     alone                      the byte with the protected bit and no other
--     CellRow, SampleRow         that it lies in the list, and that its numbers are small
--     cell_row, sample_row       it does
--     Counted                    the bits of the rows below y are counted
--     counted_none, counted_more before the first row, and after one more
--     counted_small, counted_all such counts are small, and past the last row they are those of what is cut out
--     row_searched, row_found_law    searching its samples is searching those of what is cut out
--     rows_searched              past the last row all are searched
use mathlib.Core.Path.{◌≡◌, sym, ◌∙◌, ap, subst}
use mathlib.Core.Bool.{Bool}
use mathlib.Core.List.{List}
use Prim.Native.Nat.{ℕ, ◌+◌, ◌-◌, ◌*◌, ◌/◌, ◌%◌, ◌<◌, ◌≤◌}
use native.Mathlib.Nat.{add-mul, mul_assoc, div-add-mod', mul-le-mul, mul-le-mul_right, le_trans, le_antisymm, zero-mul, add-sub_cancel_left}
use native.Mathlib.Omega.{arith}
use lib.ListN.{length, get_or, take, drop}
use lib.Ieee.{Float, binary32, nan}
use Rattle.ground.specs.Lists.{count, first}
use Rattle.ground.proofs.Laws.Count.{none_counted, count_small, count_on}
use Rattle.ground.proofs.Laws.Search.{Searched, search_end, search_part, search_in}
use Rattle.ground.proofs.Laws.Picked.{part_length, picked_length, picked_part}
use Rattle.inputs.specs.declared.sizes.Window.{Window}
use Rattle.inputs.specs.Window.{cell_in, cell_shown, sample_shown, cut_cells, cut_samples}
use Rattle.inputs.specs.Inner.{Fits, Sampled, Stencilled}
use Rattle.inputs.specs.declared.stencil.Counts.{Counts}
use Rattle.inputs.specs.Stencil.{has_corner, is_protected, is_error, cell_count, protected_count, error_count, corner_count, counts_of}
use Rattle.inputs.specs.Checks.{oversize, samples_place}
use Rattle.correction.specs.Inner.{together}
use Rattle.inputs.proofs.Laws.Places.{cell_inside, next_row}
use Rattle.inputs.proofs.Laws.Windows.{cell_shown_law, sample_shown_law, near_small}

-- the byte with the protected bit and no other, whatever stood there
abbrev pub alone : ℕ → ℕ → ℕ → ℕ
alone v x y = 2

-- a row of w cells from `from` on, in a list of m
pub record CellRow (w from m : ℕ) : Type 0 where
  pub last : from + w ≤ m
  pub small : from + w ≤ 33554432

-- a row of w texels with ch samples each
pub record SampleRow (w ch from n : ℕ) : Type 0 where
  pub last : from + w * ch ≤ n
  pub small : from + w * ch ≤ 134217728

-- the bits of the rows below y of a window are counted
pub record Counted (g : Window) (st : List ℕ) (y : ℕ) (n : Counts) : Type 0 where
  pub high : y ≤ g.height
  pub protected : n.protected ≡ count (y * g.width) (λ k. is_protected (get_or (cut_cells g st) k 0))
  pub error : n.error ≡ count (y * g.width) (λ k. is_error (get_or (cut_cells g st) k 0))
  pub corner : n.corner ≡ count (y * g.width) (λ k. has_corner (get_or (cut_cells g st) k 0))

module _ (g : Window) where
  row_cell : (y i : ℕ) → i < g.width → cell_shown g (y * g.width + i) ≡ cell_in g 0 y + i
  row_cell y i l = cell_shown_law g i y l ∙ omega arith

  row_sample : (y i : ℕ) → 1 ≤ g.channels → i < g.width * g.channels → sample_shown g (y * (g.width * g.channels) + i) ≡ cell_in g 0 y * g.channels + i
  row_sample y i o l =
      let ch : ℕ = g.channels in
      let p = cell_inside ch g.width i o l in
      let e : i / ch * ch + i % ch ≡ i = div-add-mod' i ch in
      let q : (y * g.width + i / ch) * ch + i % ch ≡ y * (g.width * ch) + i = omega (arith, e, add-mul (y * g.width) (i / ch) ch, mul_assoc y g.width ch) in
      let r : (cell_in g 0 y + i / ch) * ch + i % ch ≡ cell_in g 0 y * ch + i = omega (arith, e, add-mul (cell_in g 0 y) (i / ch) ch) in
      ap (sample_shown g) (sym q) ∙ sample_shown_law g (y * g.width + i / ch) (i % ch) p.0 ∙ ap (λ (k : ℕ). k * ch + i % ch) (row_cell y (i / ch) p.1) ∙ r

  -- the cells before a row, and those with it
  row_within : (y : ℕ) → y < g.height → y * g.width + g.width ≤ g.height * g.width
  row_within y l = omega (arith, next_row g.width y, mul-le-mul_right g.width l)

  module _ {st : List ℕ} (s : Stencilled g st) {y from : ℕ} (l : y < g.height) (e : from ≡ cell_in g 0 y) where
    pub cell_row : CellRow g.width from (length st)
    cell_row =
        let p : g.width - 1 < g.width = omega (arith, s.fits.any) in
        record {
          last = omega (arith, e, s.fits.any, s.held (g.width - 1) y p l);
          small = omega (arith, e, s.fits.any, s.fits.near, near_small g s.fits (g.width - 1) y p l);
        }

    row_counted : (says : ℕ → Bool) {p q : ℕ} → p ≡ count (y * g.width) (λ k. says (get_or (cut_cells g st) k 0)) → q ≡ cell_count says (take (from + g.width - from) (drop from st)) → p + q ≡ count ((y + 1) * g.width) (λ k. says (get_or (cut_cells g st) k 0))
    row_counted says {p} {q} a b =
        let n : ℕ = g.height * g.width in
        let part : List ℕ = take g.width (drop from st) in
        let c : q ≡ count g.width (λ k. says (get_or part k 0)) =
        b ∙ ap (λ (m : ℕ). cell_count says (take m (drop from st))) (add-sub_cancel_left from g.width) ∙ ap (λ (m : ℕ). count m (λ k. says (get_or part k 0))) (part_length st from g.width cell_row.last) in
        subst (λ (m : ℕ). p + q ≡ count m (λ k. says (get_or (cut_cells g st) k 0))) (sym (next_row g.width y))
        (count_on (y * g.width) g.width (λ k. says (get_or (cut_cells g st) k 0)) (λ k. says (get_or part k 0)) a c
        (λ k b. ap says (picked_part 0 n (cell_shown g) st (y * g.width) g.width from (row_within y l) (λ i h. row_cell y i h ∙ ap (λ (m : ℕ). m + i) (sym e)) k b)))

    pub counted_more : {m n : Counts} → Counted g st y m → n ≡ counts_of (take (from + g.width - from) (drop from st)) → Counted g st (y + 1) (together m n)
    unfolding protected_count error_count corner_count
    counted_more i a =
        record {
          high = omega arith;
          protected = row_counted is_protected i.protected (ap (λ (z : Counts). z.protected) a);
          error = row_counted is_error i.error (ap (λ (z : Counts). z.error) a);
          corner = row_counted has_corner i.corner (ap (λ (z : Counts). z.corner) a);
        }

  pub counted_none : (st : List ℕ) → Counted g st 0 (record { protected = 0; error = 0; corner = 0 })
  counted_none st =
      let none : (f : ℕ → Bool) → 0 ≡ count (0 * g.width) f = λ f. sym (ap (λ (m : ℕ). count m f) (zero-mul g.width) ∙ none_counted f) in
      record { high = omega arith; protected = none _; error = none _; corner = none _ }

  module _ {st : List ℕ} {y : ℕ} {n : Counts} (i : Counted g st y n) where
    pub counted_small : Fits g → (n.protected ≤ 16777216) × (n.error ≤ 16777216) × (n.corner ≤ 16777216)
    counted_small s =
        let b : y * g.width ≤ 4096 * 4096 = mul-le-mul (le_trans i.high s.high) (le_trans s.wide s.broad) in
        let few : (f : ℕ → Bool) (n : ℕ) → n ≡ count (y * g.width) f → n ≤ 16777216 = λ f n e. omega (arith, e, count_small f (y * g.width)) in
        (few _ _ i.protected, few _ _ i.error, few _ _ i.corner)

    pub counted_all : g.height ≤ y → n ≡ counts_of (cut_cells g st)
    unfolding protected_count error_count corner_count
    counted_all l =
        let k : y * g.width ≡ length (cut_cells g st) = ap (λ (m : ℕ). m * g.width) (le_antisymm i.high l) ∙ sym (picked_length 0 (g.height * g.width) (cell_shown g) st) in
        let all : (f : ℕ → Bool) (m : ℕ) → m ≡ count (y * g.width) f → m ≡ count (length (cut_cells g st)) f = λ f m e. e ∙ ap (λ (m : ℕ). count m f) k in
        rw (← all _ _ i.protected, ← all _ _ i.error, ← all _ _ i.corner)

  -- a sample of what is cut out is bad
  abbrev pub bad : List Float → ℕ → Bool
  bad xs j = oversize binary32 (get_or (cut_samples g xs) j nan)

  place_is : (xs : List Float) {k : ℕ} → k ≡ first (g.height * g.width * g.channels) (bad xs) → k ≡ samples_place (cut_samples g xs)
  unfolding samples_place
  place_is xs e = e ∙ ap (λ (m : ℕ). first m (bad xs)) (sym (picked_length nan (g.height * g.width * g.channels) (sample_shown g) xs))

  pub rows_searched : (xs : List Float) (y : ℕ) → Searched (bad xs) (g.height * g.width * g.channels) (y * (g.width * g.channels)) → g.height ≤ y → y ≤ g.height → samples_place (cut_samples g xs) ≡ g.height * g.width * g.channels
  rows_searched xs y i l u =
      let e : y * (g.width * g.channels) ≡ samples_place (cut_samples g xs) = place_is xs (search_end i (omega (arith, mul_assoc g.height g.width g.channels, mul-le-mul_right (g.width * g.channels) l))) in
      sym e ∙ ap (λ (k : ℕ). k * (g.width * g.channels)) (le_antisymm u l) ∙ sym (mul_assoc g.height g.width g.channels)

  module _ {xs : List Float} (s : Sampled g xs) {y from : ℕ} (l : y < g.height) (e : from ≡ cell_in g 0 y * g.channels) where
    pub sample_row : SampleRow g.width g.channels from (length xs)
    sample_row =
        let p : g.width - 1 < g.width = omega (arith, s.fits.any) in
        let k : cell_in g 0 y + g.width ≡ cell_in g (g.width - 1) y + 1 = omega (arith, s.fits.any) in
        let c : (cell_in g 0 y + g.width) * g.channels ≡ cell_in g 0 y * g.channels + g.width * g.channels = add-mul (cell_in g 0 y) g.width g.channels in
        let d : (cell_in g 0 y + g.width) * g.channels ≡ cell_in g (g.width - 1) y * g.channels + g.channels = ap (λ (m : ℕ). m * g.channels) k ∙ next_row g.channels (cell_in g (g.width - 1) y) in
        let b : cell_in g 0 y + g.width ≤ 33554432 = omega (arith, k, s.fits.near, near_small g s.fits (g.width - 1) y p l) in
        record { last = omega (arith, e, c, d, s.held (g.width - 1) y p l); small = omega (arith, e, c, mul-le-mul b s.few) }

    abbrev n : ℕ
    n = g.width * g.channels

    part : List Float
    part = take n (drop from xs)

    worse : ℕ → Bool
    worse k = oversize binary32 (get_or part k nan)

    within : y * n + n ≤ g.height * g.width * g.channels
    within = omega (arith, mul_assoc g.height g.width g.channels, next_row n y, mul-le-mul_right n l)

    shown : (k : ℕ) → k < n → worse k ≡ bad xs (y * n + k)
    unfolding part worse
    shown k b =
        ap (oversize binary32)
        (picked_part nan (g.height * g.width * g.channels) (sample_shown g) xs (y * n) n from within (λ i h. row_sample y i (omega (arith, s.some)) h ∙ ap (λ (m : ℕ). m + i) (sym e)) k b)

    module _ {p : ℕ} (f : p ≡ samples_place (take (from + n - from) (drop from xs))) (i : Searched (bad xs) (g.height * g.width * g.channels) (y * n)) where
      place : p ≡ first n worse
      unfolding part worse samples_place
      place = f ∙ ap (λ (m : ℕ). samples_place (take m (drop from xs))) (add-sub_cancel_left from n) ∙ ap (λ (m : ℕ). first m worse) (part_length xs from n sample_row.last)

      length_is : length (take (from + n - from) (drop from xs)) ≡ n
      length_is = ap (λ (m : ℕ). length (take m (drop from xs))) (add-sub_cancel_left from n) ∙ part_length xs from n sample_row.last

      searched : n ≤ p → Searched (bad xs) (g.height * g.width * g.channels) ((y + 1) * n)
      searched h = subst (Searched (bad xs) (g.height * g.width * g.channels)) (sym (next_row n y)) (search_part i worse place within shown h)

      pub row_searched : p ≡ length (take (from + n - from) (drop from xs)) → Searched (bad xs) (g.height * g.width * g.channels) ((y + 1) * n)
      row_searched h = searched (omega (arith, h, length_is))

      pub row_found_law : p < length (take (from + n - from) (drop from xs)) → (y * n + p ≡ samples_place (cut_samples g xs)) × (y * n + p < g.height * g.width * g.channels)
      row_found_law h = let b : p < n = subst (λ (m : ℕ). p < m) length_is h in (place_is xs (search_in i worse place within shown b), omega (arith, within, b))
