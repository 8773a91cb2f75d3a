-- Where the cells and the samples of a window lie in its sheet, and the window that is the whole. Assumes nothing.
--     cell_shown_law, sample_shown_law        those of a texel by its column and row
--     cells_apart, samples_apart      no two lie at one place
--     cell_held, sample_held          each lies in the list
--     near_small                      the numbers of cells are small
--     still_sampled, still_stencilled lists that are as long as they were
--     cut_sized, cut_celled           what is cut out has the sizes of a bitmap alone
--     whole_cells, whole_samples      all places in order
--     whole_sampled, whole_stencilled a bitmap alone is such a window
use mathlib.Core.Path.{◌≡◌, sym, ◌∙◌, ap, subst}
use mathlib.Core.List.{List}
use Prim.Native.Nat.{ℕ, ◌+◌, ◌*◌, ◌/◌, ◌%◌, ◌<◌, ◌≤◌}
use native.Mathlib.Nat.{mod-lt, div-add-mod', mul-le-mul, mul-le-mul_right, le_trans, lt_of_lt_of_le, add_left_cancel, zero-add}
use native.Mathlib.Omega.{arith}
use lib.Arith.{digits_div, digits_mod}
use lib.ListN.{length}
use lib.Ieee.{Float, nan}
use Rattle.ground.proofs.Laws.Picked.{Apart, picked_length}
use Rattle.inputs.specs.declared.sizes.Window.{Window}
use Rattle.inputs.specs.Window.{cell_in, cell_shown, sample_shown, cut_cells, cut_samples, whole}
use Rattle.inputs.specs.Inner.{Sized, Celled, Fits, Sampled, Stencilled}
use Rattle.inputs.proofs.Laws.Places.{cell_lt, cell_inside, next_row}

module _ (g : Window) where
  pub cell_shown_law : (x y : ℕ) → x < g.width → cell_shown g (y * g.width + x) ≡ cell_in g x y
  unfolding cell_shown
  cell_shown_law x y l = rw (digits_div y l, digits_mod y l)

  pub sample_shown_law : (k r : ℕ) → r < g.channels → sample_shown g (k * g.channels + r) ≡ cell_shown g k * g.channels + r
  unfolding sample_shown
  sample_shown_law k r l = rw (digits_div k l, digits_mod k l)

  -- two places of the window that are one: so their columns and rows are
  same_texel : Fits g → (x y x' y' : ℕ) → x < g.width → x' < g.width → cell_in g x y ≡ cell_in g x' y' → (x ≡ x') × (y ≡ y')
  same_texel s x y x' y' l l' e =
      let b : x < g.stride = lt_of_lt_of_le l s.wide in
      let b' : x' < g.stride = lt_of_lt_of_le l' s.wide in
      let q : y * g.stride + x ≡ y' * g.stride + x' = add_left_cancel g.origin e in
      (sym (digits_mod y b) ∙ ap (λ (k : ℕ). k % g.stride) q ∙ digits_mod y' b', sym (digits_div y b) ∙ ap (λ (k : ℕ). k / g.stride) q ∙ digits_div y' b')

  pub cells_apart : Fits g → Apart (g.height * g.width) (cell_shown g)
  unfolding cell_shown
  cells_apart s j k l m e =
      let p = same_texel s (j % g.width) (j / g.width) (k % g.width) (k / g.width) (mod-lt j s.any) (mod-lt k s.any) e in
      let q : j / g.width * g.width + j % g.width ≡ k / g.width * g.width + k % g.width = rw (p.0, p.1) in
      sym (div-add-mod' j g.width) ∙ q ∙ div-add-mod' k g.width

  module _ {st : List ℕ} (s : Stencilled g st) where
    pub cell_held : (k : ℕ) → k < g.height * g.width → cell_shown g k < length st
    unfolding cell_shown
    cell_held k l = let i = cell_inside g.width g.height k s.fits.any l in s.held (k % g.width) (k / g.width) i.0 i.1

    pub still_stencilled : (st' : List ℕ) → length st' ≡ length st → Stencilled g st'
    still_stencilled st' e = record { fits = s.fits; held = λ x y p q. subst (λ (n : ℕ). cell_in g x y < n) (sym e) (s.held x y p q) }

  module _ {xs : List Float} (s : Sampled g xs) where
    -- the texel of sample j is one of the window's
    in_texel : (j : ℕ) → j < g.height * g.width * g.channels → (j / g.channels < g.height * g.width) × (j % g.channels < g.channels)
    in_texel j l = let i = cell_inside g.channels (g.height * g.width) j (omega (arith, s.some)) l in (i.1, i.0)

    pub samples_apart : Apart (g.height * g.width * g.channels) (sample_shown g)
    unfolding sample_shown
    samples_apart j k l m e =
        let p = in_texel j l in
        let q = in_texel k m in
        let a : cell_shown g (j / g.channels) ≡ cell_shown g (k / g.channels) = sym (digits_div _ p.1) ∙ ap (λ (n : ℕ). n / g.channels) e ∙ digits_div _ q.1 in
        let b : j % g.channels ≡ k % g.channels = sym (digits_mod _ p.1) ∙ ap (λ (n : ℕ). n % g.channels) e ∙ digits_mod _ q.1 in
        let c : j / g.channels ≡ k / g.channels = cells_apart s.fits (j / g.channels) (k / g.channels) p.0 q.0 a in
        let t : j / g.channels * g.channels + j % g.channels ≡ k / g.channels * g.channels + k % g.channels = rw (b, c) in
        sym (div-add-mod' j g.channels) ∙ t ∙ div-add-mod' k g.channels

    pub sample_held : (j : ℕ) → j < g.height * g.width * g.channels → sample_shown g j < length xs
    unfolding sample_shown cell_shown
    sample_held j l =
        let p = in_texel j l in
        let i = cell_inside g.width g.height (j / g.channels) s.fits.any p.0 in
        omega (arith, p.1, s.held (j / g.channels % g.width) (j / g.channels / g.width) i.0 i.1)

    pub still_sampled : (xs' : List Float) → length xs' ≡ length xs → Sampled g xs'
    still_sampled xs' e = record { fits = s.fits; some = s.some; few = s.few; held = λ x y p q. subst (λ (n : ℕ). cell_in g x y * g.channels + g.channels ≤ n) (sym e) (s.held x y p q) }

    pub cut_sized : Sized g.width g.height g.channels (cut_samples g xs)
    cut_sized =
        record {
          any = s.fits.any;
          wide = le_trans s.fits.wide s.fits.broad;
          high = s.fits.high;
          some = s.some;
          few = s.few;
          long = picked_length nan (g.height * g.width * g.channels) (sample_shown g) xs;
        }

  pub cut_celled : Fits g → (st : List ℕ) → Celled g.width g.height (cut_cells g st)
  cut_celled s st =
      record { any = s.any; wide = le_trans s.wide s.broad; high = s.high; long = picked_length 0 (g.height * g.width) (cell_shown g) st }

  pub near_small : Fits g → (x y : ℕ) → x < g.width → y < g.height → y * g.stride + x < 16777216
  near_small s x y l m =
      let b : y + 1 ≤ 4096 = omega (arith, s.high) in
      let a : y * g.stride + g.stride ≤ 4096 * 4096 = rw next_row at (mul-le-mul b s.broad) in
      omega (arith, s.wide)

-- ---- the whole

module _ (w h ch : ℕ) where
  pub whole_cells : (k : ℕ) → cell_shown (whole w h ch) k ≡ k
  unfolding cell_shown
  whole_cells k = zero-add (k / w * w + k % w) ∙ div-add-mod' k w

  pub whole_samples : (j : ℕ) → sample_shown (whole w h ch) j ≡ j
  unfolding sample_shown
  whole_samples j = rw (whole_cells (j / ch)) (div-add-mod' j ch)

  whole_fits : 1 ≤ w → w ≤ 4096 → h ≤ 4096 → Fits (whole w h ch)
  whole_fits a b c = record { any = a; wide = omega arith; broad = b; high = c; near = omega arith }

  pub whole_sampled : (xs : List Float) → Sized w h ch xs → Sampled (whole w h ch) xs
  whole_sampled xs s =
      record {
        fits = whole_fits s.any s.wide s.high;
        some = s.some;
        few = s.few;
        held = λ x y p q.
            let l : (y * w + x) + 1 ≤ h * w = omega (arith, cell_lt w h x y p q) in
            rw zero-add (subst (λ (n : ℕ). (y * w + x) * ch + ch ≤ n) (sym s.long) (rw next_row at (mul-le-mul_right ch l)));
      }

  pub whole_stencilled : (st : List ℕ) → Celled w h st → Stencilled (whole w h ch) st
  whole_stencilled st s =
      record { fits = whole_fits s.any s.wide s.high; held = λ x y p q. rw zero-add (subst (λ (n : ℕ). y * w + x < n) (sym s.long) (cell_lt w h x y p q)) }
