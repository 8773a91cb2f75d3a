-- Whole sheets, for every sheet that is accepted. Assumes nothing.
--     all_pass, passes_all              an accepted sheet is one that passes each check, cell by cell and pair by pair, and the other way round
--     cell_accepted                     each of its cells is accepted as a bitmap alone
--     cell_stencil, cell_samples        and what is left of it is what the pass leaves of it alone: demand 2, cell by cell
--     outside_stencil, outside_samples  outside every cell the stencil is zero and the samples stay
--     whole_alone, whole_left           a cell that is the whole sheet is the sheet, which is left as the pass leaves it
--     sheet_refused                     a refusal writes nothing, and is the first failure
use mathlib.Core.Path.{◌≡◌, refl, sym, ◌∙◌, ap, subst}
use mathlib.Core.Bool.{Bool, true, false, not, ◌&&◌, true≢false}
use mathlib.Core.List.{List}
use mathlib.Core.Logic.{dite}
use Prim.Native.Nat.{ℕ, ◌+◌, ◌*◌, ◌/◌, ◌%◌, ◌<◌}
use native.Mathlib.Nat.{mul_comm, le_refl, div-add-mod', zero-mul, add-zero}
use native.Mathlib.Decide.{dec_lt}
use native.Mathlib.Omega.{arith}
use lib.Dec.{eqb, ltb}
use lib.ListN.{length, get_or}
use lib.Arith.{digits_div, digits_mod}
use lib.Ieee.{Float, nan}
use borrow.Author.Tests.{eq-eqb, eqb-true, lt-ltb, le-ltb, ltb-false}
use Rattle.ground.specs.Lists.{tab, any, first}
use Rattle.ground.proofs.Laws.Fill.{tab_length, tab_at}
use Rattle.ground.proofs.Laws.Picked.{picked_length, picked_all, is_picked}
use Rattle.ground.proofs.Laws.Search.{first_is, first_is_end, first_past, none_any}
use Rattle.inputs.specs.declared.sizes.Window.{Window}
use Rattle.inputs.specs.Window.{cell_shown, sample_shown, cut_cells, cut_samples, whole}
use Rattle.inputs.specs.Checks.{bad_channels, bad_room, content_refusal, place_of, refusal_number, accepted}
use Rattle.inputs.proofs.Laws.Checks.{good_room, sizes_pass, by_content}
use Rattle.inputs.proofs.Laws.Places.{cell_inside}
use Rattle.inputs.proofs.Laws.Windows.{cell_held, sample_held, whole_cells, whole_samples}
use Rattle.correction.specs.declared.cells.Area.{Area}
use Rattle.correction.specs.Pass.{byte_at, pass_stencil, pass_samples, stencil_after, samples_after, room_after}
use Rattle.correction.specs.Collapse.{collapsed}
use Rattle.correction.specs.Sheet.{Sheet, cells_of, area_at, window_of, window_at, alone, bad_sheet, bad_area, first_outside, overlap, overlaps_earlier, first_overlap, bad_runs, first_bad_run, first_bad, content_failure, failure, sheet_accepted, covers, Outside, holder, within, sheet_byte, sheet_stencil, sheet_sample, sheet_samples, sheet_stencil_after, sheet_samples_after, sheet_room_after, sheet_answer, told, saying}
use Rattle.correction.specs.Cells.{Ready}
use Rattle.std.specs.Prelude.{Err}
use Rattle.correction.proofs.Laws.Failure.{told_failure}
use Rattle.correction.proofs.Laws.Leaves.{accepted_leaves, accepted_room}
use Rattle.correction.proofs.cells.Areas.{apart}
use Rattle.correction.proofs.sheet.Laid.{stages, ready, sampled, stencilled}
use Rattle.correction.proofs.sheet.Places.{shown_covered, shown_within, both_covered}
use Rattle.correction.proofs.sheet.Corrected.{alone_byte}

-- ---- what is accepted

pub record AllPass (s : Sheet) : Type 0 where
  pub channels : bad_channels s.channels ≡ false
  pub lengths : bad_sheet s.width s.height s.channels (length s.samples) (length s.stencil) (length s.cells) (cells_of s) (length s.settings) ≡ false
  pub room : bad_room s.width (length s.room) ≡ false
  pub areas : (c : ℕ) → c < cells_of s → bad_area s.width s.height (area_at s.cells c) ≡ false
  pub apart : (c d : ℕ) → c < cells_of s → d < cells_of s → (c ≡ d → ⊥) → overlap (area_at s.cells c) (area_at s.cells d) ≡ false
  pub runs : (c : ℕ) → c < cells_of s → bad_runs s.cells (length s.colours) (length s.coords) (length s.ends) c ≡ false
  pub contents : (c : ℕ) → c < cells_of s → content_refusal (alone s c) ≡ 0

swapped : (p q r t : Bool) → (p && (q && (r && t))) ≡ (q && (p && (t && r)))
swapped true true true true = refl
swapped true true true false = refl
swapped true true false true = refl
swapped true true false false = refl
swapped true false r t = refl
swapped false true r t = refl
swapped false false r t = refl

-- overlapping is mutual
pub overlap_turned : (a b : Area) → overlap a b ≡ overlap b a
unfolding overlap
overlap_turned a b = swapped (ltb a.x (b.x + b.width)) (ltb b.x (a.x + a.width)) (ltb a.y (b.y + b.height)) (ltb b.y (a.y + a.height))

pub number_zero : (s : Sheet) → sheet_accepted s ≡ true → (failure s).number ≡ 0
unfolding sheet_accepted
number_zero s e = eqb-true (failure s).number 0 e

pub all_pass : (s : Sheet) → sheet_accepted s ≡ true → AllPass s
unfolding first_outside first_overlap overlaps_earlier first_bad_run
all_pass s e =
    let t = stages s (number_zero s e) in
    let n = cells_of s in
    let f : (c d : ℕ) → c < d → d < n → overlap (area_at s.cells c) (area_at s.cells d) ≡ false = apart s.cells n t.overlaps in
    record {
      channels = t.channels;
      lengths = t.lengths;
      room = t.room;
      areas = first_past (λ c. bad_area s.width s.height (area_at s.cells c)) n (ltb-false _ n t.areas);
      apart = λ c d l m h. dite (dec_lt c d) (λ b. f c d b m) (λ b. overlap_turned (area_at s.cells c) (area_at s.cells d) ∙ f d c (omega (arith, h)) l);
      runs = first_past (bad_runs s.cells (length s.colours) (length s.coords) (length s.ends)) n (ltb-false _ n t.runs);
      contents = t.contents;
    }

at_end : (f : ℕ → Bool) (n : ℕ) → ((c : ℕ) → c < n → f c ≡ false) → ltb (first n f) n ≡ false
at_end f n h = rw (first_is_end f n h) (le-ltb n n (le_refl n))

pub passes_all : (s : Sheet) → AllPass s → sheet_accepted s ≡ true
unfolding sheet_accepted failure first_outside first_overlap overlaps_earlier first_bad_run content_failure first_bad
passes_all s p =
    let n = cells_of s in
    rw (
      p.channels,
      p.lengths,
      p.room,
      at_end (λ c. bad_area s.width s.height (area_at s.cells c)) n p.areas,
      at_end (λ c. any c (λ d. overlap (area_at s.cells d) (area_at s.cells c))) n (λ c l. none_any (λ d. overlap (area_at s.cells d) (area_at s.cells c)) c (λ d b. p.apart d c (omega arith) l (λ e. absurd (omega arith)))),
      at_end (bad_runs s.cells (length s.colours) (length s.coords) (length s.ends)) n p.runs,
      at_end (λ c. not (eqb (content_refusal (alone s c)) 0)) n (λ c l. rw (eq-eqb (content_refusal (alone s c)) 0 (p.contents c l))),
    )

module _ (s : Sheet) (e : sheet_accepted s ≡ true) where
  made_ready : Ready s
  made_ready = ready s (number_zero s e)

  -- ---- each cell

  abbrev area : ℕ → Area
  area c = area_at s.cells c

  abbrev size : ℕ → ℕ
  size c = (area c).height * (area c).width

  module _ (c : ℕ) (l : c < cells_of s) where
    -- the room is long enough for a cell too
    cell_room : bad_room (area c).width (length s.room) ≡ false
    unfolding bad_room
    cell_room = le-ltb (length s.room) (2 * (area c).width) (omega (arith, (made_ready.laid.inside c l).wide, good_room s.width (length s.room) (all_pass s e).room))

    pub cell_refusal : refusal_number (alone s c) ≡ 0
    unfolding alone
    cell_refusal =
        let t = made_ready.laid in
        let i = t.inside c l in
        let g = window_at s c in
        let z = sizes_pass (area c).width (area c).height s.channels (length (cut_samples g s.samples)) (length (cut_cells g s.stencil)) (all_pass s e).channels
        (i.any, omega (arith, i.wide, t.wide)) (i.some, omega (arith, i.high, t.high))
        (picked_length nan (size c * s.channels) (sample_shown g) s.samples ∙ ap (λ (k : ℕ). k * s.channels) (mul_comm (area c).height (area c).width))
        (picked_length 0 (size c) (cell_shown g) s.stencil ∙ mul_comm (area c).height (area c).width) in
        sym (by_content (alone s c) (sym z) refl cell_room {k = 0} {o = place_of (alone s c) 0} (sym ((all_pass s e).contents c l), refl)).0

    pub cell_accepted : accepted (alone s c) ≡ true
    unfolding accepted
    cell_accepted = eq-eqb (refusal_number (alone s c)) 0 cell_refusal

    -- its texels lie in no other cell
    holds : (k : ℕ) → k < size c → holder s (cell_shown (window_at s c) k) ≡ c
    unfolding holder
    holds k b =
        let p = cell_shown (window_at s c) k in
        let h = shown_covered s.width s.height s.channels (area c) (made_ready.laid.inside c l) k b in
        first_is (λ d. covers (area d) (p % s.width) (p / s.width)) (cells_of s) c
        (λ d m. other d (covers (area d) (p % s.width) (p / s.width)) refl m h) l h
      where
        other : (d : ℕ) (b : Bool) → covers (area d) (cell_shown (window_at s c) k % s.width) (cell_shown (window_at s c) k / s.width) ≡ b → d < c → covers (area c) (cell_shown (window_at s c) k % s.width) (cell_shown (window_at s c) k / s.width) ≡ true → b ≡ false
        other d true q m h = absurd (true≢false (sym (both_covered (area d) (area c) _ _ q h) ∙ made_ready.apart d c m l))
        other d false q m h = refl

    alone_long : length (pass_stencil (alone s c)) ≡ size c
    unfolding pass_stencil alone
    alone_long = tab_length ((area c).width * (area c).height) (byte_at (alone s c)) ∙ mul_comm (area c).width (area c).height

    alone_many : length (pass_samples (alone s c)) ≡ size c * s.channels
    unfolding pass_samples collapsed alone
    alone_many = tab_length (length (cut_samples (window_at s c) s.samples)) _ ∙ picked_length nan (size c * s.channels) (sample_shown (window_at s c)) s.samples

    -- its number in the cell is its own
    number : (k : ℕ) → within s c (cell_shown (window_at s c) k) ≡ k
    unfolding within
    number k = shown_within s.width s.height s.channels (area c) (made_ready.laid.inside c l) k

    byte : (k : ℕ) → k < size c → sheet_byte s (cell_shown (window_at s c) k) ≡ byte_at (alone s c) k
    unfolding sheet_byte
    byte k b = rw (holds k b, lt-ltb c (cells_of s) l, number k)

    pub cell_stencil : cut_cells (window_at s c) (sheet_stencil_after s) ≡ stencil_after (alone s c)
    unfolding sheet_stencil_after sheet_stencil
    cell_stencil =
        let g = window_at s c in
        let n : ℕ = s.width * s.height in
        let a = (accepted_leaves (alone s c) cell_accepted).0 in
        simp e (is_picked 0 (size c) (cell_shown g) (tab n (sheet_byte s)) (stencil_after (alone s c)) (ap length a ∙ alone_long)
        (λ k b.
        let held : cell_shown g k < n = subst (λ (m : ℕ). cell_shown g k < m) (made_ready.long ∙ mul_comm s.height s.width) (cell_held g (stencilled s c made_ready.laid made_ready.long l) k b) in
        ap (λ (ys : List ℕ). get_or ys k 0) a ∙ alone_byte s c k b ∙ sym (tab_at n (sheet_byte s) (cell_shown g k) 0 held ∙ byte k b)))

    -- sample j of the cell is channel j % channels of its texel j / channels
    sample : (j : ℕ) → j < size c * s.channels → sheet_sample s (sample_shown (window_at s c) j) ≡ get_or (pass_samples (alone s c)) j nan
    unfolding sheet_sample sample_shown
    sample j b =
        let p = cell_inside s.channels (size c) j (omega (arith, made_ready.laid.three)) b in
        let k : ℕ = j / s.channels in
        let d : (cell_shown (window_at s c) k * s.channels + j % s.channels) / s.channels ≡ cell_shown (window_at s c) k = digits_div (cell_shown (window_at s c) k) p.0 in
        let m : (cell_shown (window_at s c) k * s.channels + j % s.channels) % s.channels ≡ j % s.channels = digits_mod (cell_shown (window_at s c) k) p.0 in
        rw (d, m, holds k p.1, lt-ltb c (cells_of s) l, number k, div-add-mod' j s.channels)

    pub cell_samples : cut_samples (window_at s c) (sheet_samples_after s) ≡ samples_after (alone s c)
    unfolding sheet_samples_after sheet_samples
    cell_samples =
        let g = window_at s c in
        let n : ℕ = length s.samples in
        let a = (accepted_leaves (alone s c) cell_accepted).1 in
        simp e (is_picked nan (size c * s.channels) (sample_shown g) (tab n (sheet_sample s)) (samples_after (alone s c)) (ap length a ∙ alone_many)
        (λ j b. ap (λ (ys : List Float). get_or ys j nan) a ∙ sym (tab_at n (sheet_sample s) (sample_shown g j) nan (sample_held g (sampled s c made_ready.laid l) j b) ∙ sample j b)))

  -- ---- outside every cell

  pub outside_stencil : (p : ℕ) → p < s.width * s.height → Outside s p → get_or (sheet_stencil_after s) p 0 ≡ 0
  unfolding sheet_stencil_after sheet_stencil sheet_byte holder
  outside_stencil p l o =
      simp e (tab_at (s.width * s.height) (sheet_byte s) p 0 l ∙ rw (at_end (λ c. covers (area c) (p % s.width) (p / s.width)) (cells_of s) o))

  pub outside_samples : (j : ℕ) → j < length s.samples → Outside s (j / s.channels) → get_or (sheet_samples_after s) j nan ≡ get_or s.samples j nan
  unfolding sheet_samples_after sheet_samples sheet_sample holder
  outside_samples j l o =
      simp e (tab_at (length s.samples) (sheet_sample s) j nan l ∙ rw (at_end (λ c. covers (area c) (j / s.channels % s.width) (j / s.channels / s.width)) (cells_of s) o))

-- ---- a refusal

pub sheet_refused : (s : Sheet) → sheet_accepted s ≡ false → (sheet_answer s ≡ Err (saying (failure s))) × (told (saying (failure s)) ≡ failure s) × (sheet_stencil_after s ≡ s.stencil) × (sheet_samples_after s ≡ s.samples) × (sheet_room_after s ≡ s.room)
unfolding sheet_answer sheet_stencil_after sheet_samples_after sheet_room_after
sheet_refused s e = (simp e, told_failure s e, simp e, simp e, simp e)

-- ---- a cell that is the whole sheet

module _ (s : Sheet) (c : ℕ) (l : c < cells_of s) (e : sheet_accepted s ≡ true) (i : area_at s.cells c ≡ record { x = 0; y = 0; width = s.width; height = s.height }) where
  -- its window is the whole
  window : window_at s c ≡ whole s.width s.height s.channels
  window = ap (window_of s.width s.channels) i ∙ ap (λ (o : ℕ). record { width = s.width; height = s.height; channels = s.channels; origin = o; stride = s.width }) (rw zero-mul (add-zero 0))

  pub whole_alone : ((alone s c).samples ≡ s.samples) × ((alone s c).stencil ≡ s.stencil) × ((alone s c).room ≡ s.room)
  unfolding alone
  whole_alone =
      let r = ready s (number_zero s e) in (
        ap (λ (g : Window). cut_samples g s.samples) window ∙ picked_all nan (s.height * s.width * s.channels) (sample_shown (whole s.width s.height s.channels)) s.samples r.laid.samples (λ j b. whole_samples s.width s.height s.channels j),
        ap (λ (g : Window). cut_cells g s.stencil) window ∙ picked_all 0 (s.height * s.width) (cell_shown (whole s.width s.height s.channels)) s.stencil r.long (λ k b. whole_cells s.width s.height s.channels k),
        refl,
      )

  whole_room : sheet_room_after s ≡ room_after (alone s c)
  unfolding sheet_room_after alone
  whole_room = simp e (sym (accepted_room (alone s c) (cell_accepted s e c l)))

  -- so the sheet is left as the pass leaves the bitmap
  pub whole_left : (sheet_stencil_after s ≡ stencil_after (alone s c)) × (sheet_samples_after s ≡ samples_after (alone s c)) × (sheet_room_after s ≡ room_after (alone s c))
  unfolding sheet_stencil_after sheet_stencil sheet_samples_after sheet_samples
  whole_left =
      let r = ready s (number_zero s e) in
      let w = s.width in
      let h = s.height in
      let ch = s.channels in
      let st : length (sheet_stencil_after s) ≡ h * w = simp e (tab_length (w * h) (sheet_byte s) ∙ mul_comm w h) in
      let xs : length (sheet_samples_after s) ≡ h * w * ch = simp e (tab_length (length s.samples) (sheet_sample s) ∙ r.laid.samples) in (
        sym (ap (λ (g : Window). cut_cells g (sheet_stencil_after s)) window ∙ picked_all 0 (h * w) (cell_shown (whole w h ch)) (sheet_stencil_after s) st (λ k b. whole_cells w h ch k)) ∙ cell_stencil s e c l,
        sym (ap (λ (g : Window). cut_samples g (sheet_samples_after s)) window ∙ picked_all nan (h * w * ch) (sample_shown (whole w h ch)) (sheet_samples_after s) xs (λ j b. whole_samples w h ch j)) ∙ cell_samples s e c l,
        whole_room,
      )
