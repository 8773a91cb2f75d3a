-- What passing each of checks 60 and 5 to 9 says, and all checks. Assumes nothing.
--     length_bounds  a length that is not bad is from 0 to the limit
--     size_bounds    a sample or a coordinate that is not oversize is from minus the limit to the limit
--     good_number    so it is no NaN
--     good_segment   a segment that is not bad has a colour of at most 7 and two coordinates that are not oversize
--     good_room, good_settings, good_samples, good_outlines, good_ends, good_segments   each check by itself
--     samples_pass   and where no sample is oversize check 6 passes
--     stages, staged   an answer 0 is one of each stage of the checks
--     passed         so of each check
--     ready          what the functions behind the checks ask for
--     content_outlined, outline_outlined   the same of the outlines, where checks 5 to 9 by themselves pass, or 7 to 9
--     content_moded  and of the mode
use mathlib.Core.Path.{◌≡◌, refl, sym, subst, ◌∙◌}
use mathlib.Core.Bool.{true, false, not, ◌||◌}
use mathlib.Core.List.{List, ◌++◌}
use Prim.Native.Nat.{ℕ, suc, ◌+◌, ◌*◌, ◌<◌, ◌≤◌}
use native.Mathlib.Nat.{le_of_eq}
use native.Mathlib.Omega.{arith}
use lib.Dec.{T, eqb, ltb}
use lib.ListN.{length, get_or}
use lib.Ieee.{Float, Format, binary32, binary64, nan, le, neg, is_nan}
use borrow.Author.Tests.{eqb-true, le-ltb, ltb-false, not-false}
use Rattle.numbers.specs.Constants.{zero_of}
use Rattle.numbers.proofs.Laws.Order.{number_left}
use Rattle.ranges.specs.Constants.{limit_of}
use Rattle.ranges.specs.declared.config.Settings.{Settings}
use Rattle.inputs.specs.Checks.{Input, bad_room, bad_length, settings_place, bad_settings, oversize, samples_place, bad_samples, bad_outlines, end_before, bad_end, ends_place, bad_ends, bad_segment, segments_place, bad_segments, outline_checks, bitmap_checks, room_checks, content_checks, size_refusal, outline_refusal, content_refusal, refusal_number}
use Rattle.inputs.specs.Inner.{Sized, Outlined}
use Rattle.inputs.proofs.checks.Ends.{before_next}
use Rattle.inputs.proofs.checks.Measures.{sizes, sized, cells}
use Rattle.ground.proofs.Laws.Search.{first_past, first_is_end}
use Rattle.ground.proofs.Laws.Bools.{holds, both_hold, both_fail, cond_above}
use Rattle.ground.proofs.Laws.Refuse.{Passes, none_fails, all_pass, zero_parts, passes_to}

pub record Passed (i : Input) : Type 0 where
  pub sizes : size_refusal i.width i.height i.channels (length i.samples) (length i.stencil) ≡ 0
  pub room : 2 * i.width ≤ length i.room
  pub mode : i.mode ≤ 3
  pub ratio : bad_length i.settings.ratio ≡ false
  pub horizontal : bad_length i.settings.horizontal ≡ false
  pub vertical : bad_length i.settings.vertical ≡ false
  pub diagonal : bad_length i.settings.diagonal ≡ false
  pub samples : (j : ℕ) → j < length i.samples → oversize binary32 (get_or i.samples j nan) ≡ false
  pub outlines : bad_outlines (length i.colours) (length i.coords) ≡ false
  pub ends : (j : ℕ) → j < length i.ends → bad_end i.ends (length i.colours) j ≡ false
  pub last : end_before i.ends (length i.ends) ≡ length i.colours
  pub outlined : Outlined i.colours i.coords i.ends
  pub segments : (j : ℕ) → j < length i.colours → bad_segment i.colours i.coords j ≡ false

-- ---- a number within its limits

pub length_bounds : (v : Float) → bad_length v ≡ false → (le (zero_of binary64) v ≡ true) × (le v (limit_of binary64) ≡ true)
unfolding bad_length
length_bounds v p = both_hold (le (zero_of binary64) v) (le v (limit_of binary64)) (not-false _ p)

pub size_bounds : (f : Format) (v : Float) → oversize f v ≡ false → (le (neg (limit_of f)) v ≡ true) × (le v (limit_of f) ≡ true)
unfolding oversize
size_bounds f v p = both_hold (le (neg (limit_of f)) v) (le v (limit_of f)) (not-false _ p)

pub good_number : (f : Format) (v : Float) → oversize f v ≡ false → T (not (is_nan v))
good_number f v p = number_left v (limit_of f) (holds _ (size_bounds f v p).1)

pub good_segment : (colours : List ℕ) (coords : List Float) (j : ℕ) → bad_segment colours coords j ≡ false → (get_or colours j 0 ≤ 7) × ((oversize binary64 (get_or coords (2 * j) nan) ≡ false) × (oversize binary64 (get_or coords (2 * j + 1) nan) ≡ false))
unfolding bad_segment
good_segment colours coords j p =
    let x = oversize binary64 (get_or coords (2 * j) nan) in
    let y = oversize binary64 (get_or coords (2 * j + 1) nan) in
    let a = both_fail (ltb 7 (get_or colours j 0)) (x || y) p in
    (ltb-false 7 (get_or colours j 0) a.0, both_fail x y a.1)

-- ---- the outlines

pub good_end : (ends : List ℕ) (n j : ℕ) → bad_end ends n j ≡ false → (end_before ends j ≤ get_or ends j 0) × (get_or ends j 0 ≤ n)
unfolding bad_end
good_end ends n j p =
    let a = both_fail (ltb (get_or ends j 0) (end_before ends j)) (ltb n (get_or ends j 0)) p in
    (ltb-false (get_or ends j 0) (end_before ends j) a.0, ltb-false n (get_or ends j 0) a.1)

pub good_outlines : (n m : ℕ) → bad_outlines n m ≡ false → (n ≤ 65536) × (m ≡ 2 * n)
unfolding bad_outlines
good_outlines n m p =
    let a = both_fail (ltb 65536 n) (not (eqb m (2 * n))) p in
    (ltb-false 65536 n a.0, eqb-true m (2 * n) (not-false _ a.1))

pub good_ends : (ends : List ℕ) (n : ℕ) → bad_ends ends n ≡ false → ((j : ℕ) → j < length ends → bad_end ends n j ≡ false) × (end_before ends (length ends) ≡ n)
unfolding bad_ends ends_place
good_ends ends n p =
    let a = both_fail (ltb (ends_place ends n) (length ends)) (not (eqb (end_before ends (length ends)) n)) p in
    (first_past (bad_end ends n) (length ends) (ltb-false _ (length ends) a.0), eqb-true (end_before ends (length ends)) n (not-false _ a.1))

made : (colours : List ℕ) (coords : List Float) (ends : List ℕ) → bad_outlines (length colours) (length coords) ≡ false → ((j : ℕ) → j < length ends → bad_end ends (length colours) j ≡ false) → Outlined colours coords ends
made colours coords ends p h =
    let a = good_outlines (length colours) (length coords) p in
    record {
      twice = a.1;
      few = a.0;
      rising = λ j l. subst (λ (k : ℕ). k ≤ get_or ends (suc j) 0) (before_next ends j (suc j) refl) (good_end ends (length colours) (suc j) (h (suc j) l)).0;
      within = λ j l. (good_end ends (length colours) j (h j l)).1;
    }

-- ---- the room, the settings, the samples and the segments

pub good_room : (w n : ℕ) → bad_room w n ≡ false → 2 * w ≤ n
unfolding bad_room
good_room w n p = ltb-false n (2 * w) p

pub good_settings : (mode : ℕ) (s : Settings) → bad_settings mode s ≡ false → (mode ≤ 3) × (bad_length s.ratio ≡ false) × (bad_length s.horizontal ≡ false) × (bad_length s.vertical ≡ false) × (bad_length s.diagonal ≡ false)
unfolding bad_settings settings_place
good_settings mode s p =
    let a = cond_above (ltb 3 mode) 0 _ 5 (omega arith) (ltb-false _ 5 p) in
    let b = cond_above (bad_length s.ratio) 1 _ 5 (omega arith) a.1 in
    let c = cond_above (bad_length s.horizontal) 2 _ 5 (omega arith) b.1 in
    let d = cond_above (bad_length s.vertical) 3 _ 5 (omega arith) c.1 in
    let e = cond_above (bad_length s.diagonal) 4 5 5 (omega arith) d.1 in
    (ltb-false 3 mode a.0, b.0, c.0, d.0, e.0)

pub good_samples : (xs : List Float) → bad_samples xs ≡ false → (j : ℕ) → j < length xs → oversize binary32 (get_or xs j nan) ≡ false
unfolding bad_samples samples_place
good_samples xs p = first_past (λ j. oversize binary32 (get_or xs j nan)) (length xs) (ltb-false _ (length xs) p)

pub samples_pass : (xs : List Float) → ((j : ℕ) → j < length xs → oversize binary32 (get_or xs j nan) ≡ false) → bad_samples xs ≡ false
unfolding bad_samples samples_place
samples_pass xs h = le-ltb _ _ (le_of_eq (sym (first_is_end (λ k. oversize binary32 (get_or xs k nan)) (length xs) h)))

pub good_segments : (colours : List ℕ) (coords : List Float) → bad_segments colours coords ≡ false → (j : ℕ) → j < length colours → bad_segment colours coords j ≡ false
unfolding bad_segments segments_place
good_segments colours coords p = first_past (bad_segment colours coords) (length colours) (ltb-false _ (length colours) p)

-- ---- all of them

-- an answer 0 stage by stage, before each is taken apart
pub record Stages (i : Input) : Type 0 where
  pub sizes : size_refusal i.width i.height i.channels (length i.samples) (length i.stencil) ≡ 0
  pub room : bad_room i.width (length i.room) ≡ false
  pub settings : bad_settings i.mode i.settings ≡ false
  pub samples : bad_samples i.samples ≡ false
  pub outlines : Passes (outline_checks i.colours i.coords i.ends)

pub stages : (i : Input) → refusal_number i ≡ 0 → Stages i
unfolding refusal_number size_refusal
stages i p =
    let a = zero_parts (bitmap_checks i) (room_checks i ++ content_checks i) refl p in
    let b = zero_parts (room_checks i) (content_checks i) refl a.1 in
    let f = all_pass (content_checks i) refl b.1 in
    record { sizes = a.0; room = (all_pass (room_checks i) refl b.0).0; settings = f.0; samples = f.1.0; outlines = f.1.1 }

pub staged : (i : Input) → Stages i → refusal_number i ≡ 0
unfolding refusal_number size_refusal
staged i s =
    passes_to (bitmap_checks i) (room_checks i ++ content_checks i) (all_pass (bitmap_checks i) refl s.sizes)
    ∙ passes_to (room_checks i) (content_checks i) (s.room, tt)
    ∙ none_fails (content_checks i) (s.settings, (s.samples, s.outlines))

pub passed : (i : Input) → refusal_number i ≡ 0 → Passed i
passed i p =
    let t = stages i p in
    let s = good_settings i.mode i.settings t.settings in
    let e = good_ends i.ends (length i.colours) t.outlines.1.0 in
    record {
      sizes = t.sizes;
      room = good_room i.width (length i.room) t.room;
      mode = s.0;
      ratio = s.1;
      horizontal = s.2;
      vertical = s.3;
      diagonal = s.4;
      samples = good_samples i.samples t.samples;
      outlines = t.outlines.0;
      ends = e.0;
      last = e.1;
      outlined = made i.colours i.coords i.ends t.outlines.0 e.0;
      segments = good_segments i.colours i.coords t.outlines.1.1.0;
    }

pub ready : (i : Input) → refusal_number i ≡ 0 → Sized i.width i.height i.channels i.samples × ((length i.stencil ≡ i.height * i.width) × Outlined i.colours i.coords i.ends)
ready i z =
    let o = passed i z in
    let s = sizes _ _ _ _ _ o.sizes in
    (sized _ _ _ _ _ s, (cells _ _ _ _ _ s, o.outlined))

pub content_outlined : (i : Input) → content_refusal i ≡ 0 → Outlined i.colours i.coords i.ends
unfolding content_refusal
content_outlined i z =
    let f = all_pass (content_checks i) refl z in
    made i.colours i.coords i.ends f.1.1.0 (good_ends i.ends (length i.colours) f.1.1.1.0).0

-- and its mode is one of the four
pub content_moded : (i : Input) → content_refusal i ≡ 0 → i.mode ≤ 3
unfolding content_refusal
content_moded i z = (good_settings i.mode i.settings (all_pass (content_checks i) refl z).0).0

pub outline_outlined : (colours : List ℕ) (coords : List Float) (ends : List ℕ) → outline_refusal colours coords ends ≡ 0 → Outlined colours coords ends
unfolding outline_refusal
outline_outlined colours coords ends z =
    let f = all_pass (outline_checks colours coords ends) refl z in
    made colours coords ends f.0 (good_ends ends (length colours) f.1.0).0
