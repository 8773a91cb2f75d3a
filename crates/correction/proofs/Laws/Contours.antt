-- Contours by the numbers of their segments, and all of them by the numbers of their ends. Assumes nothing.
--     start_next   a contour ends where the next starts
--     start_le     a contour starts at most where it ends
--     corners_at   a texel that some contour hits, by its number, is one that some contour of the list protects
use mathlib.Core.Path.{◌≡◌, refl, sym, ◌∙◌, ap}
use mathlib.Core.Bool.{Bool, cond, ◌||◌}
use mathlib.Core.List.{List, [], ◌∷◌}
use Prim.Native.Nat.{ℕ, zero, suc, ◌+◌, ◌-◌, ◌<◌, ◌≤◌, zero-le}
use native.Mathlib.Numerals.{add-one}
use native.Mathlib.Omega.{arith}
use lib.Dec.{eqb}
use lib.ListN.{length, get_or, drop, length-drop}
use lib.Seq.{length-take-le, get_or-take, get_or-drop}
use lib.Ieee.{Float}
use borrow.Author.Tests.{eq-eqb, ne_eqb}
use Rattle.ground.specs.Lists.{tab, any, some}
use Rattle.correction.specs.Corners.{Segment, segment_at, between, split, contours, before, no_segment, is_corner, around, corner_at, contour_protects, corners_protect}
use Rattle.correction.specs.Numbered.{start_at, corner_hits, contour_hits}
use Rattle.inputs.specs.Inner.{Outlined}
use Rattle.ground.proofs.Laws.Fill.{tab_length, tab_at}
use Rattle.ground.proofs.Laws.Search.{any_first, any_same}

split_at : (P : List Segment → Bool) (segments : List Segment) (from : ℕ) (ends : List ℕ)
    → any (length ends) (λ i. P (between segments (get_or (from ∷ ends) i 0) (get_or ends i 0))) ≡ some P (split segments from ends)
unfolding any some split
split_at P segments from [] = refl
split_at P segments from (end ∷ ends) =
    any_first (length ends) (λ i. P (between segments (get_or (from ∷ end ∷ ends) i 0) (get_or (end ∷ ends) i 0)))
    ∙ ap (λ (b : Bool). P (between segments from end) || b) (split_at P segments end ends)

-- a contour ends where the next starts
pub start_next : (ends : List ℕ) (i : ℕ) → get_or ends i 0 ≡ start_at ends (i + 1)
start_next ends i = ap (λ (n : ℕ). get_or (0 ∷ ends) n 0) (sym (add-one i))

-- and starts at most there
pub start_le : {colours : List ℕ} {coords : List Float} {ends : List ℕ} → Outlined colours coords ends → (i : ℕ) → i < length ends → start_at ends i ≤ get_or ends i 0
start_le o zero l = zero-le
start_le o (suc i) l = o.rising i l

module _ (colours : List ℕ) (coords : List Float) where
  abbrev segments : List Segment
  segments = tab (length colours) (segment_at colours coords)

  module _ (from end : ℕ) (p : from ≤ end) (q : end ≤ length colours) where
    abbrev part : List Segment
    part = between segments from end

    part_length : length part ≡ end - from
    part_length =
        length-take-le (end - from) (drop from segments)
        (let e : length (drop from segments) ≡ length colours - from = length-drop from segments ∙ ap (λ (n : ℕ). n - from) (tab_length (length colours) (segment_at colours coords)) in
        omega (arith, e, p, q))

    part_at : (j : ℕ) → j < end - from → get_or part j no_segment ≡ segment_at colours coords (from + j)
    part_at j l =
        get_or-take (end - from) (drop from segments) j no_segment l ∙ get_or-drop from segments j no_segment
        ∙ tab_at (length colours) (segment_at colours coords) (from + j) no_segment (omega (arith, p, q, l))

    before_lt : (j : ℕ) → j < end - from → before (end - from) j < end - from
    unfolding before
    before_lt zero l = omega arith
    before_lt (suc j) l = simp (ne_eqb (suc j) 0 (omega arith)) (omega arith)

    before_at : (j : ℕ) → j < end - from → cond (eqb (from + j) from) (end - 1) (from + j - 1) ≡ from + before (end - from) j
    unfolding before
    before_at zero l = simp (eq-eqb (from + 0) from (omega arith)) (omega (arith, p, l))
    before_at (suc j) l = simp (ne_eqb (from + suc j) from (omega arith), ne_eqb (suc j) 0 (omega arith)) (omega (arith, p, l))

    corner_at_law : (x y j : ℕ) → j < end - from → corner_hits colours coords from end (from + j) x y ≡ corner_at part x y j
    unfolding corner_hits corner_at is_corner around
    corner_at_law x y j l = rw (part_length, part_at j l, part_at (before (end - from) j) (before_lt j l), before_at j l)

    contour_at : (x y : ℕ) → contour_hits colours coords from end x y ≡ contour_protects x y part
    unfolding contour_hits contour_protects
    contour_at x y =
        any_same (end - from) (λ j. corner_hits colours coords from end (from + j) x y) (corner_at part x y) (corner_at_law x y)
        ∙ ap (λ (n : ℕ). any n (corner_at part x y)) (sym part_length)

  -- a texel that some contour hits, by its number, is one that some contour of the list protects
  pub corners_at : (ends : List ℕ) → Outlined colours coords ends → (x y : ℕ)
      → any (length ends) (λ i. contour_hits colours coords (start_at ends i) (get_or ends i 0) x y) ≡ corners_protect (contours colours coords ends) x y
  unfolding corners_protect contours
  corners_at ends o x y =
      any_same (length ends) (λ i. contour_hits colours coords (start_at ends i) (get_or ends i 0) x y) (λ i. contour_protects x y (between segments (start_at ends i) (get_or ends i 0)))
      (λ i l. contour_at (start_at ends i) (get_or ends i 0) (start_le o i l) (o.within i l) x y)
      ∙ split_at (contour_protects x y) segments 0 ends
