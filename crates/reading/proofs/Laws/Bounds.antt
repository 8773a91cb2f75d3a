-- How large the numbers are that are printed: the place of a breach, a refusal with its place, and the counts; and that a text fits where it is written. Assumes nothing.
use mathlib.Core.Bool.{Bool, true, false, cond, not}
use mathlib.Core.List.{List, ◌++◌}
use mathlib.Core.Path.{◌≡◌, refl, ap, ◌∙◌, subst}
use mathlib.Core.Logic.{dite}
use Prim.Native.Nat.{ℕ, zero, suc, ◌+◌, ◌*◌, ◌/◌, ◌%◌, ◌≤◌, ◌<◌}
use native.Mathlib.Nat.{le_trans}
use native.Mathlib.Decide.{ℕ_discrete}
use native.Mathlib.Omega.{arith}
use lib.Dec.{eqb, ltb, leb}
use lib.Ieee.{Float, binary32}
use lib.ListN.{length, get_or, length-append}
use borrow.Author.Tests.{eqb-true, ltb-true, ltb-false, le-ltb, leb-false}
use Rattle.numbers.specs.Constants.{zero_of}
use Rattle.ground.specs.Lists.{joined}
use Rattle.ground.proofs.Laws.Fill.{tab_length}
use Rattle.ground.proofs.Laws.Refuse.{answer_is}
use Rattle.ground.proofs.Laws.Search.{first_le}
use Rattle.inputs.specs.Checks.{Input, bad_length, settings_place, samples_place, ends_place, segments_place, outline_place, place_of, bad_room, bitmap_checks, content_checks, checks, size_refusal, content_refusal, refusal_number, refusal_place}
use Rattle.inputs.proofs.Laws.Checks.{sizes, by_sizes_law, by_content}
use Rattle.ranges.specs.declared.config.Settings.{Settings}
use Rattle.reading.specs.Answer.{lent_room, case_of}
use Rattle.reading.specs.Case.{segments, contour_colours, colours_of, ends_of}
use Rattle.reading.specs.Grammar.{fine, or_else, length_at, head_breach, body_breach, field_breach, size_breach, settings_breach, contour_breach, start, before, good_contour, contours_from, contours, is_contour, rows_at, outline_breach, row_size, rows_breach, end_at, end_breach, breach, width, height, channels}
use Rattle.reading.proofs.fields.Breaches.{test_fine, both_fine}
use Rattle.reading.proofs.decode.Decoded.{colours_length}

-- a choice is small where both are
cond_le : (m : ℕ) (t : Bool) (x y : ℕ) → (t ≡ true → x ≤ m) → (t ≡ false → y ≤ m) → cond t x y ≤ m
cond_le m true x y p q = p refl
cond_le m false x y p q = q refl

-- ---- the place of a breach

-- the first of two breaches
or_else_le : (a b : ℕ) → a ≤ 65537 → (a ≡ 65537 → b ≤ 65537) → or_else a b ≤ 65537
unfolding or_else
or_else_le a b p q = cond_le 65537 (eqb a fine) b a (λ e. q (eqb-true a fine e)) (λ e. p)

module _ (s : List ℕ) (short : length s ≤ 65536) where
  -- a field that has its tag starts inside
  head_inside : (at tag : ℕ) → head_breach s at tag ≡ 65537 → at < length s
  unfolding head_breach
  head_inside at tag e = leb-false (length s) at (test_fine (leb (length s) at) (length s) _ (λ z. omega arith) e).0

  head_le : (at tag : ℕ) → head_breach s at tag ≤ 65537
  unfolding head_breach
  head_le at tag =
      cond_le 65537 (leb (length s) at) _ _ (λ e. omega arith)
      (λ e. let l = leb-false (length s) at e in cond_le 65537 (not (eqb (get_or s at 0) tag)) _ _ (λ f. omega arith) (λ f. cond_le 65537 (ltb (length s) (at + 3)) _ _ (λ g. omega arith) (λ g. omega arith)))

  body_le : (at len : ℕ) → body_breach s at len ≤ 65537
  unfolding body_breach
  body_le at len = cond_le 65537 (ltb (length s) (at + 3 + len)) _ _ (λ e. omega arith) (λ e. omega arith)

  field_le : (at tag len : ℕ) → field_breach s at tag len ≤ 65537
  unfolding field_breach
  field_le at tag len =
      or_else_le (head_breach s at tag) _ (head_le at tag)
      (λ e. cond_le 65537 (not (eqb (length_at s at) len)) _ _ (λ f. omega (arith, head_inside at tag e)) (λ f. body_le at len))

  contour_le : (at k n : ℕ) → contour_breach s at k n ≤ 65537
  unfolding contour_breach
  contour_le at k n =
      or_else_le (head_breach s at 3) _ (head_le at 3)
      (λ e. let l : at ≤ 65537 = omega (arith, head_inside at 3 e) in cond_le 65537 (not (eqb (length_at s at % 17) 0)) _ _ (λ f. l) (λ f. cond_le 65537 (leb 64 k) _ _ (λ g. l) (λ g. cond_le 65537 (ltb 256 (n + length_at s at / 17)) _ _ (λ h. l) (λ h. body_le at (length_at s at)))))

  rows_le : (h at n : ℕ) → rows_breach h s at n ≤ 65537
  unfolding rows_breach
  rows_le zero at n = omega arith
  rows_le (suc h) at n = or_else_le (field_breach s at 4 (4 * n)) _ (field_le at 4 (4 * n)) (λ e. rows_le h (at + (3 + 4 * n)) n)

  end_le : (at : ℕ) → end_breach s at ≤ 65537
  unfolding end_breach
  end_le at = or_else_le (field_breach s at 0 0) _ (field_le at 0 0) (λ e. cond_le 65537 (ltb (at + 3) (length s)) _ _ (λ f. omega (arith, ltb-true (at + 3) (length s) f)) (λ f. omega arith))

  size_le : size_breach s ≤ 65537
  unfolding size_breach
  size_le = or_else_le (field_breach s 0 1 5) _ (field_le 0 1 5) (λ e. cond_le 65537 (ltb 12288 (width s * height s * channels s)) _ _ (λ f. omega arith) (λ f. omega arith))

  outline_le : outline_breach s ≤ 65537
  unfolding outline_breach
  outline_le = cond_le 65537 (is_contour s (rows_at s)) _ _ (λ e. contour_le (rows_at s) (contours s) (before s (contours s))) (λ e. omega arith)

-- a breach is at most at 65,536, and 65,537 says that there is none
pub breach_le : (s : List ℕ) → breach s ≤ 65537
unfolding breach settings_breach
breach_le s =
    cond_le 65537 (ltb 65536 (length s)) _ _ (λ e. omega arith)
    (λ e. let l = ltb-false 65536 (length s) e in or_else_le (size_breach s) _ (size_le s l) (λ f. or_else_le (field_breach s 8 2 33) _ (field_le s l 8 2 33) (λ g. or_else_le (outline_breach s) _ (outline_le s l) (λ h. or_else_le (rows_breach (height s) s (rows_at s) (row_size s)) _ (rows_le s l (height s) (rows_at s) (row_size s)) (λ i. end_le s l (end_at s))))))

-- an input without a breach is no longer than 65,536
pub breach_short : (s : List ℕ) → breach s ≡ 65537 → length s ≤ 65536
unfolding breach
breach_short s e = ltb-false 65536 (length s) (test_fine (ltb 65536 (length s)) 65536 _ (λ z. omega arith) e).0

-- ---- a refusal and its place

-- a refusal is by one of ten checks, 1 to 9 and 60
pub refusal_number_le : (i : Input) → refusal_number i ≤ 60
unfolding refusal_number
refusal_number_le i =
    answer_is (λ (n : ℕ). n ≤ 60) (checks i) (omega arith) (omega arith, (omega arith, (omega arith, (omega arith, (omega arith, (omega arith, (omega arith, (omega arith, (omega arith, (omega arith, tt))))))))))

-- the room that is lent is long enough for every bitmap that checks 1 to 4 let through, so check 60 refuses no input
pub room_enough : (s : List ℕ) → refusal_number (case_of s) ≤ 9
unfolding size_refusal content_refusal bad_room lent_room
room_enough s =
    let i = case_of s in
    let n : ℕ = size_refusal i.width i.height i.channels (length i.samples) (length i.stencil) in
    dite (ℕ_discrete n 0)
    (λ z.
    let w = (sizes i.width i.height i.channels (length i.samples) (length i.stencil) z).wide.1 in
    let b : bad_room i.width (length lent_room) ≡ false = le-ltb (length lent_room) (2 * i.width) (omega (arith, tab_length 8192 (λ k. zero_of binary32))) in
    let c : content_refusal i ≤ 9 = answer_is (λ (k : ℕ). k ≤ 9) (content_checks i) (omega arith) (omega arith, (omega arith, (omega arith, (omega arith, (omega arith, tt))))) in
    subst (λ (k : ℕ). k ≤ 9) (by_content i refl z b {k = content_refusal i} {o = place_of i (content_refusal i)} (refl, refl)).0 c)
    (λ h.
    let c : n ≤ 9 = answer_is (λ (k : ℕ). k ≤ 9) (bitmap_checks i) (omega arith) (omega arith, (omega arith, (omega arith, (omega arith, tt)))) in
    subst (λ (k : ℕ). k ≤ 9) (by_sizes_law i refl h).0 c)

settings_place_le : (mode : ℕ) (s : Settings) → settings_place mode s ≤ 5
unfolding settings_place
settings_place_le mode s =
    cond_le 5 (ltb 3 mode) _ _ (λ a. omega arith)
    (λ a. cond_le 5 (bad_length s.ratio) _ _ (λ b. omega arith) (λ b. cond_le 5 (bad_length s.horizontal) _ _ (λ c. omega arith) (λ c. cond_le 5 (bad_length s.vertical) _ _ (λ d. omega arith) (λ d. cond_le 5 (bad_length s.diagonal) _ _ (λ e. omega arith) (λ e. omega arith)))))

samples_place_le : (xs : List Float) → samples_place xs ≤ length xs
unfolding samples_place
samples_place_le xs = first_le _ (length xs)

ends_place_le : (ends : List ℕ) (n : ℕ) → ends_place ends n ≤ length ends
unfolding ends_place
ends_place_le ends n = first_le _ (length ends)

segments_place_le : (colours : List ℕ) (coords : List Float) → segments_place colours coords ≤ length colours
unfolding segments_place
segments_place_le colours coords = first_le _ (length colours)

-- its place is one of the settings, or at most the number of samples, of ends or of segments
pub refusal_place_le : (i : Input) (m : ℕ) → 5 ≤ m → length i.samples ≤ m → length i.ends ≤ m → length i.colours ≤ m → refusal_place i ≤ m
unfolding refusal_place place_of outline_place
refusal_place_le i m l p q r =
    let n : ℕ = refusal_number i in
    cond_le m (eqb n 5) _ _ (λ a. le_trans (settings_place_le i.mode i.settings) l)
    (λ a. cond_le m (eqb n 6) _ _ (λ b. le_trans (samples_place_le i.samples) p) (λ b. cond_le m (eqb n 8) _ _ (λ c. le_trans (ends_place_le i.ends (length i.colours)) q) (λ c. cond_le m (eqb n 9) _ _ (λ d. le_trans (segments_place_le i.colours i.coords) r) (λ d. omega arith))))

-- ---- the contours and the segments of an input

from_le : (room : ℕ) (s : List ℕ) (k : ℕ) → contours_from room s k ≤ k + room
unfolding contours_from
from_le zero s k = omega arith
from_le (suc room) s k = cond_le (k + suc room) (good_contour s k) _ _ (λ e. omega (arith, from_le room s (suc k))) (λ e. omega arith)

-- at most 64 contours
pub ends_le : (s : List ℕ) → length (ends_of s) ≤ 64
unfolding ends_of contours
ends_le s = omega (arith, tab_length (contours s) (λ k. before s (k + 1)), from_le 64 s 0)

-- as many colours as segments
colours_before : (s : List ℕ) (n : ℕ) → length (joined n (λ k. contour_colours s (start s k) (segments s k))) ≡ before s n
unfolding joined before
colours_before s zero = refl
colours_before s (suc n) =
    let f : ℕ → List ℕ = λ k. contour_colours s (start s k) (segments s k) in
    length-append (joined n f) (f n) ∙ omega (arith, colours_before s n, colours_length s (start s n) (segments s n))

module _ (s : List ℕ) (short : length s ≤ 65536) where
  -- a contour that is there is one of few segments
  contour_sparse : (at k n : ℕ) → contour_breach s at k n ≡ 65537 → n + length_at s at / 17 ≤ 256
  unfolding contour_breach
  contour_sparse at k n e =
      let p = both_fine (head_breach s at 3) _ e in
      let l : at ≡ 65537 → ⊥ = λ z. omega (arith, head_inside s short at 3 p.0) in
      let q = test_fine (not (eqb (length_at s at % 17) 0)) at _ l p.1 in
      let r = test_fine (leb 64 k) at _ l q.1 in
      ltb-false 256 (n + length_at s at / 17) (test_fine (ltb 256 (n + length_at s at / 17)) at _ l r.1).0

  before_test : (t : Bool) (j k : ℕ) → (t ≡ true → before s j ≤ 256) → before s k ≤ 256 → before s (cond t j k) ≤ 256
  before_test true j k p q = p refl
  before_test false j k p q = q

  before_le : (room k : ℕ) → before s k ≤ 256 → before s (contours_from room s k) ≤ 256
  unfolding contours_from before good_contour
  before_le zero k l = l
  before_le (suc room) k l =
      before_test (good_contour s k) (contours_from room s (suc k)) k (λ e. before_le room (suc k) (contour_sparse (start s k) k (before s k) (eqb-true _ fine e))) l

  -- at most 256 segments
  pub colours_le : length (colours_of s) ≤ 256
  unfolding colours_of contours before
  colours_le = omega (arith, colours_before s (contours s), before_le 64 0 (omega arith))

-- ---- a text in front

-- what is written for an input into the front of a list is no longer than the whole
pub in_front : (text : ℕ → List ℕ → List ℕ) (n : ℕ) (s d l : List ℕ) (m : ℕ) → m ≡ length (text n s) → l ≡ text n s ++ d → m ≤ length l
in_front text n s d l m e f = omega (arith, ap length f, length-append (text n s) d)
