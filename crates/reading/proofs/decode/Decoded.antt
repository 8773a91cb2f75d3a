-- How long the decoded lists are, where the contours lie, and how far the loop that decodes them has come. Assumes nothing.
use mathlib.Core.List.{List, [], ◌∷◌}
use mathlib.Core.Path.{◌≡◌, refl, sym, ap, subst, ◌∙◌}
use Prim.Native.Nat.{ℕ, zero, suc, ◌+◌, ◌-◌, ◌*◌, ◌/◌, ◌≤◌, ◌<◌}
use native.Mathlib.Nat.{le_refl, le_trans, zero-add, le-mul_of_pos_right}
use native.Mathlib.Numerals.{add-one-le}
use native.Mathlib.Omega.{arith}
use lib.Ieee.{Float}
use lib.ListN.{length, length-append}
use Rattle.ground.specs.Lists.{joined, tab}
use Rattle.ground.proofs.Laws.Fill.{tab_length}
use Rattle.ground.proofs.Laws.Write.{written_length}
use Rattle.inputs.specs.Checks.{input}
use Rattle.reading.specs.Answer.{settings_of, lent_room, case_of}
use Rattle.reading.specs.Case.{mode_of, segments, row_samples, contour_colours, contour_coords, samples_of, colours_of, coords_of, ends_of}
use Rattle.reading.specs.Grammar.{length_at, start, before, contours, width, height, channels, rows_at}
use Rattle.reading.specs.Inner.{Told, Outlined, Whole, Put}
use Rattle.reading.specs.declared.page.Page.{Page}
use Rattle.reading.proofs.page.Puts.{put_as, put_none, put_more, put_all, joined_none, joined_more, joined_all}
use Rattle.reading.specs.declared.reader.Field.{Field}
use Rattle.reading.proofs.fields.Layouts.{samples_by_rows}
use Rattle.reading.proofs.fields.Outlines.{start_next, before_next}

-- a row, and the colours and the coordinates of a contour, are as long as their numbers say
pub row_length : (s : List ℕ) (from n : ℕ) → length (row_samples s from n) ≡ n
unfolding row_samples
row_length s from n = tab_length n _

pub colours_length : (s : List ℕ) (from n : ℕ) → length (contour_colours s from n) ≡ n
unfolding contour_colours
colours_length s from n = tab_length n _

pub coords_length : (s : List ℕ) (from n : ℕ) → length (contour_coords s from n) ≡ 2 * n
unfolding contour_coords joined
coords_length s from zero = refl
coords_length s from (suc n) =
    let h : length (contour_coords s from n) ≡ 2 * n = coords_length s from n in
    length-append (contour_coords s from n) _ ∙ omega arith

-- a contour starts no later, and no more segments stand before it, than a later one
start_up : (s : List ℕ) (k m : ℕ) → start s k ≤ start s (m + k)
start_up s k zero = rw zero-add (le_refl (start s k))
start_up s k (suc m) =
    let z : suc m + k ≡ (m + k) + 1 = omega arith in
    omega (arith, ap (start s) z, start_next s (m + k), start_up s k m)

before_up : (s : List ℕ) (k m : ℕ) → before s k ≤ before s (m + k)
before_up s k zero = rw zero-add (le_refl (before s k))
before_up s k (suc m) =
    let z : suc m + k ≡ (m + k) + 1 = omega arith in
    omega (arith, ap (before s) z, before_next s (m + k), before_up s k m)

-- a contour starts no later than a later one
pub start_mono : (s : List ℕ) {k m : ℕ} → k ≤ m → start s k ≤ start s m
start_mono s {k} {m} l = let z : m - k + k ≡ m = omega arith in subst (λ (n : ℕ). start s k ≤ start s n) z (start_up s k (m - k))

-- no more segments stand before it
pub before_mono : (s : List ℕ) {k m : ℕ} → k ≤ m → before s k ≤ before s m
before_mono s {k} {m} l = let z : m - k + k ≡ m = omega arith in subst (λ (n : ℕ). before s k ≤ before s n) z (before_up s k (m - k))

-- contour i of k is inside, and its segments are among the n
pub contour_inside : {s : List ℕ} {end k n i place : ℕ} → Outlined s end k n → place ≡ start s i → i < k → (place + 3 + length_at s place ≤ length s) × (before s i + length_at s place / 17 ≤ n)
contour_inside {s} {end} {k} {n} {i} {place} o e l =
    let z : length_at s place ≡ length_at s (start s i) = ap (length_at s) e in (
      omega (arith, e, z, start_next s i, start_mono s (add-one-le l), o.place, o.inside),
      omega (arith, ap (λ (m : ℕ). m / 17) z, before_next s i, before_mono s (add-one-le l), o.segments),
    )

-- contour i of k, as it is told at its place: its length, and where the next one starts
pub contour_told : {s : List ℕ} {end k n i place : ℕ} {f : Field} → Outlined s end k n → place ≡ start s i → i < k → Told s place f → (f.len ≡ length_at s place) × (f.next ≡ start s (i + 1))
contour_told {s} {end} {k} {n} {i} {place} o e l t =
    let z = (contour_inside o e l).0 in
    (t.sized (omega arith), t.behind z ∙ omega (arith, e, ap (length_at s) e, start_next s i))

-- how many segments stand before the next contour
pub count_next : (s : List ℕ) (i : ℕ) {place len : ℕ} → place ≡ start s i → len ≡ length_at s place → before s i + len / 17 ≡ before s (i + 1)
count_next s i {place} {len} e d = ap (λ (m : ℕ). before s i + m / 17) (d ∙ ap (length_at s) e) ∙ sym (before_next s i)

-- ---- the loop through the contours

-- contour i is put: a piece of a list that has one for each contour
contour_next : {A : Type 0} {s : List ℕ} (p : List ℕ → ℕ → ℕ → List A) (i : ℕ) {first mid after : Page A} {place len : ℕ} → place ≡ start s i → len ≡ length_at s place → Put first (joined i (λ j. p s (start s j) (segments s j))) mid → Put mid (p s place (len / 17)) after → Put first (joined (i + 1) (λ j. p s (start s j) (segments s j))) after
contour_next {s = s} p i e d w v = joined_more i (λ j. p s (start s j) (segments s j)) w (put_as (p s (start s i) (segments s i)) (rw (d, e)) v)

-- before contour i those below it are decoded, from the pages c₀, p₀ and e₀ on
pub record Decoding (s : List ℕ) (k : ℕ) (c₀ c : Page ℕ) (p₀ p : Page Float) (e₀ e : Page ℕ) (place i : ℕ) : Type 0 where
  pub within : i ≤ k
  pub there : place ≡ start s i
  pub count : c.at ≡ before s i
  pub twice : p.at ≡ 2 * before s i
  pub colours : Put c₀ (joined i (λ j. contour_colours s (start s j) (segments s j))) c
  pub coords : Put p₀ (joined i (λ j. contour_coords s (start s j) (segments s j))) p
  pub ends : Put e₀ (tab i (λ j. before s (j + 1))) e

pub decoding_none : (s : List ℕ) (k : ℕ) (c : Page ℕ) (p : Page Float) (e : Page ℕ) → c.at ≡ 0 → p.at ≡ 0 → Decoding s k c c p p e e 44 0
unfolding start before
decoding_none s k c p e y z = record { within = omega arith; there = refl; count = y; twice = z; colours = joined_none c _; coords = joined_none p _; ends = put_none e _ }

module _ {s : List ℕ} {end k n : ℕ} (o : Outlined s end k n) {c₀ c : Page ℕ} {p₀ p : Page Float} {e₀ e : Page ℕ} {place i : ℕ} (d : Decoding s k c₀ c p₀ p e₀ e place i) where
  -- contour i is inside, and there is room for it
  pub decoding_room : i < k → n ≤ length c₀.out.now → 2 * n ≤ length p₀.out.now → {f : Field} → Told s place f → (place + 3 + 17 * (f.len / 17) ≤ length s) × (c.at + f.len / 17 ≤ length c.out.now) × (p.at + 2 * (f.len / 17) ≤ length p.out.now)
  decoding_room l a b {f} t =
      let z = contour_inside o d.there l in
      let y = ap (λ (x : ℕ). x / 17) (contour_told o d.there l t).0 in
      let v = t.sized (omega arith) in (
        omega (arith, z.0, v),
        omega (arith, z.1, y, d.count, written_length d.colours.written),
        omega (arith, z.1, y, d.twice, written_length d.coords.written),
      )

  -- one more is decoded
  pub decoding_more : i < k → {f : Field} → Told s place f → {c' : Page ℕ} {p' : Page Float} {e' : Page ℕ} → Put c (contour_colours s place (f.len / 17)) c' → Put p (contour_coords s place (f.len / 17)) p' → Put e (c'.at ∷ []) e' → Decoding s k c₀ c' p₀ p' e₀ e' f.next (i + 1)
  decoding_more l {f} t {c' = c'} x y z =
      let told = contour_told o d.there l t in
      let n = count_next s i d.there told.0 in
      let w : c'.at ≡ before s (i + 1) = omega (arith, x.written.to, d.count, colours_length s place (f.len / 17), n) in
      record {
        within = omega arith;
        there = told.1;
        count = w;
        twice = omega (arith, y.written.to, d.twice, coords_length s place (f.len / 17), n);
        colours = contour_next contour_colours i d.there told.0 d.colours x;
        coords = contour_next contour_coords i d.there told.0 d.coords y;
        ends = put_more i (λ j. before s (j + 1)) d.ends w z;
      }

  -- all are
  pub decoding_all : k ≤ i → e₀.at ≡ 0 → (Put c₀ (colours_of s) c × (c.at ≡ n)) × (Put p₀ (coords_of s) p × (p.at ≡ 2 * n)) × (Put e₀ (ends_of s) e × (e.at ≡ k))
  unfolding colours_of coords_of ends_of
  decoding_all l first =
      let z : i ≡ k = omega (arith, d.within) in
      let y = z ∙ o.count in
      let x : before s i ≡ n = ap (before s) z ∙ sym o.segments in (
        (joined_all (contours s) _ d.colours y, d.count ∙ x),
        (joined_all (contours s) _ d.coords y, d.twice ∙ ap (λ (m : ℕ). 2 * m) x),
        (put_all (contours s) _ d.ends y, omega (arith, first, z, d.ends.written.to, tab_length i (λ j. before s (j + 1)))),
      )

-- ---- what a well formed input's sizes allow, read as w and h

module _ {s : List ℕ} {rows k n w h : ℕ} (a : Whole s rows k n) (ew : w ≡ width s) (eh : h ≡ height s) where
  -- the samples fit what is lent
  pub whole_samples : h * (w * channels s) ≤ 12288
  whole_samples = rw (ew, eh, samples_by_rows) a.small

  -- so do the cells
  pub whole_cells : 0 < channels s → w * h ≤ 12288
  whole_cells p = rw (ew, eh) (le_trans (le-mul_of_pos_right (width s * height s) p) a.small)

  -- the rows are inside the input
  pub whole_rows : rows + h * (3 + 4 * (w * channels s)) ≤ length s
  whole_rows = rw (ew, eh, a.outlined.place, a.outlined.count) a.rowed

  at_rows : rows ≡ rows_at s
  at_rows = a.outlined.place ∙ ap (start s) a.outlined.count

  -- the decoded rows are the samples that the input means
  pub decoded_samples : joined h (λ y. row_samples s (rows + y * (3 + 4 * (w * channels s))) (w * channels s)) ≡ samples_of s
  unfolding samples_of
  decoded_samples =
      let f : ℕ → ℕ → ℕ → List Float = λ r x z. joined z (λ y. row_samples s (r + y * (3 + 4 * (x * channels s))) (x * channels s)) in
      ap (λ (r : ℕ). f r w h) at_rows ∙ ap (λ (x : ℕ). f (rows_at s) x h) ew ∙ ap (λ (z : ℕ). f (rows_at s) (width s) z) eh

  -- the decoded case is the one that the input means
  pub decoded_case : {xs : List Float} {st cs : List ℕ} {ps : List Float} {es : List ℕ} → xs ≡ samples_of s → st ≡ tab (w * h) (λ k. 0) → cs ≡ colours_of s → ps ≡ coords_of s → es ≡ ends_of s
      → input w h (channels s) xs st lent_room (mode_of s) (settings_of s) cs ps es ≡ case_of s
  decoded_case p q e f g = rw (p, q, e, f, g, ew, eh)
