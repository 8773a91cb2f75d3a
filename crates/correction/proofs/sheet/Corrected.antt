-- Correcting the cells of a sheet one after the other. Assumes nothing.
--     pass_free         what the pass leaves of a bitmap rests neither on the stencil that it is given nor on the room
--     alone_with        nor does what it leaves of a cell rest on the samples outside
--     alone_byte        a byte of a cell
--     meets, meets_samples   no two cells share a place
--     Corrected         the first c cells are corrected, and all else is as it was, the stencil zero
--     corrected_none    before the first
--     corrected_next    after one more
--     all_cells, all_samples   after the last the stencil and the samples are the sheet's
use mathlib.Core.Path.{◌≡◌, refl, sym, ◌∙◌, ap, subst}
use mathlib.Core.Bool.{Bool, true, false, true≢false}
use mathlib.Core.List.{List}
use mathlib.Core.Logic.{dite}
use Prim.Native.Nat.{ℕ, zero, suc, ◌+◌, ◌-◌, ◌*◌, ◌/◌, ◌%◌, ◌<◌, ◌≤◌}
use native.Mathlib.Nat.{mul_comm, div-add-mod', mod-lt, le_antisymm, not-suc-le-zero}
use native.Mathlib.Decide.{dec_lt, ℕ_discrete}
use native.Mathlib.Omega.{arith}
use lib.ListN.{length, get_or}
use lib.Seq.{ext_get_or}
use lib.Arith.{digits_div, digits_lt}
use lib.Ieee.{Float, nan}
use borrow.Author.Tests.{lt-ltb, le-ltb}
use Rattle.ranges.specs.declared.config.Settings.{Settings}
use Rattle.ground.specs.Lists.{tab, first}
use Rattle.ground.proofs.Laws.Fill.{tab_length, tab_at}
use Rattle.ground.proofs.Laws.Picked.{picked_at, is_picked, pasted_apart}
use Rattle.ground.proofs.Laws.Search.{first_past, first_holds}
use Rattle.inputs.specs.Checks.{Input, input}
use Rattle.inputs.specs.Window.{cell_shown, sample_shown, cut_cells, cut_samples, CellsPasted, SamplesPasted}
use Rattle.inputs.proofs.Laws.Places.{cell_inside}
use Rattle.inputs.proofs.Laws.Windows.{sample_shown_law}
use Rattle.correction.specs.Bitmap.{cell}
use Rattle.correction.specs.Pass.{texels, cornered, edge_priority_protects, protects, flags, tests_at, byte_at, pass_stencil, pass_samples, pass_tests}
use Rattle.correction.specs.Inner.{Cleared}
use Rattle.correction.specs.Sheet.{Sheet, with, cells_of, area_at, window_at, alone, covers, Outside, overlap, holder, within, sheet_byte, sheet_stencil, sheet_sample, sheet_samples}
use Rattle.correction.specs.Cells.{Ready}
use Rattle.correction.proofs.sheet.Places.{shown_covered, covered_below, covered_shown, both_covered}

-- what the pass leaves of a bitmap: its stencil, its samples and the number of its range tests
pub record SameLeft (i j : Input) : Type 0 where
  pub stencil : pass_stencil i ≡ pass_stencil j
  pub samples : pass_samples i ≡ pass_samples j
  pub tests : pass_tests i ≡ pass_tests j

pub pass_free : (w h ch : ℕ) (xs : List Float) (st st' : List ℕ) (room room' : List Float) (mode : ℕ) (s : Settings) (colours : List ℕ) (coords : List Float) (ends : List ℕ) →
    SameLeft (input w h ch xs st room mode s colours coords ends) (input w h ch xs st' room' mode s colours coords ends)
unfolding pass_stencil pass_samples pass_tests byte_at tests_at flags protects cornered edge_priority_protects texels
pass_free w h ch xs st st' room room' mode s colours coords ends = record { stencil = refl; samples = refl; tests = refl }

pass_with : (w h ch : ℕ) (xs xs' : List Float) (st st' : List ℕ) (room room' : List Float) (mode : ℕ) (s : Settings) (colours : List ℕ) (coords : List Float) (ends : List ℕ) → xs ≡ xs' →
    SameLeft (input w h ch xs st room mode s colours coords ends) (input w h ch xs' st' room' mode s colours coords ends)
pass_with w h ch xs xs' st st' room room' mode s colours coords ends e =
    subst (λ (ys : List Float). SameLeft (input w h ch xs st room mode s colours coords ends) (input w h ch ys st' room' mode s colours coords ends)) e (pass_free w h ch xs st st' room room' mode s colours coords ends)

pub alone_with : (s : Sheet) (xs : List Float) (st : List ℕ) (room : List Float) (c : ℕ) → cut_samples (window_at s c) xs ≡ cut_samples (window_at s c) s.samples → SameLeft (alone (with s xs st room) c) (alone s c)
unfolding alone
alone_with s xs st room c e = pass_with _ _ _ _ _ _ _ _ _ _ _ _ _ _ e

-- a byte of a cell
pub alone_byte : (s : Sheet) (c k : ℕ) → k < (area_at s.cells c).height * (area_at s.cells c).width → get_or (pass_stencil (alone s c)) k 0 ≡ byte_at (alone s c) k
unfolding pass_stencil alone
alone_byte s c k l =
    let a = area_at s.cells c in
    tab_at (a.width * a.height) (byte_at (alone s c)) k 0 (subst (λ (n : ℕ). k < n) (mul_comm a.height a.width) l)

-- ---- zeros

zeros_at : (n p : ℕ) → get_or {A = ℕ} (tab n (λ k. 0)) p 0 ≡ 0
unfolding tab
zeros_at zero p = refl
zeros_at (suc n) zero = refl
zeros_at (suc n) (suc p) = zeros_at n p

module _ (s : Sheet) where
  pub record Corrected (c : ℕ) (st : List ℕ) (xs : List Float) : Type 0 where
    pub long : length st ≡ length s.stencil
    pub many : length xs ≡ length s.samples
    pub done : (d : ℕ) → d < c → (cut_cells (window_at s d) st ≡ pass_stencil (alone s d)) × (cut_samples (window_at s d) xs ≡ pass_samples (alone s d))
    pub rest : (d : ℕ) → c ≤ d → d < cells_of s → Cleared (window_at s d) st × (cut_samples (window_at s d) xs ≡ cut_samples (window_at s d) s.samples)
    pub cells : (p : ℕ) → Outside s p → get_or st p 0 ≡ 0
    pub samples : (j : ℕ) → Outside s (j / s.channels) → get_or xs j nan ≡ get_or s.samples j nan

  -- all cells
  pub ended : (c : ℕ) (st : List ℕ) (xs : List Float) → Corrected c st xs → c ≤ cells_of s → cells_of s ≤ c → Corrected (cells_of s) st xs
  ended c st xs i l m = subst (λ (n : ℕ). Corrected n st xs) (le_antisymm l m) i

module _ (s : Sheet) (r : Ready s) where
  -- ---- no two cells share a place

  abbrev pub size : ℕ → ℕ
  size c = (area_at s.cells c).height * (area_at s.cells c).width

  abbrev shown : ℕ → ℕ → ℕ
  shown c = cell_shown (window_at s c)

  hits : (c : ℕ) → c < cells_of s → (k : ℕ) → k < size c → covers (area_at s.cells c) (shown c k % s.width) (shown c k / s.width) ≡ true
  hits c l = shown_covered s.width s.height s.channels (area_at s.cells c) (r.laid.inside c l)

  apart : (c d : ℕ) → c < cells_of s → d < cells_of s → (c ≡ d → ⊥) → overlap (area_at s.cells c) (area_at s.cells d) ≡ true → overlap (area_at s.cells d) (area_at s.cells c) ≡ true → ⊥
  apart c d l m n p q =
      dite (dec_lt c d) (λ b. true≢false (sym p ∙ r.apart c d b m)) (λ b. true≢false (sym q ∙ r.apart d c (omega arith) l))

  pub meets : (c d : ℕ) → c < cells_of s → d < cells_of s → (c ≡ d → ⊥) → (k j : ℕ) → k < size c → j < size d → shown c k ≡ shown d j → ⊥
  meets c d l m n k j b b' e =
      let p = hits c l k b in
      let q = subst (λ (t : ℕ). covers (area_at s.cells d) (t % s.width) (t / s.width) ≡ true) (sym e) (hits d m j b') in
      apart c d l m n (both_covered (area_at s.cells c) (area_at s.cells d) _ _ p q) (both_covered (area_at s.cells d) (area_at s.cells c) _ _ q p)

  -- sample j of a cell is one of its texels'
  texel_of : (c j : ℕ) → j < size c * s.channels → (j / s.channels < size c) × (j % s.channels < s.channels)
  texel_of c j l = let p = cell_inside s.channels (size c) j (omega (arith, r.laid.three)) l in (p.1, p.0)

  pub meets_samples : (c d : ℕ) → c < cells_of s → d < cells_of s → (c ≡ d → ⊥) → (k j : ℕ) → k < size c * s.channels → j < size d * s.channels → sample_shown (window_at s c) k ≡ sample_shown (window_at s d) j → ⊥
  unfolding sample_shown
  meets_samples c d l m n k j b b' e =
      let p = texel_of c k b in
      let q = texel_of d j b' in
      meets c d l m n (k / s.channels) (j / s.channels) p.0 q.0
      (sym (digits_div (shown c (k / s.channels)) p.1) ∙ ap (λ (t : ℕ). t / s.channels) e ∙ digits_div (shown d (j / s.channels)) q.1)

  pub corrected_none : s.stencil ≡ tab (length s.stencil) (λ k. 0) → Corrected s 0 s.stencil s.samples
  corrected_none e =
      let at : (p : ℕ) → get_or s.stencil p 0 ≡ 0 = λ p. ap (λ (ys : List ℕ). get_or ys p 0) e ∙ zeros_at (length s.stencil) p in
      record {
        long = refl;
        many = refl;
        done = λ d l. absurd (not-suc-le-zero l);
        rest =
            λ d l m.
            let n : ℕ = size d in
            (is_picked 0 n (shown d) s.stencil (tab n (λ k. 0)) (tab_length n (λ k. 0)) (λ k b. zeros_at n k ∙ sym (at (shown d k))), refl);
        cells = λ p o. at p;
        samples = λ j o. refl;
      }

  module _ (c : ℕ) (l : c < cells_of s) {st st' : List ℕ} {xs xs' : List Float} (i : Corrected s c st xs)
      (p : CellsPasted (window_at s c) st st' (pass_stencil (alone s c))) (q : SamplesPasted (window_at s c) xs xs' (pass_samples (alone s c))) where
    -- another cell is as it was
    other : (d : ℕ) → d < cells_of s → (c ≡ d → ⊥) → (cut_cells (window_at s d) st' ≡ cut_cells (window_at s d) st) × (cut_samples (window_at s d) xs' ≡ cut_samples (window_at s d) xs)
    other d m n = (
      pasted_apart 0 (size c) (shown c) p (size d) (shown d) (λ k j b b' e. meets c d l m n k j b b' e),
      pasted_apart nan (size c * s.channels) (sample_shown (window_at s c)) q (size d * s.channels) (sample_shown (window_at s d)) (λ k j b b' e. meets_samples c d l m n k j b b' e),
    )

    pub corrected_next : Corrected s (c + 1) st' xs'
    unfolding sample_shown
    corrected_next =
        record {
          long = p.long ∙ i.long;
          many = q.long ∙ i.many;
          done =
              λ d b.
              dite (ℕ_discrete c d) (λ e. subst (λ (t : ℕ). (cut_cells (window_at s t) st' ≡ pass_stencil (alone s t)) × (cut_samples (window_at s t) xs' ≡ pass_samples (alone s t))) e (p.inside, q.inside))
              (λ n. let o = other d (omega arith) n in let f = i.done d (omega (arith, n)) in (o.0 ∙ f.0, o.1 ∙ f.1));
          rest =
              λ d b m.
              let n : c ≡ d → ⊥ = λ e. absurd (omega arith) in
              let o = other d m n in
              let f = i.rest d (omega arith) m in
              (o.0 ∙ f.0, o.1 ∙ f.1);
          cells = λ t o. p.outside t (λ k b e. true≢false (sym (hits c l k b) ∙ subst (λ (u : ℕ). covers (area_at s.cells c) (u % s.width) (u / s.width) ≡ false) (sym e) (o c l))) ∙ i.cells t o;
          samples =
              λ j o.
              q.outside j
              (λ k b e.
              let u = texel_of c k b in
              let v : j / s.channels ≡ shown c (k / s.channels) = ap (λ (t : ℕ). t / s.channels) (sym e) ∙ digits_div (shown c (k / s.channels)) u.1 in
              true≢false (sym (hits c l (k / s.channels) u.0) ∙ subst (λ (t : ℕ). covers (area_at s.cells c) (t % s.width) (t / s.width) ≡ false) v (o c l)))
              ∙ i.samples j o;
        }

  -- ---- the whole

  module _ {st : List ℕ} {xs : List Float} (i : Corrected s (cells_of s) st xs) where
    -- texel p of the sheet, which lies in cell d or in none
    byte : (p : ℕ) → get_or st p 0 ≡ sheet_byte s p
    unfolding sheet_byte holder within
    byte p =
        let f : ℕ → Bool = λ c. covers (area_at s.cells c) (p % s.width) (p / s.width) in
        let d : ℕ = first (cells_of s) f in
        dite (dec_lt d (cells_of s))
        (λ l.
        let e = first_holds f (cells_of s) l in
        let a = area_at s.cells d in
        let k : ℕ = cell a.width (p % s.width - a.x) (p / s.width - a.y) in
        let b : k < size d = covered_below s.width s.height s.channels a (r.laid.inside d l) p e in
        let t : shown d k ≡ p = covered_shown s.width s.height s.channels a (r.laid.inside d l) p e in
        ap (λ (q : ℕ). get_or st q 0) (sym t) ∙ sym (picked_at 0 (size d) (shown d) st k b) ∙ ap (λ (ys : List ℕ). get_or ys k 0) (i.done d l).0 ∙ alone_byte s d k b
        ∙ sym (simp (lt-ltb d (cells_of s) l)))
        (λ l. i.cells p (first_past f (cells_of s) (omega arith)) ∙ sym (simp (le-ltb d (cells_of s) (omega arith))))

    pub all_cells : length s.stencil ≡ s.width * s.height → st ≡ sheet_stencil s
    unfolding sheet_stencil
    all_cells e =
        let n : ℕ = s.width * s.height in
        ext_get_or 0 st (tab n (sheet_byte s)) (i.long ∙ e ∙ sym (tab_length n (sheet_byte s)))
        (λ p l. byte p ∙ sym (tab_at n (sheet_byte s) p 0 (subst (λ (m : ℕ). p < m) (i.long ∙ e) l)))

    sample : (j : ℕ) → get_or xs j nan ≡ sheet_sample s j
    unfolding sheet_sample holder within sample_shown
    sample j =
        let p : ℕ = j / s.channels in
        let f : ℕ → Bool = λ c. covers (area_at s.cells c) (p % s.width) (p / s.width) in
        let d : ℕ = first (cells_of s) f in
        dite (dec_lt d (cells_of s))
        (λ l.
        let e = first_holds f (cells_of s) l in
        let a = area_at s.cells d in
        let k : ℕ = cell a.width (p % s.width - a.x) (p / s.width - a.y) in
        let b : k < size d = covered_below s.width s.height s.channels a (r.laid.inside d l) p e in
        let t : shown d k ≡ p = covered_shown s.width s.height s.channels a (r.laid.inside d l) p e in
        let m : j % s.channels < s.channels = mod-lt j (omega (arith, r.laid.three)) in
        let u : sample_shown (window_at s d) (k * s.channels + j % s.channels) ≡ j = sample_shown_law (window_at s d) k (j % s.channels) m ∙ ap (λ (q : ℕ). q * s.channels + j % s.channels) t ∙ div-add-mod' j s.channels in
        ap (λ (q : ℕ). get_or xs q nan) (sym u) ∙ sym (picked_at nan (size d * s.channels) (sample_shown (window_at s d)) xs (k * s.channels + j % s.channels) (digits_lt b m))
        ∙ ap (λ (ys : List Float). get_or ys (k * s.channels + j % s.channels) nan) (i.done d l).1 ∙ sym (simp (lt-ltb d (cells_of s) l)))
        (λ l. i.samples j (first_past f (cells_of s) (omega arith)) ∙ sym (simp (le-ltb d (cells_of s) (omega arith))))

    pub all_samples : xs ≡ sheet_samples s
    unfolding sheet_samples
    all_samples =
        let n : ℕ = length s.samples in
        ext_get_or nan xs (tab n (sheet_sample s)) (i.many ∙ sym (tab_length n (sheet_sample s)))
        (λ j l. sample j ∙ sym (tab_at n (sheet_sample s) j nan (subst (λ (m : ℕ). j < m) i.many l)))
