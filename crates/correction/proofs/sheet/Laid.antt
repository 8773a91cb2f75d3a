-- What the checks of a sheet leave for the passes on its cells. Assumes nothing.
--     laid         checks 1, 50, 51 and 53 pass
--     laid_with    that says nothing of the stencil and of the room, and of the samples only how many they are
--     sampled      a cell's window has its samples
--     stencilled   and its stencil cells
--     stages       all checks pass, each stage by itself
--     ready, moded   so what the passes on the cells ask for
use mathlib.Core.Path.{◌≡◌, refl, sym, ◌∙◌, ap, subst}
use mathlib.Core.Bool.{Bool, true, false, cond, not}
use mathlib.Core.List.{List}
use mathlib.Core.Logic.{dite}
use Prim.Native.Nat.{ℕ, ◌+◌, ◌*◌, ◌<◌, ◌≤◌}
use native.Mathlib.Nat.{mul_comm, mul-le-mul_right}
use native.Mathlib.Decide.{dec_lt}
use native.Mathlib.Omega.{arith}
use lib.Dec.{eqb, ltb}
use lib.ListN.{length, get_or}
use lib.Ieee.{Float}
use borrow.Author.Tests.{eqb-true, eqb-false, lt-ltb, not-true, not-false}
use Rattle.ground.specs.Lists.{first}
use Rattle.ground.proofs.Laws.Search.{first_past, first_holds}
use Rattle.inputs.specs.Inner.{Fits, Sampled, Stencilled}
use Rattle.inputs.specs.Checks.{bad_channels, bad_room, content_refusal}
use Rattle.inputs.specs.Window.{cell_in}
use Rattle.inputs.proofs.Laws.Checks.{channel_bound, content_outlined, content_moded}
use Rattle.inputs.proofs.Laws.Places.{cell_lt, cell_small, next_row}
use Rattle.correction.specs.declared.cells.Area.{Area}
use Rattle.correction.specs.Sheet.{Failure}
use Rattle.correction.specs.Sheet.{Sheet, with, cells_of, area_at, window_of, window_at, alone, bad_sheet, first_outside, first_overlap, first_bad_run, first_bad, of_sheet, of_cell, content_failure, failure}
use Rattle.correction.specs.Cells.{AreaInside, Laid, Ready}
use Rattle.correction.proofs.sheet.Places.{in_sheet}
use Rattle.correction.proofs.cells.Areas.{measured, areas_inside, apart, runs_inside}

pub laid : (s : Sheet) → bad_channels s.channels ≡ false → bad_sheet s.width s.height s.channels (length s.samples) (length s.stencil) (length s.cells) (cells_of s) (length s.settings) ≡ false → ltb (first_outside s.width s.height s.cells (cells_of s)) (cells_of s) ≡ false → ltb (first_bad_run s.cells (cells_of s) (length s.colours) (length s.coords) (length s.ends)) (cells_of s) ≡ false → Laid s
laid s p q i r =
    let b = channel_bound s.channels p in
    let m = measured _ _ _ _ _ _ _ _ q in
    let t = runs_inside s.cells (cells_of s) (length s.colours) (length s.coords) (length s.ends) r in
    record {
      few = m.few;
      numbers = m.numbers;
      fours = m.fours;
      any = m.wide.0;
      wide = m.wide.1;
      high = m.high.1;
      three = b.0;
      four = b.1;
      samples = m.samples ∙ ap (λ (k : ℕ). k * s.channels) (mul_comm s.width s.height);
      inside = areas_inside s.width s.height s.cells (cells_of s) i;
      colours = λ c l. (t c l).colours;
      coords = λ c l. (t c l).coords;
      ends = λ c l. (t c l).ends;
    }

-- the same whatever its stencil and its room are, and its samples, so long as they are as many
pub laid_with : (s : Sheet) (xs : List Float) (st : List ℕ) (room : List Float) → length xs ≡ length s.samples → Laid s → Laid (with s xs st room)
laid_with s xs st room e t =
    record {
      few = t.few;
      numbers = t.numbers;
      fours = t.fours;
      any = t.any;
      wide = t.wide;
      high = t.high;
      three = t.three;
      four = t.four;
      samples = e ∙ t.samples;
      inside = t.inside;
      colours = t.colours;
      coords = t.coords;
      ends = t.ends;
    }

-- ---- where an area's window lies

module _ (w h ch : ℕ) (a : Area) (i : AreaInside w h a) (p : w ≤ 4096) (q : h ≤ 4096) where
  texel : (x y : ℕ) → x < a.width → y < a.height → cell_in (window_of w ch a) x y < h * w
  texel x y l m = rw (in_sheet w ch a x y) (cell_lt w h (a.x + x) (a.y + y) (omega (arith, i.wide)) (omega (arith, i.high)))

  fits : Fits (window_of w ch a)
  fits =
      record {
        any = i.any;
        wide = omega (arith, i.wide);
        broad = p;
        high = omega (arith, i.high);
        near = omega (arith, cell_small w h a.x a.y (omega (arith, i.any, i.wide)) (omega (arith, i.some, i.high)) p q);
      }

module _ (s : Sheet) (c : ℕ) (t : Laid s) (l : c < cells_of s) where
  abbrev area : Area
  area = area_at s.cells c

  window_fits : Fits (window_at s c)
  window_fits = fits s.width s.height s.channels area (t.inside c l) t.wide t.high

  lies : (x y : ℕ) → x < area.width → y < area.height → cell_in (window_at s c) x y < s.height * s.width
  lies = texel s.width s.height s.channels area (t.inside c l) t.wide t.high

pub sampled : (s : Sheet) (c : ℕ) → Laid s → c < cells_of s → Sampled (window_at s c) s.samples
sampled s c t l =
    record {
      fits = window_fits s c t l;
      some = t.three;
      few = t.four;
      held = λ x y m n.
          let k : cell_in (window_at s c) x y + 1 ≤ s.height * s.width = omega (arith, lies s c t l x y m n) in
          subst (λ (j : ℕ). cell_in (window_at s c) x y * s.channels + s.channels ≤ j) (sym t.samples) (rw next_row at (mul-le-mul_right s.channels k));
    }

pub stencilled : (s : Sheet) (c : ℕ) → Laid s → length s.stencil ≡ s.height * s.width → c < cells_of s → Stencilled (window_at s c) s.stencil
stencilled s c t e l =
    record { fits = window_fits s c t l; held = λ x y m n. subst (λ (j : ℕ). cell_in (window_at s c) x y < j) (sym e) (lies s c t l x y m n) }

-- ---- all checks

-- an answer of which a test that holds would answer another number
passes : (b : Bool) (f g : Failure) → (f.number ≡ 0 → ⊥) → (cond b f g).number ≡ 0 → (b ≡ false) × (g.number ≡ 0)
passes true f g h e = absurd (h e)
passes false f g h e = (refl, e)

-- each cell passes its own checks
content_zero : (s : Sheet) → (content_failure s).number ≡ 0 → (c : ℕ) → c < cells_of s → content_refusal (alone s c) ≡ 0
unfolding content_failure first_bad
content_zero s e c l =
    let f : ℕ → Bool = λ c. not (eqb (content_refusal (alone s c)) 0) in
    let d = first (cells_of s) f in
    let past : cells_of s ≤ d = dite (dec_lt d (cells_of s)) (λ b. absurd (eqb-false _ 0 (not-true _ (first_holds f (cells_of s) b)) (rw (lt-ltb _ _ b) at e))) (λ b. omega arith) in
    eqb-true (content_refusal (alone s c)) 0 (not-false _ (first_past f (cells_of s) past c l))

-- each stage of the checks by itself
pub record Stages (s : Sheet) : Type 0 where
  pub channels : bad_channels s.channels ≡ false
  pub lengths : bad_sheet s.width s.height s.channels (length s.samples) (length s.stencil) (length s.cells) (cells_of s) (length s.settings) ≡ false
  pub room : bad_room s.width (length s.room) ≡ false
  pub areas : ltb (first_outside s.width s.height s.cells (cells_of s)) (cells_of s) ≡ false
  pub overlaps : ltb (first_overlap s.cells (cells_of s)) (cells_of s) ≡ false
  pub runs : ltb (first_bad_run s.cells (cells_of s) (length s.colours) (length s.coords) (length s.ends)) (cells_of s) ≡ false
  pub contents : (c : ℕ) → c < cells_of s → content_refusal (alone s c) ≡ 0

pub stages : (s : Sheet) → (failure s).number ≡ 0 → Stages s
unfolding failure
stages s e =
    let a = passes (bad_channels s.channels) (of_sheet 1) _ (λ z. absurd (omega arith)) e in
    let b = passes (bad_sheet s.width s.height s.channels (length s.samples) (length s.stencil) (length s.cells) (cells_of s) (length s.settings)) (of_sheet 50) _ (λ z. absurd (omega arith)) a.1 in
    let m = passes (bad_room s.width (length s.room)) (of_sheet 60) _ (λ z. absurd (omega arith)) b.1 in
    let o = passes (ltb (first_outside s.width s.height s.cells (cells_of s)) (cells_of s)) (of_cell 51 _) _ (λ z. absurd (omega arith)) m.1 in
    let v = passes (ltb (first_overlap s.cells (cells_of s)) (cells_of s)) (of_cell 52 _) _ (λ z. absurd (omega arith)) o.1 in
    let r = passes (ltb (first_bad_run s.cells (cells_of s) (length s.colours) (length s.coords) (length s.ends)) (cells_of s)) (of_cell 53 _) (content_failure s) (λ z. absurd (omega arith)) v.1 in
    record { channels = a.0; lengths = b.0; room = m.0; areas = o.0; overlaps = v.0; runs = r.0; contents = content_zero s r.1 }

pub ready : (s : Sheet) → (failure s).number ≡ 0 → Ready s
unfolding alone
ready s e =
    let t = stages s e in
    record {
      laid = laid s t.channels t.lengths t.areas t.runs;
      long = (measured _ _ _ _ _ _ _ _ t.lengths).stencil ∙ mul_comm s.width s.height;
      apart = apart s.cells (cells_of s) t.overlaps;
      outlined = λ c l. content_outlined (alone s c) (t.contents c l);
    }

pub moded : (s : Sheet) → (failure s).number ≡ 0 → (c : ℕ) → c < cells_of s → get_or s.modes c 0 ≤ 3
unfolding alone
moded s e c l = content_moded (alone s c) ((stages s e).contents c l)
