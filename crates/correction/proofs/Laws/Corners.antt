-- The cells that a corner protects. Assumes nothing.
--     corner_protected    each of them is protected
--     corner_mode         only EdgePriority has any
--     disabled_clears     Disabled leaves zeros
--     corners_alone       they rest on the mode and the outlines: samples, settings and with them edges change none
--     cornered_grows      with more outlines every one of them is one still: of the definition,
--     corners_grow        of a texel that lies in two bitmaps of any sizes,
--     cells_grow          of a cell of two bitmaps of one size,
--     runs_corners        of any two answers and stencils that are as defined,
--     promise_corners     of two runs of the public function, by its promise,
--     counts_grow         and of their number
--     corner_count_le     no more cells are corner cells than are protected
use mathlib.Core.Path.{◌≡◌, refl, sym, ◌∙◌, ap, subst}
use mathlib.Core.Bool.{Bool, true, false, ◌&&◌, ◌||◌, true≢false}
use mathlib.Core.List.{List}
use mathlib.Core.Logic.{dite}
use Prim.Native.Nat.{ℕ, ◌*◌, ◌/◌, ◌%◌, ◌≤◌, ◌<◌}
use native.Mathlib.Decide.{dec_lt}
use native.Mathlib.Omega.{arith}
use lib.Dec.{eqb}
use lib.ListN.{get_or, get_or-eq_default}
use contract.Lifetimes.{Lfts}
use borrow.Fn.Kinds.{Dens}
use borrow.Author.Tests.{eq-eqb, ne_eqb}
use Rattle.ranges.specs.Config.{disabled, edge_priority, edge_only}
use Rattle.inputs.specs.Stencil.{has_corner, is_protected, protected_count, corner_count}
use Rattle.inputs.specs.Checks.{Input, accepted}
use Rattle.correction.specs.Pass.{Answer}
use Rattle.correction.specs.Bitmap.{cell}
use Rattle.correction.specs.Corners.{contours, corners_protect}
use Rattle.correction.specs.Pass.{cornered, edge_priority_protects, protects, number_of, Answers, stencil_after}
use Rattle.correction.specs.Stricter.{MoreOutlines}
use Rattle.ground.proofs.Laws.Bools.{and_implies, both_hold}
use Rattle.inputs.proofs.Laws.Stencil.{clear_says, corner_falls, corner_within}
use Rattle.correction.proofs.engine.Staged.{byte_at_disabled}
use Rattle.correction.proofs.pass.msdf_error_correction.Kinds.{ps}
use Rattle.correction.proofs.pass.msdf_error_correction.Reads as entry
use Rattle.correction.proofs.Laws.Answer.{zero_accepts}
use Rattle.correction.proofs.Laws.Leaves.{cell_byte, cell_corner, cell_protected, stencil_length, given}
use Rattle.correction.proofs.Laws.Neighbourhood.{texel_corner}
use Rattle.correction.proofs.Laws.Grows.{corners_protect_grows}

-- ---- one pass

-- A texel that a corner protects is protected.
pub cornered_protects : (i : Input) (x y : ℕ) → cornered i x y ≡ true → protects i x y ≡ true
unfolding cornered protects edge_priority_protects
cornered_protects i x y p =
    let q = both_hold (eqb i.mode edge_priority) _ p in
    go (eqb i.mode edge_only) (eqb i.mode edge_priority) (corners_protect (contours i.colours i.coords i.ends) x y) _ q.0 q.1
  where
    go : (a b c d : Bool) → b ≡ true → c ≡ true → (a || b && (c || d)) ≡ true
    go true b c d e f = refl
    go false b c d e f = rw (e, f)

-- Only EdgePriority has texels that a corner protects.
pub cornered_mode : (i : Input) (x y : ℕ) → (i.mode ≡ edge_priority → ⊥) → cornered i x y ≡ false
unfolding cornered
cornered_mode i x y n = simp (ne_eqb i.mode edge_priority n)

-- beyond the last cell there is no corner
no_corner : (i : Input) → accepted i ≡ true → (k : ℕ) → (k < i.width * i.height → ⊥) → has_corner (get_or (stencil_after i) k 0) ≡ false
no_corner i p k n = ap has_corner (get_or-eq_default (stencil_after i) 0 (omega (arith, stencil_length i p))) ∙ clear_says.0

-- A corner cell is a cell of the bitmap.
corner_inside : (i : Input) → accepted i ≡ true → (k : ℕ) → has_corner (get_or (stencil_after i) k 0) ≡ true → k < i.width * i.height
corner_inside i p k e = dite (dec_lt k (i.width * i.height)) (λ l. l) (λ n. absurd (true≢false (sym e ∙ no_corner i p k n)))

-- Bit 4 stands beside bit 2.
pub corner_protected : (i : Input) → accepted i ≡ true → (k : ℕ) → has_corner (get_or (stencil_after i) k 0) ≡ true → is_protected (get_or (stencil_after i) k 0) ≡ true
corner_protected i p k e =
    let l = corner_inside i p k e in
    cell_protected i p k l ∙ cornered_protects i (k % i.width) (k / i.width) (sym (cell_corner i p k l) ∙ e)

-- Indiscriminate, EdgeOnly and Disabled leave no bit 4.
pub corner_mode : (i : Input) → accepted i ≡ true → (i.mode ≡ edge_priority → ⊥) → (k : ℕ) → has_corner (get_or (stencil_after i) k 0) ≡ false
corner_mode i p n k = dite (dec_lt k (i.width * i.height)) (λ l. cell_corner i p k l ∙ cornered_mode i (k % i.width) (k / i.width) n) (no_corner i p k)

-- Disabled leaves zeros.
pub disabled_clears : (i : Input) → accepted i ≡ true → i.mode ≡ disabled → (k : ℕ) → get_or (stencil_after i) k 0 ≡ 0
disabled_clears i p m k = dite (dec_lt k (i.width * i.height)) inner (λ n. get_or-eq_default (stencil_after i) 0 (omega (arith, stencil_length i p)))
  where
    inner : k < i.width * i.height → get_or (stencil_after i) k 0 ≡ 0
    inner l = cell_byte i p k l ∙ byte_at_disabled i m k

-- No more cells are corner cells than are protected.
pub corner_count_le : (i : Input) → accepted i ≡ true → corner_count (stencil_after i) ≤ protected_count (stencil_after i)
corner_count_le i p = corner_within (stencil_after i) (corner_protected i p)

-- ---- two passes

cornered_same : (i j : Input) → i.mode ≡ j.mode → contours i.colours i.coords i.ends ≡ contours j.colours j.coords j.ends → (x y : ℕ) → cornered i x y ≡ cornered j x y
unfolding cornered
cornered_same i j m o x y = rw (m, o)

-- The corner bit rests on the mode and the outlines alone: no sample, no setting and so no edge sets or clears it.
pub corners_alone : (i j : Input) → accepted i ≡ true → accepted j ≡ true → i.mode ≡ j.mode → contours i.colours i.coords i.ends ≡ contours j.colours j.coords j.ends
    → (x y : ℕ) → x < i.width → y < i.height → x < j.width → y < j.height → has_corner (get_or (stencil_after i) (cell i.width x y) 0) ≡ has_corner (get_or (stencil_after j) (cell j.width x y) 0)
corners_alone i j p q m o x y inX inY inX' inY' = texel_corner i p x y inX inY ∙ cornered_same i j m o x y ∙ sym (texel_corner j q x y inX' inY')

-- Every texel that a corner protects one protects with more outlines.
pub cornered_grows : (i j : Input) → MoreOutlines i j → (x y : ℕ) → cornered i x y ≡ true → cornered j x y ≡ true
unfolding cornered
cornered_grows i j s x y = and_implies (eqb i.mode edge_priority) _ (eqb j.mode edge_priority) _ (λ e. eq-eqb j.mode edge_priority s.second) (λ e. corners_protect_grows _ _ s.outlines x y)

-- Of two EdgePriority passes, the second with every outline of the first in its order, the corner cells of the second include those of the first: at each texel that both bitmaps have.
pub corners_grow : (i j : Input) → MoreOutlines i j → accepted i ≡ true → accepted j ≡ true → (x y : ℕ) → x < i.width → y < i.height → x < j.width → y < j.height
    → has_corner (get_or (stencil_after i) (cell i.width x y) 0) ≡ true → has_corner (get_or (stencil_after j) (cell j.width x y) 0) ≡ true
corners_grow i j s p q x y inX inY inX' inY' e = texel_corner j q x y inX' inY' ∙ cornered_grows i j s x y (sym (texel_corner i p x y inX inY) ∙ e)

-- The same at each cell, of two bitmaps of one size.
pub cells_grow : (i j : Input) → MoreOutlines i j → i.width ≡ j.width → i.height ≡ j.height → accepted i ≡ true → accepted j ≡ true → (k : ℕ) → has_corner (get_or (stencil_after i) k 0) ≡ true → has_corner (get_or (stencil_after j) k 0) ≡ true
cells_grow i j s v h p q k e =
    let l = corner_inside i p k e in
    let area : i.width * i.height ≡ j.width * j.height = rw (v, h) in
    cell_corner j q k (subst (λ (n : ℕ). k < n) area l)
    ∙ cornered_grows i j s (k % j.width) (k / j.width) (subst (λ (w : ℕ). cornered i (k % w) (k / w) ≡ true) v (sym (cell_corner i p k l) ∙ e))

-- The same of whatever two passes answer and leave, if both answer 0.
pub runs_corners : (i j : Input) → MoreOutlines i j → i.width ≡ j.width → i.height ≡ j.height → (r r' : Answer) (st st' : List ℕ) → Answers i r → st ≡ stencil_after i → Answers j r' → st' ≡ stencil_after j → number_of r ≡ 0 → number_of r' ≡ 0 → (k : ℕ) → has_corner (get_or st k 0) ≡ true → has_corner (get_or st' k 0) ≡ true
runs_corners i j s v h r r' st st' a b a' b' n n' k e =
    ap (λ (z : List ℕ). has_corner (get_or z k 0)) b'
    ∙ cells_grow i j s v h (zero_accepts i r a n) (zero_accepts j r' a' n') k (ap (λ (z : List ℕ). has_corner (get_or z k 0)) (sym b) ∙ e)

-- The same of two runs of `msdf_error_correction` that answer 0: each keeps the promise as it is read from the source, of the arguments a, the answer z and the arguments at exit e, of which the stencil is the fifth.
pub promise_corners : (κs κs' : Lfts 6) (a : Dens κs ps) (a' : Dens κs' ps) (z z' : _) (e e' : _) → entry.Post κs a z e → entry.Post κs' a' z' e' → MoreOutlines (given κs a) (given κs' a') → (given κs a).width ≡ (given κs' a').width → (given κs a).height ≡ (given κs' a').height → number_of z ≡ 0 → number_of z' ≡ 0 → (k : ℕ) → has_corner (get_or e.1.1.1.1.0.now k 0) ≡ true → has_corner (get_or e'.1.1.1.1.0.now k 0) ≡ true
promise_corners κs κs' a a' z z' e e' p p' s v h n n' k =
    runs_corners (given κs a) (given κs' a') s v h z z' e.1.1.1.1.0.now e'.1.1.1.1.0.now p.0 p.1.0 p'.0 p'.1.0 n n' k

-- With more outlines a bitmap of the same size has no fewer corner cells.
pub counts_grow : (i j : Input) → MoreOutlines i j → i.width ≡ j.width → i.height ≡ j.height → accepted i ≡ true → accepted j ≡ true → corner_count (stencil_after i) ≤ corner_count (stencil_after j)
counts_grow i j s v h p q =
    let area : i.width * i.height ≡ j.width * j.height = rw (v, h) in
    corner_falls (stencil_after i) (stencil_after j) (stencil_length i p ∙ area ∙ sym (stencil_length j q)) (cells_grow i j s v h p q)
