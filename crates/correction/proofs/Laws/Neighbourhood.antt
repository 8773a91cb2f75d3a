-- The verdict on a texel depends on nothing but its 3 x 3 neighbourhood, its own protected bit, and the three spans: not on the bitmap's size, nor on where in it the texel stands. Assumes nothing.
--     has_artifact_alike       of the definition of a verdict
--     flags_alike              of that of a flag
--     errors_alike             of what an accepted pass leaves in the stencil
--     promise_neighbourhood    of two runs of the public function, by its promise
use mathlib.Core.Path.{◌≡◌, refl, sym, ◌∙◌, ap}
use mathlib.Core.Bool.{Bool, true}
use mathlib.Core.List.{List}
use Prim.Native.Nat.{ℕ, ◌+◌, ◌-◌, ◌*◌, ◌<◌, ◌≤◌}
use native.Mathlib.Nat.{mul_comm}
use native.Mathlib.Omega.{arith}
use lib.Arith.{digits_lt, digits_div, digits_mod}
use lib.Dec.{eqb}
use lib.ListN.{get_or}
use lib.Ieee.{Float}
use contract.Lifetimes.{Lfts}
use borrow.Fn.Kinds.{Dens}
use borrow.Author.Tests.{lt-ltb, le-leb}
use Rattle.ground.proofs.Laws.Bools.{guarded}
use Rattle.ranges.specs.declared.config.Settings.{Settings}
use Rattle.correction.specs.Bitmap.{cell}
use Rattle.inputs.specs.Bounds.{in_bounds}
use Rattle.inputs.specs.Stencil.{has_corner, is_protected, is_error}
use Rattle.ranges.specs.Config.{disabled}
use Rattle.inputs.specs.Checks.{Input, accepted}
use Rattle.detectors.specs.Linear.{has_linear_artifact}
use Rattle.correction.specs.Errors.{side_artifact, some_side, diagonal_artifact, some_diagonal, some_artifact, has_artifact}
use Rattle.correction.specs.Neighbourhood.{SameAround, SameSpans}
use Rattle.correction.specs.Pass.{texels, cornered, protects, flags, number_of, stencil_after}
use Rattle.inputs.proofs.Laws.Bounds.{inside}
use Rattle.correction.proofs.pass.msdf_error_correction.Kinds.{ps}
use Rattle.correction.proofs.pass.msdf_error_correction.Reads as entry
use Rattle.correction.proofs.Laws.Answer.{zero_accepts}
use Rattle.correction.proofs.Laws.Leaves.{cell_error, cell_protected, cell_corner, given}

within : (w h nx ny : ℕ) → 0 < nx → nx ≤ w → 0 < ny → ny ≤ h → in_bounds w h nx ny ≡ true
unfolding in_bounds
within w h nx ny a b c d = simp (lt-ltb 0 nx a, le-leb nx w b, lt-ltb 0 ny c, le-leb ny h d)

module _ (tex : ℕ → ℕ → List Float) (w h x y : ℕ) (tex' : ℕ → ℕ → List Float) (w' h' x' y' : ℕ) (inX : x < w) (inY : y < h) (near : SameAround tex w h x y tex' w' h' x' y') where
  -- neighbour dx, dy, where it is inside, by its column and row in each bitmap
  agree : (dx dy a b a' b' : ℕ) → dx ≤ 2 → dy ≤ 2 → 0 < x + dx → x + dx ≤ w → 0 < y + dy → y + dy ≤ h → a ≡ x + dx - 1 → b ≡ y + dy - 1 → a' ≡ x' + dx - 1 → b' ≡ y' + dy - 1 → tex a b ≡ tex' a' b'
  agree dx dy a b a' b' p q k l m n e f g i = rw (e, f, g, i) (near.texels dx dy p q (within w h (x + dx) (y + dy) k l m n))

  same_texel : tex x y ≡ tex' x' y'
  same_texel = agree 1 1 x y x' y' (omega arith) (omega arith) (omega arith) (omega arith) (omega arith) (omega arith) (omega arith) (omega arith) (omega arith) (omega arith)

  side_same : (span : Float) (protected : Bool) (m : Float) (c : List Float) (dx dy nx ny nx' ny' : ℕ) → dx ≤ 2 → dy ≤ 2 → nx ≡ x + dx → ny ≡ y + dy → nx' ≡ x' + dx → ny' ≡ y' + dy → side_artifact tex w h span protected m c nx ny ≡ side_artifact tex' w' h' span protected m c nx' ny'
  unfolding side_artifact
  side_same span protected m c dx dy nx ny nx' ny' p q e f g i =
      rw (e, f, g, i)
      (guarded (in_bounds w h (x + dx) (y + dy)) (in_bounds w' h' (x' + dx) (y' + dy)) _ _ (near.inside dx dy p q)
      (λ b. ap (has_linear_artifact span protected m c) (near.texels dx dy p q b)))

  diagonal_same : (span : Float) (protected : Bool) (m : Float) (c : List Float) (dx dy nx ny nx' ny' : ℕ) → dx ≤ 2 → dy ≤ 2 → nx ≡ x + dx → ny ≡ y + dy → nx' ≡ x' + dx → ny' ≡ y' + dy → diagonal_artifact tex w h span protected m c x y nx ny ≡ diagonal_artifact tex' w' h' span protected m c x' y' nx' ny'
  unfolding diagonal_artifact
  diagonal_same span protected m c dx dy nx ny nx' ny' p q e f g i =
      rw (e, f, g, i)
      (guarded (in_bounds w h (x + dx) (y + dy)) (in_bounds w' h' (x' + dx) (y' + dy)) _ _ (near.inside dx dy p q)
      (λ b.
      let k = inside w h (x + dx) (y + dy) b in
      rw (agree dx 1 (x + dx - 1) y (x' + dx - 1) y' p (omega arith) k.from_left k.to_right (omega arith) (omega arith) refl (omega arith) refl (omega arith), agree 1 dy x (y + dy - 1) x' (y' + dy - 1) (omega arith) q (omega arith) (omega arith) k.from_low k.to_high (omega arith) refl (omega arith) refl, near.texels dx dy p q b)))

  some_side_same : (hs vs : Float) (protected : Bool) (m : Float) (c : List Float) → some_side tex w h hs vs protected m c x y ≡ some_side tex' w' h' hs vs protected m c x' y'
  unfolding some_side
  some_side_same hs vs protected m c =
      rw (at hs 0 1 x (y + 1) x' (y' + 1) (omega arith) (omega arith) (omega arith) (omega arith) (omega arith) (omega arith), at vs 1 0 (x + 1) y (x' + 1) y' (omega arith) (omega arith) (omega arith) (omega arith) (omega arith) (omega arith), at hs 2 1 (x + 2) (y + 1) (x' + 2) (y' + 1) (omega arith) (omega arith) (omega arith) (omega arith) (omega arith) (omega arith), at vs 1 2 (x + 1) (y + 2) (x' + 1) (y' + 2) (omega arith) (omega arith) (omega arith) (omega arith) (omega arith) (omega arith))
    where
      at : (span : Float) (dx dy nx ny nx' ny' : ℕ) → dx ≤ 2 → dy ≤ 2 → nx ≡ x + dx → ny ≡ y + dy → nx' ≡ x' + dx → ny' ≡ y' + dy → side_artifact tex w h span protected m c nx ny ≡ side_artifact tex' w' h' span protected m c nx' ny'
      at span = side_same span protected m c

  some_diagonal_same : (ds : Float) (protected : Bool) (m : Float) (c : List Float) → some_diagonal tex w h ds protected m c x y ≡ some_diagonal tex' w' h' ds protected m c x' y'
  unfolding some_diagonal
  some_diagonal_same ds protected m c =
      rw (at 0 0 x y x' y' (omega arith) (omega arith) (omega arith) (omega arith) (omega arith) (omega arith), at 2 0 (x + 2) y (x' + 2) y' (omega arith) (omega arith) (omega arith) (omega arith) (omega arith) (omega arith), at 0 2 x (y + 2) x' (y' + 2) (omega arith) (omega arith) (omega arith) (omega arith) (omega arith) (omega arith), at 2 2 (x + 2) (y + 2) (x' + 2) (y' + 2) (omega arith) (omega arith) (omega arith) (omega arith) (omega arith) (omega arith))
    where
      at : (dx dy nx ny nx' ny' : ℕ) → dx ≤ 2 → dy ≤ 2 → nx ≡ x + dx → ny ≡ y + dy → nx' ≡ x' + dx → ny' ≡ y' + dy → diagonal_artifact tex w h ds protected m c x y nx ny ≡ diagonal_artifact tex' w' h' ds protected m c x' y' nx' ny'
      at = diagonal_same ds protected m c

-- Two bitmaps of any sizes and a place in each: with the same neighbours inside, the same texels there, the same protected bit and the same spans the verdict is the same.
pub has_artifact_alike : (tex : ℕ → ℕ → List Float) (w h x y : ℕ) (tex' : ℕ → ℕ → List Float) (w' h' x' y' : ℕ) (s s' : Settings) (protected : Bool) → x < w → y < h → SameAround tex w h x y tex' w' h' x' y' → SameSpans s s' → has_artifact tex w h s protected x y ≡ has_artifact tex' w' h' s' protected x' y'
unfolding has_artifact some_artifact
has_artifact_alike tex w h x y tex' w' h' x' y' s s' protected inX inY near spans =
    rw (same_texel tex w h x y tex' w' h' x' y' inX inY near, spans.row, spans.column, spans.diagonal, some_side_same tex w h x y tex' w' h' x' y' inX inY near, some_diagonal_same tex w h x y tex' w' h' x' y' inX inY near)

-- So two inputs that agree at two places flag both or neither.
pub flags_alike : (i j : Input) (x y x' y' : ℕ) → x < i.width → y < i.height → SameAround (texels i) i.width i.height x y (texels j) j.width j.height x' y' → SameSpans i.settings j.settings → protects i x y ≡ protects j x' y' → eqb i.mode disabled ≡ eqb j.mode disabled → flags i x y ≡ flags j x' y'
unfolding flags
flags_alike i j x y x' y' inX inY near spans same on =
    rw (on, same, has_artifact_alike (texels i) i.width i.height x y (texels j) j.width j.height x' y' i.settings j.settings (protects j x' y') inX inY near spans)

-- ---- what the pass leaves

-- the cell of a texel inside, and back from it to the texel
cell_in_law : (w h x y : ℕ) → x < w → y < h → cell w x y < w * h
cell_in_law w h x y p q = rw (mul_comm w h) (digits_lt q p)

-- The bits of the cell of texel x, y say whether it is flagged, and whether it is protected.
pub texel_bits : (i : Input) → accepted i ≡ true → (x y : ℕ) → x < i.width → y < i.height → (is_error (get_or (stencil_after i) (cell i.width x y) 0) ≡ flags i x y) × (is_protected (get_or (stencil_after i) (cell i.width x y) 0) ≡ protects i x y)
texel_bits i p x y inX inY =
    let l = cell_in_law i.width i.height x y inX inY in
    (cell_error i p (cell i.width x y) l ∙ rw (digits_mod y inX, digits_div y inX), cell_protected i p (cell i.width x y) l ∙ rw (digits_mod y inX, digits_div y inX))

-- Its corner bit says whether a corner protects it.
pub texel_corner : (i : Input) → accepted i ≡ true → (x y : ℕ) → x < i.width → y < i.height → has_corner (get_or (stencil_after i) (cell i.width x y) 0) ≡ cornered i x y
texel_corner i p x y inX inY = cell_corner i p (cell i.width x y) (cell_in_law i.width i.height x y inX inY) ∙ rw (digits_mod y inX, digits_div y inX)

-- Two accepted passes, neither of which or both of which are Disabled, leave the same error bit at two places with the same neighbourhood, the same protected bit and the same spans.
pub errors_alike : (i j : Input) → accepted i ≡ true → accepted j ≡ true → (x y x' y' : ℕ) → x < i.width → y < i.height → x' < j.width → y' < j.height → SameAround (texels i) i.width i.height x y (texels j) j.width j.height x' y' → SameSpans i.settings j.settings → eqb i.mode disabled ≡ eqb j.mode disabled
    → is_protected (get_or (stencil_after i) (cell i.width x y) 0) ≡ is_protected (get_or (stencil_after j) (cell j.width x' y') 0)
    → is_error (get_or (stencil_after i) (cell i.width x y) 0) ≡ is_error (get_or (stencil_after j) (cell j.width x' y') 0)
errors_alike i j p q x y x' y' inX inY inX' inY' near spans on same =
    let a = texel_bits i p x y inX inY in
    let b = texel_bits j q x' y' inX' inY' in
    a.0 ∙ flags_alike i j x y x' y' inX inY near spans (sym a.1 ∙ same ∙ b.1) on ∙ sym b.0

-- The same of two runs of `msdf_error_correction` that answer 0: each keeps the promise as it is read from the source, of the arguments a, the answer z and the arguments at exit e, of which the stencil is the fifth.
pub promise_neighbourhood : (κs κs' : Lfts 6) (a : Dens κs ps) (a' : Dens κs' ps) (z z' : _) (e e' : _) → entry.Post κs a z e → entry.Post κs' a' z' e' → number_of z ≡ 0 → number_of z' ≡ 0
    → (x y x' y' : ℕ) → x < (given κs a).width → y < (given κs a).height → x' < (given κs' a').width → y' < (given κs' a').height
    → SameAround (texels (given κs a)) (given κs a).width (given κs a).height x y (texels (given κs' a')) (given κs' a').width (given κs' a').height x' y'
    → SameSpans (given κs a).settings (given κs' a').settings → eqb (given κs a).mode disabled ≡ eqb (given κs' a').mode disabled
    → is_protected (get_or e.1.1.1.1.0.now (cell (given κs a).width x y) 0) ≡ is_protected (get_or e'.1.1.1.1.0.now (cell (given κs' a').width x' y') 0)
    → is_error (get_or e.1.1.1.1.0.now (cell (given κs a).width x y) 0) ≡ is_error (get_or e'.1.1.1.1.0.now (cell (given κs' a').width x' y') 0)
promise_neighbourhood κs κs' a a' z z' e e' p p' n n' x y x' y' inX inY inX' inY' near spans on same =
    let i = given κs a in
    let j = given κs' a' in
    ap (λ (st : List ℕ). is_error (get_or st (cell i.width x y) 0)) p.1.0
    ∙ errors_alike i j (zero_accepts i z p.0 n) (zero_accepts j z' p'.0 n') x y x' y' inX inY inX' inY' near spans on
    (ap (λ (st : List ℕ). is_protected (get_or st (cell i.width x y) 0)) (sym p.1.0) ∙ same ∙ ap (λ (st : List ℕ). is_protected (get_or st (cell j.width x' y') 0)) p'.1.0)
    ∙ ap (λ (st : List ℕ). is_error (get_or st (cell j.width x' y') 0)) (sym p'.1.0)
