-- The texel view: all channels of texel x, y, of the corrected bitmap where the error flag is set, which is bit 1 whatever else is, otherwise of the original. Definitions only.
use Rattle.std.specs.Prelude.{ℕ, ◌+◌, ◌*◌, Bool, false, cond, ◌&&◌, List, get_or, length, take, drop, eqb, ltb, Float}
use Rattle.std.specs.Borrow.{Bor}
use Rattle.correction.specs.Bitmap.{cell}
use Rattle.inputs.specs.Stencil.{is_error}
use Rattle.inputs.specs.Checks.{size_refusal}

-- checks 1 to 4 pass for both bitmaps, and x, y is inside
unfoldable pub viewable : ℕ → ℕ → ℕ → ℕ → ℕ → ℕ → ℕ → ℕ → Bool
viewable w h ch original corrected stencil x y = eqb (size_refusal w h ch original stencil) 0 && (eqb (size_refusal w h ch corrected stencil) 0 && (ltb x w && ltb y h))

-- a part of one of two bitmaps: which one, its first sample there, and how many samples
pub record Part : Type 0 where
  pub of_corrected : Bool
  pub start : ℕ
  pub count : ℕ

-- an empty part of the original
abbrev pub empty : Part
empty = record { of_corrected = false; start = 0; count = 0 }

-- all channels of cell k
abbrev pub channels_of : Bool → ℕ → ℕ → Part
channels_of corrected ch k = record { of_corrected = corrected; start = k * ch; count = ch }

-- the part that is viewed, of bitmaps of so many samples
unfoldable pub viewed : ℕ → ℕ → List ℕ → ℕ → ℕ → ℕ → ℕ → ℕ → Part
viewed original corrected stencil w h ch x y =
    cond (viewable w h ch original corrected (length stencil) x y) (channels_of (is_error (get_or stencil (cell w x y) 0)) ch (cell w x y)) empty

-- of what there is for each of the two bitmaps, what is of the part's
abbrev pub bitmap_of : {A : Type 0} → Part → A → A → A
bitmap_of p original corrected = cond p.of_corrected corrected original

-- the place of sample k of a bitmap that lies at b, a block and an offset in bytes: a sample has four
abbrev pub sample_at : ℕ × ℕ → ℕ → ℕ × ℕ
sample_at b k = (b.0, k * 4 + b.1)

-- the samples of the view
abbrev pub view_of : List Float → List Float → List ℕ → ℕ → ℕ → ℕ → ℕ → ℕ → List Float
view_of original corrected stencil w h ch x y =
    let p = viewed (length original) (length corrected) stencil w h ch x y in
    take p.count (drop p.start (bitmap_of p original corrected))

-- the place of the view
abbrev pub view_place : Bor (List Float) → Bor (List Float) → List ℕ → ℕ → ℕ → ℕ → ℕ → ℕ → ℕ × ℕ
view_place original corrected stencil w h ch x y =
    let p = viewed (length original.now) (length corrected.now) stencil w h ch x y in
    sample_at (bitmap_of p original.ref_ptr corrected.ref_ptr) p.start
