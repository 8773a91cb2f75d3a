-- The range test of xt between at and bt, where the medians are xm, am and bm. Definitions only.
use Rattle.std.specs.Prelude.{Bool, not, ◌&&◌, ◌||◌, List, [], ◌∷◌, Float}
use Rattle.std.specs.Float.{binary32, binary64}
use Rattle.std.specs.Float.Ieee.{lt, le, ne, add, sub, mul}
use Rattle.ranges.specs.Constants.{half_of}
use Rattle.numbers.specs.Scalar.{median_of}

-- am and bm > 0.5 with xm ≤ 0.5
unfoldable pub falls_below : Float → Float → Float → Bool
falls_below am bm xm = lt (half_of binary32) am && (lt (half_of binary32) bm && le xm (half_of binary32))

-- am and bm < 0.5 with xm ≥ 0.5
unfoldable pub rises_above : Float → Float → Float → Bool
rises_above am bm xm = lt am (half_of binary32) && (lt bm (half_of binary32) && le (half_of binary32) xm)

-- the texel is unprotected and the median of am, bm, xm isn't xm
unfoldable pub lies_outside : Bool → Float → Float → Float → Bool
lies_outside protected am bm xm = not protected && ne (median_of am bm xm) xm

-- a candidate
unfoldable pub candidate : Bool → Float → Float → Float → Bool
candidate protected am bm xm = falls_below am bm xm || (rises_above am bm xm || lies_outside protected am bm xm)

-- x lies, ends included, within m ± d, in f64
unfoldable pub within : Float → Float → Float → Bool
within x m d = le (sub binary64 m d) x && le x (add binary64 m d)

-- xm lies within am ± (xt−at)·span and bm ± (bt−xt)·span
unfoldable pub in_range : Float → Float → Float → Float → Float → Float → Float → Bool
in_range span at bt xt am bm xm = within xm am (mul binary64 (sub binary64 xt at) span) && within xm bm (mul binary64 (sub binary64 bt xt) span)

-- A candidate is an artifact unless xm lies in range.
unfoldable pub range_test : Float → Bool → Float → Float → Float → Float → Float → Float → Bool
range_test span protected at bt xt am bm xm = candidate protected am bm xm && not (in_range span at bt xt am bm xm)

-- the values that the range test compares: the three medians, 0.5 and the median of the three, and the ends of both ranges
unfoldable pub compared : Float → Float → Float → Float → Float → Float → Float → List Float
compared span at bt xt am bm xm =
    let d = mul binary64 (sub binary64 xt at) span in
    let e = mul binary64 (sub binary64 bt xt) span in
    am ∷ bm ∷ xm ∷ half_of binary32 ∷ median_of am bm xm ∷ sub binary64 am d ∷ add binary64 am d ∷ sub binary64 bm e ∷ add binary64 bm e ∷ []
