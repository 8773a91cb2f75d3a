-- What the inner functions ask of each other and leave for each other. No public function's promise rests on this page. Definitions only.
use Rattle.std.specs.Prelude.{◌≡◌, ℕ, ◌+◌, Bool, true, false, cond, ◌&&◌, ◌||◌, ◌⊎◌, List, [], pos, negsuc, nat_le, Float}
use Rattle.std.specs.Float.{binary32, binary64, fin}
use Rattle.std.specs.Float.Ieee.{lt, le, eq}
use Rattle.numbers.specs.Constants.{zero_of, one_of}
use Rattle.ranges.specs.Classifier.{range_test}
use Rattle.detectors.specs.Texel.{channel}
use Rattle.detectors.specs.Pairs.{mixed_channel, mixed_median}
use Rattle.detectors.specs.Edge.{edge_point}
use Rattle.detectors.specs.Diagonal.{turns, turning_test}
use Rattle.detectors.specs.Discriminant.{normal_pair_roots}
use Rattle.detectors.specs.Orders.{NoRoot, doubted}

-- a difference that is zero or from 2^-7 to 2^12
abbrev pub ample : Float → Bool
ample d = (eq d (zero_of binary32) || le (fin false 1 (negsuc 6)) d) && le d (fin false 1 (pos 12))

-- the roots of pair p: those by the root without branches, or none where none is inside
abbrev pub Sought : List (List Float) → ℕ → List Float → Type 0
Sought m p ts = (ts ≡ normal_pair_roots m p) ⊎ (ts ≡ []) × NoRoot m p

-- those that are tried: none where the pair is not in doubt
abbrev pub Tried : ℕ → List (List Float) → ℕ → List Float → Type 0
Tried bits m p ts = ((doubted bits p ≡ true) × Sought m p ts) ⊎ ((doubted bits p ≡ false) × (ts ≡ []))

-- the verdict of what was tried before and what comes next, which is not tried where there is an artifact
abbrev pub or_else : ℕ → ℕ → ℕ
or_else before next = cond (nat_le 128 before) before (before + next)

-- the range tests of a root t whose median is xm, and how many they are, where the pair's channels turn at e and f
abbrev pub root_verdict : Float → Bool → Float → Float → List (List Float) → Float → Float → Float → Float → Bool
root_verdict span protected am dm m t xm e f =
    range_test span protected (zero_of binary64) (one_of binary64) t am dm xm || (turning_test span protected am dm m t xm e || turning_test span protected am dm m t xm f)

abbrev pub root_count : Float → Float → ℕ
root_count e f = 1 + cond (turns e) 1 0 + cond (turns f) 1 0

-- channel i crosses the outline strictly between a and b, and is the median of the three where it does
abbrev pub crossed : List Float → List Float → ℕ → Bool
crossed a b i = let t = edge_point (channel a i) (channel b i) in lt (zero_of binary64) t && lt t (one_of binary64)

abbrev pub carried : List Float → List Float → ℕ → Bool
carried a b i = let t = edge_point (channel a i) (channel b i) in eq (mixed_median a b t) (mixed_channel a b t i)
