-- Texels too far from the outline for any pair to protect: a size is at most its rounded sum with another. Assumes nothing.
use mathlib.Core.Path.{◌≡◌, refl, sym, ◌∙◌, ap, subst}
use mathlib.Core.Bool.{Bool, true, false, not, ◌||◌, and-false}
use mathlib.Core.List.{List}
use Prim.Native.Nat.{ℕ, ◌+◌, ◌-◌}
use lib.Dec.{T}
use lib.Ieee.{Float, binary32, lt, le, add, sub, is_nan, fits}
use lib.Ieee.Fits.{sub-fits}
use Rattle.ranges.specs.Constants.{half_of}
use Rattle.numbers.specs.Scalar.{abs_of}
use Rattle.numbers.proofs.Laws.Order as Order
use Rattle.numbers.proofs.Laws.Order.{nought, abs_fits}
use Rattle.numbers.proofs.Laws.Monotone.{add_comm, number_first, number_second, add_mono_right}
use Rattle.numbers.proofs.Laws.Exact.{add_zero_eq}
use Rattle.detectors.specs.Texel.{texel_median}
use Rattle.detectors.specs.Edge.{near, pair_protects, protects_lower, protects_upper}
use Rattle.correction.specs.Edges.{as_lower, as_upper, some_lower, some_upper, some_edge}
use Rattle.correction.specs.Inner.{protects_as, as_either, some_of}
use Rattle.ground.proofs.Laws.Bools.{holds, held, both_fail}

-- how far a median is from the outline
abbrev pub distance : Float → Float
distance m = abs_of (sub binary32 m (half_of binary32))

-- ---- sums of sizes
-- a value is at most its sum with a size, rounded
le_add : (x y : Float) → T (fits binary32 x) → T (not (is_nan (add binary32 x (abs_of y)))) → T (le x (add binary32 x (abs_of y)))
le_add x y i n =
    let p = number_first binary32 x (abs_of y) n in
    let q = subst (λ (b : Bool). T (not b)) (Order.abs_number y) (number_second binary32 x (abs_of y) n) in
    let e = add_zero_eq binary32 x false i p in
    Order.le_trans x (add binary32 x nought) (add binary32 x (abs_of y)) (Order.ge_of_eq (add binary32 x nought) x e)
    (add_mono_right binary32 x nought (abs_of y) (Order.abs_not_negative y q) (Order.number_left (add binary32 x nought) x (Order.le_of_eq (add binary32 x nought) x e)) n)

-- ---- pairs
refuted : (a b : Bool) → (a ≡ true → b ≡ true) → b ≡ false → a ≡ false
refuted true b f p = sym (f refl) ∙ p
refuted false b f p = refl

within_left : (r am bm : Float) → near r am bm ≡ true → lt (distance am) r ≡ true
unfolding near
within_left r am bm p =
    let a = distance am in
    let s = add binary32 a (distance bm) in
    let h = holds (lt s r) p in
    held (lt a r)
    (Order.lt_of_le_of_lt a s r
    (le_add a (sub binary32 bm (half_of binary32)) (abs_fits binary32 (sub binary32 am (half_of binary32)) (sub-fits binary32 am (half_of binary32))) (Order.number_left s r (Order.le_of_lt s r h)))
    h)

near_comm : (r am bm : Float) → near r am bm ≡ near r bm am
unfolding near
near_comm r am bm = ap (λ (v : Float). lt v r) (add_comm binary32 (distance am) (distance bm))

far_left : (r am bm : Float) → lt (distance am) r ≡ false → near r am bm ≡ false
far_left r am bm = refuted (near r am bm) (lt (distance am) r) (within_left r am bm)

far_right : (r am bm : Float) → lt (distance bm) r ≡ false → near r am bm ≡ false
far_right r am bm p = near_comm r am bm ∙ far_left r bm am p

-- A pair does not protect a texel whose median is not within its radius.
far_pair : (lower : Bool) (r : Float) (a n : List Float) → lt (distance (texel_median a)) r ≡ false → protects_as lower r a n ≡ false
unfolding protects_as protects_lower protects_upper pair_protects
far_pair true r a n p = rw (far_left r (texel_median a) (texel_median n) p)
far_pair false r a n p = rw (far_right r (texel_median n) (texel_median a) p)

-- ---- all pairs of a texel
pub no_pair : (lower : Bool) (tex : ℕ → ℕ → List Float) (w h : ℕ) (r : Float) (x y nx ny : ℕ) → lt (distance (texel_median (tex x y))) r ≡ false → as_either lower tex w h r x y nx ny ≡ false
unfolding as_either
no_pair lower tex w h r x y nx ny p = rw (far_pair lower r (tex x y) (tex (nx - 1) (ny - 1)) p, and-false)

-- the pairs in which the texel is the lower one, and those in which it is the other one
pub lower_half : (tex : ℕ → ℕ → List Float) (w h : ℕ) (rh rv rd : Float) (x y : ℕ) → some_of true tex w h rh rv rd x y (x + 2) x (y + 2) ≡ some_lower tex w h rh rv rd x y
unfolding some_of as_either protects_as some_lower as_lower
lower_half tex w h rh rv rd x y = refl

pub upper_half : (tex : ℕ → ℕ → List Float) (w h : ℕ) (rh rv rd : Float) (x y : ℕ) → some_of false tex w h rh rv rd x y x (x + 2) y ≡ some_upper tex w h rh rv rd x y
unfolding some_of as_either protects_as some_upper as_upper
upper_half tex w h rh rv rd x y = refl

-- No pair protects a texel whose median is d away where d is below none of the three radii.
pub far_edge : (tex : ℕ → ℕ → List Float) (w h : ℕ) (rh rv rd : Float) (x y : ℕ) (d : Float) → d ≡ distance (texel_median (tex x y)) → (lt d rh || lt d rv || lt d rd) ≡ false → some_edge tex w h rh rv rd x y ≡ false
unfolding some_edge
far_edge tex w h rh rv rd x y d e p = rw (sym (lower_half tex w h rh rv rd x y), sym (upper_half tex w h rh rv rd x y), none true (x + 2) x (y + 2), none false x (x + 2) y)
  where
    second : ((lt d rh || lt d rv) ≡ false) × (lt d rd ≡ false)
    second = both_fail (lt d rh || lt d rv) (lt d rd) p

    first : (lt d rh ≡ false) × (lt d rv ≡ false)
    first = both_fail (lt d rh) (lt d rv) second.0

    not_below : (r : Float) → lt d r ≡ false → lt (distance (texel_median (tex x y))) r ≡ false
    not_below r f = ap (λ (z : Float). lt z r) (sym e) ∙ f

    none : (lower : Bool) (ahead behind level : ℕ) → some_of lower tex w h rh rv rd x y ahead behind level ≡ false
    none lower ahead behind level =
        unfold some_of in
        let fd = not_below rd second.1 in
        rw (no_pair lower tex w h rh x y ahead (y + 1) (not_below rh first.0), no_pair lower tex w h rv x y (x + 1) level (not_below rv first.1), no_pair lower tex w h rd x y ahead level fd, no_pair lower tex w h rd x y behind level fd)
