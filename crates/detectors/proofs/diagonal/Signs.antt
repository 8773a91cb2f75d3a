-- Where a pair's three differences are of one sign and of good size none of its roots is inside. Assumes nothing.
--     rising         none of them is below zero, and each is of such a size
--     none_rising    so none of the roots is inside
--     none_falling   nor where it is so of the negatives: none is above zero
use Rattle.std.proofs.Common.{◌≡◌, Bool, true, false, ◌&&◌, ◌||◌, T, ◌⊎◌, inl, inr}
use lib.Ieee.{Float, binary32, neg, le, eq, fits, of_bits}
use lib.Ieee.Fits.{neg-fits, and_l, and_r}
use Rattle.numbers.proofs.Laws.Order.{nought}
use Rattle.ground.specs.Lists.{some}
use Rattle.ground.proofs.Laws.Bools.{holds}
use Rattle.detectors.specs.Pairs.{inside}
use Rattle.detectors.specs.Diagonal.{quadratic_roots}
use Rattle.detectors.specs.Inner.{ample}
use Rattle.detectors.proofs.orders.Pairs.{least, most, most_middle, Sized, Sorted, quadratic_outside}
use Rattle.detectors.proofs.orders.Mirror.{quadratic_outside_neg}

-- of a pair's three differences, of a, of b and c, and of d, none is below zero, and each is of a size at which the pair has no root inside then
unfoldable pub rising : Float → Float → Float → Bool
rising A B D = ample A && (ample D && (le nought B && (le B most_middle && ((eq B nought || le least B) || (le least A && le least D)))))

either : (a b : Bool) → T (a || b) → T a ⊎ T b
either true b h = inl tt
either false b h = inr h

both : (a b : Bool) → T (a && b) → T a × T b
both a b h = (and_l a b h, and_r a b h)

-- an ample difference
ample_sized : (d : Float) → T (ample d) → Sized d × T (le d most)
unfolding of_bits
ample_sized d h =
    let k = both (eq d nought || le least d) (le d most) h in
    (either (eq d nought) (le least d) k.0, k.1)

-- what the tests say of three differences
sorted : (A B D : Float) → T (fits binary32 A) → T (fits binary32 B) → T (fits binary32 D) → rising A B D ≡ true → Sorted A B D
unfolding rising of_bits
sorted A B D f g k h =
    let large = (eq B nought || le least B) || (le least A && le least D) in
    let a = both (ample A) (ample D && (le nought B && (le B most_middle && large))) (holds _ h) in
    let d = both (ample D) (le nought B && (le B most_middle && large)) a.1 in
    let b = both (le nought B) (le B most_middle && large) d.1 in
    let m = both (le B most_middle) large b.1 in record {
      A_fits = f;
      B_fits = g;
      D_fits = k;
      A_sized = (ample_sized A a.0).0;
      A_most = (ample_sized A a.0).1;
      B_least = b.0;
      B_most = m.0;
      D_sized = (ample_sized D d.0).0;
      D_most = (ample_sized D d.0).1;
      middle = elim (either (eq B nought || le least B) (le least A && le least D) m.1) [
        | inl e ↦ inl (either (eq B nought) (le least B) e)
        | inr e ↦ inr (both (le least A) (le least D) e)
      ];
    }

module _ (A B D : Float) (f : T (fits binary32 A)) (g : T (fits binary32 B)) (k : T (fits binary32 D)) where
  pub none_rising : rising A B D ≡ true → some inside (quadratic_roots A B D) ≡ false
  none_rising h = quadratic_outside A B D (sorted A B D f g k h)

  pub none_falling : rising (neg A) (neg B) (neg D) ≡ true → some inside (quadratic_roots A B D) ≡ false
  none_falling h = quadratic_outside_neg A B D (sorted (neg A) (neg B) (neg D) (neg-fits binary32 A f) (neg-fits binary32 B g) (neg-fits binary32 D k) h)
