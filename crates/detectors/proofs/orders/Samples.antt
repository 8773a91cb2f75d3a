-- From the samples of four texels to their differences: what a classification of each texel by itself has to say. Assumes nothing.
use Rattle.std.proofs.Common.{◌≡◌, ℕ, false, T, ◌⊎◌, pos, subst, lit≤}
use lib.Ieee.{Float, binary32, fin, add, sub, neg, le, fits}
use lib.Ieee.Fits.{neg-fits, sub-fits}
use Rattle.numbers.proofs.Laws.Order as Order
use Rattle.numbers.proofs.Laws.Order.{nought, IsFinite}
use Rattle.numbers.proofs.Laws.Monotone.{add_number, sub_number, add_comm, add_mono_left, sub_not_negative}
use Rattle.numbers.proofs.Laws.Exact.{add_zero_eq}
use Rattle.numbers.proofs.Laws.Bounds.{Within, within_finite, le_of_within, neg_within, add_within, sub_within}
use Rattle.ground.specs.Lists.{some}
use Rattle.detectors.specs.Pairs.{inside}
use Rattle.detectors.specs.Diagonal.{quadratic_roots}
use Rattle.detectors.proofs.orders.Outside.{sub_not_positive}
use Rattle.detectors.proofs.orders.Pairs.{least, Sized, grown, quadratic_outside}
use Rattle.detectors.proofs.orders.Mirror.{quadratic_outside_neg}

-- The difference of b and c together, as the diagonal detector takes it: b_j − b_p + c_j − c_p.
abbrev pub together : Float → Float → Float → Float → Float
together bp bj cp cj = sub binary32 (add binary32 (sub binary32 bj bp) cj) cp

-- samples of binary32 of at most 2 ^ 11 in size
pub record Sample (x : Float) : Type 0 where
  pub fit : T (fits binary32 x)
  pub within : Within 11 x

pub finite_of : (x : Float) → Sample x → IsFinite x
finite_of x h = within_finite 11 x h.within

pub difference_within : (x y : Float) → Sample x → Sample y → Within 12 (sub binary32 x y)
difference_within x y h k = sub_within binary32 11 11 11 x y (lit≤ tt) (lit≤ tt) (lit≤ tt) h.within k.within

pub sum_within : (bp bj cp cj : Float) → Sample bp → Sample bj → Sample cp → Sample cj → Within 13 (add binary32 (sub binary32 bj bp) cj)
sum_within bp bj cp cj p q r s = add_within binary32 12 11 12 (sub binary32 bj bp) cj (lit≤ tt) (lit≤ tt) (lit≤ tt) (difference_within bj bp q p) s.within

together_within : (bp bj cp cj : Float) → Sample bp → Sample bj → Sample cp → Sample cj → Within 14 (together bp bj cp cj)
together_within bp bj cp cj p q r s = sub_within binary32 13 11 13 (add binary32 (sub binary32 bj bp) cj) cp (lit≤ tt) (lit≤ tt) (lit≤ tt) (sum_within bp bj cp cj p q r s) r.within

within_le : (k : ℕ) (x : Float) → Within k x → T (le x (fin false 1 (pos k)))
within_le k x h = Order.le_of_abs_le x (fin false 1 (pos k)) (le_of_within k x h)

-- Where neither texel's pair falls, b and c together do not fall.
together_positive : (bp bj cp cj : Float) → Sample bp → Sample bj → Sample cp → Sample cj → T (le bp bj) → T (le cp cj) → T (le nought (together bp bj cp cj))
together_positive bp bj cp cj p q r s h k =
    let x = sub binary32 bj bp in
    let i = within_finite 12 x (difference_within bj bp q p) in
    let j = finite_of cj s in
    let up : T (le cj (add binary32 x cj)) = subst (λ (z : Float). T (le cj z)) (add_comm binary32 cj x) (grown binary32 cj x j s.fit i (sub_not_negative binary32 bj bp h (sub_number binary32 bj bp (finite_of bj q) (finite_of bp p)))) in
    sub_not_negative binary32 (add binary32 x cj) cp (Order.le_trans cp cj (add binary32 x cj) k up) (sub_number binary32 (add binary32 x cj) cp (within_finite 13 (add binary32 x cj) (sum_within bp bj cp cj p q r s)) (finite_of cp r))

-- Where neither rises, they do not rise.
together_negative : (bp bj cp cj : Float) → Sample bp → Sample bj → Sample cp → Sample cj → T (le bj bp) → T (le cj cp) → T (le (together bp bj cp cj) nought)
together_negative bp bj cp cj p q r s h k =
    let x = sub binary32 bj bp in
    let i = within_finite 12 x (difference_within bj bp q p) in
    let j = finite_of cj s in
    let down : T (le (add binary32 x cj) cj) = fallen x cj i j s.fit (sub_not_positive binary32 bj bp (finite_of bj q) (finite_of bp p) h) in
    sub_not_positive binary32 (add binary32 x cj) cp (within_finite 13 (add binary32 x cj) (sum_within bp bj cp cj p q r s)) (finite_of cp r) (Order.le_trans (add binary32 x cj) cj cp down k)
  where
    fallen : (x c : Float) → IsFinite x → IsFinite c → T (fits binary32 c) → T (le x nought) → T (le (add binary32 x c) c)
    fallen x c i j f l =
        Order.le_trans (add binary32 x c) (add binary32 nought c) c (add_mono_left binary32 x nought c l (add_number binary32 x c i j) (add_number binary32 nought c tt j))
        (subst (λ (z : Float). T (le z c)) (add_comm binary32 c nought) (Order.le_of_eq (add binary32 c nought) c (add_zero_eq binary32 c false f (Order.finite_number c j))))

-- ---- four texels, channels p and j of each: a, its neighbours b and c, and d
module _ (ap aj bp bj cp cj dp dj : Float) (Ap : Sample ap) (Aj : Sample aj) (Bp : Sample bp) (Bj : Sample bj) (Cp : Sample cp) (Cj : Sample cj) (Dp : Sample dp) (Dj : Sample dj) where
  abbrev A : Float
  A = sub binary32 aj ap

  abbrev D : Float
  D = sub binary32 dj dp

  abbrev M : Float
  M = together bp bj cp cj

  -- No pair falls: the outer differences are 0 or at least 2 ^ -7, and so is the middle one where one of them is 0.
  pub rising_outside : T (le bp bj) → T (le cp cj) → Sized A → Sized D → Sized M ⊎ (T (le least A) × T (le least D)) → some inside (quadratic_roots A M D) ≡ false
  rising_outside b c a d m =
      quadratic_outside A M D
      (record {
        A_fits = sub-fits binary32 aj ap;
        B_fits = sub-fits binary32 (add binary32 (sub binary32 bj bp) cj) cp;
        D_fits = sub-fits binary32 dj dp;
        A_sized = a;
        A_most = within_le 12 A (difference_within aj ap Aj Ap);
        B_least = together_positive bp bj cp cj Bp Bj Cp Cj b c;
        B_most = within_le 14 M (together_within bp bj cp cj Bp Bj Cp Cj);
        D_sized = d;
        D_most = within_le 12 D (difference_within dj dp Dj Dp);
        middle = m;
      })

  -- No pair rises: the same of the negatives.
  pub falling_outside : T (le bj bp) → T (le cj cp) → Sized (neg A) → Sized (neg D) → Sized (neg M) ⊎ (T (le least (neg A)) × T (le least (neg D))) → some inside (quadratic_roots A M D) ≡ false
  falling_outside b c a d m =
      quadratic_outside_neg A M D
      (record {
        A_fits = neg-fits binary32 A (sub-fits binary32 aj ap);
        B_fits = neg-fits binary32 M (sub-fits binary32 (add binary32 (sub binary32 bj bp) cj) cp);
        D_fits = neg-fits binary32 D (sub-fits binary32 dj dp);
        A_sized = a;
        A_most = within_le 12 (neg A) (neg_within 12 A (difference_within aj ap Aj Ap));
        B_least = Order.le_trans nought (neg nought) (neg M) (unfold le neg in tt) (Order.le_neg M nought (together_negative bp bj cp cj Bp Bj Cp Cj b c));
        B_most = within_le 14 (neg M) (neg_within 14 M (together_within bp bj cp cj Bp Bj Cp Cj));
        D_sized = d;
        D_most = within_le 12 (neg D) (neg_within 12 D (difference_within dj dp Dj Dp));
        middle = m;
      })
