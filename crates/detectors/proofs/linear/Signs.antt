-- A difference whose two values are not of strictly opposite signs has no crossing inside, whatever the values are. Assumes nothing.
use Rattle.std.proofs.Common.{◌≡◌, Bool, true, false, not, ◌&&◌, ◌||◌, T, sym, refl, subst, inl, inr}
use lib.Ieee.{Float, nan, inf, fin, binary32, unlike, neg, add, sub, div, lt, le, fits, of_bits}
use Rattle.numbers.specs.Constants.{zero_of}
use Rattle.numbers.proofs.Laws.Order as Order
use Rattle.numbers.proofs.Laws.Order.{nought, IsFinite}
use Rattle.ground.proofs.Laws.Bools.{both_fail}
use Rattle.detectors.specs.Pairs.{inside}
use Rattle.detectors.specs.Linear.{crossing}
use Rattle.detectors.proofs.orders.Outside.{nan_outside, zero_outside, crossing_outside, crossing_outside_neg}

-- the values are of strictly opposite signs
abbrev pub opposite : Float → Float → Bool
opposite dA dB = (lt (zero_of binary32) dA && lt dB (zero_of binary32)) || (lt dA (zero_of binary32) && lt (zero_of binary32) dB)

-- of finite values, one that is not above another is at most that
at_most : (x y : Float) → IsFinite x → IsFinite y → lt y x ≡ false → T (le x y)
at_most x y i j h = Order.le_of_not_lt y x (Order.finite_number y j) (Order.finite_number x i) (subst (λ (b : Bool). T (not b)) (sym h) tt)

-- of finite values, by whether dA is above 0, below it, or neither
finite_same : (dA dB : Float) → T (fits binary32 dA) → IsFinite dA → IsFinite dB → opposite dA dB ≡ false → inside (crossing dA dB) ≡ false
unfolding of_bits
finite_same dA dB f i j h =
    let k = both_fail (lt nought dA && lt dB nought) (lt dA nought && lt nought dB) h in
    go (lt nought dA) (lt dA nought) refl refl k.0 k.1
  where
    go : (p r : Bool) → lt nought dA ≡ p → lt dA nought ≡ r → (p && lt dB nought) ≡ false → (r && lt nought dB) ≡ false → inside (crossing dA dB) ≡ false
    go true r p q h k = crossing_outside dA dB f i j (Order.le_of_lt nought dA (subst T (sym p) tt)) (at_most nought dB tt j h)
    go false true p q h k = crossing_outside_neg dA dB f i j (at_most dA nought i tt p) (at_most dB nought j tt k)
    go false false p q h k = elim (Order.le_total nought dB (Order.finite_number nought tt) (Order.finite_number dB j)) [
      | inl l ↦ crossing_outside dA dB f i j (at_most nought dA tt i q) l
      | inr l ↦ crossing_outside_neg dA dB f i j (at_most dA nought i tt p) l
    ]

-- A value that is no number, or an infinite one, makes the quotient no number or zero.
pub crossing_same_sign : (dA dB : Float) → T (fits binary32 dA) → opposite dA dB ≡ false → inside (crossing dA dB) ≡ false
crossing_same_sign nan dB f h = unfold crossing div in nan_outside
crossing_same_sign (inf s) nan f h = unfold crossing sub neg add div in nan_outside
crossing_same_sign (inf true) (inf true) f h = unfold crossing sub neg add div in nan_outside
crossing_same_sign (inf true) (inf false) f h = unfold crossing sub neg add div in nan_outside
crossing_same_sign (inf false) (inf true) f h = unfold crossing sub neg add div in nan_outside
crossing_same_sign (inf false) (inf false) f h = unfold crossing sub neg add div in nan_outside
crossing_same_sign (inf s) (fin t n d) f h = unfold crossing sub neg add div in nan_outside
crossing_same_sign (fin s m e) nan f h = unfold crossing sub neg add div in nan_outside
crossing_same_sign (fin s m e) (inf t) f h = unfold crossing sub neg add div in zero_outside (unlike s (not t))
crossing_same_sign (fin s m e) (fin t n d) f h = finite_same (fin s m e) (fin t n d) f tt tt h
