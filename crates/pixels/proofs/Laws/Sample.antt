-- The value of a byte: the binary32 value nearest to k / 255, and the byte comes back of it. Assumes nothing.
--     sample_nearest, sample_only  it is the nearest value to k / 255, at a tie the even one, and no other value is
--     sample_held                  it is a value of binary32
--     sample_mono                  the order is kept
--     sample_ends                  evaluated: 0 gives 0 and 255 gives 1
--     sample_between, sample_good  a byte gives a value from 0 to 1, which passes the check of samples
--     all_back                     evaluated: each of the 256 bytes comes back
--     byte_back                    so of each byte
--     steps_apart                  and two bytes give two values, in their order
use mathlib.Core.Path.{◌≡◌, refl, sym, ap, ◌∙◌, subst}
use mathlib.Core.Bool.{false, not, ◌&&◌}
use Prim.Native.Nat.{ℕ, ◌≤◌, ◌<◌, zero-le}
use native.Mathlib.Nat.{mul-le-mul_right, suc-le-suc_iff}
use native.Mathlib.Omega.{arith}
use lib.Dec.{T, not_T, lit<}
use lib.ListN.{get_or}
use lib.Ieee.{Float, binary32, round, le, lt, neg, is_nan, fits, of_bits}
use lib.Ieee.Fits.{round-fits}
use lib.Ieee.Order.{round_mono}
use Rattle.ground.specs.Lists.{tab}
use Rattle.ground.proofs.Laws.Bools.{held}
use Rattle.ground.proofs.Laws.Fill.{tab_at}
use Rattle.ranges.specs.Constants.{limit_of}
use Rattle.numbers.specs.Nearest.{Nearest}
use Rattle.numbers.proofs.Laws.Nearest.{round_nearest, round_is}
use Rattle.numbers.proofs.Laws.Order.{le_trans, number_left, lt_of_not_le}
use Rattle.inputs.specs.Checks.{oversize}
use Rattle.pixels.specs.Byte as Spec
use Rattle.pixels.specs.Byte.{byte_of, sample_of}
use Rattle.pixels.proofs.Laws.Byte.{byte_mono}

-- ---- the nearest value

pub sample_nearest : (k : ℕ) → Nearest binary32 false k 255 (sample_of k)
unfolding sample_of
sample_nearest k = round_nearest binary32 false k 255 (lit< tt)

pub sample_only : (k : ℕ) (x : Float) → Nearest binary32 false k 255 x → x ≡ sample_of k
unfolding sample_of
sample_only k x h = sym (round_is binary32 false k 255 x (lit< tt) h)

pub sample_held : (k : ℕ) → T (fits binary32 (sample_of k))
unfolding sample_of
sample_held k = round-fits binary32 false k 255

-- ---- order and bounds

pub sample_mono : (k l : ℕ) → k ≤ l → T (le (sample_of k) (sample_of l))
unfolding sample_of
sample_mono k l h = round_mono binary32 k 255 l 255 (lit< tt) (lit< tt) (mul-le-mul_right 255 h)

pub sample_ends : (sample_of 0 ≡ of_bits binary32 0) × (sample_of 255 ≡ of_bits binary32 0x3f80_0000)
unfolding sample_of round of_bits
sample_ends = (refl, refl)

pub sample_between : (k : ℕ) → k ≤ 255 → T (le (of_bits binary32 0) (sample_of k)) × T (le (sample_of k) (of_bits binary32 0x3f80_0000))
sample_between k h =
    let x = sample_of k in
    (subst (λ (y : Float). T (le y x)) sample_ends.0 (sample_mono 0 k zero-le), subst (λ (y : Float). T (le x y)) sample_ends.1 (sample_mono k 255 h))

pub sample_good : (k : ℕ) → k ≤ 255 → oversize binary32 (sample_of k) ≡ false
unfolding oversize
sample_good k h = λ i. not (held (le (neg (limit_of binary32)) (sample_of k)) above i && held (le (sample_of k) (limit_of binary32)) under i)
  where
    above : T (le (neg (limit_of binary32)) (sample_of k))
    above = le_trans (neg (limit_of binary32)) (of_bits binary32 0) (sample_of k) (unfold le neg of_bits in tt) (sample_between k h).0

    under : T (le (sample_of k) (limit_of binary32))
    under = le_trans (sample_of k) (of_bits binary32 0x3f80_0000) (limit_of binary32) (sample_between k h).1 (unfold le of_bits in tt)

-- ---- back

pub all_back : tab 256 (λ k. byte_of (sample_of k)) ≡ tab 256 (λ k. k)
unfolding tab byte_of Spec.held Spec.parts sample_of round
all_back = refl

pub byte_back : (k : ℕ) → k ≤ 255 → byte_of (sample_of k) ≡ k
byte_back k h =
    let l : k < 256 = suc-le-suc_iff.1 h in
    sym (tab_at 256 (λ k. byte_of (sample_of k)) k 0 l) ∙ ap (λ xs. get_or xs k 0) all_back ∙ tab_at 256 (λ k. k) k 0 l

pub steps_apart : (k l : ℕ) → k < l → l ≤ 255 → T (lt (sample_of k) (sample_of l))
steps_apart k l h b =
    let m : k ≤ 255 = omega arith in
    lt_of_not_le (sample_of l) (sample_of k) (number l b) (number k m)
    (not_T (le (sample_of l) (sample_of k)) (λ g. omega (arith, byte_mono (sample_of l) (sample_of k) g, byte_back k m, byte_back l b)))
  where
    number : (k : ℕ) → k ≤ 255 → T (not (is_nan (sample_of k)))
    number k b = number_left (sample_of k) (of_bits binary32 0x3f80_0000) (sample_between k b).1
