-- Texels of one order, which is beyond doubt, are no artifact to each other, and no test is made between them. Assumes nothing.
--     linear_settled     two texels
--     doubts             a pair of channels that `doubt` leaves out has no root inside
--     doubted_all        and so the pairs that it names are as good as all
--     undoubted          four texels of which it leaves out every pair
--     diagonal_settled   four of one order
use Rattle.std.proofs.Common.{◌≡◌, ℕ, ◌/◌, ◌%◌, ◌≤◌, Bool, true, false, cond, ◌&&◌, ◌||◌, eqb, ltb, List, [], get_or, sym, refl, ap, subst, arith, ltb-true, lt-ltb}
use mathlib.Core.Bool.{false≢true}
use lib.Bits.{xor_self}
use lib.Ieee.{Float, binary64}
use borrow.Author.Tests.{eqb-false}
use Rattle.numbers.specs.Constants.{zero_of, one_of}
use Rattle.ground.specs.Lists.{any, spent}
use Rattle.ranges.specs.Classifier.{range_test}
use Rattle.detectors.specs.Texel.{texel_median}
use Rattle.detectors.specs.Pairs.{guard, mixed_median, difference}
use Rattle.detectors.specs.Linear.{crossing, linear_at, linear_pair, linear_pairs, has_linear_artifact, linear_tests_at, linear_pair_tests, linear_pairs_tests, linear_tests}
use Rattle.detectors.specs.Diagonal.{diagonal_pair, diagonal_pairs, has_diagonal_artifact, diagonal_pair_tests, diagonal_pairs_tests, diagonal_tests}
use Rattle.detectors.specs.Orders.{order_code, doubt, doubted, doubted_pair, doubted_tests, NoRoot, Doubts}
use Rattle.detectors.specs.Verdict.{verdict}
use Rattle.detectors.proofs.orders.Digits.{joint, shared, shared_first}
use Rattle.detectors.proofs.orders.Codes.{Each, Alike, shares, alike, code_sized, no_crossing, no_root}
use Rattle.detectors.proofs.orders.Filter.{no_artifact, no_tests}

-- ---- a search through the three pairs behind a guard
guarded_none : (g : Bool) (f : ℕ → Bool) → Each (λ p. f p ≡ false) → (g && any 3 f) ≡ false
unfolding any
guarded_none true f h = λ i. (h.first i || h.second i) || h.third i
guarded_none false f h = refl

guarded_nothing : (g : Bool) (f : ℕ → Bool) (c : ℕ → ℕ) → Each (λ p. c p ≡ 0) → cond g (spent 3 f c) 0 ≡ 0
unfolding spent
guarded_nothing true f c h = omega (arith, nothing (any 0 f) (c 0) h.first, nothing (any 1 f) (c 1) h.second, nothing (any 2 f) (c 2) h.third)
  where
    nothing : (b : Bool) (n : ℕ) → n ≡ 0 → cond b 0 n ≡ 0
    nothing true n e = refl
    nothing false n e = e
guarded_nothing false f c h = refl

-- ---- two texels
module _ (span : Float) (protected : Bool) (am bm : Float) (a b : List Float) (p : ℕ) (h : Alike a b p) where
  linear_none : linear_pair span protected am bm a b p ≡ false
  unfolding linear_pair linear_at
  linear_none =
      let t = crossing (difference a p) (difference b p) in
      ap (λ (q : Bool). q && range_test span protected (zero_of binary64) (one_of binary64) t am bm (mixed_median a b t)) (no_crossing a b p h)

  linear_nothing : linear_pair_tests a b p ≡ 0
  unfolding linear_pair_tests linear_tests_at
  linear_nothing = ap (λ (q : Bool). cond q 1 0) (no_crossing a b p h)

pub linear_settled : (span : Float) (protected : Bool) (am : Float) (a b : List Float) → order_code a ≡ order_code b → 1 ≤ order_code a
    → (has_linear_artifact span protected am a b ≡ false) × (linear_tests span protected am a b ≡ 0)
unfolding has_linear_artifact linear_pairs linear_tests linear_pairs_tests
linear_settled span protected am a b e o =
    let bm = texel_median b in
    let h = alike a b o (sym e) in (
      guarded_none (guard am bm) (linear_pair span protected am bm a b)
          (record { first = linear_none span protected am bm a b 0 h.first; second = linear_none span protected am bm a b 1 h.second; third = linear_none span protected am bm a b 2 h.third }),
      guarded_nothing (guard am bm) (linear_pair span protected am bm a b) (linear_pair_tests a b)
          (record { first = linear_nothing span protected am bm a b 0 h.first; second = linear_nothing span protected am bm a b 1 h.second; third = linear_nothing span protected am bm a b 2 h.third }),
    )

-- ---- four texels
-- One of two numbers of bits by a test: where it is 7 no pair is left out.
chosen : (m : List (List Float)) (b : Bool) (x : ℕ) → (b ≡ true → Doubts x m) → Doubts (cond b x 7) m
chosen m true x f = f refl
chosen m false x f = record { first = λ e. absurd (omega (arith, e)); second = λ e. absurd (omega (arith, e)); third = λ e. absurd (omega (arith, e)) }

both : (b c : Bool) → (b && c) ≡ true → (b ≡ true) × (c ≡ true)
both true c h = (refl, h)
both false c h = absurd (false≢true h)

-- A code that shares the digit of 8 with one that is not 0 is not 0 either.
present : (a n : ℕ) → (8 ≤ a) × (a ≤ 15) → n / 8 % 2 ≡ a / 8 % 2 → 1 ≤ n
present a n h e = omega (arith, e, h.0, h.1)

module _ (m : List (List Float)) where
  abbrev code : ℕ → ℕ
  code i = order_code (get_or m i [])

  abbrev apart : ℕ
  apart = joint (code 0) (code 1) (code 2) (code 3)

  -- where the first code is not 0 and none lacks the digit of 8
  left_out : (ltb 0 (code 0) && ltb apart 8) ≡ true → Doubts apart m
  left_out h =
      let t = both (ltb 0 (code 0)) (ltb apart 8) h in
      let o = ltb-true 0 (code 0) t.0 in
      let l = ltb-true apart 8 t.1 in
      let e : apart / 8 % 2 ≡ 0 = omega (arith, l) in
      let s = shared 3 (code 0) (code 1) (code 2) (code 3) e in
      let k = code_sized (get_or m 0 []) o in
      let b = shares (get_or m 0 []) (get_or m 1 []) o (present (code 0) (code 1) k s.0) in
      let c = shares (get_or m 0 []) (get_or m 2 []) o (present (code 0) (code 2) k s.1) in
      let d = shares (get_or m 0 []) (get_or m 3 []) o (present (code 0) (code 3) k s.2) in
      record {
        first = λ z. let u = shared_first (code 0) (code 1) (code 2) (code 3) z in no_root m 0 (b.first u.0) (c.first u.1) (d.first u.2);
        second = λ z. let u = shared 1 (code 0) (code 1) (code 2) (code 3) z in no_root m 1 (b.second u.0) (c.second u.1) (d.second u.2);
        third = λ z. let u = shared 2 (code 0) (code 1) (code 2) (code 3) z in no_root m 2 (b.third u.0) (c.third u.1) (d.third u.2);
      }

pub doubts : (m : List (List Float)) → Doubts (doubt (order_code (get_or m 0 [])) (order_code (get_or m 1 [])) (order_code (get_or m 2 [])) (order_code (get_or m 3 []))) m
unfolding doubt
doubts m = chosen m (ltb 0 (code m 0) && ltb (apart m) 8) (apart m) (left_out m)

-- a bit that is not 1 is 0
no_bit : (n : ℕ) → eqb (n % 2) 1 ≡ false → n % 2 ≡ 0
no_bit n e = omega (arith, eqb-false (n % 2) 1 e)

-- what a name leaves out counts for nothing
named : (n v : Bool) → (n ≡ false → v ≡ false) → (n && v) ≡ v
named true v h = refl
named false v h = sym (h refl)

named_tests : (n : Bool) (k : ℕ) → (n ≡ false → k ≡ 0) → cond n k 0 ≡ k
named_tests true k h = refl
named_tests false k h = sym (h refl)

module _ (bits : ℕ) (m : List (List Float)) (d : Doubts bits m) where
  outside : Each (λ p. doubted bits p ≡ false → NoRoot m p)
  unfolding doubted
  outside = record { first = λ e. d.first (no_bit bits e); second = λ e. d.second (no_bit (bits / 2) e); third = λ e. d.third (no_bit (bits / 4) e) }

  module _ (span : Float) (protected : Bool) (am dm : Float) where
    pair : (p : ℕ) → (doubted bits p ≡ false → NoRoot m p) → doubted_pair bits span protected am dm m p ≡ diagonal_pair span protected am dm m p
    unfolding doubted_pair
    pair p h = named (doubted bits p) _ (λ e. no_artifact span protected am dm m p (h e))

    tests : (p : ℕ) → (doubted bits p ≡ false → NoRoot m p) → doubted_tests bits span protected am dm m p ≡ diagonal_pair_tests span protected am dm m p
    unfolding doubted_tests
    tests p h = named_tests (doubted bits p) _ (λ e. no_tests span protected am dm m p (h e))

    pub doubted_all : verdict (any 3 (doubted_pair bits span protected am dm m)) (spent 3 (doubted_pair bits span protected am dm m) (doubted_tests bits span protected am dm m)) ≡ verdict (any 3 (diagonal_pair span protected am dm m)) (spent 3 (diagonal_pair span protected am dm m) (diagonal_pair_tests span protected am dm m))
    unfolding any spent
    doubted_all = rw (pair 0 outside.first, pair 1 outside.second, pair 2 outside.third, tests 0 outside.first, tests 1 outside.second, tests 2 outside.third)

pub undoubted : (span : Float) (protected : Bool) (am : Float) (m : List (List Float)) → doubt (order_code (get_or m 0 [])) (order_code (get_or m 1 [])) (order_code (get_or m 2 [])) (order_code (get_or m 3 [])) ≡ 0
    → (has_diagonal_artifact span protected am m ≡ false) × (diagonal_tests span protected am m ≡ 0)
unfolding has_diagonal_artifact diagonal_pairs diagonal_tests diagonal_pairs_tests
undoubted span protected am m e =
    let dm = texel_median (get_or m 3 []) in
    let h : Doubts 0 m = subst (λ (n : ℕ). Doubts n m) e (doubts m) in
    let r0 = h.first refl in
    let r1 = h.second refl in
    let r2 = h.third refl in (
      guarded_none (guard am dm) (diagonal_pair span protected am dm m)
          (record { first = no_artifact span protected am dm m 0 r0; second = no_artifact span protected am dm m 1 r1; third = no_artifact span protected am dm m 2 r2 }),
      guarded_nothing (guard am dm) (diagonal_pair span protected am dm m) (diagonal_pair_tests span protected am dm m)
          (record { first = no_tests span protected am dm m 0 r0; second = no_tests span protected am dm m 1 r1; third = no_tests span protected am dm m 2 r2 }),
    )

-- Four numbers that are one leave no pair in doubt.
one_code : (c : ℕ) → 1 ≤ c → doubt c c c c ≡ 0
unfolding doubt
one_code c o = rw (xor_self c, lt-ltb 0 c o)

pub diagonal_settled : (span : Float) (protected : Bool) (am : Float) (m : List (List Float)) → (c : ℕ) → 1 ≤ c
    → order_code (get_or m 0 []) ≡ c → order_code (get_or m 1 []) ≡ c → order_code (get_or m 2 []) ≡ c → order_code (get_or m 3 []) ≡ c
    → (has_diagonal_artifact span protected am m ≡ false) × (diagonal_tests span protected am m ≡ 0)
diagonal_settled span protected am m c o e f g h = undoubted span protected am m (rw (e, f, g, h) (one_code c o))
