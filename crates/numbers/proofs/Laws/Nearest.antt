-- `round` gives the nearest value of its format, at a tie the one that is even, and no other value is it: so with `narrow_of` and with each operation. Assumes nothing.
--     largest_held, largest_bound  the largest value is one of the format, and no finite one is larger
--     middle_halfway               the middle is halfway from it to 2 ^ (emax + 1), with no remainder
--     other_sign                   a value of the other sign is no nearer to ±num / den than the closest of its own: its distance is the sum of the sizes
--     round_nearest                of every fraction `round` gives a nearest value
--     round_is, nearest_only       a value that is nearest to a fraction is what `round` gives of it, so there is one only
--     narrow_nearest               a value narrowed is the binary32 value nearest to it
--     sum_exact                    the sign and the size that `sum_sign` and `sum_size` give are those of the exact sum
--     add_nearest, sub_nearest     a sum and a difference are the values nearest to the exact ones
--     mul_nearest, div_nearest     so are a product, and a quotient by a value that is not zero
use Rattle.std.proofs.Common.{◌≡◌, ℕ, zero, suc, ◌+◌, ◌-◌, ◌*◌, ◌^◌, ◌<◌, ◌≤◌, Bool, cond, not, T, eqb, ℤ, pos, sym, refl, ap, ◌∙◌, subst, inl, inr, le_trans, le_of_eq, lt_irrefl, mul-le-mul_right, mul_assoc, mul-pos, mul_right_comm, le_of_mul-le-mul_right, arith, pow_pos, pow-add}
use lib.Dec.{eqb-suc-zero}
use lib.Ieee.{Float, nan, inf, fin, Format, binary32, binary64, prec, emax, low, up, down, unlike, round, add, sub, mul, div, neg, fits}
use lib.Ieee.Fits.{two, up_pos, down_pos, round-fits}
use lib.Ieee.Scale.{grid}
use Rattle.numbers.specs.Rounding.{narrow_of}
use Rattle.numbers.specs.Nearest.{apart, distance, largest, middle, Closest, Nearest, sum_size, sum_sign}
use Rattle.numbers.proofs.floats.Compared.{le_or_lt}
use Rattle.numbers.proofs.floats.Differences.{plus, minus, summed}
use Rattle.numbers.proofs.floats.Distances.{closest_is, closest_only, exponents, wide, overflowed, counted}
use Rattle.numbers.proofs.floats.Values.{with_value}
use Rattle.numbers.proofs.floats.Held.{held, count}
use Rattle.numbers.proofs.floats.Multiples.{most}

-- ---- that the definitions say what they are called
pub largest_held : (f : Format) (s : Bool) → T (fits f (fin s (2 ^ prec f - 1) (pos (suc (emax f) - prec f))))
unfolding fits
largest_held binary32 s = tt
largest_held binary64 s = tt

pub largest_bound : (f : Format) (s : Bool) (n : ℕ) (d : ℤ) → T (fits f (fin s n d)) → n * up d ≤ largest f * down d
largest_bound f s n d g =
    let h = held f s n d g in
    let x = exponents (prec f) (emax f) (two f) (wide f) in
    let L = 2 ^ low f in
    let e : (2 ^ prec f - 1) * 2 ^ x.K ≡ largest f * L = ap (λ (y : ℕ). (2 ^ prec f - 1) * y) (ap (λ (y : ℕ). 2 ^ y) (sym x.top) ∙ pow-add 2 (suc (emax f) - prec f) (low f)) ∙ sym (mul_assoc (2 ^ prec f - 1) (2 ^ (suc (emax f) - prec f)) L) in
    let b : count f n d h ≤ largest f * L = le_trans (most (prec f) x.K h.digits h.zeros h.few (subst (λ (y : ℕ). count f n d h < 2 ^ y) x.ends h.fine)) (le_of_eq e) in
    le_of_mul-le-mul_right (le_trans (le_of_eq h.value) (le_trans (mul-le-mul_right (down d) b) (le_of_eq (mul_right_comm (largest f) L (down d))))) (pow_pos (low f))

pub middle_halfway : (f : Format) → middle f * 2 ≡ largest f + 2 ^ suc (emax f)
middle_halfway binary32 = refl
middle_halfway binary64 = refl

pub other_sign : (f : Format) (s : Bool) (num den m : ℕ) (e : ℤ) (n : ℕ) (d : ℤ) → Closest f s num den m e → distance num den m e * down d ≤ (num * down d + n * up d * den) * down e
other_sign f s num den m e n d x = further (distance num den m e) (down d) (n * up d * den) (down e) (x.no_nearer 0 (pos 0) (unfold fits in tt))
  where
    further : (a p y q : ℕ) → a * 1 ≤ apart (num * 1) (0 * 1 * den) * q → a * p ≤ (num * p + y) * q
    further a p y q h =
        let z : apart (num * 1) (0 * 1 * den) ≡ num = omega arith in
        let l : a * 1 ≤ num * q = subst (λ (v : ℕ). a * 1 ≤ v * q) z h in
        omega (arith, mul-le-mul_right p l)

-- ---- `round`
pub round_nearest : (f : Format) (s : Bool) (num den : ℕ) → 0 < den → Nearest f s num den (round f s num den)
round_nearest f s num den D = elim (le_or_lt (middle f * den) num) [
  | inl l ↦ subst (Nearest f s num den) (sym (overflowed f s num den D l)) (refl, l)
  | inr l ↦
      with_value (λ x. T (fits f x) → Nearest f s num den x) (round f s num den) s (grid f num den) (2 ^ low f) (counted f s num den D l)
      (λ m e v fit. (refl, l, closest_is f num den D s m e fit v)) (round-fits f s num den)
]

pub round_is : (f : Format) (s : Bool) (num den : ℕ) (x : Float) → 0 < den → Nearest f s num den x → round f s num den ≡ x
round_is f s num den nan D h = absurd h
round_is f s num den (inf t) D h = overflowed f s num den D h.1 ∙ ap inf (sym h.0)
round_is f s num den (fin t n d) D h =
    subst (λ (b : Bool). Closest f b num den n d → round f s num den ≡ fin b n d) (sym h.0)
    (λ x. with_value (λ y. T (fits f y) → y ≡ fin s n d) (round f s num den) s (grid f num den) (2 ^ low f) (counted f s num den D h.1)
    (λ m e v fit. closest_only f num den D s m e n d fit v x) (round-fits f s num den)) h.2

pub nearest_only : (f : Format) (s : Bool) (num den : ℕ) (x y : Float) → 0 < den → Nearest f s num den x → Nearest f s num den y → x ≡ y
nearest_only f s num den x y D p q = sym (round_is f s num den x D p) ∙ round_is f s num den y D q

-- ---- narrowing and the operations, of finite values
pub narrow_nearest : (s : Bool) (m : ℕ) (e : ℤ) → Nearest binary32 s (m * up e) (down e) (narrow_of (fin s m e))
unfolding narrow_of
narrow_nearest s m e = round_nearest binary32 s (m * up e) (down e) (down_pos e)

pub sum_exact : (s : Bool) (a : ℕ) (t : Bool) (b : ℕ)
    → plus (sum_sign s a t b) (sum_size s a t b) + minus s a + minus t b ≡ minus (sum_sign s a t b) (sum_size s a t b) + plus s a + plus t b
sum_exact s a t b = (summed binary64 s a t b 1).value

pub add_nearest : (f : Format) (s : Bool) (m : ℕ) (e : ℤ) (t : Bool) (n : ℕ) (d : ℤ)
    → let a = m * up e * down d in
    let b = n * up d * down e in
    Nearest f (sum_sign s a t b) (sum_size s a t b) (down e * down d) (add f (fin s m e) (fin t n d))
unfolding add
add_nearest f s m e t n d =
    let a = m * up e * down d in
    let b = n * up d * down e in
    let c = down e * down d in
    subst (Nearest f (sum_sign s a t b) (sum_size s a t b) c) (sym (summed f s a t b c).is) (round_nearest f (sum_sign s a t b) (sum_size s a t b) c (mul-pos (down_pos e) (down_pos d)))

pub sub_nearest : (f : Format) (s : Bool) (m : ℕ) (e : ℤ) (t : Bool) (n : ℕ) (d : ℤ)
    → let a = m * up e * down d in
    let b = n * up d * down e in
    Nearest f (sum_sign s a (not t) b) (sum_size s a (not t) b) (down e * down d) (sub f (fin s m e) (fin t n d))
unfolding sub neg
sub_nearest f s m e t n d = add_nearest f s m e (not t) n d

pub mul_nearest : (f : Format) (s : Bool) (m : ℕ) (e : ℤ) (t : Bool) (n : ℕ) (d : ℤ)
    → Nearest f (unlike s t) (m * up e * (n * up d)) (down e * down d) (mul f (fin s m e) (fin t n d))
unfolding mul
mul_nearest f s m e t n d = round_nearest f (unlike s t) (m * up e * (n * up d)) (down e * down d) (mul-pos (down_pos e) (down_pos d))

pub div_nearest : (f : Format) (s : Bool) (m : ℕ) (e : ℤ) (t : Bool) (n : ℕ) (d : ℤ) → 0 < n
    → Nearest f (unlike s t) (m * up e * down d) (n * up d * down e) (div f (fin s m e) (fin t n d))
unfolding div
div_nearest f s m e t zero d h = absurd (lt_irrefl 0 h)
div_nearest f s m e t (suc n) d h =
    subst (λ (b : Bool). Nearest f (unlike s t) (m * up e * down d) (suc n * up d * down e) (cond b (cond (eqb m 0) nan (inf (unlike s t))) (round f (unlike s t) (m * up e * down d) (suc n * up d * down e))))
    (sym (eqb-suc-zero n)) (round_nearest f (unlike s t) (m * up e * down d) (suc n * up d * down e) (mul-pos (mul-pos h (up_pos d)) (down_pos e)))
