-- The two solvers agree: of three finite values of binary32 a positive discriminant is a normal value of binary64, so that the root without branches is its square root. Assumes nothing.
--     normal_least                          a finite value of binary64 of at least 2^-1022, the smallest normal one, is positive and normal
--     single_within                         a finite value of binary32 is within 2^128
--     discriminant_within                   a discriminant is bounded by its three coefficients' bounds
--     discriminant_least, discriminant_most of three finite values of binary32 a positive discriminant is at least 2^-298, and any is within 2^259
--     discriminant_normal                   so a positive one is normal, whatever the three are, subnormal or not
--     normal_agree                          wherever a positive discriminant is normal the two rules give the same roots
--     solvers_agree                         so they do of any three finite values of binary32
--     answers_agree                         and any answers that the two solvers' promises permit are the same
--     counts_alike                          how many roots there are does not depend on the root: of any three values both rules give as many
--     normal_solver_true                    so of three finite values of binary32 the second solver gives the true number too
--     promise_normal_count                  and so many has any answer that the promise of `solve_normal_quadratic` permits
--     apart_subnormal, apart_infinite       evaluated: of values of binary64 whose discriminant is subnormal, or overflows, the two do differ
use Rattle.std.proofs.Common.{◌≡◌, ℕ, ◌+◌, ◌-◌, ◌*◌, ◌/◌, ◌^◌, ◌<◌, ◌≤◌, Bool, true, false, cond, not, T, [], ◌∷◌, length, pos, negsuc, sym, refl, ap, ◌∙◌, subst, le_trans, le_of_eq, le_refl, le_of_lt, mul-le-mul_right, mul_assoc, mul_comm, mul-pos, one-mul, le-div_iff_mul-le, le_of_mul-le-mul_right, arith, lit≤, pow_pos, pow-add}
use mathlib.Core.Bool.{beq}
use lib.Ieee.{Float, inf, fin, binary32, binary64, up, down, size, unlike, below, round, add, sub, mul, div, neg, lt, le, eq, fits, to_bits, of_bits, hid, ones}
use lib.Ieee.Digits.{size-le, size_reaches}
use lib.Ieee.Fits.{kept-lt, down_pos, sub-fits}
use lib.Ieee.Exact.{HasValue}
use lib.Ieee.Order.{round_mono}
use contract.Lifetimes.{Lfts}
use borrow.Fn.Kinds.{Dens}
use Rattle.ground.proofs.Laws.Bools.{holds}
use Rattle.numbers.specs.Constants.{zero_of, four}
use Rattle.numbers.specs.Nearest.{sum_size, sum_sign}
use Rattle.numbers.specs.Scalar.{abs_of}
use Rattle.numbers.specs.SquareRoot.{sqrt_of, normal_root, PositiveNormal, root_of, root, root_by}
use Rattle.numbers.specs.EquationSolver.{is_linear, linear_roots, discriminant, upper_root, lower_root, square_roots_by, square_roots, roots_of, normal_roots_of, listed, Listed}
use Rattle.numbers.specs.Whole.{Finite, steps, whole_of}
use Rattle.numbers.specs.RootCount.{true_count}
use Rattle.numbers.specs.declared.equation_solver.Roots.{Roots}
use Rattle.numbers.proofs.floats.Differences.{of_below, summed}
use Rattle.numbers.proofs.floats.Held.{held, count}
use Rattle.numbers.proofs.floats.Patterns.{to_bits_val, size_gt}
use Rattle.numbers.proofs.floats.Values.{with_value}
use Rattle.numbers.proofs.Laws.Order.{plus, minus, IsFinite, le→at_most, below_over, le_trans as float-le-trans}
use Rattle.numbers.proofs.Laws.Exact.{round_value, single_short}
use Rattle.numbers.proofs.Laws.Difference.{counted, one_at_least}
use Rattle.numbers.proofs.Laws.Bounds.{Within, within_finite, value_within, mul_within, sub_within}
use Rattle.numbers.proofs.Laws.SquareRoot.{normal_root_is}
use Rattle.numbers.proofs.Laws.EquationSolver.{by_fewer, by_count}
use Rattle.numbers.proofs.Laws.RootCount.{square_exact, product_exact, discriminant_positive, count_true}
use Rattle.numbers.proofs.Laws.Alike.{roots_alike}
use Rattle.numbers.proofs.equation_solver.solve_normal_quadratic.Kinds.{ps}
use Rattle.numbers.proofs.equation_solver.solve_normal_quadratic.Reads as solver

-- ---- normal values
-- the pattern that is written for a number of smallest values with 53 digits or more
written_normal : (a : ℕ) → 53 ≤ size a → size a ≤ 2098 → (hid binary64 ≤ 0 + (size a - 53) * hid binary64 + a / 2 ^ (size a - 53)) × (0 + (size a - 53) * hid binary64 + a / 2 ^ (size a - 53) < ones binary64 * hid binary64)
written_normal a lo hi =
    let k = size a - 53 in
    let least : hid binary64 ≤ a / 2 ^ k =
    (le-div_iff_mul-le (pow_pos k)).1 (le_trans (le_of_eq (sym (pow-add 2 52 k))) (size_reaches a (52 + k) (omega arith))) in
    go k (a / 2 ^ k) (omega arith) least (kept-lt 53 a)
  where
    go : (k q : ℕ) → k ≤ 2045 → 4503599627370496 ≤ q → q < 9007199254740992 → (hid binary64 ≤ 0 + k * hid binary64 + q) × (0 + k * hid binary64 + q < ones binary64 * hid binary64)
    go k q K lo hi = (omega arith, omega arith)

pub normal_least : (x : Float) → T (fits binary64 x) → IsFinite x → T (le (fin false 1 (negsuc 1021)) x) → PositiveNormal x
normal_least (fin true m e) p i h = absurd (none (down e) (m * up e * 2 ^ 1022) (down_pos e) (le→at_most false 1 (negsuc 1021) true m e h))
  where
    none : (d b : ℕ) → 0 < d → 1 * 1 * d + b ≤ 0 + 0 → ⊥
    none d b D h = omega arith
normal_least (fin false m e) p i h =
    let k = held binary64 false m e p in
    let a = count binary64 m e k in
    let least : 2 ^ 52 ≤ a = enough (m * up e) (down e) a (2 ^ 1022) (2 ^ 52) (2 ^ 1074) refl (down_pos e) k.value (le→at_most false 1 (negsuc 1021) false m e h) in
    subst (λ (b : ℕ). (hid binary64 ≤ b) × (b < ones binary64 * hid binary64)) (sym (to_bits_val binary64 (fin false m e) false a (refl, k.value))) (written_normal a (size_gt a 52 least) (size-le a 2098 k.fine))
  where
    enough : (M d a L S R : ℕ) → L * S ≡ R → 0 < d → M * R ≡ a * d → 1 * 1 * d + 0 ≤ M * L + 0 → S ≤ a
    enough M d a L S R e D v h =
        let more : d ≤ M * L = omega arith in
        le_of_mul-le-mul_right (le_trans (le_of_eq (mul_comm S d)) (le_trans (mul-le-mul_right S more) (le_of_eq (mul_assoc M L S ∙ ap (λ (x : ℕ). M * x) e ∙ v)))) D
normal_least lib.Ieee.nan p i h = elim i [ ]
normal_least (inf _) p i h = elim i [ ]

-- ---- the discriminant's size
pub single_within : (x : Float) → Finite binary32 x → Within 128 x
single_within (fin s m e) p =
    let h = single_short s m e p in
    value_within 128 (fin s m e) s (steps binary32 m e) (2 ^ 149) (pow_pos 149) h.value (le_of_lt h.fine)
single_within lib.Ieee.nan p = elim p [ ]
single_within (inf _) p = elim p [ ]

discriminant_fits : (a b c : Float) → T (fits binary64 (discriminant a b c))
unfolding discriminant
discriminant_fits a b c = sub-fits binary64 (mul binary64 b b) (mul binary64 (mul binary64 four a) c)

pub discriminant_within : (j k l n : ℕ) (a b c : Float) → k + k ≤ n → 2 + j + l ≤ n → n + 1 ≤ 1023 → Within j a → Within k b → Within l c → Within (n + 1) (discriminant a b c)
unfolding discriminant of_bits
discriminant_within j k l n a b c f g h p q r =
    sub_within binary64 (k + k) (2 + j + l) n (mul binary64 b b) (mul binary64 (mul binary64 four a) c) f g h
    (mul_within binary64 k k b b (omega arith) q q)
    (mul_within binary64 (2 + j) l (mul binary64 four a) c (omega arith) (mul_within binary64 2 j four a (omega arith) (le_refl 4) p) r)

pub discriminant_most : (a b c : Float) → Finite binary32 a → Finite binary32 b → Finite binary32 c → Within 259 (discriminant a b c)
discriminant_most a b c p q r = discriminant_within 128 128 128 258 a b c (lit≤ tt) (lit≤ tt) (lit≤ tt) (single_within a p) (single_within b q) (single_within c r)

-- a difference of two numbers of units that is positive is at least one unit
difference_least : (x y : Float) (t : Bool) (a b l : ℕ) → HasValue x false a (2 ^ l) → HasValue y t b (2 ^ l) → below t b false a ≡ true → T (le (round binary64 false 1 (2 ^ l)) (sub binary64 x y))
unfolding sub add neg
difference_least x y t a b l h k w =
    with_value (λ x. T (le (round binary64 false 1 (2 ^ l)) (add binary64 x (neg y)))) x false a (2 ^ l) h
    (λ m e v. with_value (λ y. T (le (round binary64 false 1 (2 ^ l)) (add binary64 (fin false m e) (neg y)))) y t b (2 ^ l) k
    (λ n d u.
    let A = m * up e * down d in
    let B = n * up d * down e in
    let E = down e * down d in
    let sign = sum_sign false A (not t) B in
    let R = sum_size false A (not t) B in
    let s = summed binary64 false A (not t) B E in
    let C = mul-pos (down_pos e) (down_pos d) in
    let a' : A * 2 ^ l ≡ a * E = own (m * up e) (down e) (down d) a (2 ^ l) v in
    let b' : B * 2 ^ l ≡ b * E = own (n * up d) (down d) (down e) b (2 ^ l) u ∙ ap (λ (z : ℕ). b * z) (mul_comm (down d) (down e)) in
    let above : (sign ≡ false) × (0 < R) = positive sign t R A B s.value (of_below t B false A (holds _ (below_over t B false A b a (2 ^ l) E (pow_pos l) C b' a' ∙ w))) in
    subst (λ (v : Float). T (le (round binary64 false 1 (2 ^ l)) v)) (sym (s.is ∙ ap (λ (z : Bool). round binary64 z R E) above.0))
    (round_mono binary64 1 (2 ^ l) R E (pow_pos l) C (le_trans (le_of_eq (one-mul E)) (one_at_least R (sum_size false a (not t) b) E (2 ^ l) (pow_pos l) (counted (beq false (not t)) A B a b E (2 ^ l) a' b') above.1)))))
  where
    own : (M c g a L : ℕ) → M * L ≡ a * c → M * g * L ≡ a * (c * g)
    own M c g a L v = omega (arith, ap (λ (x : ℕ). x * g) v)

    positive : (u t : Bool) (R A B : ℕ) → plus u R + 0 + minus (not t) B ≡ minus u R + A + plus (not t) B → plus t B + 0 < A + minus t B → (u ≡ false) × (0 < R)
    positive true true R A B v h = absurd (omega arith)
    positive true false R A B v h = absurd (omega arith)
    positive false true R A B v h = (refl, omega arith)
    positive false false R A B v h = (refl, omega arith)

pub discriminant_least : (a b c : Float) → Finite binary32 a → Finite binary32 b → Finite binary32 c → lt (zero_of binary64) (discriminant a b c) ≡ true → T (le (fin false 1 (negsuc 297)) (discriminant a b c))
unfolding discriminant fits
discriminant_least (fin s m e) (fin t n d) (fin u o g) p q r h =
    subst (λ (v : Float). T (le v (discriminant (fin s m e) (fin t n d) (fin u o g)))) (round_value binary64 (fin false 1 (negsuc 297)) false 1 (2 ^ 298) (pow_pos 298) tt (refl, refl))
    (difference_least (mul binary64 (fin t n d) (fin t n d)) (mul binary64 (mul binary64 four (fin s m e)) (fin u o g)) (unlike s u) (steps binary32 n d * steps binary32 n d) (4 * steps binary32 m e * steps binary32 o g) 298
    (square_exact t n d q) (product_exact s m e u o g p r) (sym (discriminant_positive s m e t n d u o g p q r) ∙ h))
discriminant_least lib.Ieee.nan b c p q r h = elim p [ ]
discriminant_least (inf _) b c p q r h = elim p [ ]
discriminant_least (fin s m e) lib.Ieee.nan c p q r h = elim q [ ]
discriminant_least (fin s m e) (inf _) c p q r h = elim q [ ]
discriminant_least (fin s m e) (fin t n d) lib.Ieee.nan p q r h = elim r [ ]
discriminant_least (fin s m e) (fin t n d) (inf _) p q r h = elim r [ ]

pub discriminant_normal : (a b c : Float) → Finite binary32 a → Finite binary32 b → Finite binary32 c → lt (zero_of binary64) (discriminant a b c) ≡ true → PositiveNormal (discriminant a b c)
discriminant_normal a b c p q r h =
    let D = discriminant a b c in
    normal_least D (discriminant_fits a b c) (within_finite 259 D (discriminant_most a b c p q r))
    (float-le-trans (fin false 1 (negsuc 1021)) (fin false 1 (negsuc 297)) D (unfold le lt in tt) (discriminant_least a b c p q r h))

-- ---- where the two agree
pub normal_agree : (a b c : Float) → (lt (zero_of binary64) (discriminant a b c) ≡ true → PositiveNormal (discriminant a b c)) → normal_roots_of a b c ≡ roots_of a b c
unfolding normal_roots_of roots_of square_roots
normal_agree a b c h = ap (cond (is_linear a b) (linear_roots b c)) (go (lt (zero_of binary64) D) refl)
  where
    D : Float
    D = discriminant a b c

    go : (t : Bool) → lt (zero_of binary64) D ≡ t → square_roots_by (normal_root (to_bits binary64 D)) a b D ≡ square_roots_by (sqrt_of D) a b D
    go true e = ap (λ (s : Float). square_roots_by s a b D) (normal_root_is D (discriminant_fits a b c) (h e))
    go false e = by_fewer (normal_root (to_bits binary64 D)) a b D e ∙ sym (by_fewer (sqrt_of D) a b D e)

pub solvers_agree : (a b c : Float) → Finite binary32 a → Finite binary32 b → Finite binary32 c → normal_roots_of a b c ≡ roots_of a b c
solvers_agree a b c p q r = normal_agree a b c (discriminant_normal a b c p q r)

pub answers_agree : (a b c : Float) (r s : Roots) → Finite binary32 a → Finite binary32 b → Finite binary32 c
    → listed r ≡ normal_roots_of a b c → listed s ≡ roots_of a b c → r ≡ s
answers_agree a b c r s p q t h k = roots_alike (roots_of a b c) r s (h ∙ solvers_agree a b c p q t) k

-- ---- how many they give
pub counts_alike : (a b c : Float) → length (normal_roots_of a b c) ≡ length (roots_of a b c)
unfolding normal_roots_of roots_of square_roots
counts_alike a b c = go (is_linear a b)
  where
    D : Float
    D = discriminant a b c

    go : (p : Bool) → length (cond p (linear_roots b c) (square_roots_by (normal_root (to_bits binary64 D)) a b D)) ≡ length (cond p (linear_roots b c) (square_roots_by (sqrt_of D) a b D))
    go true = refl
    go false = by_count (normal_root (to_bits binary64 D)) a b D ∙ sym (by_count (sqrt_of D) a b D)

pub normal_solver_true : (a b c : Float) (n : ℕ) (x y : Float) → Finite binary32 a → Finite binary32 b → Finite binary32 c → Listed (normal_roots_of a b c) n x y
    → n ≡ true_count (whole_of binary32 a) (whole_of binary32 b) (whole_of binary32 c)
normal_solver_true a b c n x y p q r l = l.counted ∙ counts_alike a b c ∙ count_true a b c p q r

-- The count of any answer of `solve_normal_quadratic`: it keeps the promise as it is read from the source, of the arguments a, the answer z and the arguments at exit e.
pub promise_normal_count : (κs : Lfts 0) (a : Dens κs ps) (z : _) (e : _) → solver.Post κs a z e → Finite binary32 a.0 → Finite binary32 a.1.0 → Finite binary32 a.1.1.0
    → length (listed z) ≡ true_count (whole_of binary32 a.0) (whole_of binary32 a.1.0) (whole_of binary32 a.1.1.0)
promise_normal_count κs a z e h p q r = ap length h ∙ counts_alike a.0 a.1.0 a.1.1.0 ∙ count_true a.0 a.1.0 a.1.1.0 p q r

-- ---- where the roots are not the same
-- x² − 1, scaled by 2^-538: D is the smallest subnormal value, 2^-1074, and its pattern taken for a normal number is that of one some 2^51 times as large
pub apart_subnormal : (roots_of (fin false 1 (negsuc 537)) (fin false 0 (pos 0)) (fin true 1 (negsuc 537)) ≡ fin false 1 (pos 0) ∷ fin true 1 (pos 0) ∷ [])
    × (normal_roots_of (fin false 1 (negsuc 537)) (fin false 0 (pos 0)) (fin true 1 (negsuc 537)) ≡ fin false 6369051672525773 (negsuc 26) ∷ fin true 6369051672525773 (negsuc 26) ∷ [])
unfolding roots_of normal_roots_of is_linear linear_roots discriminant square_roots_by square_roots upper_root lower_root abs_of lt eq mul sub div neg of_bits to_bits sqrt_of normal_root root_of root root_by
apart_subnormal = (refl, refl)

-- x² + x, scaled by 2^600: D overflows, and the infinity's pattern taken for a normal number is that of 2^1024
pub apart_infinite : (roots_of (fin false 1 (pos 600)) (fin false 1 (pos 600)) (fin false 0 (pos 0)) ≡ inf false ∷ inf true ∷ [])
    × (normal_roots_of (fin false 1 (pos 600)) (fin false 1 (pos 600)) (fin false 0 (pos 0)) ≡ fin true 1 (negsuc 0) ∷ fin true 1 (negsuc 0) ∷ [])
unfolding roots_of normal_roots_of is_linear linear_roots discriminant square_roots_by square_roots upper_root lower_root abs_of lt eq mul sub div neg of_bits to_bits sqrt_of normal_root root_of root root_by
apart_infinite = (refl, refl)
