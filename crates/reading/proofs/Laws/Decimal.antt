-- `decimal n` is the decimal text of n, for every n: it reads back as n, it has no zero in front, and no other such text says n. Assumes nothing.
use Prim.Native.Nat.{ℕ, zero, suc, ◌+◌, ◌-◌, ◌*◌, ◌/◌, ◌%◌, ◌^◌, ◌<◌, ◌≤◌}
use mathlib.Core.Bool.{Bool, true, false, cond}
use mathlib.Core.List.{List, [], ◌∷◌, ◌++◌, append_assoc, append-nil}
use mathlib.Core.Path.{◌≡◌, refl, sym, ap, ◌∙◌}
use native.Mathlib.Nat.{pow-suc, one-le-pow, not-suc-le-zero, le_of_suc-le-suc}
use native.Mathlib.Omega.{arith}
use lib.Dec.{ltb, eqb}
use lib.ListN.{length, get_or, length-append, get_or-append}
use borrow.Author.Tests.{lt-ltb, le-ltb, ltb-true, ltb-false, eqb-true, eqb-false}
use Rattle.std.specs.Fmt as Fmt
use Rattle.std.proofs.lemmas.Fmt.{decimal_by_steps}
use Rattle.reading.specs.Decimal.{decimal_by, decimal, value_from, value_of, Decimal}

-- ---- a number below 10 has one digit, and any other the digits of its tenth and one more

-- one digit is the same by any count, and more are where the tenth's are
more_same : (n : ℕ) (t : Bool) (x y : List ℕ) → ltb n 10 ≡ t → (10 ≤ n → x ≡ y) → cond t [] x ++ ((48 + n % 10) ∷ []) ≡ cond t [] y ++ ((48 + n % 10) ∷ [])
more_same n true x y e h = refl
more_same n false x y e h = ap (λ (l : List ℕ). l ++ ((48 + n % 10) ∷ [])) (h (ltb-false n 10 e))

-- any two counts above n give all its digits
enough : (j k n : ℕ) → n < j → n < k → decimal_by j n ≡ decimal_by k n
unfolding decimal_by
enough zero k n p q = absurd (not-suc-le-zero p)
enough (suc j) zero n p q = absurd (not-suc-le-zero q)
enough (suc j) (suc k) n p q = more_same n (ltb n 10) _ _ refl (λ l. enough j k (n / 10) (omega arith) (omega arith))

-- one digit
pub decimal_one : (n : ℕ) → n < 10 → decimal n ≡ (48 + n) ∷ []
unfolding decimal decimal_by
decimal_one n l = rw (lt-ltb n 10 l) (ap (λ (d : ℕ). (48 + d) ∷ []) (omega arith))

-- more than one
pub decimal_more : (n : ℕ) → 10 ≤ n → decimal n ≡ decimal (n / 10) ++ ((48 + n % 10) ∷ [])
unfolding decimal decimal_by
decimal_more n l = rw (le-ltb n 10 l) (ap (λ (t : List ℕ). t ++ ((48 + n % 10) ∷ [])) (enough n (suc (n / 10)) (n / 10) (omega arith) (omega arith)))

tens_test : (P : ℕ → Type 0) (n : ℕ) (t : Bool) → ltb n 10 ≡ t → (n < 10 → P n) → (10 ≤ n → P n) → P n
tens_test P n true e one more = one (ltb-true n 10 e)
tens_test P n false e one more = more (ltb-false n 10 e)

tens_below : (P : ℕ → Type 0) → ((n : ℕ) → n < 10 → P n) → ((n : ℕ) → 10 ≤ n → P (n / 10) → P n) → (k n : ℕ) → n < k → P n
tens_below P one more zero n l = absurd (not-suc-le-zero l)
tens_below P one more (suc k) n l = tens_test P n (ltb n 10) refl (one n) (λ h. more n h (tens_below P one more k (n / 10) (omega arith)))

-- what holds of each number below 10, and of any other where it holds of its tenth, holds of every number
pub by_tens : (P : ℕ → Type 0) → ((n : ℕ) → n < 10 → P n) → ((n : ℕ) → 10 ≤ n → P (n / 10) → P n) → (n : ℕ) → P n
by_tens P one more n = tens_below P one more (suc n) n (omega arith)

-- ---- it reads back as n

-- one more digit
value_more : (v : ℕ) (t : List ℕ) (d : ℕ) → value_from v (t ++ (d ∷ [])) ≡ 10 * value_from v t + (d - 48)
unfolding value_from
value_more v [] d = refl
value_more v (e ∷ t) d = value_more (10 * v + (e - 48)) t d

-- the library has the same text
pub decimal_std : (n : ℕ) → n < 2 ^ 64 → Fmt.decimal n ≡ decimal n
decimal_std n small = sym (decimal_by_steps (λ m ds. decimal m ≡ ds) decimal_one (λ m ds l e. decimal_more m l ∙ ap (λ t. t ++ ((48 + m % 10) ∷ [])) e) n small)

-- the digits, read from left to right, say n
pub decimal_value : (n : ℕ) → value_of (decimal n) ≡ n
unfolding value_of value_from
decimal_value =
    by_tens (λ n. value_of (decimal n) ≡ n) (λ n l. rw (decimal_one n l) (omega arith))
    (λ n l h. rw (decimal_more n l, value_more) (omega (arith, h)))

-- ---- it is a text of a number

-- digits and one more digit are digits
digit_more : (t : List ℕ) (d : ℕ) → ((k : ℕ) → k < length t → (48 ≤ get_or t k 0) × (get_or t k 0 ≤ 57)) → 48 ≤ d → d ≤ 57 → (k : ℕ) → k < length (t ++ (d ∷ [])) → (48 ≤ get_or (t ++ (d ∷ [])) k 0) × (get_or (t ++ (d ∷ [])) k 0 ≤ 57)
digit_more [] d h p q zero l = (p, q)
digit_more [] d h p q (suc k) l = absurd (omega arith)
digit_more (e ∷ t) d h p q zero l = h 0 (omega arith)
digit_more (e ∷ t) d h p q (suc k) l = digit_more t d (λ j m. h (suc j) (omega arith)) p q k (le_of_suc-le-suc l)

-- the first digit stays the first
first_more : (t : List ℕ) (d : ℕ) → 1 ≤ length t → get_or (t ++ (d ∷ [])) 0 0 ≡ get_or t 0 0
first_more t d l = get_or-append t (d ∷ []) 0 0 l

-- it has a digit
pub decimal_some : (n : ℕ) → 1 ≤ length (decimal n)
decimal_some =
    by_tens (λ n. 1 ≤ length (decimal n)) (λ n l. rw (decimal_one n l) (omega arith))
    (λ n l h. rw (decimal_more n l, length-append) (omega arith))

-- each byte of it is a digit
pub decimal_digits : (n k : ℕ) → k < length (decimal n) → (48 ≤ get_or (decimal n) k 0) × (get_or (decimal n) k 0 ≤ 57)
decimal_digits =
    by_tens (λ n. (k : ℕ) → k < length (decimal n) → (48 ≤ get_or (decimal n) k 0) × (get_or (decimal n) k 0 ≤ 57))
    (λ n l. rw (decimal_one n l) (digit_more [] (48 + n) (λ k m. absurd (omega arith)) (omega arith) (omega arith)))
    (λ n l h. rw (decimal_more n l) (digit_more (decimal (n / 10)) (48 + n % 10) h (omega arith) (omega arith)))

-- the first digit of a number that is not 0 is not 0
first_some : (n : ℕ) → 1 ≤ n → get_or (decimal n) 0 0 ≡ 48 → ⊥
first_some =
    by_tens (λ n. 1 ≤ n → get_or (decimal n) 0 0 ≡ 48 → ⊥) (λ n l p e. omega (arith, rw (decimal_one n l) at e))
    (λ n l h p e. h (omega arith) (sym (first_more (decimal (n / 10)) (48 + n % 10) (decimal_some (n / 10))) ∙ (rw (decimal_more n l) at e)))

-- where it begins with 0 it is 0
pub decimal_first : (n : ℕ) → get_or (decimal n) 0 0 ≡ 48 → decimal n ≡ 48 ∷ []
decimal_first zero e = decimal_one 0 (omega arith)
decimal_first (suc n) e = absurd (first_some (suc n) (omega arith) e)

-- so it is one digit or more, nothing but digits, and no zero in front of others
pub decimal_text : (n : ℕ) → Decimal (decimal n)
decimal_text n = record { some = decimal_some n; digits = decimal_digits n; first = decimal_first n }

-- ---- it is the only text of n

-- one digit after those of a number that is not 0
digit_after : (v d : ℕ) → 1 ≤ v → 48 ≤ d → d ≤ 57 → decimal (10 * v + (d - 48)) ≡ decimal v ++ (d ∷ [])
digit_after v d p a b =
    let q : (10 * v + (d - 48)) / 10 ≡ v = omega arith in
    let r : 48 + (10 * v + (d - 48)) % 10 ≡ d = omega arith in
    decimal_more (10 * v + (d - 48)) (omega arith) ∙ ap (λ (m : ℕ). decimal m ++ ((48 + (10 * v + (d - 48)) % 10) ∷ [])) q ∙ ap (λ (e : ℕ). decimal v ++ (e ∷ [])) r

-- and any number of them
digits_after : (v : ℕ) (t : List ℕ) → 1 ≤ v → ((k : ℕ) → k < length t → (48 ≤ get_or t k 0) × (get_or t k 0 ≤ 57)) → decimal (value_from v t) ≡ decimal v ++ t
unfolding value_from
digits_after v [] p h = sym (append-nil (decimal v))
digits_after v (d ∷ t) p h =
    let z = h 0 (omega arith) in
    digits_after (10 * v + (d - 48)) t (omega arith) (λ k l. h (suc k) (omega arith)) ∙ ap (λ (l : List ℕ). l ++ t) (digit_after v d p z.0 z.1) ∙ append_assoc (decimal v) (d ∷ []) t

-- a text says 0 where it begins with 0, and else its first digit and the others after it
only_test : (d : ℕ) (t : List ℕ) (b : Bool) → eqb d 48 ≡ b → Decimal (d ∷ t) → d ∷ t ≡ decimal (value_of (d ∷ t))
unfolding value_of value_from
only_test d t true e z =
    let h = z.first (eqb-true d 48 e) in
    h ∙ sym (ap (λ (l : List ℕ). decimal (value_of l)) h ∙ decimal_one 0 (omega arith))
only_test d t false e z =
    let n = eqb-false d 48 e in
    let y = z.digits 0 (omega arith) in
    let v : ℕ = 10 * 0 + (d - 48) in
    let r : 48 + v ≡ d = omega (arith, y.0) in
    sym (digits_after v t (omega (arith, y.0)) (λ k l. z.digits (suc k) (omega arith)) ∙ ap (λ (l : List ℕ). l ++ t) (decimal_one v (omega (arith, y.1)) ∙ ap (λ (m : ℕ). m ∷ []) r))

-- a text of a number that says n is `decimal n`
pub decimal_only : (t : List ℕ) (n : ℕ) → Decimal t → value_of t ≡ n → t ≡ decimal n
decimal_only [] n z e = absurd (omega (arith, z.some))
decimal_only (d ∷ t) n z e = only_test d t (eqb d 48) refl z ∙ ap decimal e

-- ---- how long it is

-- one digit, and one more than the tenth has
pub length_one : (n : ℕ) → n < 10 → length (decimal n) ≡ 1
length_one n l = rw (decimal_one n l)

pub length_more : (n : ℕ) → 10 ≤ n → length (decimal n) ≡ length (decimal (n / 10)) + 1
length_more n l = rw (decimal_more n l, length-append)

-- a number below 10 ^ k has at most k digits
pub decimal_length : (k n : ℕ) → 1 ≤ k → n < 10 ^ k → length (decimal n) ≤ k
decimal_length zero n p l = absurd (omega arith)
decimal_length (suc zero) n p l = rw (decimal_one n l) (omega arith)
decimal_length (suc (suc k)) n p l =
    tens_test (λ m. length (decimal m) ≤ suc (suc k)) n (ltb n 10) refl (λ a. rw (decimal_one n a) (omega arith))
    (λ a. rw (decimal_more n a, length-append) (omega (arith, decimal_length (suc k) (n / 10) (omega arith) (omega (arith, pow-suc 10 (suc k))))))

-- and one from 10 ^ k on has more
pub decimal_longer : (k n : ℕ) → 10 ^ k ≤ n → k < length (decimal n)
decimal_longer zero n l = decimal_some n
decimal_longer (suc k) n l =
    let a : 10 ≤ n = omega (arith, pow-suc 10 k, one-le-pow k 10 (omega arith)) in
    rw (decimal_more n a, length-append) (omega (arith, decimal_longer k (n / 10) (omega (arith, pow-suc 10 k))))

-- 20 digits are enough for every u64
pub decimal_length_u64 : (n : ℕ) → n < 2 ^ 64 → length (decimal n) ≤ 20
decimal_length_u64 n l = decimal_length 20 n (omega arith) (omega arith)
