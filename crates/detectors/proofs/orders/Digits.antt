-- The binary digits of numbers put together by exclusive or and by or. Assumes nothing.
--     digit    digit k of a number
--     joint    the digits in which three numbers differ from a first
--     shared   where it has none, the four numbers have that digit in common;
--              `shared_first` is of the first digit
use Rattle.std.proofs.Common.{◌≡◌, ℕ, ◌+◌, ◌*◌, ◌/◌, ◌%◌, ◌^◌, ◌≤◌, sym, ap, ◌∙◌, arith}
use lib.Bits.{bit_and, bit_or, bit_xor, or_add_and, xor_add_and, and_le_l, and_le_r, or_shr, xor_shr, or_mod, xor_mod}

abbrev pub digit : ℕ → ℕ → ℕ
digit k n = n / 2 ^ k % 2 ^ 1

abbrev pub joint : ℕ → ℕ → ℕ → ℕ → ℕ
joint a b c d = bit_or (bit_xor a b) (bit_or (bit_xor a c) (bit_xor a d))

or_digit : (k a b : ℕ) → digit k (bit_or a b) ≡ bit_or (digit k a) (digit k b)
or_digit k a b = ap (λ (n : ℕ). n % 2 ^ 1) (or_shr a b k) ∙ or_mod (a / 2 ^ k) (b / 2 ^ k) 1

xor_digit : (k a b : ℕ) → digit k (bit_xor a b) ≡ bit_xor (digit k a) (digit k b)
xor_digit k a b = ap (λ (n : ℕ). n % 2 ^ 1) (xor_shr a b k) ∙ xor_mod (a / 2 ^ k) (b / 2 ^ k) 1

-- An or is nothing only of nothing.
or_none : (a b : ℕ) → bit_or a b ≡ 0 → (a ≡ 0) × (b ≡ 0)
or_none a b e = go (bit_or a b) (bit_and a b) a b (or_add_and a b) (and_le_l a b) (and_le_r a b) e
  where
    go : (o n a b : ℕ) → o + n ≡ a + b → n ≤ a → n ≤ b → o ≡ 0 → (a ≡ 0) × (b ≡ 0)
    go o n a b s l r e = (omega arith, omega arith)

-- An exclusive or is nothing only of equals.
xor_none : (a b : ℕ) → bit_xor a b ≡ 0 → b ≡ a
xor_none a b e = go (bit_xor a b) (bit_and a b) a b (xor_add_and a b) (and_le_l a b) (and_le_r a b) e
  where
    go : (x n a b : ℕ) → x + n * 2 ≡ a + b → n ≤ a → n ≤ b → x ≡ 0 → b ≡ a
    go x n a b s l r e = omega arith

same : (k a b : ℕ) → digit k (bit_xor a b) ≡ 0 → digit k b ≡ digit k a
same k a b e = xor_none (digit k a) (digit k b) (sym (xor_digit k a b) ∙ e)

apart : (k a b : ℕ) → digit k (bit_or a b) ≡ 0 → (digit k a ≡ 0) × (digit k b ≡ 0)
apart k a b e = or_none (digit k a) (digit k b) (sym (or_digit k a b) ∙ e)

pub shared : (k a b c d : ℕ) → digit k (joint a b c d) ≡ 0 → (digit k b ≡ digit k a) × (digit k c ≡ digit k a) × (digit k d ≡ digit k a)
shared k a b c d e =
    let p = apart k (bit_xor a b) (bit_or (bit_xor a c) (bit_xor a d)) e in
    let q = apart k (bit_xor a c) (bit_xor a d) p.1 in
    (same k a b p.0, same k a c q.0, same k a d q.1)

pub shared_first : (a b c d : ℕ) → joint a b c d % 2 ≡ 0 → (b % 2 ≡ a % 2) × (c % 2 ≡ a % 2) × (d % 2 ≡ a % 2)
shared_first a b c d e =
    let u = shared 0 a b c d (whole (joint a b c d) ∙ e) in
    (digits b u.0, digits c u.1, digits d u.2)
  where
    whole : (n : ℕ) → n / 1 % 2 ≡ n % 2
    whole n = omega arith

    digits : (n : ℕ) → n / 1 % 2 ≡ a / 1 % 2 → n % 2 ≡ a % 2
    digits n h = sym (whole n) ∙ h ∙ whole a
