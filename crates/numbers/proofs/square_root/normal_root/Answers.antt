-- `numbers::square_root::normal_root` meets its contract (`Rooting.antt`). Assumes nothing.
use Rattle.std.proofs.Common.{◌≡◌, ℕ, ◌+◌, ◌-◌, ◌*◌, ◌%◌, ◌<◌, ◌≤◌, not, T, sym, ap, ◌∙◌, subst, arith}
use lib.Ieee.{binary64, of_bits, nan_bits}
use Rattle.numbers.specs.Inner.{nearest_root}
use Rattle.numbers.proofs.square_root.Roots.{between, doubled}
use Rattle.numbers.proofs.square_root.Rooting.{field_of, digits_of, k_of, bits_of, fields_root}
use Rattle.numbers.proofs.square_root.normal_root.Goals as goal
use Rattle.numbers.proofs.square_root.normal_root.Goals.{After-nearest106, Start}

abbrev m_of : Start → ℕ
m_of c = (4503599627370496 + digits_of c.args.b) * (2 - field_of c.args.b % 2)

m_in : (c : Start) → (4503599627370496 ≤ m_of c) × (m_of c < 18014398509481984)
m_in c = doubled (4503599627370496 + digits_of c.args.b) (2 - field_of c.args.b % 2) (omega arith) (omega arith) (omega arith) (omega arith)

pub nearest106-requires : goal.nearest106-requires
nearest106-requires c =
    let h = m_in c.before in
    let b = between (m_of c.before) c.root54.result.s c.root54.result.r 67108864 134217728 c.root54.ensures (omega arith) (omega arith) in
    (b.0, b.1, c.root54.ensures.1)

-- the pattern as it is worked out
bits : (c : After-nearest106) → k_of (field_of c.before.before.args.b) * 4503599627370496 + c.nearest106.result ≡ bits_of c.before.before.args.b
bits c = ap (λ (x : ℕ). k_of (field_of c.before.before.args.b) * 4503599627370496 + x) (c.nearest106.ensures.0 ∙ ap (λ (n : ℕ). nearest_root (n * 4503599627370496)) c.before.root54.ensures.0)

pub float_from_bits-result : goal.float_from_bits-result
float_from_bits-result c = subst (λ (n : ℕ). T (not (nan_bits binary64 n))) (sym (bits c)) (fields_root c.before.before.args.b).1

pub returns : goal.returns
returns c = ap (of_bits binary64) (bits c) ∙ (fields_root c.before.before.args.b).0

pub overflow_mul-n : goal.overflow_mul-n
overflow_mul-n c = let h = m_in c in omega arith

pub root54-requires : goal.root54-requires
root54-requires c = record { le_n = m_in c; le_x = (omega arith, omega arith) }

pub overflow_add-result-2 : goal.overflow_add-result-2
overflow_add-result-2 c = omega (arith, c.nearest106.ensures.1)
