-- `numbers::square_root::nearest106` meets its contract: the last step of a root, which rounds at once (`Roots.antt`). Assumes nothing.
use Rattle.std.proofs.Common.{◌≡◌, ℕ, ◌+◌, ◌*◌, ◌/◌, ◌%◌, ◌<◌, ◌≤◌, mod-lt, mul-le-mul, div-add-mod', arith}
use Rattle.numbers.proofs.square_root.Roots.{last_quotient, last_up, last_down}
use Rattle.numbers.proofs.square_root.nearest106.Goals as goal
use Rattle.numbers.proofs.square_root.nearest106.Goals.{Start}

abbrev q_of : Start → ℕ
q_of c = c.args.h.r * 67108864 / (2 * c.args.h.s)

abbrev u_of : Start → ℕ
u_of c = c.args.h.r * 67108864 % (2 * c.args.h.s)

-- what the division leaves, and how large each step is
record Steps (c : Start) : Type 0 where
  whole : q_of c * (2 * c.args.h.s) + u_of c ≡ c.args.h.r * 67108864
  rest : u_of c < 2 * c.args.h.s
  small : q_of c ≤ 67108864
  square : q_of c * q_of c ≤ 4503599627370496

steps : (c : Start) → Steps c
steps c =
    let e = div-add-mod' (c.args.h.r * 67108864) (2 * c.args.h.s) in
    let l : u_of c < 2 * c.args.h.s = mod-lt (c.args.h.r * 67108864) (omega arith) in
    let q : q_of c ≤ 67108864 = last_quotient c.args.h.s c.args.h.r (q_of c) (u_of c) c.requires.0 c.requires.1 c.requires.2 e l in
    record { whole = e; rest = l; small = q; square = mul-le-mul q q }

-- `omega` takes no number of more than 38 digits, so the bounds stand alone
below : (s q : ℕ) → s < 134217728 → q ≤ 67108864 → (s * 67108864 + q + 1 < 18014398509481984) × (s * 67108864 + q < 18014398509481984) × (s * 67108864 + q + 1 < 18446744073709551616)
below s q h l = (omega arith, omega arith, omega arith)

pub overflow_add-result : goal.overflow_add-result
overflow_add-result c = let d = c.before.before.before.before in record { fits = (below d.args.h.s (q_of d) d.requires.1 (steps d).small).2 }

pub returns-then-s-q : goal.returns-then-s-q
returns-then-s-q c =
    let d = c.before.before.before.before in
    let z = steps d in
    (last_up d.args.h.s d.args.h.r (q_of d) (u_of d) d.requires.0 d.requires.1 d.requires.2 z.whole z.rest c.if-s-q.true, (below d.args.h.s (q_of d) d.requires.1 z.small).0)

pub returns-else-s-q : goal.returns-else-s-q
returns-else-s-q c =
    let d = c.before.before.before.before in
    let z = steps d in
    (last_down d.args.h.s d.args.h.r (q_of d) (u_of d) d.requires.0 d.requires.1 d.requires.2 z.whole z.rest c.if-s-q.false, (below d.args.h.s (q_of d) d.requires.1 z.small).1)

pub overflow_add-s : goal.overflow_add-s
overflow_add-s c = let z = steps c.before.before.before in omega arith

pub overflow_mul-q : goal.overflow_mul-q
overflow_mul-q c = let z = steps c.before.before.before in omega arith

pub overflow_add-s-2 : goal.overflow_add-s-2
overflow_add-s-2 c = let z = steps c.before.before.before in omega arith

pub overflow_mul-t-2 : goal.overflow_mul-t-2
overflow_mul-t-2 c = let z = steps c.before.before.before in omega arith
