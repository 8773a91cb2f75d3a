-- `numbers::square_root::by_digits` meets its contract: with k digits left, the root of what stands before them (`Roots.antt`). Assumes nothing.
use Rattle.std.proofs.Common.{◌≡◌, ℕ, ◌*◌, ◌/◌, ◌^◌, ap, ◌∙◌, subst, arith}
use Rattle.numbers.specs.Inner.{IsRoot}
use Rattle.numbers.proofs.square_root.Roots.{none_yet, half_root, next_digit}
use Rattle.numbers.proofs.square_root.by_digits.Goals as goal

pub loop-k-init : goal.loop-k-init
loop-k-init c = none_yet c.args.n c.requires

pub one_digit-h-requires : goal.one_digit-h-requires
one_digit-h-requires c =
    let l = c.loop-k in
    (half_root c.args.n l.k l.h.s l.h.r c.requires (omega arith) l.invariant, l.invariant.1, omega arith)

pub loop-k-preserved : goal.loop-k-preserved
loop-k-preserved c =
    let l = c.loop-k in
    next_digit c.args.n l.k l.h.s l.h.r c.one_digit-h.result.s c.one_digit-h.result.r (omega arith) l.invariant c.one_digit-h.ensures

pub returns : goal.returns
returns c =
    let l = c.loop-k in
    let z : l.k ≡ 0 = omega arith in
    subst (λ (m : ℕ). IsRoot m l.h.s l.h.r) (ap (λ (k : ℕ). c.args.n / 2 ^ (2 * k)) z ∙ omega arith) l.invariant
