-- `inputs::checks::check_ends` meets its contract: a bad end refuses, and so does a last one that is not the count. Assumes nothing.
use mathlib.Core.Path.{◌≡◌, sym, ◌∙◌}
use Prim.Native.Nat.{◌≤◌, ◌<◌}
use native.Mathlib.Omega.{arith}
use lib.ListN.{length}
use borrow.Author.Tests.{lt-ltb, le-ltb, eq-eqb, ne_eqb}
use Rattle.inputs.specs.Checks.{bad_ends, ends_place}
use Rattle.inputs.proofs.checks.check_ends.Goals as goal

pub returns-in-Some : goal.returns-in-Some
unfolding bad_ends
returns-in-Some c =
    let e = c.in-Some.ensures in
    let l : ends_place c.args.ends.now c.args.n < length c.args.ends.now = omega (arith, e.0, e.1) in
    record { numbers = rw (lt-ltb _ _ l); places = rw (lt-ltb _ _ l) e.0 }

pub returns-then-last_end-n : goal.returns-then-last_end-n
unfolding bad_ends
returns-then-last_end-n c =
    let e : ends_place c.args.ends.now c.args.n ≡ length c.args.ends.now = c.in_default.ensures in
    let l : length c.args.ends.now ≤ ends_place c.args.ends.now c.args.n = omega (arith, e) in
    let b = ne_eqb _ c.args.n (λ z. c.if-last_end-n.true (c.last_end.ensures ∙ z)) in
    record { numbers = rw (le-ltb _ _ l, b); places = rw (le-ltb _ _ l, b) (sym e) }

pub returns : goal.returns
unfolding bad_ends
returns c =
    let e : ends_place c.args.ends.now c.args.n ≡ length c.args.ends.now = c.in_default.ensures in
    let l : length c.args.ends.now ≤ ends_place c.args.ends.now c.args.n = omega (arith, e) in
    let b = eq-eqb _ c.args.n (sym c.last_end.ensures ∙ c.if-last_end-n.false) in
    record { numbers = rw (le-ltb _ _ l, b); places = rw (le-ltb _ _ l, b) }
