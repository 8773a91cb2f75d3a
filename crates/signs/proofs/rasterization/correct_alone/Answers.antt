-- `signs::rasterization::correct_alone` meets its contract: channel c has gone by its own comparison in the first k texels. Assumes nothing.
use mathlib.Core.Path.{◌≡◌, refl, sym, ◌∙◌, ap, subst}
use mathlib.Core.Bool.{Bool, false}
use mathlib.Core.List.{List}
use Prim.Native.Nat.{ℕ, ◌+◌, ◌-◌, ◌*◌, ◌%◌, ◌<◌, ◌≤◌}
use native.Mathlib.Nat.{le_of_eq}
use native.Mathlib.Omega.{arith}
use lib.Arith.{digits_lt, digits_div, digits_mod}
use lib.Dec.{eqb}
use lib.ListN.{length, get_or}
use lib.Ieee.{Float, nan}
use borrow.Author.Tests.{eq-eqb, ne_eqb}
use Rattle.signs.specs.Flip.{is_amiss, flipped_if}
use Rattle.signs.specs.Signs.{filled_at}
use Rattle.signs.proofs.rasterization.Steps.{flipping_all, alone_next}
use Rattle.signs.proofs.rasterization.correct_alone.Goals as goal
use Rattle.signs.proofs.rasterization.correct_alone.Invariants.{goes}

-- of channel c of texel k, and of another channel
own : (zero : Float) (ch c : ℕ) (filled : List ℕ) (xs : List Float) (k : ℕ) → c < ch → goes zero ch c filled xs (k * ch + c) ≡ is_amiss zero (filled_at filled k) (get_or xs (k * ch + c) nan)
own zero ch c filled xs k l = rw (digits_mod k l, digits_div k l, eq-eqb c c refl)

other : (zero : Float) (ch c : ℕ) (filled : List ℕ) (xs : List Float) (k j : ℕ) → k * ch ≤ j → j < k * ch + ch → (j ≡ k * ch + c → ⊥) → goes zero ch c filled xs j ≡ false
other zero ch c filled xs k j a b n =
    let d = j - k * ch in
    let e : k * ch + d ≡ j = omega arith in
    let m : j % ch ≡ d = sym (ap (λ (i : ℕ). i % ch) e) ∙ digits_mod k (omega arith) in
    rw (ne_eqb (j % ch) c (λ q. n (omega (arith, q, m))))

-- what is asked of it is read from the samples as they were
asked : (zero : Float) (ch c : ℕ) (filled : List ℕ) (xs : List Float) (k : ℕ) {v : Float} → c < ch → v ≡ get_or xs (k * ch + c) nan
    → flipped_if zero (is_amiss zero (eqb (get_or filled k 0) 1) v) v ≡ flipped_if zero (goes zero ch c filled xs (k * ch + c)) v
unfolding filled_at
asked zero ch c filled xs k {v} l e = ap (λ (b : Bool). flipped_if zero b v) (ap (is_amiss zero (eqb (get_or filled k 0) 1)) e ∙ sym (own zero ch c filled xs k l))

pub loop-k-preserved : goal.loop-k-preserved
loop-k-preserved g c =
    let l = c.loop-k in
    let a = c.args in
    let xs = a.xs.now in
    let here : l.k * g.row.CH + g.row.C < length l.xs = omega (arith, l.invariant.len, c.requires.0, digits_lt c.loop-k-test.true c.requires.1) in
    alone_next a.zero (goes a.zero g.row.CH g.row.C a.filled.now xs) xs l.k g.row.CH g.row.C _ l.invariant c.requires.1 here
    (c.corrected.ensures ∙ asked a.zero g.row.CH g.row.C a.filled.now xs l.k c.requires.1 (l.invariant.rest (l.k * g.row.CH + g.row.C) (omega arith)))
    (other a.zero g.row.CH g.row.C a.filled.now xs l.k)

pub returns : goal.returns
returns g c =
    let l = c.loop-k in
    let a = c.args in
    let e : l.k ≡ length a.filled.now = omega (arith, l.auto.k-end, c.loop-k-test.false) in
    flipping_all a.zero _ a.xs.now l.invariant (subst (λ (n : ℕ). length a.xs.now ≤ n * g.row.CH) (sym e) (le_of_eq c.requires.0))
