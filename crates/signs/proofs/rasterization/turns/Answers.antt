-- `signs::rasterization::turns` meets its contract. Assumes nothing.
use mathlib.Core.Path.{◌≡◌, refl, sym, ◌∙◌, ap, subst}
use mathlib.Core.Bool.{Bool, false, cond}
use Prim.Native.Nat.{ℕ}
use lib.IntN.{ℤ, pos, negsuc}
use lib.ListN.{get_or}
use lib.Signed.{lt_z}
use borrow.Author.Tests.{ne_eqb}
use mir.Syntax.{w8}
use mir.Val.{to_z, of_z}
use Rattle.signs.specs.Signs.{is_nought, turns, vote}
use Rattle.signs.specs.Inner.{UpTo}
use Rattle.signs.proofs.rasterization.Votes.{held8, held32, is_nought_law, vote_small}
use Rattle.signs.proofs.rasterization.turns.Goals as goal

-- a match whose bits are not 0 is not 0
not_nought : (z : ℤ) → (of_z w8 z ≡ 0 → ⊥) → is_nought z ≡ false
not_nought (pos n) h = ne_eqb n 0 h
not_nought (negsuc n) h = refl

-- by the vote, and by the match itself
by_vote : (z v : ℤ) (b : Bool) → z ≡ pos 0 → b ≡ lt_z v (pos 0) → b ≡ cond (is_nought z) (lt_z v (pos 0)) (lt_z z (pos 0))
by_vote z v b e f = f ∙ rw e

by_match : (z v : ℤ) → UpTo 1 z → is_nought z ≡ false → lt_z (to_z w8 (of_z w8 z)) (pos 0) ≡ cond (is_nought z) (lt_z v (pos 0)) (lt_z z (pos 0))
by_match z v h e = ap (λ (x : ℤ). lt_z x (pos 0)) (held8 z h) ∙ simp e

pub returns-then-m-eq0 : goal.returns-then-m-eq0
unfolding turns
returns-then-m-eq0 c =
    let s = c.before.before.before in
    let a = s.args in
    let held = s.requires.mapped.held in
    let v = vote a.b.width a.b.height a.ms.now a.x a.y in
    let small : UpTo 4 c.vote-v.result = subst (UpTo 4) (sym c.vote-v.ensures) (vote_small _ _ _ _ _ held) in
    let z : get_or a.ms.now a.k (pos 0) ≡ pos 0 = is_nought_law _ (held _) c.if-m-eq0.true in
    by_vote _ v _ (subst (λ (k : ℕ). get_or a.ms.now k (pos 0) ≡ pos 0) s.requires.placed.0 z) (ap (λ (x : ℤ). lt_z x (pos 0)) (held32 _ small ∙ c.vote-v.ensures))

pub returns : goal.returns
unfolding turns
returns c =
    let s = c.before.before in
    let a = s.args in
    let v = vote a.b.width a.b.height a.ms.now a.x a.y in
    subst (λ (k : ℕ). lt_z (to_z w8 (of_z w8 (get_or a.ms.now a.k (pos 0)))) (pos 0) ≡ cond (is_nought (get_or a.ms.now k (pos 0))) (lt_z v (pos 0)) (lt_z (get_or a.ms.now k (pos 0)) (pos 0)))
    s.requires.placed.0
    (let z = get_or a.ms.now a.k (pos 0) in by_match z v (s.requires.mapped.held a.k) (not_nought z c.if-m-eq0.false))
