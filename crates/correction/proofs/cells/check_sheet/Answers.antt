-- `correction::cells::check_sheet` meets its contract. Assumes nothing.
use mathlib.Core.Path.{◌≡◌, refl, sym, ◌∙◌}
use mathlib.Core.Bool.{Bool, true, false, cond, not, ◌||◌}
use Prim.Native.Nat.{ℕ, ◌*◌}
use native.Mathlib.Omega.{arith}
use lib.Dec.{eqb, ltb}
use borrow.Author.Tests.{lt-ltb, le-ltb, eq-eqb, ne_eqb}
use Rattle.ground.specs.Refuse.{first_failing}
use Rattle.inputs.specs.Checks.{bad_channels, bad_size, bad_sample_count, bad_cell_count, size_refusal}
use Rattle.inputs.proofs.Laws.Refusal.{err_numbered, ok_numbered}
use Rattle.correction.specs.Sheet.{bad_sheet}
use Rattle.correction.proofs.cells.check_sheet.Goals as goal
use Rattle.correction.proofs.cells.check_sheet.Goals.{Else-is_err, Else-n, Else-n-2, Else-n-gt4096}

-- the answer of checks 1 to 4, of which a, b, c and d say whether each fails
abbrev answer : Bool → Bool → Bool → Bool → ℕ
answer a b c d = cond a 1 (cond b 2 (cond c 3 (cond d 4 0)))

some_fails : (a b c d f : Bool) → a ≡ false → (answer a b c d ≡ 0 → ⊥) → (b || (c || (d || f))) ≡ true
some_fails a true c d f h k = refl
some_fails a false true d f h k = refl
some_fails a false false true f h k = refl
some_fails a false false false f h k = absurd (k (rw h refl))

none_fails : (a b c d f : Bool) → answer a b c d ≡ 0 → (b || (c || (d || f))) ≡ f
none_fails true b c d f e = absurd (omega arith)
none_fails false true c d f e = absurd (omega arith)
none_fails false false true d f e = absurd (omega arith)
none_fails false false false true f e = absurd (omega arith)
none_fails false false false false f e = refl

module _ (w h ch n m k modes r : ℕ) where
  -- what check 50 asks besides
  abbrev rest : Bool
  rest = ltb 4096 modes || (not (eqb k (10 * modes)) || not (eqb r (4 * modes)))

  checks_fail : bad_channels ch ≡ false → (size_refusal w h ch n m ≡ 0 → ⊥) → bad_sheet w h ch n m k modes r ≡ true
  unfolding size_refusal first_failing bad_sheet
  checks_fail = some_fails (bad_channels ch) (bad_size w h) (bad_sample_count w h ch n) (bad_cell_count w h m) rest

  checks_pass : size_refusal w h ch n m ≡ 0 → bad_sheet w h ch n m k modes r ≡ rest
  unfolding size_refusal first_failing bad_sheet
  checks_pass = none_fails (bad_channels ch) (bad_size w h) (bad_sample_count w h ch n) (bad_cell_count w h m) rest

pub returns-then-is_err : goal.returns-then-is_err
returns-then-is_err c =
    let a = c.args.n in
    let o = sym c.if-bad_channels.ensures in
    rw (o, checks_fail _ _ _ _ _ a.cells a.modes a.settings o (λ z. err_numbered _ c.if-is_err.ensures.value (c.check_size.ensures.numbers ∙ z)))

-- checks 1 to 4 pass: what is left of check 50
abbrev Left : Else-is_err → Type 0
Left c =
    let a = c.args in
    bad_sheet a.b.width a.b.height a.b.channels a.n.samples a.n.stencil a.n.cells a.n.modes a.n.settings ≡ (ltb 4096 a.n.modes || (not (eqb a.n.cells (10 * a.n.modes)) || not (eqb a.n.settings (4 * a.n.modes))))

left : (c : Else-is_err) → Left c
left c = checks_pass _ _ _ _ _ _ _ _ (sym c.check_size.ensures.numbers ∙ ok_numbered _ c.if-is_err.ensures.value)

pub returns-then-n-gt4096 : goal.returns-then-n-gt4096
returns-then-n-gt4096 c = rw (← c.if-bad_channels.ensures, left (goal.at.returns-then-n-gt4096 c).Else-is_err, lt-ltb _ _ c.if-n-gt4096.true)

pub returns-then-n : goal.returns-then-n
returns-then-n c = rw (← c.if-bad_channels.ensures, left (goal.at.returns-then-n c).Else-is_err, le-ltb _ _ c.if-n-gt4096.false, ne_eqb _ _ c.if-n.true)

pub returns-then-n-2 : goal.returns-then-n-2
returns-then-n-2 c = rw (← c.if-bad_channels.ensures, left (goal.at.returns-then-n-2 c).Else-is_err, le-ltb _ _ c.if-n-gt4096.false, eq-eqb _ _ c.if-n.false, ne_eqb _ _ c.if-n-2.true)

-- check 50 passes
passes : (c : Else-n-2) → let a = c.args in bad_sheet a.b.width a.b.height a.b.channels a.n.samples a.n.stencil a.n.cells a.n.modes a.n.settings ≡ false
passes c = rw (left (goal.at.Else-n-2 c).Else-is_err, le-ltb _ _ c.if-n-gt4096.false, eq-eqb _ _ c.if-n.false, eq-eqb _ _ c.if-n-2.false)

pub returns-then-bad_room : goal.returns-then-bad_room
returns-then-bad_room c = rw (← c.if-bad_channels.ensures, passes (goal.at.returns-then-bad_room c).Else-n-2, ← c.if-bad_room.ensures)

pub returns : goal.returns
returns c = rw (← c.if-bad_channels.ensures, passes (goal.at.returns c).Else-n-2, ← c.if-bad_room.ensures)
