-- `reading::answer_by` meets its contract: there is room, or nothing is written. Assumes nothing.
use Prim.Native.Nat.{ℕ, ◌≤◌, ◌<◌}
use mathlib.Core.Bool.{Bool, true, false, cond}
use mathlib.Core.List.{List, []}
use mathlib.Core.Path.{◌≡◌, refl, ap, ◌∙◌}
use lib.Arith.{lt→nleb}
use lib.Dec.{leb, le→leb}
use lib.Ieee.Bits.{cond_no, is_true}
use Rattle.reading.specs.Answer.{written, written_plainly}
use Rattle.reading.specs.Inner.{printed_by, written_by}
use Rattle.reading.proofs.answer_by.Goals as goal

-- with either engine
either : (plain : Bool) (n : ℕ) (s : List ℕ) → written_by plain n s ≡ cond (leb 131072 n) (printed_by plain s) []
unfolding printed_by written_by written written_plainly
either true n s = refl
either false n s = refl

short : (plain : Bool) (n : ℕ) (s : List ℕ) → n < 131072 → written_by plain n s ≡ []
short plain n s h = either plain n s ∙ cond_no (leb 131072 n) (printed_by plain s) [] (lt→nleb 131072 n h)

enough : (plain : Bool) (n : ℕ) (s : List ℕ) → 131072 ≤ n → written_by plain n s ≡ printed_by plain s
enough plain n s h = either plain n s ∙ ap (λ (b : Bool). cond b (printed_by plain s) []) (is_true (leb 131072 n) (le→leb 131072 n h))

pub returns-then-out-lt131072 : goal.returns-then-out-lt131072
returns-then-out-lt131072 g c = rw (short _ _ _ c.if-out-lt131072.true) (refl, refl)

pub returns : goal.returns
returns g c = rw (enough _ _ _ c.if-out-lt131072.false) c.answer_into.ensures
