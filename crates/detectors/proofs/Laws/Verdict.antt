-- Verdicts read and put together. Assumes nothing.
--     as_found, as_clear   what the verdict is by whether there is an artifact
--     verdict_le           it is at most 128 and the tests
--     verdict_says         it says whether there is an artifact
--     verdict_makes        and how many tests were made
--     artifact_adds        an artifact after so many tests is 128 and the tests, where these fit
--     then_adds            and two verdicts put together are their sum, where it fits
--     found, clear         added to what is too little for an artifact it says whether there is one
--     guarded_off          where the guard fails nothing is tried
--     guarded_on           where it holds the verdict is that of what it guards
--     or_ended             where there is an artifact nothing more is tried
--     or_next              where there is none yet the verdict of what comes next is added
--     or_off, or_on        the same of what comes next behind a guard
--     or_else_law              either way the verdict is that of both
--     or_spent             so it is with one more turn of a search
--     or_three             and with three turns that take few tests each
use Rattle.std.proofs.Common.{◌≡◌, ℕ, suc, ◌+◌, ◌%◌, ◌<◌, ◌≤◌, ◌^◌, Bool, true, false, cond, ◌&&◌, ◌||◌, leb, sym, refl, ap, ◌∙◌, mod-eq_of_lt, arith, le-leb}
use borrow.Author.Tests.{lt-leb}
use Rattle.ground.specs.Lists.{any, spent}
use Rattle.ground.proofs.Laws.Spent.{spent_small}
use Rattle.detectors.specs.Verdict.{verdict}
use Rattle.detectors.specs.Inner.{or_else}

pub as_found : {a : Bool} (n : ℕ) → a ≡ true → 128 + n ≡ verdict a n
unfolding verdict
as_found n e = rw e

pub as_clear : {a : Bool} (n : ℕ) → a ≡ false → n ≡ verdict a n
unfolding verdict
as_clear n e = rw e

pub verdict_le : (a : Bool) (n : ℕ) → verdict a n ≤ 128 + n
unfolding verdict
verdict_le true n = omega arith
verdict_le false n = omega arith

pub verdict_says : (a : Bool) (n : ℕ) → n < 128 → leb 128 (verdict a n) ≡ a
unfolding verdict
verdict_says true n l = le-leb 128 (128 + n) (omega arith)
verdict_says false n l = lt-leb 128 n l

pub verdict_makes : (a : Bool) (n : ℕ) → n < 128 → verdict a n % 128 ≡ n
unfolding verdict
verdict_makes true n l = omega (arith, l)
verdict_makes false n l = omega (arith, l)

pub artifact_adds : (n r : ℕ) → r ≡ verdict true n % 2 ^ 64 → 128 + n < 2 ^ 64 → r ≡ verdict true n
unfolding verdict
artifact_adds n r e l = e ∙ mod-eq_of_lt l

pub then_adds : (v w r : ℕ) → r ≡ (v + w) % 2 ^ 64 → v + w < 2 ^ 64 → r ≡ v + w
then_adds v w r e l = e ∙ mod-eq_of_lt l

pub found : (a : Bool) (t n v : ℕ) → v ≡ verdict a n → t + n < 128 → 128 ≤ t + v → (a ≡ true) × (v ≡ 128 + n)
unfolding verdict
found true t n v e l m = (refl, e)
found false t n v e l m = absurd (omega (arith, e, l, m))

pub clear : (a : Bool) (t n v : ℕ) → v ≡ verdict a n → t + v < 128 → (a ≡ false) × (v ≡ n)
unfolding verdict
clear true t n v e l = absurd (omega (arith, e, l))
clear false t n v e l = (refl, e)

pub guarded_off : (g v : Bool) (n : ℕ) → g ≡ false → 0 ≡ verdict (g && v) (cond g n 0)
unfolding verdict
guarded_off g v n e = rw e

pub guarded_on : (g v : Bool) (n : ℕ) → g ≡ true → verdict v n ≡ verdict (g && v) (cond g n 0)
unfolding verdict
guarded_on g v n e = rw e

pub or_ended : (b v : ℕ) → 128 ≤ b → b ≡ or_else b v
or_ended b v l = rw (le-leb 128 b l)

pub or_next : (b v w : ℕ) → b < 128 → v ≡ w → b + v ≡ or_else b w
or_next b v w l e = rw (lt-leb 128 b l, e)

pub or_off : (b : ℕ) (g v : Bool) (n : ℕ) → b < 128 → g ≡ false → b ≡ or_else b (verdict (g && v) (cond g n 0))
unfolding verdict
or_off b g v n l e = rw e (omega arith ∙ or_next b 0 0 l refl)

pub or_on : (b : ℕ) (g v : Bool) (n k : ℕ) → b < 128 → g ≡ true → k ≡ verdict v n → b + k ≡ or_else b (verdict (g && v) (cond g n 0))
unfolding verdict
or_on b g v n k l e f = rw e (or_next b k (verdict v n) l f)

pub or_else_law : (a b : Bool) (n m : ℕ) → n < 128 → or_else (verdict a n) (verdict b m) ≡ verdict (a || b) (n + cond a 0 m)
unfolding verdict
or_else_law true b n m l = sym (or_ended (128 + n) (verdict b m) (omega arith)) ∙ omega arith
or_else_law false true n m l = sym (or_next n (128 + m) (128 + m) l refl) ∙ omega arith
or_else_law false false n m l = sym (or_next n m m l refl)

pub or_spent : (f : ℕ → Bool) (c : ℕ → ℕ) (k : ℕ) → spent k f c < 128 → or_else (verdict (any k f) (spent k f c)) (verdict (f k) (c k)) ≡ verdict (any (suc k) f) (spent (suc k) f c)
unfolding any spent
or_spent f c k l = or_else_law (any k f) (f k) (spent k f c) (c k) l

pub or_three : (f : ℕ → Bool) (c : ℕ → ℕ) → ((k : ℕ) → c k ≤ 6) → or_else (or_else (or_else 0 (verdict (f 0) (c 0))) (verdict (f 1) (c 1))) (verdict (f 2) (c 2)) ≡ verdict (any 3 f) (spent 3 f c)
unfolding verdict any spent
or_three f c h =
    let few : (n : ℕ) → n ≤ 3 → spent n f c < 128 = λ n l. omega (arith, spent_small 6 n f c h) in
    ap (λ (v : ℕ). or_else (or_else v (verdict (f 1) (c 1))) (verdict (f 2) (c 2))) (or_spent f c 0 (few 0 (omega arith)))
    ∙ ap (λ (v : ℕ). or_else v (verdict (f 2) (c 2))) (or_spent f c 1 (few 1 (omega arith)))
    ∙ or_spent f c 2 (few 2 (omega arith))
