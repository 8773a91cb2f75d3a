-- Searches over the numbers below n, in order, and over a list. Assumes nothing.
--     none_zero      before the first turn none has passed
--     none_more      the test fails at k
--     any_at         the test holds at a k below n
--     any_three      the three tests, in order
--     any_first      the first number by itself
--     any_same       two tests that agree below n
--     any_implies    where a test holds of some number another does
--     some_implies   the same over a list
--     none_any       where each number below n fails, none passes
--     none_below     where no number below n passes, each fails
--     first_is       the number that is the first
--     first_is_end   where each number fails the first is n
--     first_le       the first is at most n
--     first_past     where the first is not below n, each fails
--     first_holds    where the first is below n, the test holds of it
--     Searched       a search that has come to i: none before it passes
--     search_none    before the first turn
--     search_more    a turn whose answer r fails
--     search_found   a turn whose answer r passes: i is the first
--     search_end     the loop is left at the end: so is i there
--     search_part    a turn that searches m numbers at once, of which another test says the same, and finds none
--     search_in      such a turn that finds one: it is the first
--     Kept           a search from the end to the front that has come to j and keeps the place found last: the first from j on, and n where there is none
--     kept_none      before the first turn
--     kept_more      a turn, whose answer r says whether its number is kept
--     kept_all       the loop is left at the front: the place is the first of all
use mathlib.Core.Path.{◌≡◌, refl, sym, ◌∙◌, subst}
use mathlib.Core.Bool.{Bool, true, false, cond, ◌||◌, true≢false}
use mathlib.Core.List.{List, [], ◌∷◌}
use mathlib.Core.Logic.{⊎_elim, dite}
use Prim.Native.Nat.{ℕ, zero, suc, ◌+◌, ◌<◌, ◌≤◌}
use native.Mathlib.Nat.{not-suc-le-zero, le_of_suc-le-suc, eq-or-lt_of_le, le_refl, le_antisymm, add-zero, add-suc}
use native.Mathlib.Numerals.{add-one}
use native.Mathlib.Decide.{dec_lt}
use native.Mathlib.Omega.{arith}
use Rattle.ground.specs.Lists.{any, some, first}
use Rattle.ground.proofs.Laws.Bools.{or_implies}

or_true : (b : Bool) → (b || true) ≡ true
or_true true = refl
or_true false = refl

pub none_zero : (f : ℕ → Bool) → any 0 f ≡ false
unfolding any
none_zero f = refl

pub none_more : (f : ℕ → Bool) (k : ℕ) → any k f ≡ false → f k ≡ false → any (k + 1) f ≡ false
unfolding any
none_more f k p q = rw (add-one, p, q)

pub any_at : (f : ℕ → Bool) (n k : ℕ) → k < n → f k ≡ true → any n f ≡ true
unfolding any
any_at f zero k l p = absurd (not-suc-le-zero l)
any_at f (suc n) k l p = ⊎_elim (λ e. rw (← e, p) (or_true (any k f))) (λ b. rw (any_at f n k b p)) (eq-or-lt_of_le (le_of_suc-le-suc l))

or_assoc : (a b c : Bool) → ((a || b) || c) ≡ (a || (b || c))
or_assoc true b c = refl
or_assoc false b c = refl

or_false : (b : Bool) → (b || false) ≡ b
or_false true = refl
or_false false = refl

pub any_three : (f : ℕ → Bool) → any 3 f ≡ (f 0 || (f 1 || f 2))
unfolding any
any_three f = or_assoc (f 0) (f 1) (f 2)

pub any_first : (n : ℕ) (f : ℕ → Bool) → any (suc n) f ≡ (f 0 || any n (λ k. f (suc k)))
unfolding any
any_first zero f = sym (or_false (f 0))
any_first (suc n) f = rw (any_first n f) (or_assoc (f 0) (any n (λ k. f (suc k))) (f (suc n)))

pub any_same : (n : ℕ) (f g : ℕ → Bool) → ((k : ℕ) → k < n → f k ≡ g k) → any n f ≡ any n g
unfolding any
any_same zero f g h = refl
any_same (suc n) f g h = rw (any_same n f g (λ k l. h k (omega arith)), h n (le_refl (suc n)))

pub any_implies : (n : ℕ) (f g : ℕ → Bool) → ((k : ℕ) → f k ≡ true → g k ≡ true) → any n f ≡ true → any n g ≡ true
unfolding any
any_implies zero f g h p = p
any_implies (suc n) f g h p = or_implies (any n f) (f n) (any n g) (g n) (any_implies n f g h) (h n) p

pub some_implies : {A : Type 0} (f g : A → Bool) → ((x : A) → f x ≡ true → g x ≡ true) → (xs : List A) → some f xs ≡ true → some g xs ≡ true
unfolding some
some_implies f g h [] p = p
some_implies f g h (x ∷ xs) p = or_implies (f x) (some f xs) (g x) (some g xs) (h x) (some_implies f g h xs) p

pub none_any : (f : ℕ → Bool) (n : ℕ) → ((k : ℕ) → k < n → f k ≡ false) → any n f ≡ false
unfolding any
none_any f zero h = refl
none_any f (suc n) h = rw (none_any f n (λ k l. h k (omega arith)), h n (le_refl (suc n)))

fails : (f : ℕ → Bool) (n k : ℕ) (b : Bool) → f k ≡ b → any n f ≡ false → k < n → b ≡ false
fails f n k true e p l = absurd (true≢false (sym (any_at f n k l e) ∙ p))
fails f n k false e p l = refl

pub none_below : (f : ℕ → Bool) (n : ℕ) → any n f ≡ false → (k : ℕ) → k < n → f k ≡ false
none_below f n p k l = fails f n k (f k) refl p l

pub first_is : (f : ℕ → Bool) (n i : ℕ) → ((k : ℕ) → k < i → f k ≡ false) → i < n → f i ≡ true → first n f ≡ i
unfolding first
first_is f zero i h l p = absurd (not-suc-le-zero l)
first_is f (suc n) zero h l p = rw p
first_is f (suc n) (suc i) h l p =
    rw (h 0 (omega arith), first_is (λ k. f (suc k)) n i (λ k b. h (suc k) (omega arith)) (le_of_suc-le-suc l) p)

pub first_is_end : (f : ℕ → Bool) (n : ℕ) → ((k : ℕ) → k < n → f k ≡ false) → first n f ≡ n
unfolding first
first_is_end f zero h = refl
first_is_end f (suc n) h = rw (h 0 (omega arith), first_is_end (λ k. f (suc k)) n (λ k b. h (suc k) (omega arith)))

-- ---- a loop that searches, and stops at the first

pub record Searched (f : ℕ → Bool) (n i : ℕ) : Type 0 where
  pub high : i ≤ n
  pub none : any i f ≡ false

pub search_none : (f : ℕ → Bool) (n : ℕ) → Searched f n 0
search_none f n = record { high = omega arith; none = none_zero f }

module _ {f : ℕ → Bool} {n i : ℕ} (s : Searched f n i) where
  pub search_more : {r : Bool} → i < n → r ≡ f i → r ≡ false → Searched f n (i + 1)
  search_more l e p = record { high = omega arith; none = none_more f i s.none (sym e ∙ p) }

  pub search_found : {r : Bool} → i < n → r ≡ f i → r ≡ true → i ≡ first n f
  search_found l e p = sym (first_is f n i (none_below f i s.none) l (sym e ∙ p))

  pub search_end : n ≤ i → i ≡ first n f
  search_end l =
      let e : i ≡ n = le_antisymm s.high l in
      e ∙ sym (first_is_end f n (none_below f n (subst (λ (k : ℕ). any k f ≡ false) e s.none)))

-- ---- a loop that searches from the end to the front, through everything

pub record Kept (f : ℕ → Bool) (n j place : ℕ) : Type 0 where
  pub low : j ≤ place
  pub high : place ≤ n
  pub none : (k : ℕ) → j ≤ k → k < place → f k ≡ false
  pub hit : place < n → f place ≡ true

pub kept_none : (f : ℕ → Bool) (n : ℕ) → Kept f n n n
kept_none f n = record { low = le_refl n; high = le_refl n; none = λ k l b. absurd (omega arith); hit = λ l. absurd (omega arith) }

module _ {f : ℕ → Bool} {n j place : ℕ} (s : Kept f n j place) where
  pub kept_more : {i p : ℕ} {r : Bool} → i + 1 ≡ j → r ≡ f i → p ≡ cond r i place → Kept f n i p
  kept_more {i} {p} {r} e a b = subst (Kept f n i) (sym b) (go r (sym a))
    where
      go : (t : Bool) → f i ≡ t → Kept f n i (cond t i place)
      go true q = record { low = le_refl i; high = omega (arith, s.low, s.high); none = λ k l m. absurd (omega arith); hit = λ l. q }
      go false q =
          record {
            low = omega (arith, s.low);
            high = s.high;
            none = λ k l m. ⊎_elim (λ d. subst (λ (x : ℕ). f x ≡ false) d q) (λ b. s.none k (omega arith) m) (eq-or-lt_of_le l);
            hit = s.hit;
          }

  pub kept_all : j ≤ 0 → place ≡ first n f
  kept_all z =
      dite (dec_lt place n)
      (λ l. sym (first_is f n place (λ k b. s.none k (omega arith) b) l (s.hit l)))
      (λ h.
      let e : place ≡ n = omega (arith, s.high) in
      e ∙ sym (first_is_end f n (λ k b. s.none k (omega arith) (subst (λ (x : ℕ). k < x) (sym e) b))))

cond_le : (b : Bool) (m n : ℕ) → m ≤ n → cond b 0 (suc m) ≤ suc n
cond_le true m n l = omega arith
cond_le false m n l = omega arith

pub first_le : (f : ℕ → Bool) (n : ℕ) → first n f ≤ n
unfolding first
first_le f zero = le_refl 0
first_le f (suc n) = cond_le (f 0) (first n (λ k. f (suc k))) n (first_le (λ k. f (suc k)) n)

cond_past : (b : Bool) (m n : ℕ) → suc n ≤ cond b 0 (suc m) → (b ≡ false) × (n ≤ m)
cond_past true m n l = absurd (not-suc-le-zero l)
cond_past false m n l = (refl, le_of_suc-le-suc l)

pub first_past : (f : ℕ → Bool) (n : ℕ) → n ≤ first n f → (k : ℕ) → k < n → f k ≡ false
unfolding first
first_past f zero l k b = absurd (not-suc-le-zero b)
first_past f (suc n) l zero b = (cond_past (f 0) (first n (λ k. f (suc k))) n l).0
first_past f (suc n) l (suc k) b =
    first_past (λ k. f (suc k)) n (cond_past (f 0) (first n (λ k. f (suc k))) n l).1 k (le_of_suc-le-suc b)

cond_holds : (f : ℕ → Bool) (b : Bool) (m n : ℕ) → f 0 ≡ b → (m < n → f (suc m) ≡ true) → cond b 0 (suc m) < suc n → f (cond b 0 (suc m)) ≡ true
cond_holds f true m n e h l = e
cond_holds f false m n e h l = h (le_of_suc-le-suc l)

pub first_holds : (f : ℕ → Bool) (n : ℕ) → first n f < n → f (first n f) ≡ true
unfolding first
first_holds f zero l = absurd (not-suc-le-zero l)
first_holds f (suc n) l = cond_holds f (f 0) (first n (λ k. f (suc k))) n refl (first_holds (λ k. f (suc k)) n) l

-- ---- a loop that searches a part at a time

before : (f : ℕ → Bool) (m : ℕ) (b : Bool) → f 0 ≡ b → ((k : ℕ) → k < m → f (suc k) ≡ false) → (k : ℕ) → k < cond b 0 (suc m) → f k ≡ false
before f m true e h k l = absurd (not-suc-le-zero l)
before f m false e h zero l = e
before f m false e h (suc k) l = h k (le_of_suc-le-suc l)

first_before : (f : ℕ → Bool) (n k : ℕ) → k < first n f → f k ≡ false
unfolding first
first_before f zero k l = absurd (not-suc-le-zero l)
first_before f (suc n) k l = before f (first n (λ j. f (suc j))) (f 0) refl (λ j b. first_before (λ i. f (suc i)) n j b) k l

none_on : (f : ℕ → Bool) (i m : ℕ) → any i f ≡ false → ((k : ℕ) → k < m → f (i + k) ≡ false) → any (i + m) f ≡ false
unfolding any
none_on f i zero p h = rw (add-zero i) p
none_on f i (suc m) p h = rw (add-suc i m, none_on f i m p (λ k l. h k (omega arith)), h m (le_refl (suc m)))

module _ {f : ℕ → Bool} {n i : ℕ} (s : Searched f n i) (g : ℕ → Bool) {m p : ℕ} (e : p ≡ first m g) (b : i + m ≤ n) (h : (k : ℕ) → k < m → g k ≡ f (i + k)) where
  pub search_part : m ≤ p → Searched f n (i + m)
  search_part l =
      record { high = b; none = none_on f i m s.none (λ k c. sym (h k c) ∙ first_past g m (subst (λ (x : ℕ). m ≤ x) e l) k c) }

  pub search_in : p < m → i + p ≡ first n f
  search_in l =
      let none : any (i + p) f ≡ false = none_on f i p s.none (λ k c. sym (h k (omega arith)) ∙ first_before g m k (subst (λ (x : ℕ). k < x) e c)) in
      let hit : f (i + p) ≡ true = sym (h p l) ∙ subst (λ (x : ℕ). g x ≡ true) (sym e) (first_holds g m (subst (λ (x : ℕ). x < m) e l)) in
      sym (first_is f n (i + p) (none_below f (i + p) none) (omega arith) hit)
