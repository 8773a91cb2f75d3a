-- What is known of a stencil's byte. Assumes nothing.
--     byte-*      the byte of a cell says the three facts that it was made of, and setting a bit makes the byte of a cell with that fact
--     *-set       setting one bit of any byte: the bit is set,
--     *-leaves    all others are as they were,
--     *-again     and setting it again changes nothing
--     *-le        no more cells are counted than there are
--     *-falls     a stencil whose cells have a bit only where those of another as long have one counts no more of them
use mathlib.Core.Path.{◌≡◌, refl, ◌∙◌, ap, subst}
use mathlib.Core.Bool.{Bool, true, false}
use mathlib.Core.List.{List}
use mathlib.Core.Logic.{dite}
use Prim.Native.Nat.{ℕ, ◌+◌, ◌/◌, ◌%◌, ◌<◌, ◌≤◌}
use native.Mathlib.Decide.{ℕ_discrete}
use native.Mathlib.Omega.{arith}
use lib.Dec.{eqb}
use lib.ListN.{length, get_or}
use borrow.Author.Tests.{eqb-true, eq-eqb, ne_eqb}
use Rattle.inputs.specs.Stencil.{stencil_byte, has_corner, is_protected, is_error, set_corner, set_protected, set_error, cell_count, protected_count, error_count, corner_count}
use Rattle.ground.specs.Lists.{count, total}
use Rattle.ground.proofs.Laws.Count.{count_small, count_falls}
use Rattle.ground.proofs.Laws.Spent.{count_total}

-- ---- the byte of a cell

-- The byte says each of the three facts that it was made of, whatever the other two are.
pub byte_says : (c p e : Bool) → (has_corner (stencil_byte c p e) ≡ c) × (is_protected (stencil_byte c p e) ≡ p) × (is_error (stencil_byte c p e) ≡ e)
unfolding stencil_byte has_corner is_protected is_error
byte_says true true true = (refl, refl, refl)
byte_says true true false = (refl, refl, refl)
byte_says true false true = (refl, refl, refl)
byte_says true false false = (refl, refl, refl)
byte_says false true true = (refl, refl, refl)
byte_says false true false = (refl, refl, refl)
byte_says false false true = (refl, refl, refl)
byte_says false false false = (refl, refl, refl)

-- Setting a bit makes the byte of a cell with that fact and the other two as they were.
pub byte_sets : (c p e : Bool) → (set_corner (stencil_byte c p e) ≡ stencil_byte true p e) × (set_protected (stencil_byte c p e) ≡ stencil_byte c true e) × (set_error (stencil_byte c p e) ≡ stencil_byte c p true)
unfolding stencil_byte has_corner is_protected is_error set_corner set_protected set_error
byte_sets true true true = (refl, refl, refl)
byte_sets true true false = (refl, refl, refl)
byte_sets true false true = (refl, refl, refl)
byte_sets true false false = (refl, refl, refl)
byte_sets false true true = (refl, refl, refl)
byte_sets false true false = (refl, refl, refl)
byte_sets false false true = (refl, refl, refl)
byte_sets false false false = (refl, refl, refl)

-- The byte 0 says nothing.
pub byte_clear : 0 ≡ stencil_byte false false false
unfolding stencil_byte
byte_clear = refl

pub clear_says : (has_corner 0 ≡ false) × (is_protected 0 ≡ false) × (is_error 0 ≡ false)
unfolding has_corner is_protected is_error
clear_says = (refl, refl, refl)

-- The byte 2 says that the cell is protected, and no more.
pub byte_only_protected : 2 ≡ stencil_byte false true false
unfolding stencil_byte
byte_only_protected = refl

-- ---- setting a bit

-- a bit is 1 or it is 0, and the code's test says which
by_bit : {P : Type 0} (b : ℕ) → (eqb (b % 2) 1 ≡ true → b % 2 ≡ 1 → P) → (eqb (b % 2) 1 ≡ false → b % 2 ≡ 0 → P) → P
by_bit b f g = dite (ℕ_discrete (b % 2) 1) (λ e. f (eq-eqb (b % 2) 1 e) e) (λ n. g (ne_eqb (b % 2) 1 n) (omega arith))

pub corner_set : (v : ℕ) → has_corner (set_corner v) ≡ true
unfolding has_corner set_corner
corner_set v = by_bit (v / 4) (λ t e. simp t) (λ t e. simp t (eq-eqb ((v + 4) / 4 % 2) 1 (omega arith)))

pub protected_set : (v : ℕ) → is_protected (set_protected v) ≡ true
unfolding is_protected set_protected
protected_set v = by_bit (v / 2) (λ t e. simp t) (λ t e. simp t (eq-eqb ((v + 2) / 2 % 2) 1 (omega arith)))

pub error_set : (v : ℕ) → is_error (set_error v) ≡ true
unfolding is_error set_error
error_set v = by_bit v (λ t e. simp t) (λ t e. simp t (eq-eqb ((v + 1) % 2) 1 (omega arith)))

pub corner_leaves : (v : ℕ) → (set_corner v % 4 ≡ v % 4) × (set_corner v / 8 ≡ v / 8)
unfolding has_corner set_corner
corner_leaves v = by_bit (v / 4) (λ t e. (simp t, simp t)) (λ t e. (simp t (omega arith), simp t (omega arith)))

pub protected_leaves : (v : ℕ) → (set_protected v % 2 ≡ v % 2) × (set_protected v / 4 ≡ v / 4)
unfolding is_protected set_protected
protected_leaves v = by_bit (v / 2) (λ t e. (simp t, simp t)) (λ t e. (simp t (omega arith), simp t (omega arith)))

pub error_leaves : (v : ℕ) → set_error v / 2 ≡ v / 2
unfolding is_error set_error
error_leaves v = by_bit v (λ t e. simp t) (λ t e. simp t (omega arith))

pub corner_again : (v : ℕ) → set_corner (set_corner v) ≡ set_corner v
unfolding set_corner
corner_again v = simp (corner_set v)

pub protected_again : (v : ℕ) → set_protected (set_protected v) ≡ set_protected v
unfolding set_protected
protected_again v = simp (protected_set v)

pub error_again : (v : ℕ) → set_error (set_error v) ≡ set_error v
unfolding set_error
error_again v = simp (error_set v)

-- What a corner leaves of a byte: both bits are set, and setting both again changes nothing.
corner_protected : (v : ℕ) → is_protected (set_corner (set_protected v)) ≡ true
unfolding is_protected
corner_protected v =
    let l = (corner_leaves (set_protected v)).0 in
    let p : set_protected v / 2 % 2 ≡ 1 = eqb-true _ 1 (protected_set v) in
    eq-eqb (set_corner (set_protected v) / 2 % 2) 1 (omega (arith, l, p))

kept : (u : ℕ) → is_protected u ≡ true → set_protected u ≡ u
unfolding set_protected
kept u p = simp p

pub both_again : (v : ℕ) → set_corner (set_protected (set_corner (set_protected v))) ≡ set_corner (set_protected v)
both_again v = ap set_corner (kept (set_corner (set_protected v)) (corner_protected v)) ∙ corner_again (set_protected v)

-- ---- the counts

pub protected_le : (st : List ℕ) → protected_count st ≤ length st
unfolding protected_count
protected_le st = count_small _ (length st)

pub error_le : (st : List ℕ) → error_count st ≤ length st
unfolding error_count
error_le st = count_small _ (length st)

pub corner_le : (st : List ℕ) → corner_count st ≤ length st
unfolding corner_count
corner_le st = count_small _ (length st)

counted_falls : (f g : ℕ → Bool) (st st' : List ℕ) → length st ≡ length st' → ((k : ℕ) → f (get_or st k 0) ≡ true → g (get_or st' k 0) ≡ true) → cell_count f st ≤ cell_count g st'
counted_falls f g st st' e h = subst (λ (n : ℕ). cell_count f st ≤ count n (λ k. g (get_or st' k 0))) e (count_falls (length st) (λ k. f (get_or st k 0)) (λ k. g (get_or st' k 0)) h)

pub error_falls : (st st' : List ℕ) → length st ≡ length st' → ((k : ℕ) → is_error (get_or st k 0) ≡ true → is_error (get_or st' k 0) ≡ true) → error_count st ≤ error_count st'
unfolding error_count
error_falls = counted_falls is_error is_error

pub corner_falls : (st st' : List ℕ) → length st ≡ length st' → ((k : ℕ) → has_corner (get_or st k 0) ≡ true → has_corner (get_or st' k 0) ≡ true) → corner_count st ≤ corner_count st'
unfolding corner_count
corner_falls = counted_falls has_corner has_corner

-- No more cells have an error than something adds up to that is at least 1 for each that has one.
pub error_under : (st : List ℕ) (g : ℕ → ℕ) → ((k : ℕ) → k < length st → is_error (get_or st k 0) ≡ true → 1 ≤ g k) → error_count st ≤ total (length st) g
unfolding error_count
error_under st g = count_total (length st) (λ k. is_error (get_or st k 0)) g

-- No more cells have a corner than are protected, where each that has one is.
pub corner_within : (st : List ℕ) → ((k : ℕ) → has_corner (get_or st k 0) ≡ true → is_protected (get_or st k 0) ≡ true) → corner_count st ≤ protected_count st
unfolding corner_count protected_count
corner_within st = counted_falls has_corner is_protected st st refl
