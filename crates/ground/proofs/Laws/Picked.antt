-- What stands at certain places of a list, and lists that differ at those places alone. Assumes nothing.
--     picked_length, picked_at   how many there are, and what stands there
--     picked_same                two lists that agree at the places
--     picked_all                 all places, in order, give the list itself
--     pasted_none                nothing is changed
--     pasted_set                 one place is written, where no two places are the same
--     pasted_then                one change after another
--     pasted_more                one more place is written
--     pasted_as                  the same with what is new written another way
--     pasted_apart               what stands at places that are all others stays
--     pasted_all                 a change at all places, in order, leaves what is new
--     part_length, part_at       the part of a list that starts at `from` and has n elements
--     picked_part                such a part at places that lie side by side
use mathlib.Core.Path.{◌≡◌, refl, sym, ◌∙◌, subst}
use mathlib.Core.List.{List}
use mathlib.Core.Logic.{dite}
use Prim.Native.Nat.{ℕ, ◌+◌, ◌<◌, ◌≤◌}
use native.Mathlib.Decide.{ℕ_discrete}
use native.Mathlib.Omega.{arith}
use lib.ListN.{length, get_or, set, take, drop, length-set, length-drop}
use lib.Seq.{length-take-le, get_or-take, get_or-drop, get_or-set_same, get_or-set_other, ext_get_or}
use Rattle.ground.specs.Lists.{picked, Pasted}
use Rattle.ground.proofs.Laws.Fill.{tab_length, tab_at, tab_same}

-- no two of the places are the same
abbrev pub Apart : ℕ → (ℕ → ℕ) → Type 0
Apart n f = (j k : ℕ) → j < n → k < n → f j ≡ f k → j ≡ k

pub part_length : {A : Type 0} (xs : List A) (from n : ℕ) → from + n ≤ length xs → length (take n (drop from xs)) ≡ n
part_length xs from n h = length-take-le n (drop from xs) (omega (arith, length-drop from xs))

pub part_at : {A : Type 0} (d : A) (xs : List A) (from n k : ℕ) → k < n → get_or (take n (drop from xs)) k d ≡ get_or xs (from + k) d
part_at d xs from n k l = get_or-take n (drop from xs) k d l ∙ get_or-drop from xs k d

module _ {A : Type 0} (d : A) (n : ℕ) (f : ℕ → ℕ) where
  pub picked_length : (xs : List A) → length (picked d n f xs) ≡ n
  unfolding picked
  picked_length xs = tab_length n (λ k. get_or xs (f k) d)

  pub picked_at : (xs : List A) (k : ℕ) → k < n → get_or (picked d n f xs) k d ≡ get_or xs (f k) d
  unfolding picked
  picked_at xs k l = tab_at n (λ k. get_or xs (f k) d) k d l

  pub picked_same : (xs ys : List A) → ((k : ℕ) → k < n → get_or xs (f k) d ≡ get_or ys (f k) d) → picked d n f xs ≡ picked d n f ys
  unfolding picked
  picked_same xs ys h = tab_same n (λ k. get_or xs (f k) d) (λ k. get_or ys (f k) d) h

  -- a list that has at each index what is picked
  pub is_picked : (xs ys : List A) → length ys ≡ n → ((k : ℕ) → k < n → get_or ys k d ≡ get_or xs (f k) d) → picked d n f xs ≡ ys
  is_picked xs ys e h =
      ext_get_or d (picked d n f xs) ys (picked_length xs ∙ sym e)
      (λ k l. let b : k < n = subst (λ (m : ℕ). k < m) (picked_length xs) l in picked_at xs k b ∙ sym (h k b))

  pub picked_all : (xs : List A) → length xs ≡ n → ((k : ℕ) → k < n → f k ≡ k) → picked d n f xs ≡ xs
  picked_all xs e h = is_picked xs xs e (λ k l. subst (λ (p : ℕ). get_or xs k d ≡ get_or xs p d) (sym (h k l)) refl)

  pub picked_part : (xs : List A) (m r from : ℕ) → m + r ≤ n → ((k : ℕ) → k < r → f (m + k) ≡ from + k) → (k : ℕ) → k < r → get_or (take r (drop from xs)) k d ≡ get_or (picked d n f xs) (m + k) d
  picked_part xs m r from b h k l =
      part_at d xs from r k l ∙ subst (λ (p : ℕ). get_or xs p d ≡ get_or xs (f (m + k)) d) (h k l) refl ∙ sym (picked_at xs (m + k) (omega arith))

  pub pasted_none : (xs : List A) → Pasted d n f xs xs (picked d n f xs)
  pasted_none xs = record { inside = refl; long = refl; outside = λ p h. refl }

  pub pasted_set : Apart n f → (xs : List A) (i : ℕ) (v : A) → i < n → f i < length xs → Pasted d n f xs (set xs (f i) v) (set (picked d n f xs) i v)
  pasted_set a xs i v b l =
      record {
        inside =
            is_picked (set xs (f i) v) (set (picked d n f xs) i v) (length-set (picked d n f xs) i v ∙ picked_length xs)
            (λ k m.
            dite (ℕ_discrete k i)
            (λ e. subst (λ (j : ℕ). get_or (set (picked d n f xs) i v) j d ≡ get_or (set xs (f i) v) (f j) d) (sym e) (get_or-set_same (picked d n f xs) i v d (subst (λ (j : ℕ). i < j) (sym (picked_length xs)) b) ∙ sym (get_or-set_same xs (f i) v d l)))
            (λ e. get_or-set_other (picked d n f xs) i k v d e ∙ picked_at xs k m ∙ sym (get_or-set_other xs (f i) (f k) v d (λ q. e (a k i m b q)))));
        long = length-set xs (f i) v;
        outside = λ p h. get_or-set_other xs (f i) p v d (λ q. h i b (sym q));
      }

  module _ {xs ys : List A} {new : List A} (p : Pasted d n f xs ys new) where
    pub pasted_then : {zs newer : List A} → Pasted d n f ys zs newer → Pasted d n f xs zs newer
    pasted_then q = record { inside = q.inside; long = q.long ∙ p.long; outside = λ k h. q.outside k h ∙ p.outside k h }

    pub pasted_as : {newer : List A} → new ≡ newer → Pasted d n f xs ys newer
    pasted_as e = record { inside = p.inside ∙ e; long = p.long; outside = p.outside }

    pub pasted_more : Apart n f → (i j : ℕ) (v : A) → i < n → f i ≡ j → j < length xs → Pasted d n f xs (set ys j v) (set new i v)
    pasted_more a i j v b e l =
        let s = pasted_set a ys i v b (subst (λ (m : ℕ). m < length ys) (sym e) (subst (λ (m : ℕ). j < m) (sym p.long) l)) in
        let q : Pasted d n f ys (set ys j v) (set new i v) = subst (λ (m : ℕ). Pasted d n f ys (set ys m v) (set new i v)) e (subst (λ (z : List A). Pasted d n f ys (set ys (f i) v) (set z i v)) p.inside s) in
        pasted_then q

    pub pasted_apart : (m : ℕ) (g : ℕ → ℕ) → ((k j : ℕ) → k < n → j < m → f k ≡ g j → ⊥) → picked d m g ys ≡ picked d m g xs
    unfolding picked
    pasted_apart m g h = tab_same m (λ j. get_or ys (g j) d) (λ j. get_or xs (g j) d) (λ j l. p.outside (g j) (λ k b. h k j b l))

    pub pasted_all : length xs ≡ n → ((k : ℕ) → k < n → f k ≡ k) → ys ≡ new
    pasted_all e h = sym (picked_all ys (p.long ∙ e) h) ∙ p.inside
