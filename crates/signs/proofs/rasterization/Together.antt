-- What the steps leave together: each sample as `flips` says, and the match map. Assumes nothing.
--     flipped_length, flipped_at_law, flipped_same   of samples of which some are flipped
--     one_samples, one_matches                   with one channel
--     match_map_law, held                            the match map with three and four, and its numbers
--     three_samples                              with three
--     four_samples                               with four, where the fourth channel comes last
--     Left, one_left, three_left, four_left      so what is left is what the rules say
--     after_accepted, after_refused              the same by what the checks answer
use mathlib.Core.Path.{◌≡◌, refl, sym, ◌∙◌, ap, subst}
use mathlib.Core.Bool.{Bool, false, ◌&&◌}
use mathlib.Core.List.{List}
use mathlib.Core.Logic.{dite}
use Prim.Native.Nat.{ℕ, ◌/◌, ◌%◌, ◌<◌, ◌≤◌, zero-le}
use native.Mathlib.Nat.{mod-one, mod-lt}
use native.Mathlib.Decide.{ℕ_discrete, dec_lt}
use native.Mathlib.Omega.{arith}
use lib.Dec.{eqb}
use lib.IntN.{ℤ, pos}
use lib.ListN.{length, get_or, get_or-eq_default}
use lib.Seq.{ext_get_or}
use lib.Ieee.{Float, nan}
use borrow.Author.Tests.{eq-eqb, ne_eqb, lt-ltb, le-ltb}
use Rattle.ground.specs.Lists.{tab}
use Rattle.ground.proofs.Laws.Fill.{tab_length, tab_at, tab_same}
use Rattle.signs.specs.Flip.{is_amiss, flipped_if}
use Rattle.signs.specs.Checks.{Input, refusal_number, accepted}
use Rattle.signs.specs.Signs.{filled_at, match_at, match_map, goes_alone, flips, flipped_where, samples_after, matches_after}
use Rattle.signs.specs.Inner.{UpTo, turns_at}
use Rattle.signs.proofs.rasterization.Votes.{match_at_small}

-- ---- samples of which some are flipped

pub flipped_length : (zero : Float) (p : ℕ → Bool) (xs : List Float) → length (flipped_where zero p xs) ≡ length xs
unfolding flipped_where
flipped_length zero p xs = tab_length (length xs) (λ j. flipped_if zero (p j) (get_or xs j nan))

pub flipped_at_law : (zero : Float) (p : ℕ → Bool) (xs : List Float) (j : ℕ) → j < length xs → get_or (flipped_where zero p xs) j nan ≡ flipped_if zero (p j) (get_or xs j nan)
unfolding flipped_where
flipped_at_law zero p xs j l = tab_at (length xs) (λ i. flipped_if zero (p i) (get_or xs i nan)) j nan l

pub flipped_same : (zero : Float) (p q : ℕ → Bool) (xs : List Float) → ((j : ℕ) → j < length xs → p j ≡ q j) → flipped_where zero p xs ≡ flipped_where zero q xs
unfolding flipped_where
flipped_same zero p q xs h = tab_same (length xs) _ _ (λ j l. ap (λ (b : Bool). flipped_if zero b (get_or xs j nan)) (h j l))

-- what is not flipped
unturned : (zero v : Float) → flipped_if zero false v ≡ v
unfolding flipped_if
unturned zero v = refl

-- ---- one channel

module _ (w h : ℕ) (xs : List Float) (zero : Float) (filled : List ℕ) where
  -- channel c of ch by its own comparison
  abbrev pub alone : ℕ → ℕ → List Float → ℕ → Bool
  alone ch c ys j = eqb (j % ch) c && is_amiss zero (filled_at filled (j / ch)) (get_or ys j nan)

  one : (j : ℕ) → alone 1 0 xs j ≡ flips w h 1 xs zero filled j
  unfolding flips goes_alone
  one j = rw (mod-one j)

  pub one_samples : flipped_where zero (alone 1 0 xs) xs ≡ flipped_where zero (flips w h 1 xs zero filled) xs
  one_samples = flipped_same zero (alone 1 0 xs) (flips w h 1 xs zero filled) xs (λ j l. one j)

  pub one_matches : {n : ℕ} → n ≡ length filled → tab n (λ k. pos 0) ≡ match_map xs 1 zero filled
  unfolding match_map
  one_matches e = rw e

  -- ---- three and four

  module _ (ch : ℕ) (some : 3 ≤ ch) where
    pub match_map_law : tab (length filled) (match_at xs ch zero filled) ≡ match_map xs ch zero filled
    unfolding match_map
    match_map_law = rw (ne_eqb ch 1 (λ e. absurd (omega arith)))

    -- one of the first three channels
    three : (j : ℕ) → (j % ch ≡ 3 → ⊥) → j % ch < 4 → turns_at w h ch (match_map xs ch zero filled) j ≡ flips w h ch xs zero filled j
    unfolding turns_at flips goes_alone
    three j n l = rw (lt-ltb (j % ch) 3 (omega arith), ne_eqb ch 1 (λ e. absurd (omega arith)), ne_eqb (j % ch) 3 n)

    -- the fourth
    fourth : (j : ℕ) → j % ch ≡ 3 → (turns_at w h ch (match_map xs ch zero filled) j ≡ false) × (is_amiss zero (filled_at filled (j / ch)) (get_or xs j nan) ≡ flips w h ch xs zero filled j)
    unfolding turns_at flips goes_alone
    fourth j e = (rw (le-ltb (j % ch) 3 (omega arith)), rw (ne_eqb ch 1 (λ q. absurd (omega arith)), eq-eqb (j % ch) 3 e))

  pub held : (ch k : ℕ) → UpTo 1 (get_or (tab (length filled) (match_at xs ch zero filled)) k (pos 0))
  held ch k =
      let ms = tab (length filled) (match_at xs ch zero filled) in
      dite (dec_lt k (length filled)) (λ l. subst (UpTo 1) (sym (tab_at (length filled) (match_at xs ch zero filled) k (pos 0) l)) (match_at_small xs ch zero filled k))
      (λ n. subst (UpTo 1) (sym (get_or-eq_default ms (pos 0) {n = k} (omega (arith, tab_length (length filled) (match_at xs ch zero filled))))) (record { size = zero-le }))

  pub three_samples : flipped_where zero (turns_at w h 3 (match_map xs 3 zero filled)) xs ≡ flipped_where zero (flips w h 3 xs zero filled) xs
  three_samples = flipped_same zero _ _ xs (λ j l. let m : j % 3 < 3 = mod-lt j (omega arith) in three 3 (omega arith) j (λ e. absurd (omega arith)) (omega arith))

  -- the first three channels as they were left, and the fourth by its own comparison
  module _ (j : ℕ) (l : j < length xs) where
    abbrev turn : ℕ → Bool
    turn = turns_at w h 4 (match_map xs 4 zero filled)

    abbrev ys : List Float
    ys = flipped_where zero turn xs

    by_three : (j % 4 ≡ 3 → ⊥) → flipped_if zero (alone 4 3 ys j) (get_or ys j nan) ≡ flipped_if zero (flips w h 4 xs zero filled j) (get_or xs j nan)
    unfolding flipped_if
    by_three n =
        let m : j % 4 < 4 = mod-lt j (omega arith) in
        simp (ne_eqb (j % 4) 3 n) (flipped_at_law zero turn xs j l ∙ ap (λ (b : Bool). flipped_if zero b (get_or xs j nan)) (three 4 (omega arith) j n m))

    by_itself : j % 4 ≡ 3 → flipped_if zero (alone 4 3 ys j) (get_or ys j nan) ≡ flipped_if zero (flips w h 4 xs zero filled j) (get_or xs j nan)
    by_itself e =
        let f = fourth 4 (omega arith) j e in
        let stays : get_or ys j nan ≡ get_or xs j nan = flipped_at_law zero turn xs j l ∙ ap (λ (b : Bool). flipped_if zero b (get_or xs j nan)) f.0 ∙ unturned zero (get_or xs j nan) in
        ap (λ (b : Bool). flipped_if zero (b && is_amiss zero (filled_at filled (j / 4)) (get_or ys j nan)) (get_or ys j nan)) (eq-eqb (j % 4) 3 e)
        ∙ ap (λ (v : Float). flipped_if zero (is_amiss zero (filled_at filled (j / 4)) v) v) stays
        ∙ ap (λ (b : Bool). flipped_if zero b (get_or xs j nan)) f.1

    each : flipped_if zero (alone 4 3 ys j) (get_or ys j nan) ≡ flipped_if zero (flips w h 4 xs zero filled j) (get_or xs j nan)
    each = dite (ℕ_discrete (j % 4) 3) by_itself by_three

  pub four_samples : let ys = flipped_where zero (turns_at w h 4 (match_map xs 4 zero filled)) xs in flipped_where zero (alone 4 3 ys) ys ≡ flipped_where zero (flips w h 4 xs zero filled) xs
  four_samples =
      let turn = turns_at w h 4 (match_map xs 4 zero filled) in
      let ys = flipped_where zero turn xs in
      let last = alone 4 3 ys in
      let long : length (flipped_where zero last ys) ≡ length xs = flipped_length zero last ys ∙ flipped_length zero turn xs in
      ext_get_or nan (flipped_where zero last ys) (flipped_where zero (flips w h 4 xs zero filled) xs) (long ∙ sym (flipped_length zero (flips w h 4 xs zero filled) xs))
      (λ j l.
      let b : j < length xs = subst (λ (n : ℕ). j < n) long l in
      flipped_at_law zero last ys j (subst (λ (n : ℕ). j < n) (flipped_length zero last ys) l) ∙ each j b ∙ sym (flipped_at_law zero (flips w h 4 xs zero filled) xs j b))

-- ---- what is left, by the number of channels

module _ (w h ch : ℕ) (xs : List Float) (zero : Float) (filled : List ℕ) where
  -- ys and ms are what the rules say
  abbrev pub Left : List Float → List ℤ → Type 0
  Left ys ms = (ys ≡ flipped_where zero (flips w h ch xs zero filled) xs) × (ms ≡ match_map xs ch zero filled)

  pub one_left : {n : ℕ} (ys : List Float) (ms : List ℤ) → ch ≡ 1 → n ≡ length filled → ys ≡ flipped_where zero (alone w h xs zero filled 1 0 xs) xs → ms ≡ tab n (λ k. pos 0) → Left ys ms
  one_left ys ms e l p q = (
    p ∙ one_samples w h xs zero filled ∙ ap (λ (c : ℕ). flipped_where zero (flips w h c xs zero filled) xs) (sym e),
    q ∙ one_matches w h xs zero filled l ∙ ap (λ (c : ℕ). match_map xs c zero filled) (sym e),
  )

  -- the map as the vote reads it
  map_is : {ms : List ℤ} → 3 ≤ ch → ms ≡ tab (length filled) (match_at xs ch zero filled) → ms ≡ match_map xs ch zero filled
  map_is l q = q ∙ match_map_law w h xs zero filled ch l

  pub three_left : (ys : List Float) (ms : List ℤ) → ch ≡ 3 → ys ≡ flipped_where zero (turns_at w h ch ms) xs → ms ≡ tab (length filled) (match_at xs ch zero filled) → Left ys ms
  three_left ys ms e p q =
      let m = map_is (omega arith) q in
      (p ∙ ap (λ (o : List ℤ). flipped_where zero (turns_at w h ch o) xs) m ∙ subst (λ (c : ℕ). flipped_where zero (turns_at w h c (match_map xs c zero filled)) xs ≡ flipped_where zero (flips w h c xs zero filled) xs) (sym e) (three_samples w h xs zero filled), m)

  pub four_left : (us ys : List Float) (ms : List ℤ) → ch ≡ 4 → us ≡ flipped_where zero (turns_at w h ch ms) xs → ys ≡ flipped_where zero (alone w h xs zero filled 4 3 us) us → ms ≡ tab (length filled) (match_at xs ch zero filled) → Left ys ms
  four_left us ys ms e p r q =
      let m = map_is (omega arith) q in
      let u : us ≡ flipped_where zero (turns_at w h 4 (match_map xs 4 zero filled)) xs = p ∙ ap (λ (o : List ℤ). flipped_where zero (turns_at w h ch o) xs) m ∙ ap (λ (c : ℕ). flipped_where zero (turns_at w h c (match_map xs c zero filled)) xs) e in
      (r ∙ ap (λ (o : List Float). flipped_where zero (alone w h xs zero filled 4 3 o) o) u ∙ four_samples w h xs zero filled ∙ ap (λ (c : ℕ). flipped_where zero (flips w h c xs zero filled) xs) (sym e), m)

-- ---- by what the checks answer

module _ (i : Input) {n : ℕ} (e : n ≡ refusal_number i) where
  -- all pass
  pub after_accepted : {ys : List Float} {ms : List ℤ} → n ≡ 0 → Left i.width i.height i.channels i.samples i.zero i.filled ys ms → (ys ≡ samples_after i) × (ms ≡ matches_after i)
  unfolding samples_after matches_after accepted
  after_accepted z l = let a = eq-eqb (refusal_number i) 0 (sym e ∙ z) in (simp a l.0, simp a l.1)

  -- one fails
  pub after_refused : (n ≡ 0 → ⊥) → (i.samples ≡ samples_after i) × (i.matches ≡ matches_after i)
  unfolding samples_after matches_after accepted
  after_refused h = let a = ne_eqb (refusal_number i) 0 (λ z. h (e ∙ z)) in (simp a, simp a)
