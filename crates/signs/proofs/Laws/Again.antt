-- A second correction of an accepted bitmap, with the same filled map: no texel turns again, and every sample compares equal to what it was. Assumes nothing.
-- The second input may be refused, as a flipped value may lie beyond the limit (Beyond.antt). Then it leaves the samples as they are, so the laws on samples ask for no second acceptance.
--     none_wrong           no match of it is −1
--     map_none_wrong       so its match map holds no −1, with one channel too
--     matches_none_wrong   and where it is accepted that is what the second correction writes
--     votes_none_wrong     so no vote is negative
--     none_turns           and no texel turns
--     again_together       a sample that goes with its texel stays as it is
--     again_three          so the first three channels of a texel do
--     again_alone          one that goes alone compares equal to what it was
--     again_equal          so each sample does
--     again_same           and with three channels the samples are the same
use mathlib.Core.Path.{◌≡◌, refl, sym, ap, ◌∙◌, subst}
use mathlib.Core.Logic.{◌⊎◌, inl, inr, dite}
use mathlib.Core.Bool.{Bool, true, false, not, cond}
use mathlib.Core.List.{List}
use Prim.Native.Nat.{ℕ, ◌+◌, ◌-◌, ◌*◌, ◌/◌, ◌%◌, ◌<◌, ◌≤◌}
use native.Mathlib.Nat.{mod-lt}
use native.Mathlib.Decide.{dec_lt}
use native.Mathlib.Omega.{arith}
use lib.Arith.{digits_mod}
use lib.Dec.{T, eqb}
use lib.IntN.{ℤ, pos, negsuc, ◌+ℤ◌}
use lib.Signed.{lt_z, non_neg}
use lib.ListN.{length, get_or, get_or-eq_default}
use lib.Seq.{ext_get_or}
use lib.Ieee.{Float, nan, eq, is_nan}
use borrow.Author.Tests.{eq-eqb, le-ltb}
use Rattle.ground.specs.Lists.{tab}
use Rattle.ground.proofs.Laws.Fill.{tab_length, tab_at}
use Rattle.inputs.specs.Bounds.{in_bounds}
use Rattle.numbers.proofs.Laws.Order.{eq_refl}
use Rattle.signs.specs.Flip.{is_amiss, flipped_if}
use Rattle.signs.specs.Checks.{Input, accepted}
use Rattle.signs.specs.Signs.{filled_at, match_map, match_near, vote, is_nought, turns, goes_alone, samples_after, matches_after}
use Rattle.signs.proofs.Laws.Flip.{small_number, flip_number}
use Rattle.signs.proofs.Laws.Turned.{corrected_twice}
use Rattle.signs.proofs.checks.Passed.{Channels}
use Rattle.signs.specs.Sides.{Held, flips_in, turns_in, vote_on, sample_after, match_after, again}
use Rattle.signs.proofs.Laws.Sides.{passes, small_zero, small_sample, length_after, sample_after_law, alone_flips, with_texel, three_together, lies, turns_by, match_cases, match_kept, match_turned, match_stays_level}

-- ---- the matches

pub none_wrong : (i : Input) → accepted i ≡ true → Held i → 3 ≤ i.channels → (k : ℕ) → k < length i.filled → T (non_neg (match_after i k))
none_wrong i ok f some k l = elim (match_cases i.samples i.channels i.zero i.filled k) [
  | inl e ↦ not_wrong (inl (match_kept i ok some k l e))
  | inr (inl e) ↦ not_wrong (match_turned i ok f some k l e)
  | inr (inr e) ↦ not_wrong (inr (match_stays_level i ok f some k l e))
]
  where
    not_wrong : (match_after i k ≡ pos 1) ⊎ (match_after i k ≡ pos 0) → T (non_neg (match_after i k))
    not_wrong (inl e) = subst (λ (m : ℤ). T (non_neg m)) (sym e) tt
    not_wrong (inr e) = subst (λ (m : ℤ). T (non_neg m)) (sym e) tt

-- one channel has zeros, and three or four have matches
cell : (i : Input) → accepted i ≡ true → Held i → Channels i.channels → (k : ℕ) → k < length i.filled → T (non_neg (cond (eqb i.channels 1) (pos 0) (match_after i k)))
cell i ok f (inl e) k l = subst (λ (b : Bool). T (non_neg (cond b (pos 0) (match_after i k)))) (sym (eq-eqb i.channels 1 e)) tt
cell i ok f (inr b) k l = either (eqb i.channels 1) (none_wrong i ok f b.0 k l)
  where
    either : (e : Bool) → T (non_neg (match_after i k)) → T (non_neg (cond e (pos 0) (match_after i k)))
    either true h = tt
    either false h = h

pub map_none_wrong : (i : Input) → accepted i ≡ true → Held i → (k : ℕ) → T (non_neg (get_or (match_map (samples_after i) i.channels i.zero i.filled) k (pos 0)))
unfolding match_map
map_none_wrong i ok f k =
    let n = length i.filled in
    let g : ℕ → ℤ = λ j. cond (eqb i.channels 1) (pos 0) (match_after i j) in
    dite (dec_lt k n) (λ l. subst (λ (m : ℤ). T (non_neg m)) (sym (tab_at n g k (pos 0) l)) (cell i ok f (passes i ok).sizes.channels k l))
    (λ l. subst (λ (m : ℤ). T (non_neg m)) (sym (get_or-eq_default (tab n g) (pos 0) {n = k} (omega (arith, tab_length n g)))) tt)

pub matches_none_wrong : (i : Input) → accepted i ≡ true → Held i → (ms : List ℤ) → accepted (again i ms) ≡ true → (k : ℕ) → T (non_neg (get_or (matches_after (again i ms)) k (pos 0)))
unfolding matches_after
matches_none_wrong i ok f ms ok' k = subst (λ (b : Bool). T (non_neg (get_or (cond b (match_map (samples_after i) i.channels i.zero i.filled) ms) k (pos 0)))) (sym ok') (map_none_wrong i ok f k)

-- ---- the votes

sum_none_wrong : (a b : ℤ) → T (non_neg a) → T (non_neg b) → T (non_neg (a +ℤ b))
sum_none_wrong (pos a) (pos b) p q = tt
sum_none_wrong (pos a) (negsuc b) p q = absurd q
sum_none_wrong (negsuc a) b p q = absurd p

not_below : (a : ℤ) → T (non_neg a) → lt_z a (pos 0) ≡ false
not_below (pos a) p = le-ltb a 0 (omega arith)
not_below (negsuc a) p = absurd p

module _ (w h : ℕ) (ms : List ℤ) (none : (k : ℕ) → T (non_neg (get_or ms k (pos 0)))) where
  near : (nx ny : ℕ) → T (non_neg (match_near w h ms nx ny))
  unfolding match_near
  near nx ny = either (in_bounds w h nx ny) (get_or ms ((ny - 1) * w + (nx - 1)) (pos 0)) (none ((ny - 1) * w + (nx - 1)))
    where
      either : (b : Bool) (m : ℤ) → T (non_neg m) → T (non_neg (cond b m (pos 0)))
      either true m p = p
      either false m p = tt

  vote_none_wrong : (x y : ℕ) → T (non_neg (vote w h ms x y))
  unfolding vote
  vote_none_wrong x y =
      let a = match_near w h ms x (y + 1) in
      let b = match_near w h ms (x + 2) (y + 1) in
      let c = match_near w h ms (x + 1) y in
      sum_none_wrong (a +ℤ b +ℤ c) (match_near w h ms (x + 1) (y + 2)) (sum_none_wrong (a +ℤ b) c (sum_none_wrong a b (near x (y + 1)) (near (x + 2) (y + 1))) (near (x + 1) y)) (near (x + 1) (y + 2))

  none_turn : (k : ℕ) → turns w h ms (k % w) (k / w) ≡ false
  none_turn k = turns_by w h ms k ∙ both (is_nought (get_or ms k (pos 0))) (not_below (vote w h ms (k % w) (k / w)) (vote_none_wrong (k % w) (k / w))) (not_below (get_or ms k (pos 0)) (none k))
    where
      both : (b : Bool) {c d : Bool} → c ≡ false → d ≡ false → cond b c d ≡ false
      both true p q = p
      both false p q = q

pub votes_none_wrong : (i : Input) → accepted i ≡ true → Held i → (ms : List ℤ) (k : ℕ) → T (non_neg (vote_on (again i ms) k))
votes_none_wrong i ok f ms k = vote_none_wrong i.width i.height (match_map (samples_after i) i.channels i.zero i.filled) (map_none_wrong i ok f) (k % i.width) (k / i.width)

pub none_turns : (i : Input) → accepted i ≡ true → Held i → (ms : List ℤ) (k : ℕ) → turns_in (again i ms) k ≡ false
none_turns i ok f ms k = none_turn i.width i.height (match_map (samples_after i) i.channels i.zero i.filled) (map_none_wrong i ok f) k

-- ---- the samples

-- a refusal leaves them
left : (i : Input) → accepted i ≡ false → samples_after i ≡ i.samples
unfolding samples_after
left i e = rw e

-- what holds of a sample as it is, and of what the second correction would make of it
second : (i : Input) → accepted i ≡ true → (ms : List ℤ) (P : Float → Type 0) (j : ℕ) → j < length i.samples → P (get_or (samples_after i) j nan)
    → P (flipped_if i.zero (flips_in (again i ms) j) (get_or (samples_after i) j nan)) → P (get_or (samples_after (again i ms)) j nan)
second i ok ms P j l p q = go (accepted (again i ms)) refl
  where
    go : (b : Bool) → accepted (again i ms) ≡ b → P (get_or (samples_after (again i ms)) j nan)
    go true e = subst P (sym (sample_after_law (again i ms) e j (subst (λ (n : ℕ). j < n) (sym (length_after i ok)) l))) q
    go false e = subst (λ (ys : List Float). P (get_or ys j nan)) (sym (left (again i ms) e)) p

-- what is not flipped
unturned : (z v : Float) (b : Bool) → b ≡ false → flipped_if z b v ≡ v
unfolding flipped_if
unturned z v b e = rw e

module _ (i : Input) (ok : accepted i ≡ true) (f : Held i) (ms : List ℤ) where
  pub again_together : (j : ℕ) → j < length i.samples → goes_alone i.channels (j % i.channels) ≡ false → get_or (samples_after (again i ms)) j nan ≡ get_or (samples_after i) j nan
  again_together j l e =
      second i ok ms (λ v. v ≡ get_or (samples_after i) j nan) j l refl
      (unturned i.zero (get_or (samples_after i) j nan) (flips_in (again i ms) j) (with_texel (again i ms) j e ∙ none_turns i ok f ms (j / i.channels)))

  pub again_three : 3 ≤ i.channels → (k c : ℕ) → k < length i.filled → c < 3 → sample_after (again i ms) k c ≡ sample_after i k c
  again_three some k c l m =
      let n : c < i.channels = omega arith in
      again_together (k * i.channels + c) (lies i ok k c l n) (ap (goes_alone i.channels) (digits_mod k n) ∙ three_together i.channels c some m)

  -- no sample is a NaN afterwards
  number : (j : ℕ) → j < length i.samples → T (not (is_nan (get_or (samples_after i) j nan)))
  number j l = subst (λ (v : Float). T (not (is_nan v))) (sym (sample_after_law i ok j l)) (go (flips_in i j))
    where
      go : (b : Bool) → T (not (is_nan (flipped_if i.zero b (get_or i.samples j nan))))
      go true = unfold flipped_if in flip_number i.zero (get_or i.samples j nan) (small_zero i ok f).1 (small_sample i ok f j l).1
      go false = unfold flipped_if in small_number (get_or i.samples j nan) (small_sample i ok f j l)

  pub again_alone : (j : ℕ) → j < length i.samples → goes_alone i.channels (j % i.channels) ≡ true → T (eq (get_or (samples_after (again i ms)) j nan) (get_or (samples_after i) j nan))
  again_alone j l e =
      second i ok ms (λ v. T (eq v x)) j l (eq_refl x (number j l)) (subst (λ (b : Bool). T (eq (flipped_if i.zero b x) x)) (sym (alone_flips (again i ms) j e)) twice)
    where
      x : Float
      x = get_or (samples_after i) j nan

      filled : Bool
      filled = filled_at i.filled (j / i.channels)

      corrected : x ≡ flipped_if i.zero (is_amiss i.zero filled (get_or i.samples j nan)) (get_or i.samples j nan)
      corrected = sample_after_law i ok j l ∙ ap (λ (b : Bool). flipped_if i.zero b (get_or i.samples j nan)) (alone_flips i j e)

      twice : T (eq (flipped_if i.zero (is_amiss i.zero filled x) x) x)
      twice = subst (λ (v : Float). T (eq (flipped_if i.zero (is_amiss i.zero filled v) v) v)) (sym corrected) (corrected_twice i.zero filled (get_or i.samples j nan) (small_zero i ok f) (small_sample i ok f j l))

  pub again_equal : (j : ℕ) → j < length i.samples → T (eq (get_or (samples_after (again i ms)) j nan) (get_or (samples_after i) j nan))
  again_equal j l = go (goes_alone i.channels (j % i.channels)) refl
    where
      x : Float
      x = get_or (samples_after i) j nan

      go : (b : Bool) → goes_alone i.channels (j % i.channels) ≡ b → T (eq (get_or (samples_after (again i ms)) j nan) x)
      go true e = again_alone j l e
      go false e = subst (λ (v : Float). T (eq v x)) (sym (again_together j l e)) (eq_refl x (number j l))

  -- as many as there were
  still_long : length (samples_after (again i ms)) ≡ length (samples_after i)
  still_long = go (accepted (again i ms)) refl
    where
      go : (b : Bool) → accepted (again i ms) ≡ b → length (samples_after (again i ms)) ≡ length (samples_after i)
      go true e = length_after (again i ms) e
      go false e = ap length (left (again i ms) e)

  pub again_same : i.channels ≡ 3 → samples_after (again i ms) ≡ samples_after i
  again_same e =
      ext_get_or nan (samples_after (again i ms)) (samples_after i) still_long
      (λ j l. again_together j (subst (λ (n : ℕ). j < n) (still_long ∙ length_after i ok) l) (three_together i.channels (j % i.channels) (omega arith) (rest j)))
    where
      rest : (j : ℕ) → j % i.channels < 3
      rest j = subst (λ (n : ℕ). j % n < 3) (sym e) (mod-lt j (omega arith))
