-- An accepted bitmap after the correction: which texels were turned, and on which side of the zero value all lies then. It holds under rounding. Assumes nothing.
-- The zero value and the samples are values of binary32, as slices of f32 hold nothing else. k is a texel of three or four channels, and c one of its first three.
--     passes, small_zero, small_sample  what acceptance says of them
--     samples_after_law, length_after, sample_after_law  the samples afterwards, each flipped or not
--     alone_flips, with_texel, three_together, three_flips  which are: by their own comparison, or where the texel turns
--     lies, texel_after        so the first three channels are flipped where the texel turns
--     map_at, turns_by, turns_match  and it turns by its match, or by the vote where that is 0
--     texel_kept               where the match is 1 the three stay as they were
--     texel_turned             where it is −1 each is flipped
--     texel_level              where it is 0 they are flipped together, just where the vote is negative
--     match_cases              a match is 1, −1 or 0
--     match_kept               one of 1 is 1 afterwards
--     match_turned, match_exact  one of −1 is 1 or 0, and it is 1 where the three flips are exact
--     match_stays_level        one of 0 is 0
--     sides                    whatever the match, the median afterwards lies on the side that the map says, or on the zero value
--     alone_side               so does a sample that goes alone, the only channel or the fourth
use mathlib.Core.Path.{◌≡◌, refl, sym, ap, ◌∙◌, subst}
use mathlib.Core.Logic.{◌⊎◌, inl, inr}
use mathlib.Core.Bool.{Bool, true, false, not, cond}
use mathlib.Core.List.{List}
use Prim.Native.Nat.{ℕ, ◌+◌, ◌*◌, ◌/◌, ◌%◌, ◌<◌, ◌≤◌}
use native.Mathlib.Nat.{div-add-mod'}
use native.Mathlib.Omega.{arith}
use lib.Arith.{digits_lt, digits_div, digits_mod}
use lib.Dec.{T}
use lib.IntN.{ℤ, pos, negsuc}
use lib.Signed.{lt_z}
use lib.ListN.{length, get_or}
use lib.Ieee.{Float, nan, eq, is_nan}
use borrow.Author.Tests.{eqb-true, ne_eqb}
use Rattle.ground.proofs.Laws.Fill.{tab_at}
use Rattle.numbers.specs.Scalar.{median_of}
use Rattle.numbers.proofs.Laws.Order.{le_of_eq, ge_of_eq}
use Rattle.numbers.proofs.Laws.Scalar.{median_no_nan}
use Rattle.signs.specs.Flip.{flip_of, is_amiss, flipped_if, on_side, Exact}
use Rattle.signs.specs.Checks.{Input, refusal_number, accepted}
use Rattle.signs.specs.Signs.{filled_at, median_at, match_of, match_at, match_map, vote, is_nought, turns, goes_alone, flips, flipped_where, samples_after}
use Rattle.signs.specs.Sides.{Held, sample, sample_after, match_before, match_after, vote_on, turns_in, flips_in}
use Rattle.signs.proofs.Laws.Flip.{Small, small, small_number}
use Rattle.signs.proofs.Laws.Turned.{wrong_turned, wrong_match, wrong_exact, match_level, level_turned, right_side, corrected_side}
use Rattle.signs.proofs.checks.Passed.{Passed, passed, many}
use Rattle.signs.proofs.rasterization.Together.{flipped_length, flipped_at_law, match_map_law}

-- ---- what acceptance says

pub passes : (i : Input) → accepted i ≡ true → Passed i
unfolding accepted
passes i ok = passed i (eqb-true (refusal_number i) 0 ok)

pub small_zero : (i : Input) → accepted i ≡ true → Held i → Small i.zero
small_zero i ok f = small i.zero f.zero (passes i ok).zero

pub small_sample : (i : Input) → accepted i ≡ true → Held i → (j : ℕ) → j < length i.samples → Small (get_or i.samples j nan)
small_sample i ok f j l = small (get_or i.samples j nan) (f.samples j l) ((passes i ok).samples j l)

-- ---- the samples afterwards

pub samples_after_law : (i : Input) → accepted i ≡ true → samples_after i ≡ flipped_where i.zero (flips_in i) i.samples
unfolding samples_after
samples_after_law i ok = rw ok

pub length_after : (i : Input) → accepted i ≡ true → length (samples_after i) ≡ length i.samples
length_after i ok = ap length (samples_after_law i ok) ∙ flipped_length i.zero (flips_in i) i.samples

pub sample_after_law : (i : Input) → accepted i ≡ true → (j : ℕ) → j < length i.samples → get_or (samples_after i) j nan ≡ flipped_if i.zero (flips_in i j) (get_or i.samples j nan)
sample_after_law i ok j l = ap (λ (ys : List Float). get_or ys j nan) (samples_after_law i ok) ∙ flipped_at_law i.zero (flips_in i) i.samples j l

-- ---- which are flipped

pub alone_flips : (i : Input) (j : ℕ) → goes_alone i.channels (j % i.channels) ≡ true → flips_in i j ≡ is_amiss i.zero (filled_at i.filled (j / i.channels)) (get_or i.samples j nan)
unfolding flips
alone_flips i j e = rw e

pub with_texel : (i : Input) (j : ℕ) → goes_alone i.channels (j % i.channels) ≡ false → flips_in i j ≡ turns_in i (j / i.channels)
unfolding flips
with_texel i j e = rw e

pub three_together : (ch c : ℕ) → 3 ≤ ch → c < 3 → goes_alone ch c ≡ false
unfolding goes_alone
three_together ch c some l = rw (ne_eqb ch 1 (λ e. absurd (omega arith)), ne_eqb c 3 (λ e. absurd (omega arith)))

pub three_flips : (i : Input) (k c : ℕ) → 3 ≤ i.channels → c < 3 → flips_in i (k * i.channels + c) ≡ turns_in i k
three_flips i k c some l =
    let b : c < i.channels = omega arith in
    with_texel i (k * i.channels + c) (ap (goes_alone i.channels) (digits_mod k b) ∙ three_together i.channels c some l) ∙ ap (turns_in i) (digits_div k b)

-- a texel's samples are in the bitmap
pub lies : (i : Input) → accepted i ≡ true → (k c : ℕ) → k < length i.filled → c < i.channels → k * i.channels + c < length i.samples
lies i ok k c l m = subst (λ (n : ℕ). k * i.channels + c < n) (sym (many i (passes i ok))) (digits_lt l m)

pub texel_after : (i : Input) → accepted i ≡ true → 3 ≤ i.channels → (k c : ℕ) → k < length i.filled → c < 3 → sample_after i k c ≡ flipped_if i.zero (turns_in i k) (sample i k c)
texel_after i ok some k c l m =
    let n : c < i.channels = omega arith in
    sample_after_law i ok (k * i.channels + c) (lies i ok k c l n) ∙ ap (λ (b : Bool). flipped_if i.zero b (sample i k c)) (three_flips i k c some m)

-- ---- by the match

pub map_at : (i : Input) → 3 ≤ i.channels → (k : ℕ) → k < length i.filled → get_or (match_map i.samples i.channels i.zero i.filled) k (pos 0) ≡ match_before i k
map_at i some k l =
    ap (λ (ms : List ℤ). get_or ms k (pos 0)) (sym (match_map_law i.width i.height i.samples i.zero i.filled i.channels some))
    ∙ tab_at (length i.filled) (match_at i.samples i.channels i.zero i.filled) k (pos 0) l

pub turns_by : (w h : ℕ) (ms : List ℤ) (k : ℕ)
    → turns w h ms (k % w) (k / w) ≡ cond (is_nought (get_or ms k (pos 0))) (lt_z (vote w h ms (k % w) (k / w)) (pos 0)) (lt_z (get_or ms k (pos 0)) (pos 0))
unfolding turns
turns_by w h ms k =
    ap (λ (j : ℕ). cond (is_nought (get_or ms j (pos 0))) (lt_z (vote w h ms (k % w) (k / w)) (pos 0)) (lt_z (get_or ms j (pos 0)) (pos 0))) (div-add-mod' k w)

pub turns_match : (i : Input) → 3 ≤ i.channels → (k : ℕ) → k < length i.filled → (m : ℤ) → match_before i k ≡ m → turns_in i k ≡ cond (is_nought m) (lt_z (vote_on i k) (pos 0)) (lt_z m (pos 0))
turns_match i some k l m e =
    turns_by i.width i.height (match_map i.samples i.channels i.zero i.filled) k
    ∙ ap (λ (n : ℤ). cond (is_nought n) (lt_z (vote_on i k) (pos 0)) (lt_z n (pos 0))) (map_at i some k l ∙ e)

-- what is flipped and what is not
unturned : (zero v : Float) → flipped_if zero false v ≡ v
unfolding flipped_if
unturned zero v = refl

turned : (zero v : Float) → flipped_if zero true v ≡ flip_of zero v
unfolding flipped_if
turned zero v = refl

-- the same median by channels
median_is : (xs : List Float) (ch k : ℕ) → median_at xs ch k ≡ median_of (get_or xs (k * ch + 0) nan) (get_or xs (k * ch + 1) nan) (get_or xs (k * ch + 2) nan)
unfolding median_at
median_is xs ch k = ap (λ (j : ℕ). median_of (get_or xs j nan) (get_or xs (k * ch + 1) nan) (get_or xs (k * ch + 2) nan)) (nothing (k * ch))
  where
    nothing : (n : ℕ) → n ≡ n + 0
    nothing n = omega arith

-- the median of the flips
abbrev flipped_median : Input → ℕ → Float
flipped_median i k = median_of (flip_of i.zero (sample i k 0)) (flip_of i.zero (sample i k 1)) (flip_of i.zero (sample i k 2))

module _ (i : Input) (ok : accepted i ≡ true) (some : 3 ≤ i.channels) (k : ℕ) (l : k < length i.filled) where
  kept : turns_in i k ≡ false → (c : ℕ) → c < 3 → sample_after i k c ≡ sample i k c
  kept e c m = texel_after i ok some k c l m ∙ ap (λ (b : Bool). flipped_if i.zero b (sample i k c)) e ∙ unturned i.zero (sample i k c)

  flipped : turns_in i k ≡ true → (c : ℕ) → c < 3 → sample_after i k c ≡ flip_of i.zero (sample i k c)
  flipped e c m = texel_after i ok some k c l m ∙ ap (λ (b : Bool). flipped_if i.zero b (sample i k c)) e ∙ turned i.zero (sample i k c)

  median_kept : turns_in i k ≡ false → median_at (samples_after i) i.channels k ≡ median_at i.samples i.channels k
  median_kept e =
      median_is (samples_after i) i.channels k
      ∙ (λ j. median_of (kept e 0 (omega arith) j) (kept e 1 (omega arith) j) (kept e 2 (omega arith) j))
      ∙ sym (median_is i.samples i.channels k)

  median_flipped : turns_in i k ≡ true → median_at (samples_after i) i.channels k ≡ flipped_median i k
  median_flipped e =
      median_is (samples_after i) i.channels k ∙ (λ j. median_of (flipped e 0 (omega arith) j) (flipped e 1 (omega arith) j) (flipped e 2 (omega arith) j))

  -- so the match afterwards
  still : turns_in i k ≡ false → match_after i k ≡ match_before i k
  unfolding match_at
  still e = ap (match_of i.zero (filled_at i.filled k)) (median_kept e)

  pub texel_kept : match_before i k ≡ pos 1 → (c : ℕ) → c < 3 → sample_after i k c ≡ sample i k c
  texel_kept e = kept (turns_match i some k l (pos 1) e)

  pub texel_turned : match_before i k ≡ negsuc 0 → (c : ℕ) → c < 3 → sample_after i k c ≡ flip_of i.zero (sample i k c)
  texel_turned e = flipped (turns_match i some k l (negsuc 0) e)

  pub texel_level : match_before i k ≡ pos 0 → (c : ℕ) → c < 3 → sample_after i k c ≡ flipped_if i.zero (lt_z (vote_on i k) (pos 0)) (sample i k c)
  texel_level e c m = texel_after i ok some k c l m ∙ ap (λ (b : Bool). flipped_if i.zero b (sample i k c)) (turns_match i some k l (pos 0) e)

  pub match_kept : match_before i k ≡ pos 1 → match_after i k ≡ pos 1
  match_kept e = still (turns_match i some k l (pos 1) e) ∙ e

-- ---- sides

-- one on the zero value lies on either side
level_side : (z : Float) (filled : Bool) (v : Float) → T (eq v z) → T (on_side z filled v)
unfolding on_side
level_side z true v h = ge_of_eq v z h
level_side z false v h = le_of_eq v z h

-- a match is one of three
pub match_cases : (xs : List Float) (ch : ℕ) (z : Float) (filled : List ℕ) (k : ℕ) → (match_at xs ch z filled k ≡ pos 1) ⊎ ((match_at xs ch z filled k ≡ negsuc 0) ⊎ (match_at xs ch z filled k ≡ pos 0))
unfolding match_at match_of
match_cases xs ch z filled k = let v = median_at xs ch k in go (eq v z) (is_amiss z (filled_at filled k) v)
  where
    go : (e a : Bool) → let m = cond e (pos 0) (cond a (negsuc 0) (pos 1)) in (m ≡ pos 1) ⊎ ((m ≡ negsuc 0) ⊎ (m ≡ pos 0))
    go true a = inr (inr refl)
    go false true = inr (inl refl)
    go false false = inl refl

-- a test that holds or fails
either : {P : Type 0} (b : Bool) → (b ≡ true → P) → (b ≡ false → P) → P
either true f g = f refl
either false f g = g refl

module _ (i : Input) (ok : accepted i ≡ true) (f : Held i) (some : 3 ≤ i.channels) (k : ℕ) (l : k < length i.filled) where
  -- the side that the map says, and the match that a value has there
  abbrev filled : Bool
  filled = filled_at i.filled k

  abbrev Side : Float → Type 0
  Side v = T (on_side i.zero filled v)

  abbrev is : Float → ℤ
  is = match_of i.zero filled

  small_channel : (c : ℕ) → c < 3 → Small (sample i k c)
  small_channel c m = let n : c < i.channels = omega arith in small_sample i ok f (k * i.channels + c) (lies i ok k c l n)

  -- a law of three small values, for those of the texel
  at_texel : {P : Float → Float → Float → Type 0} → ((a b c : Float) → Small i.zero → Small a → Small b → Small c → P a b c) → P (sample i k 0) (sample i k 1) (sample i k 2)
  at_texel g = g (sample i k 0) (sample i k 1) (sample i k 2) (small_zero i ok f) (small_channel 0 (omega arith)) (small_channel 1 (omega arith)) (small_channel 2 (omega arith))

  -- the match by channels, and that of the flips
  by_channels : {m : ℤ} → match_before i k ≡ m → is (median_of (sample i k 0) (sample i k 1) (sample i k 2)) ≡ m
  unfolding match_at
  by_channels e = ap is (sym (median_is i.samples i.channels k)) ∙ e

  by_flips : turns_in i k ≡ true → {m : ℤ} → is (flipped_median i k) ≡ m → match_after i k ≡ m
  unfolding match_at
  by_flips e h = ap is (median_flipped i ok some k l e) ∙ h

  pub match_turned : match_before i k ≡ negsuc 0 → (match_after i k ≡ pos 1) ⊎ (match_after i k ≡ pos 0)
  match_turned e =
      let t = turns_match i some k l (negsuc 0) e in elim (at_texel (wrong_match i.zero filled) (by_channels e)) [
        | inl h ↦ inl (by_flips t h)
        | inr h ↦ inr (by_flips t h)
      ]

  pub match_exact : match_before i k ≡ negsuc 0 → ((c : ℕ) → c < 3 → Exact i.zero (sample i k c)) → match_after i k ≡ pos 1
  match_exact e x = by_flips (turns_match i some k l (negsuc 0) e) (at_texel (wrong_exact i.zero filled) (x 0 (omega arith)) (x 1 (omega arith)) (x 2 (omega arith)) (by_channels e))

  -- where it is 0 the flips' median is level too
  flips_level : match_before i k ≡ pos 0 → T (eq (flipped_median i k) i.zero) × (is (flipped_median i k) ≡ pos 0)
  flips_level e = at_texel (level_turned i.zero filled) (by_channels e)

  pub match_stays_level : match_before i k ≡ pos 0 → match_after i k ≡ pos 0
  match_stays_level e = either (turns_in i k) (λ t. by_flips t (flips_level e).1) (λ t. still i ok some k l t ∙ e)

  -- where no channel is flipped, and where all are
  side_kept : turns_in i k ≡ false → Side (median_at i.samples i.channels k) → Side (median_at (samples_after i) i.channels k)
  side_kept t = subst Side (sym (median_kept i ok some k l t))

  side_flipped : turns_in i k ≡ true → Side (flipped_median i k) → Side (median_at (samples_after i) i.channels k)
  side_flipped t = subst Side (sym (median_flipped i ok some k l t))

  number_before : T (not (is_nan (median_at i.samples i.channels k)))
  number_before =
      subst (λ (v : Float). T (not (is_nan v))) (sym (median_is i.samples i.channels k))
      (at_texel (λ a b c Z A B C. median_no_nan a b c (small_number a A) (small_number b B) (small_number c C)))

  -- by the match
  right : match_before i k ≡ pos 1 → Side (median_at (samples_after i) i.channels k)
  unfolding match_at
  right e =
      side_kept (turns_match i some k l (pos 1) e) (right_side i.zero filled (median_at i.samples i.channels k) (small_number i.zero (small_zero i ok f)) number_before e)

  wrong : match_before i k ≡ negsuc 0 → Side (median_at (samples_after i) i.channels k)
  wrong e = side_flipped (turns_match i some k l (negsuc 0) e) (at_texel (wrong_turned i.zero filled) (by_channels e))

  level : match_before i k ≡ pos 0 → Side (median_at (samples_after i) i.channels k)
  unfolding match_at
  level e =
      let m = median_at i.samples i.channels k in
      either (turns_in i k) (λ t. side_flipped t (level_side i.zero filled (flipped_median i k) (flips_level e).0))
      (λ t. side_kept t (level_side i.zero filled m (match_level i.zero filled m e)))

  pub sides : T (on_side i.zero (filled_at i.filled k) (median_at (samples_after i) i.channels k))
  sides = elim (match_cases i.samples i.channels i.zero i.filled k) [
    | inl e ↦ right e
    | inr (inl e) ↦ wrong e
    | inr (inr e) ↦ level e
  ]

-- ---- a sample alone
pub alone_side : (i : Input) → accepted i ≡ true → Held i → (j : ℕ) → j < length i.samples → goes_alone i.channels (j % i.channels) ≡ true
    → T (on_side i.zero (filled_at i.filled (j / i.channels)) (get_or (samples_after i) j nan))
alone_side i ok f j l e =
    let filled = filled_at i.filled (j / i.channels) in
    let v = get_or i.samples j nan in
    subst (λ (x : Float). T (on_side i.zero filled x)) (sym (sample_after_law i ok j l ∙ ap (λ (b : Bool). flipped_if i.zero b v) (alone_flips i j e)))
    (corrected_side i.zero filled v (small_zero i ok f) (small_sample i ok f j l))
