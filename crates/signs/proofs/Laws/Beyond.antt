-- A flipped value may lie beyond the limit that the checks set, by evaluation: the correction answers such a bitmap, and a pass after it refuses it. Assumes nothing.
-- One texel of three channels, each the least value that the checks let through, is filled, and the zero value is 1/16. 1048576 + 1/8 is the next value above the limit.
-- Half that zero value is where it begins: with 1/32 the sum 1048576 + 1/16 is a tie, which rounds back to the limit itself, and with the next value above 1/32 it is beyond.
--     inverted         the input
--     inverted_passes  it is accepted
--     inverted_turns   its match is −1, and its three samples are turned beyond the limit
--     again_refused    a correction of these samples is refused by check 6, at the first of them
--     pass_refused     and so is the pass
--     half_stays       with a zero value of 1/32 the flip of that sample is the limit itself
--     above_half       and with the next value above it the flip is beyond the limit again
--     flip_rises       a greater zero value gives a flip that is not less
--     flip_stays       so with a zero value up to 1/32 in size no flip of a value within the limit is beyond it
--     samples_stay     and no sample of an accepted bitmap is afterwards
use mathlib.Core.Path.{◌≡◌, refl, ap, ◌∙◌, subst}
use mathlib.Core.Bool.{Bool, true, false, not, ◌&&◌}
use mathlib.Core.List.{List, [], ◌∷◌}
use Prim.Native.Nat.{ℕ, ◌<◌}
use lib.Dec.{T}
use lib.ListN.{length, get_or}
use lib.IntN.{pos, negsuc}
use lib.Ieee.{Float, nan, binary32, binary64, is_nan, lt, le, eq, neg, add, sum, sub, round, units, odd, size, span, climb, of_bits, of_fields}
use Rattle.numbers.specs.Scalar.{min_of, max_of, median_of, abs_of}
use Rattle.numbers.proofs.Laws.Order.{le_trans}
use Rattle.numbers.proofs.Laws.Monotone.{add_number, add_mono_left, add_mono_right, sub_mono_left}
use Rattle.numbers.proofs.Laws.Bounds.{Within, within_finite, within_of_le, between_within, neg_within}
use Rattle.ground.specs.Lists.{tab, any, first}
use Rattle.ground.specs.Refuse.{first_failing}
use Rattle.ground.proofs.Laws.Bools.{holds, held}
use Rattle.ranges.specs.Constants.{limit_of}
use Rattle.ranges.specs.declared.config.Settings.{Settings}
use Rattle.inputs.specs.Bounds.{in_bounds}
use Rattle.inputs.specs.Checks as Pass
use Rattle.inputs.proofs.Laws.Checks.{size_bounds}
use Rattle.signs.specs.Flip.{double_of, flip_of, is_amiss, flipped_if}
use Rattle.signs.specs.Checks.{Input, input, bad_channels, bad_zero, some_above, bad_filled, bad_matches, refusal_number, refusal_place, accepted}
use Rattle.signs.specs.Signs.{filled_at, median_at, match_of, match_at, match_map, match_near, vote, turns, goes_alone, flips, flipped_where, samples_after, matches_after}
use Rattle.signs.proofs.Laws.Flip.{flip_number, flip_anti}
use Rattle.signs.specs.Sides.{flips_in}
use Rattle.signs.proofs.Laws.Sides.{passes, sample_after_law}

-- 1/16, 1/32, −1048576 and 1048576.125
abbrev sixteenth : Float
sixteenth = of_bits binary32 0x3d80_0000

abbrev pub half : Float
half = of_bits binary32 0x3d00_0000

abbrev lowest : Float
lowest = of_bits binary32 0xc980_0000

abbrev beyond : Float
beyond = of_bits binary32 0x4980_0001

-- three samples that are the same
abbrev three : Float → List Float
three v = v ∷ v ∷ v ∷ []

abbrev pub inverted : Input
inverted = input 1 1 3 (three lowest) sixteenth (1 ∷ []) (pos 0 ∷ [])

pub inverted_passes : refusal_number inverted ≡ 0
unfolding is_nan lt le eq neg of_bits of_fields tab any first first_failing Pass.bad_channels Pass.bad_side Pass.bad_size Pass.bad_sample_count Pass.oversize Pass.samples_place Pass.bad_samples bad_channels bad_zero some_above bad_filled bad_matches refusal_number
inverted_passes = refl

pub inverted_turns : (matches_after inverted ≡ negsuc 0 ∷ []) × (samples_after inverted ≡ three beyond)
unfolding is_nan lt le eq neg add sum sub round units odd size span climb of_bits of_fields min_of max_of median_of tab any first first_failing in_bounds Pass.bad_channels Pass.bad_side Pass.bad_size Pass.bad_sample_count Pass.oversize Pass.samples_place Pass.bad_samples double_of flip_of is_amiss flipped_if bad_channels bad_zero some_above bad_filled bad_matches refusal_number accepted filled_at median_at match_of match_at match_map match_near vote turns goes_alone flips flipped_where samples_after matches_after
inverted_turns = (refl, refl)

-- the same bitmap with its samples as they are afterwards
abbrev pub again : Input
again = input 1 1 3 (three beyond) sixteenth (1 ∷ []) (pos 0 ∷ [])

pub again_refused : (refusal_number again ≡ 6) × (refusal_place again ≡ 0)
unfolding is_nan lt le eq neg of_bits of_fields tab any first first_failing Pass.bad_channels Pass.bad_side Pass.bad_size Pass.bad_sample_count Pass.oversize Pass.samples_place Pass.bad_samples bad_channels bad_zero some_above bad_filled bad_matches refusal_number refusal_place
again_refused = (refl, refl)

-- a pass over it in mode 1, with ratio 1, all lengths 1/16 and no outlines
abbrev settings : Settings
settings =
    let length = of_bits binary64 0x3fb0_0000_0000_0000 in
    record { ratio = of_bits binary64 0x3ff0_0000_0000_0000; horizontal = length; vertical = length; diagonal = length }

abbrev pub pass : Pass.Input
pass = let nought = of_bits binary32 0 in Pass.input 1 1 3 (three beyond) (0 ∷ []) (nought ∷ nought ∷ []) 1 settings [] [] []

pub pass_refused : (Pass.refusal_number pass ≡ 6) × (Pass.refusal_place pass ≡ 0)
unfolding is_nan lt le eq neg of_bits of_fields tab any first first_failing Pass.bad_channels Pass.bad_side Pass.bad_size Pass.bad_sample_count Pass.bad_cell_count Pass.bad_room Pass.bad_length Pass.settings_place Pass.bad_settings Pass.oversize Pass.samples_place Pass.bad_samples Pass.bad_outlines Pass.end_before Pass.bad_end Pass.ends_place Pass.bad_ends Pass.bad_segment Pass.segments_place Pass.bad_segments Pass.refusal_number Pass.outline_place Pass.place_of Pass.refusal_place
pass_refused = (refl, refl)

pub half_stays : flip_of half lowest ≡ of_bits binary32 0x4980_0000
unfolding flip_of double_of add sub of_bits
half_stays = refl

pub above_half : flip_of (of_bits binary32 0x3d00_0001) lowest ≡ beyond
unfolding flip_of double_of add sub of_bits
above_half = refl

-- ---- where none is beyond

pub flip_rises : (z z' v : Float) → Within 20 z → Within 20 z' → Within 20 v → T (le z z') → T (le (flip_of z v) (flip_of z' v))
flip_rises z z' v w w' u h =
    let m = flip_number z v w u in let n = flip_number z' v w' u in unfold flip_of in sub_mono_left binary32 (double_of z) (double_of z') v double m n
  where
    number : (x y : Float) → Within 20 x → Within 20 y → T (not (is_nan (add binary32 x y)))
    number x y p q = add_number binary32 x y (within_finite 20 x p) (within_finite 20 y q)

    double : T (le (double_of z) (double_of z'))
    double =
        unfold double_of in le_trans (add binary32 z z) (add binary32 z' z) (add binary32 z' z')
        (add_mono_left binary32 z z' z h (number z z w w) (number z' z w' w))
        (add_mono_right binary32 z' z z' h (number z' z w' w) (number z' z' w' w'))

-- at the ends
top : flip_of half (neg (limit_of binary32)) ≡ limit_of binary32
unfolding flip_of double_of add sub neg of_bits
top = refl

bottom : flip_of (neg half) (limit_of binary32) ≡ neg (limit_of binary32)
unfolding flip_of double_of add sub neg of_bits
bottom = refl

half_within : Within 20 half
unfolding le abs_of of_bits
half_within = within_of_le 20 half tt

limit_within : Within 20 (limit_of binary32)
unfolding le abs_of of_bits
limit_within = within_of_le 20 (limit_of binary32) tt

pub flip_stays : (z v : Float) → T (le (neg half) z) → T (le z half) → Pass.oversize binary32 v ≡ false → Pass.oversize binary32 (flip_of z v) ≡ false
unfolding Pass.oversize
flip_stays z v h k p =
    let hi = limit_of binary32 in
    let lo = neg hi in
    let b = size_bounds binary32 v p in
    let W = between_within 20 (neg half) z half (neg_within 20 half half_within) half_within h k in
    let L = neg_within 20 hi limit_within in
    let above = holds (le lo v) b.0 in
    let below = holds (le v hi) b.1 in
    let U = between_within 20 lo v hi L limit_within above below in
    let over : T (le (flip_of z v) hi) = subst (λ (x : Float). T (le (flip_of z v) x)) top
    (le_trans (flip_of z v) (flip_of z lo) (flip_of half lo) (flip_anti z lo v W L U above) (flip_rises z half lo W half_within L k)) in
    let under : T (le lo (flip_of z v)) = subst (λ (x : Float). T (le x (flip_of z v))) bottom
    (le_trans (flip_of (neg half) hi) (flip_of z hi) (flip_of z v) (flip_rises (neg half) z hi (neg_within 20 half half_within) W limit_within h) (flip_anti z v hi W U limit_within below)) in
    (λ i. not (held (le lo (flip_of z v)) under i && held (le (flip_of z v) hi) over i))

pub samples_stay : (i : Input) → accepted i ≡ true → T (le (neg half) i.zero) → T (le i.zero half) → (j : ℕ) → j < length i.samples → Pass.oversize binary32 (get_or (samples_after i) j nan) ≡ false
samples_stay i ok h k j l = ap (Pass.oversize binary32) (sample_after_law i ok j l) ∙ go (flips_in i j)
  where
    v : Float
    v = get_or i.samples j nan

    go : (b : Bool) → Pass.oversize binary32 (flipped_if i.zero b v) ≡ false
    go true = unfold flipped_if in flip_stays i.zero v h k ((passes i ok).samples j l)
    go false = unfold flipped_if in (passes i ok).samples j l
