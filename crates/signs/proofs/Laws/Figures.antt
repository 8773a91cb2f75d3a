-- Small bitmaps that tell the rules of the vote apart from others, by evaluation. Assumes nothing.
-- Each is one row of filled texels with the zero value 0.5. A wrong texel has 0.25 in its three channels and a right one 0.75; a level one has 0.25, 0.5 and 0.75, so that
-- its median is the zero value and a flip is seen.
--     reached     of two level texels beside a wrong one the nearer is flipped and the farther is not: the vote reads what the map held before it
--     balanced    a level texel between a wrong and a right one stays: both are counted
--     outvoted    beside a wrong one alone it is flipped
--     fourth_own  the fourth channel of a right texel is flipped where it is amiss itself, and that of a wrong one stays where it is not
use mathlib.Core.Path.{◌≡◌, refl}
use mathlib.Core.List.{List, [], ◌∷◌, ◌++◌}
use lib.IntN.{pos, negsuc}
use lib.Ieee.{Float, binary32, is_nan, lt, le, eq, neg, add, sum, sub, round, units, odd, size, span, climb, of_bits, of_fields}
use Rattle.numbers.specs.Scalar.{min_of, max_of, median_of}
use Rattle.ground.specs.Lists.{tab, any, first}
use Rattle.ground.specs.Refuse.{first_failing}
use Rattle.inputs.specs.Bounds.{in_bounds}
use Rattle.inputs.specs.Checks as Pass
use Rattle.signs.specs.Flip.{double_of, flip_of, is_amiss, flipped_if}
use Rattle.signs.specs.Checks.{Input, input, bad_channels, bad_zero, some_above, bad_filled, bad_matches, refusal_number, accepted}
use Rattle.signs.specs.Signs.{filled_at, median_at, match_of, match_at, match_map, match_near, vote, turns, goes_alone, flips, flipped_where, samples_after, matches_after}

-- 0.25, 0.5 and 0.75
abbrev quarter : Float
quarter = of_bits binary32 0x3e80_0000

abbrev half : Float
half = of_bits binary32 0x3f00_0000

abbrev three_quarters : Float
three_quarters = of_bits binary32 0x3f40_0000

abbrev wrong : List Float
wrong = quarter ∷ quarter ∷ quarter ∷ []

abbrev right : List Float
right = three_quarters ∷ three_quarters ∷ three_quarters ∷ []

abbrev level : List Float
level = quarter ∷ half ∷ three_quarters ∷ []

-- a level texel that is flipped
abbrev turned : List Float
turned = three_quarters ∷ half ∷ quarter ∷ []

-- a row of three and of two filled texels of three channels
abbrev row3 : List Float → Input
row3 xs = input 3 1 3 xs half (1 ∷ 1 ∷ 1 ∷ []) (pos 0 ∷ pos 0 ∷ pos 0 ∷ [])

abbrev row2 : List Float → Input
row2 xs = input 2 1 3 xs half (1 ∷ 1 ∷ []) (pos 0 ∷ pos 0 ∷ [])

abbrev fours : List Float → Input
fours xs = input 2 1 4 xs half (1 ∷ 1 ∷ []) (pos 0 ∷ pos 0 ∷ [])

pub reached : (samples_after (row3 (wrong ++ level ++ level)) ≡ right ++ turned ++ level) × (matches_after (row3 (wrong ++ level ++ level)) ≡ negsuc 0 ∷ pos 0 ∷ pos 0 ∷ [])
unfolding is_nan lt le eq neg add sum sub round units odd size span climb of_bits of_fields min_of max_of median_of tab any first first_failing in_bounds Pass.bad_channels Pass.bad_side Pass.bad_size Pass.bad_sample_count Pass.oversize Pass.samples_place Pass.bad_samples double_of flip_of is_amiss flipped_if bad_channels bad_zero some_above bad_filled bad_matches refusal_number accepted filled_at median_at match_of match_at match_map match_near vote turns goes_alone flips flipped_where samples_after matches_after
reached = (refl, refl)

pub balanced : samples_after (row3 (wrong ++ level ++ right)) ≡ right ++ level ++ right
unfolding is_nan lt le eq neg add sum sub round units odd size span climb of_bits of_fields min_of max_of median_of tab any first first_failing in_bounds Pass.bad_channels Pass.bad_side Pass.bad_size Pass.bad_sample_count Pass.oversize Pass.samples_place Pass.bad_samples double_of flip_of is_amiss flipped_if bad_channels bad_zero some_above bad_filled bad_matches refusal_number accepted filled_at median_at match_of match_at match_map match_near vote turns goes_alone flips flipped_where samples_after
balanced = refl

pub outvoted : samples_after (row2 (wrong ++ level)) ≡ right ++ turned
unfolding is_nan lt le eq neg add sum sub round units odd size span climb of_bits of_fields min_of max_of median_of tab any first first_failing in_bounds Pass.bad_channels Pass.bad_side Pass.bad_size Pass.bad_sample_count Pass.oversize Pass.samples_place Pass.bad_samples double_of flip_of is_amiss flipped_if bad_channels bad_zero some_above bad_filled bad_matches refusal_number accepted filled_at median_at match_of match_at match_map match_near vote turns goes_alone flips flipped_where samples_after
outvoted = refl

pub fourth_own : samples_after (fours (right ++ quarter ∷ wrong ++ three_quarters ∷ [])) ≡ right ++ three_quarters ∷ right ++ three_quarters ∷ []
unfolding is_nan lt le eq neg add sum sub round units odd size span climb of_bits of_fields min_of max_of median_of tab any first first_failing in_bounds Pass.bad_channels Pass.bad_side Pass.bad_size Pass.bad_sample_count Pass.oversize Pass.samples_place Pass.bad_samples double_of flip_of is_amiss flipped_if bad_channels bad_zero some_above bad_filled bad_matches refusal_number accepted filled_at median_at match_of match_at match_map match_near vote turns goes_alone flips flipped_where samples_after
fourth_own = refl
