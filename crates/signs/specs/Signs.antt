-- The correction of signs: which values are flipped, and what the match map holds. Definitions only.
use Rattle.std.specs.Prelude.{ℕ, ◌+◌, ◌-◌, ◌*◌, ◌/◌, ◌%◌, Bool, false, cond, ◌||◌, List, get_or, length, eqb, ℤ, pos, negsuc, ◌+ℤ◌, Float}
use Rattle.std.specs.Int.Signed.{lt_z}
use Rattle.std.specs.Float.{nan}
use Rattle.std.specs.Float.Ieee.{eq}
use Rattle.ground.specs.Lists.{tab}
use Rattle.inputs.specs.Bounds.{in_bounds}
use Rattle.numbers.specs.Scalar.{median_of}
use Rattle.signs.specs.Flip.{is_amiss, flipped_if}
use Rattle.signs.specs.Checks.{Input, accepted}

-- the filled map says that texel k is filled
unfoldable pub filled_at : List ℕ → ℕ → Bool
filled_at filled k = eqb (get_or filled k 0) 1

-- the median of the first three channels of texel k
unfoldable pub median_at : List Float → ℕ → ℕ → Float
median_at xs ch k = median_of (get_or xs (k * ch) nan) (get_or xs (k * ch + 1) nan) (get_or xs (k * ch + 2) nan)

-- ---- the match map

-- of a median: 0 where it compares equal to the zero value, −1 where it lies on the wrong side, and 1 where it does not
unfoldable pub match_of : Float → Bool → Float → ℤ
match_of zero filled m = cond (eq m zero) (pos 0) (cond (is_amiss zero filled m) (negsuc 0) (pos 1))

-- of texel k
unfoldable pub match_at : List Float → ℕ → Float → List ℕ → ℕ → ℤ
match_at xs ch zero filled k = match_of zero (filled_at filled k) (median_at xs ch k)

-- of all texels; with one channel it holds zeros
unfoldable pub match_map : List Float → ℕ → Float → List ℕ → List ℤ
match_map xs ch zero filled = tab (length filled) (λ k. cond (eqb ch 1) (pos 0) (match_at xs ch zero filled k))

-- ---- the vote

-- the match at column nx and row ny, counted from 1, and 0 where they are not inside
unfoldable pub match_near : ℕ → ℕ → List ℤ → ℕ → ℕ → ℤ
match_near w h ms nx ny = cond (in_bounds w h nx ny) (get_or ms ((ny - 1) * w + (nx - 1)) (pos 0)) (pos 0)

-- the sum of the matches left, right, below and above texel x, y
unfoldable pub vote : ℕ → ℕ → List ℤ → ℕ → ℕ → ℤ
vote w h ms x y = match_near w h ms x (y + 1) +ℤ match_near w h ms (x + 2) (y + 1) +ℤ match_near w h ms (x + 1) y +ℤ match_near w h ms (x + 1) (y + 2)

-- a number is 0
abbrev pub is_nought : ℤ → Bool
is_nought (pos n) = eqb n 0
is_nought (negsuc n) = false

-- the first three channels of texel x, y are flipped: where its match is −1, and where it is 0 and the vote is negative
unfoldable pub turns : ℕ → ℕ → List ℤ → ℕ → ℕ → Bool
turns w h ms x y =
    let m = get_or ms (y * w + x) (pos 0) in
    cond (is_nought m) (lt_z (vote w h ms x y) (pos 0)) (lt_z m (pos 0))

-- ---- the samples

-- channel c of ch goes by its own value and no other: the only one, and the fourth
unfoldable pub goes_alone : ℕ → ℕ → Bool
goes_alone ch c = eqb ch 1 || eqb c 3

-- sample j, which is channel j % ch of texel j / ch, is flipped
unfoldable pub flips : ℕ → ℕ → ℕ → List Float → Float → List ℕ → ℕ → Bool
flips w h ch xs zero filled j =
    let k = j / ch in
    cond (goes_alone ch (j % ch)) (is_amiss zero (filled_at filled k) (get_or xs j nan))
    (turns w h (match_map xs ch zero filled) (k % w) (k / w))

-- samples of which those are flipped for whose index a test holds
unfoldable pub flipped_where : Float → (ℕ → Bool) → List Float → List Float
flipped_where zero p xs = tab (length xs) (λ j. flipped_if zero (p j) (get_or xs j nan))

-- ---- what an input comes to: a refusal leaves all as it was

unfoldable pub samples_after : Input → List Float
samples_after i = cond (accepted i) (flipped_where i.zero (flips i.width i.height i.channels i.samples i.zero i.filled) i.samples) i.samples

unfoldable pub matches_after : Input → List ℤ
matches_after i = cond (accepted i) (match_map i.samples i.channels i.zero i.filled) i.matches
