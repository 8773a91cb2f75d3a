-- An input texel by texel, before the correction and after it: what the theorems on its outcome speak of. Definitions only.
use Rattle.std.specs.Prelude.{ℕ, ◌+◌, ◌*◌, ◌/◌, ◌%◌, ◌<◌, Bool, List, T, ℤ, get_or, length, Float}
use Rattle.std.specs.Float.{binary32, nan}
use Rattle.std.specs.Float.Ieee.{fits}
use Rattle.signs.specs.Checks.{Input, input}
use Rattle.signs.specs.Signs.{match_at, match_map, vote, turns, flips, samples_after}

-- the zero value and each sample are values of f32, as a slice of f32 holds nothing else
pub record Held (i : Input) : Type 0 where
  pub zero : T (fits binary32 i.zero)
  pub samples : (j : ℕ) → j < length i.samples → T (fits binary32 (get_or i.samples j nan))

-- channel c of texel k, before and afterwards
abbrev pub sample : Input → ℕ → ℕ → Float
sample i k c = get_or i.samples (k * i.channels + c) nan

abbrev pub sample_after : Input → ℕ → ℕ → Float
sample_after i k c = get_or (samples_after i) (k * i.channels + c) nan

-- the match of texel k, before and afterwards
abbrev pub match_before : Input → ℕ → ℤ
match_before i k = match_at i.samples i.channels i.zero i.filled k

abbrev pub match_after : Input → ℕ → ℤ
match_after i k = match_at (samples_after i) i.channels i.zero i.filled k

-- the vote on texel k, whether it turns, and whether sample j is flipped
abbrev pub vote_on : Input → ℕ → ℤ
vote_on i k = vote i.width i.height (match_map i.samples i.channels i.zero i.filled) (k % i.width) (k / i.width)

abbrev pub turns_in : Input → ℕ → Bool
turns_in i k = turns i.width i.height (match_map i.samples i.channels i.zero i.filled) (k % i.width) (k / i.width)

abbrev pub flips_in : Input → ℕ → Bool
flips_in i = flips i.width i.height i.channels i.samples i.zero i.filled

-- the input with its samples as they are afterwards, and any match map
abbrev pub again : Input → List ℤ → Input
again i ms = input i.width i.height i.channels (samples_after i) i.zero i.filled ms
