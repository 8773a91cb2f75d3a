-- Why a correction of signs is refused: the first check that fails, with its place where it has one: the number of each refusal and its place, and what is answered. Definitions only.
use Rattle.std.specs.Prelude.{ℕ, cond, eqb, Result, Ok, Err}
use Rattle.signs.specs.declared.refusal.Refusal.{Refusal}
use Rattle.signs.specs.declared.refusal.Refusal.TheVariants.{Channels, Size, SampleCount, Sample, Zero, Filled, Matches}

-- the number of its check
abbrev pub number : Refusal → ℕ
number Channels = 1
number Size = 2
number SampleCount = 3
number (Sample p) = 6
number Zero = 10
number Filled = 11
number Matches = 12

-- its place, 0 where it has none
abbrev pub place : Refusal → ℕ
place Channels = 0
place Size = 0
place SampleCount = 0
place (Sample p) = p
place Zero = 0
place Filled = 0
place Matches = 0

-- the number that is answered, 0 where nothing is refused
abbrev pub number_in : {A : Type 0} → Result A Refusal → ℕ
number_in (Ok x) = 0
number_in (Err r) = number r

-- the place that is answered, 0 where nothing is refused
abbrev pub place_in : {A : Type 0} → Result A Refusal → ℕ
place_in (Ok x) = 0
place_in (Err r) = place r

-- the refusal with a number and a place
unfoldable pub refusal : ℕ → ℕ → Refusal
refusal n p =
    cond (eqb n 1) Channels
    (cond (eqb n 2) Size
    (cond (eqb n 3) SampleCount
    (cond (eqb n 6) (Sample p)
    (cond (eqb n 10) Zero
    (cond (eqb n 11) Filled Matches)))))
