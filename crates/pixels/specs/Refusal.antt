-- Why samples or bytes are refused: the first check that fails, with its place where it has one: the number of each refusal and its place, and what is answered. Definitions only.
use Rattle.std.specs.Prelude.{ℕ, cond, eqb, Result, Ok, Err}
use Rattle.pixels.specs.declared.refusal.Refusal.{Refusal}
use Rattle.pixels.specs.declared.refusal.Refusal.TheVariants.{Length, Sample}

-- the number of its check
abbrev pub number : Refusal → ℕ
number Length = 40
number (Sample p) = 6

-- its place, 0 where it has none
abbrev pub place : Refusal → ℕ
place Length = 0
place (Sample p) = p

-- the number that is answered, 0 where nothing is refused
abbrev pub number_in : {A : Type 0} → Result A Refusal → ℕ
number_in (Ok x) = 0
number_in (Err r) = number r

-- the place that is answered, 0 where nothing is refused
abbrev pub place_in : {A : Type 0} → Result A Refusal → ℕ
place_in (Ok x) = 0
place_in (Err r) = place r

-- the refusal with a number and a place
unfoldable pub refusal : ℕ → ℕ → Refusal
refusal n p =
    cond (eqb n 40) Length (Sample p)
