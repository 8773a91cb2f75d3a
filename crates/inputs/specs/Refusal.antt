-- A refusal's number and place, and those of a result, which are 0 where all is well. Definitions only.
use Rattle.std.specs.Prelude.{ℕ, cond, eqb, Result, Ok, Err}
use Rattle.inputs.specs.declared.refusal.ContentRefusal.{ContentRefusal}
use Rattle.inputs.specs.declared.refusal.ContentRefusal.TheVariants.{Setting, Sample, OutlineLengths, End, Segment}
use Rattle.inputs.specs.declared.refusal.Refusal.{Refusal}
use Rattle.inputs.specs.declared.refusal.Refusal.TheVariants.{Channels, Size, SampleCount, CellCount, Room, Content}

-- the number of the check, of checks 5 to 9
abbrev pub content_number : ContentRefusal → ℕ
content_number (Setting p) = 5
content_number (Sample p) = 6
content_number OutlineLengths = 7
content_number (End p) = 8
content_number (Segment p) = 9

-- its place, 0 where it has none
abbrev pub content_place : ContentRefusal → ℕ
content_place (Setting p) = p
content_place (Sample p) = p
content_place OutlineLengths = 0
content_place (End p) = p
content_place (Segment p) = p

-- the same of all checks
abbrev pub number : Refusal → ℕ
number Channels = 1
number Size = 2
number SampleCount = 3
number CellCount = 4
number Room = 60
number (Content c) = content_number c

abbrev pub place : Refusal → ℕ
place Channels = 0
place Size = 0
place SampleCount = 0
place CellCount = 0
place Room = 0
place (Content c) = content_place c

-- of a result: 0 where all is well
abbrev pub content_number_in : {A : Type 0} → Result A ContentRefusal → ℕ
content_number_in (Ok a) = 0
content_number_in (Err c) = content_number c

abbrev pub content_place_in : {A : Type 0} → Result A ContentRefusal → ℕ
content_place_in (Ok a) = 0
content_place_in (Err c) = content_place c

abbrev pub number_in : {A : Type 0} → Result A Refusal → ℕ
number_in (Ok a) = 0
number_in (Err r) = number r

abbrev pub place_in : {A : Type 0} → Result A Refusal → ℕ
place_in (Ok a) = 0
place_in (Err r) = place r

-- the refusal that has a number and a place
abbrev pub content_with : ℕ → ℕ → ContentRefusal
content_with n p = cond (eqb n 5) (Setting p) (cond (eqb n 6) (Sample p) (cond (eqb n 7) OutlineLengths (cond (eqb n 8) (End p) (Segment p))))

abbrev pub refusal_with : ℕ → ℕ → Refusal
refusal_with n p = cond (eqb n 1) Channels (cond (eqb n 2) Size (cond (eqb n 3) SampleCount (cond (eqb n 4) CellCount (cond (eqb n 60) Room (Content (content_with n p))))))
