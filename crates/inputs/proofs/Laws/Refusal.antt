-- A refusal is told by its number and its place. Assumes nothing.
--     content_told, told                     the refusal with a refusal's number and place is that refusal
--     content_alike, refusals_alike          so two with the same are the same
--     contents_alike, results_alike          and so are two results without a value
--     moded_alike                            and two with a mode of one number
--     refused_by, passed_by                  whether a check fails, by what is answered
--     err_numbered, ok_numbered              whether a result is a refusal, by its number
use Rattle.std.specs.Prelude.{◌≡◌, ℕ, true, false, refl, Result, Ok, Err, IfOk}
use Rattle.std.specs.Result.{is_err}
use Rattle.std.proofs.Common.{sym, ◌∙◌, ap}
use mathlib.Core.Bool.{Bool, cond, true≢false}
use Rattle.ranges.specs.declared.config.Mode.{Mode}
use Rattle.ranges.specs.Config.{mode_number}
use Rattle.ranges.proofs.Laws.Modes.{modes_alike}
use Rattle.inputs.specs.declared.refusal.ContentRefusal.{ContentRefusal}
use Rattle.inputs.specs.declared.refusal.ContentRefusal.TheVariants.{Setting, Sample, OutlineLengths, End, Segment}
use Rattle.inputs.specs.declared.refusal.Refusal.{Refusal}
use Rattle.inputs.specs.declared.refusal.Refusal.TheVariants.{Channels, Size, SampleCount, CellCount, Room, Content}
use Rattle.inputs.specs.Refusal.{content_number, content_place, content_with, content_number_in, content_place_in, number, place, refusal_with, number_in, place_in}

pub content_told : (c : ContentRefusal) → content_with (content_number c) (content_place c) ≡ c
content_told (Setting p) = refl
content_told (Sample p) = refl
content_told OutlineLengths = refl
content_told (End p) = refl
content_told (Segment p) = refl

pub told : (r : Refusal) → refusal_with (number r) (place r) ≡ r
told Channels = refl
told Size = refl
told SampleCount = refl
told CellCount = refl
told Room = refl
told (Content (Setting p)) = refl
told (Content (Sample p)) = refl
told (Content OutlineLengths) = refl
told (Content (End p)) = refl
told (Content (Segment p)) = refl

pub content_alike : (c d : ContentRefusal) → content_number c ≡ content_number d → content_place c ≡ content_place d → c ≡ d
content_alike c d n p = sym (content_told c) ∙ ap (λ k. content_with k (content_place c)) n ∙ ap (content_with (content_number d)) p ∙ content_told d

pub refusals_alike : (r s : Refusal) → number r ≡ number s → place r ≡ place s → r ≡ s
refusals_alike r s n p = sym (told r) ∙ ap (λ k. refusal_with k (place r)) n ∙ ap (refusal_with (number s)) p ∙ told s

-- no check has the number 0
pub content_not_0 : (c : ContentRefusal) → content_number c ≡ 0 → ⊥
content_not_0 (Setting p) e = cc
content_not_0 (Sample p) e = cc
content_not_0 OutlineLengths e = cc
content_not_0 (End p) e = cc
content_not_0 (Segment p) e = cc

pub number_not_0 : (r : Refusal) → number r ≡ 0 → ⊥
number_not_0 Channels e = cc
number_not_0 Size e = cc
number_not_0 SampleCount e = cc
number_not_0 CellCount e = cc
number_not_0 Room e = cc
number_not_0 (Content c) e = content_not_0 c e

pub contents_alike : (r s : Result Unit ContentRefusal) → content_number_in r ≡ content_number_in s → content_place_in r ≡ content_place_in s → r ≡ s
contents_alike (Ok a) (Ok b) n p = refl
contents_alike (Ok a) (Err s) n p = absurd (content_not_0 s (sym n))
contents_alike (Err r) (Ok b) n p = absurd (content_not_0 r n)
contents_alike (Err r) (Err s) n p = ap Err (content_alike r s n p)

pub results_alike : (r s : Result Unit Refusal) → number_in r ≡ number_in s → place_in r ≡ place_in s → r ≡ s
results_alike (Ok a) (Ok b) n p = refl
results_alike (Ok a) (Err s) n p = absurd (number_not_0 s (sym n))
results_alike (Err r) (Ok b) n p = absurd (number_not_0 r n)
results_alike (Err r) (Err s) n p = ap Err (refusals_alike r s n p)

pub moded_alike : (k : ℕ) (r s : Result Mode ContentRefusal) → content_number_in r ≡ content_number_in s → content_place_in r ≡ content_place_in s → IfOk r (λ m. mode_number m ≡ k) → IfOk s (λ m. mode_number m ≡ k) → r ≡ s
moded_alike k (Ok a) (Ok b) n p e f = ap Ok (modes_alike a b (e ∙ sym f))
moded_alike k (Ok a) (Err s) n p e f = absurd (content_not_0 s (sym n))
moded_alike k (Err r) (Ok b) n p e f = absurd (content_not_0 r n)
moded_alike k (Err r) (Err s) n p e f = ap Err (content_alike r s n p)

-- a result that is a refusal has a number, and one that is none has not
pub err_numbered : {A : Type 0} (r : Result A Refusal) → true ≡ is_err r → number_in r ≡ 0 → ⊥
err_numbered (Ok a) e n = absurd (true≢false e)
err_numbered (Err r) e n = number_not_0 r n

pub ok_numbered : {A : Type 0} (r : Result A Refusal) → false ≡ is_err r → number_in r ≡ 0
ok_numbered (Ok a) e = refl
ok_numbered (Err r) e = absurd (true≢false (sym e))

-- of a check of the contents with the number k, whether it fails, by what is answered
pub refused_by : (b : Bool) (k : ℕ) (c : ContentRefusal) → content_number c ≡ cond b k 0 → b ≡ true
refused_by true k c e = refl
refused_by false k c e = absurd (content_not_0 c e)

pub passed_by : (b : Bool) (k : ℕ) → (k ≡ 0 → ⊥) → 0 ≡ cond b k 0 → b ≡ false
passed_by true k h e = absurd (h (sym e))
passed_by false k h e = refl
