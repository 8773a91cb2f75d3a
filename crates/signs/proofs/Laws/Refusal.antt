-- What is known of refusals. Assumes nothing.
--     refusal_of   a refusal is the one with its number and its place
--     refuses      no refusal has the number 0
--     alike        two answers with one number and one place are the same
use mathlib.Core.Path.{◌≡◌, refl, sym, ◌∙◌, ap}
use Rattle.std.proofs.Common.{Result, Ok, Err}
use Rattle.signs.specs.declared.refusal.Refusal.{Refusal}
use Rattle.signs.specs.declared.refusal.Refusal.TheVariants.{Channels, Size, SampleCount, Sample, Zero, Filled, Matches}
use Rattle.signs.specs.Refusal.{number, place, number_in, place_in, refusal}

pub refusal_of : (r : Refusal) → refusal (number r) (place r) ≡ r
unfolding refusal
refusal_of Channels = refl
refusal_of Size = refl
refusal_of SampleCount = refl
refusal_of (Sample p) = refl
refusal_of Zero = refl
refusal_of Filled = refl
refusal_of Matches = refl

pub refuses : (r : Refusal) → number r ≡ 0 → ⊥
refuses Channels e = cc
refuses Size e = cc
refuses SampleCount e = cc
refuses (Sample p) e = cc
refuses Zero e = cc
refuses Filled e = cc
refuses Matches e = cc

pub alike : (r s : Result (Unit {0}) Refusal) → number_in r ≡ number_in s → place_in r ≡ place_in s → r ≡ s
alike (Ok u) (Ok v) n p = refl
alike (Ok u) (Err e) n p = absurd (refuses e (sym n))
alike (Err e) (Ok u) n p = absurd (refuses e n)
alike (Err e) (Err f) n p = ap Err (sym (refusal_of e) ∙ ap (λ k. refusal k (place e)) n ∙ ap (refusal (number f)) p ∙ refusal_of f)
