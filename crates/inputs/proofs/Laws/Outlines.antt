-- Outlines that the checks let through. Assumes nothing.
--     contours_alike   two of one outline are the same
--     checked_alike    so are two answers of a check of one outline
use Rattle.std.specs.Prelude.{◌≡◌, ℕ, List, Float, Result, Ok, Err, IfOk}
use Rattle.std.proofs.Common.{sym, ◌∙◌, ap}
use mathlib.Core.Path.{subst}
use Rattle.std.specs.Coded.{le_prop}
use native.Mathlib.Nat.{ℕ_set}
use Rattle.inputs.specs.declared.outline.Outline.{Outline}
use Rattle.inputs.specs.declared.outline.Contours.{Contours}
use Rattle.inputs.specs.declared.refusal.ContentRefusal.{ContentRefusal}
use Rattle.inputs.specs.Inner.{Outlined}
use Rattle.inputs.specs.Refusal.{content_number_in, content_place_in}
use Rattle.inputs.proofs.Laws.Refusal.{content_alike, content_not_0}

outlined_once : (colours : List ℕ) (coords : List Float) (ends : List ℕ) → IsProp (Outlined colours coords ends)
outlined_once colours coords ends = hlevel (le_prop, ℕ_set)

pub contours_alike : (a b : Contours) → a.outline ≡ b.outline → a ≡ b
contours_alike a b e =
    subst (λ (o : Outline). (q : Outlined o.colours.now o.coords.now o.ends.now) → a ≡ record { outline = o; outlined = q }) e
    (λ q. ap (λ (z : Outlined a.outline.colours.now a.outline.coords.now a.outline.ends.now). record { outline = a.outline; outlined = z }) (outlined_once _ _ _ a.outlined q)) b.outlined

pub checked_alike : (o : Outline) (r s : Result Contours ContentRefusal) → content_number_in r ≡ content_number_in s → content_place_in r ≡ content_place_in s → IfOk r (λ c. c.outline ≡ o) → IfOk s (λ c. c.outline ≡ o) → r ≡ s
checked_alike o (Ok a) (Ok b) n p e f = ap Ok (contours_alike a b (e ∙ sym f))
checked_alike o (Ok a) (Err s) n p e f = absurd (content_not_0 s (sym n))
checked_alike o (Err r) (Ok b) n p e f = absurd (content_not_0 r n)
checked_alike o (Err r) (Err s) n p e f = ap Err (content_alike r s n p)
