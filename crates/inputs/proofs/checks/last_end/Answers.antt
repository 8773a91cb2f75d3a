-- `inputs::checks::last_end` meets its contract. Assumes nothing.
use mathlib.Core.Path.{◌≡◌, refl, ◌∙◌, ap}
use mathlib.Core.List.{List, [], ◌∷◌}
use Prim.Native.Nat.{ℕ, ◌-◌}
use lib.ListN.{length}
use borrow.Author.Tests.{ne_eqb}
use Rattle.std.proofs.lemmas.Option.{unwrap_or-slice_get}
use Rattle.std.specs.List.{slice_get}
use Rattle.std.specs.Option.{unwrap_or}
use Rattle.inputs.specs.Checks.{end_before}
use Rattle.inputs.proofs.checks.last_end.Goals as goal

last : (ends : List ℕ) → unwrap_or (slice_get ends (length ends - 1)) 0 ≡ end_before ends (length ends)
unfolding end_before
last [] = refl
last (x ∷ xs) =
    let some : length (x ∷ xs) ≡ 0 → ⊥ = λ e. cc in
    rw (ne_eqb (length (x ∷ xs)) 0 some) (unwrap_or-slice_get (x ∷ xs) (length (x ∷ xs) - 1) 0)

pub returns : goal.returns
returns c = c.unwrap_or.ensures ∙ ap (λ o. unwrap_or o 0) (c.copied.ensures ∙ c.last.ensures.value) ∙ last c.args.ends.now
