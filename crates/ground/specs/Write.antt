-- Text that is written into a slice at a place. Definitions only.
use Rattle.std.specs.Prelude.{◌≡◌, ℕ, ◌+◌, List, length}
use Rattle.std.proofs.lemmas.List.Edits.{sets}

-- the text stands in the slice from a place on, all else is as it was, and the answer is the place after it
pub record Written {A : Type 0} (out : List A) (at : ℕ) (text : List A) (next : ℕ) (after : List A) : Type 0 where
  pub holds : after ≡ sets out at text
  pub to : next ≡ at + length text
