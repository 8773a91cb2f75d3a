-- The verdict of a search for artifacts as one number: how many range tests were made, at most 127, and 128 more where there is an artifact. Definitions only.
use Rattle.std.specs.Prelude.{ℕ, ◌+◌, Bool, cond}

unfoldable pub verdict : Bool → ℕ → ℕ
verdict artifact tests = cond artifact (128 + tests) tests
