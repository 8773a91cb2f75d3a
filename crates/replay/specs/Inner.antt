-- What the inner functions ask of each other: the bounds that keep what a case of the list holds within the program's arrays. Definitions only.
use Rattle.std.specs.Prelude.{ℕ, ◌≤◌}

-- so many samples, cells, colours, coordinates and ends are at most 64 each
abbrev pub Roomy : ℕ → ℕ → ℕ → ℕ → ℕ → Type 0
Roomy samples cells colours coords ends = (samples ≤ 64) × (cells ≤ 64) × (colours ≤ 64) × (coords ≤ 64) × (ends ≤ 64)
