-- What a list of samples and a list of bytes come to. Definitions only.
use Rattle.std.specs.Prelude.{ℕ, ◌≤◌, ◌<◌, cond, List, map, get_or, length, Float}
use Rattle.inputs.specs.Checks as Pass
use Rattle.pixels.specs.Byte.{byte_of, sample_of}
use Rattle.pixels.specs.Checks.{accepted, length_accepted}

-- the byte of each sample
unfoldable pub bytes_of : List Float → List ℕ
bytes_of xs = map byte_of xs

-- the sample of each byte
unfoldable pub samples_of : List ℕ → List Float
samples_of ks = map sample_of ks

-- samples that went through bytes
unfoldable pub through_bytes : List Float → List Float
through_bytes xs = samples_of (bytes_of xs)

-- every number of the list is a byte
abbrev pub AllBytes : List ℕ → Type 0
AllBytes ks = (j : ℕ) → j < length ks → get_or ks j 0 ≤ 255

-- an input of the pass with other samples
abbrev pub with_samples : Pass.Input → List Float → Pass.Input
with_samples i xs = Pass.input i.width i.height i.channels xs i.stencil i.room i.mode i.settings i.colours i.coords i.ends

-- ---- a refusal leaves the output as it was

-- the bytes after samples were written into them
unfoldable pub bytes_after : List Float → List ℕ → List ℕ
bytes_after xs out = cond (accepted xs (length out)) (bytes_of xs) out

-- the samples after bytes were written into them
unfoldable pub samples_after : List ℕ → List Float → List Float
samples_after ks out = cond (length_accepted (length ks) (length out)) (samples_of ks) out
