-- Each public function's promise determines its answer: any two answers that it permits for the same arguments are the same. Assumes nothing.
-- `Post` is a function's promise as the checker makes it of the `ensures` in the source. No argument is lent to be written, so the answer is all that a call leaves behind.
use mathlib.Core.Path.{◌≡◌, sym, ◌∙◌}
use mathlib.Core.List.{List}
use Prim.Native.Nat.{ℕ}
use contract.Lifetimes.{Lfts}
use denote.Triple.Clauses.{AtExit}
use borrow.Fn.Kinds.{ParamKind, ResultKind, Dens, Out, res_t, ended_of}
use Rattle.ground.proofs.bytes.byte_from.Kinds as byte_from_kinds
use Rattle.ground.proofs.bytes.byte_from.Reads as byte_from
use Rattle.ground.proofs.bytes.be16.Kinds as be16_kinds
use Rattle.ground.proofs.bytes.be16.Reads as be16
use Rattle.ground.proofs.bytes.be32.Kinds as be32_kinds
use Rattle.ground.proofs.bytes.be32.Reads as be32
use Rattle.ground.proofs.bytes.be64.Kinds as be64_kinds
use Rattle.ground.proofs.bytes.be64.Reads as be64
use Rattle.ground.proofs.bytes.float_of_bits32.Kinds as float_of_bits32_kinds
use Rattle.ground.proofs.bytes.float_of_bits32.Reads as float_of_bits32
use Rattle.ground.proofs.bytes.float_of_bits64.Kinds as float_of_bits64_kinds
use Rattle.ground.proofs.bytes.float_of_bits64.Reads as float_of_bits64
use Rattle.ground.proofs.bytes.bits_of_float32.Kinds as bits_of_float32_kinds
use Rattle.ground.proofs.bytes.bits_of_float32.Reads as bits_of_float32
use Rattle.ground.proofs.bytes.f32_at.Kinds as f32_at_kinds
use Rattle.ground.proofs.bytes.f32_at.Reads as f32_at
use Rattle.ground.proofs.bytes.f64_at.Kinds as f64_at_kinds
use Rattle.ground.proofs.bytes.f64_at.Reads as f64_at

-- any two answers r and s that a promise permits for the arguments a are the same
abbrev pub Alike : (n : ℕ) (ps : List (ParamKind n)) (k : ResultKind n) → Out n ps k → Type 0
Alike n ps k Post = (κs : Lfts n) (a : Dens κs ps) (r s : (res_t k κs).Denot) (e f : AtExit (ended_of n ps k) κs) → Post κs a r e → Post κs a s f → r ≡ s

-- Two answers that equal one value are the same.
pub alike : {A : Type 0} {v r s : A} → r ≡ v → s ≡ v → r ≡ s
alike p q = p ∙ sym q

-- ---- each function
-- The byte behind a place.
pub byte_from_alike : Alike 1 byte_from_kinds.ps byte_from_kinds.r byte_from.Post
byte_from_alike κs a r s e f = alike

-- The number of two bytes.
pub be16_alike : Alike 1 be16_kinds.ps be16_kinds.r be16.Post
be16_alike κs a r s e f p q = alike p.0 q.0

-- Of four.
pub be32_alike : Alike 1 be32_kinds.ps be32_kinds.r be32.Post
be32_alike κs a r s e f = alike

-- Of eight.
pub be64_alike : Alike 1 be64_kinds.ps be64_kinds.r be64.Post
be64_alike κs a r s e f = alike

-- The f32 of a bit pattern.
pub float_of_bits32_alike : Alike 0 float_of_bits32_kinds.ps float_of_bits32_kinds.r float_of_bits32.Post
float_of_bits32_alike κs a r s e f = alike

-- The f64 of a bit pattern.
pub float_of_bits64_alike : Alike 0 float_of_bits64_kinds.ps float_of_bits64_kinds.r float_of_bits64.Post
float_of_bits64_alike κs a r s e f = alike

-- The bit pattern of an f32.
pub bits_of_float32_alike : Alike 0 bits_of_float32_kinds.ps bits_of_float32_kinds.r bits_of_float32.Post
bits_of_float32_alike κs a r s e f = alike

-- The f32 of four bytes.
pub f32_at_alike : Alike 1 f32_at_kinds.ps f32_at_kinds.r f32_at.Post
f32_at_alike κs a r s e f = alike

-- The f64 of eight.
pub f64_at_alike : Alike 1 f64_at_kinds.ps f64_at_kinds.r f64_at.Post
f64_at_alike κs a r s e f = alike
