-- Lists of samples as bytes and back: what comes back, and that it passes the checks. Assumes nothing.
--     bytes_length, samples_length  there are as many
--     byte_at, sample_at_law            what stands at each index
--     bytes_all                     the bytes of samples are bytes
--     bytes_back                    bytes that went through samples are as they were
--     through_same, through_again   samples that went through bytes have the same bytes, so a second time changes nothing
--     samples_good                  no sample of bytes is bad
--     out_accepted                  the samples of bytes go out again into as many bytes
--     from_bytes_accepted           in an input that the pass accepts its samples may be replaced by those of as many bytes
--     through_accepted              so by its own samples after they went through bytes
use mathlib.Core.Path.{◌≡◌, sym, ap, ◌∙◌, subst}
use mathlib.Core.Bool.{true, false, not}
use mathlib.Core.List.{List}
use Prim.Native.Nat.{ℕ, ◌≤◌, ◌<◌}
use lib.ListN.{get_or, length, length-map}
use lib.Seq.{ext_get_or}
use lib.Ieee.{Float, binary32, nan}
use borrow.Author.Tests.{eqb-true, eq-eqb}
use Rattle.ground.proofs.Laws.Fill.{map_at}
use Rattle.ground.proofs.Laws.Refuse.{none_fails}
use Rattle.inputs.specs.Checks as Pass
use Rattle.inputs.proofs.Laws.Checks.{samples_pass, stages, staged}
use Rattle.pixels.specs.Byte.{byte_of, sample_of}
use Rattle.pixels.specs.Checks.{bad_output, checks, refusal_number, accepted}
use Rattle.pixels.specs.Bytes.{bytes_of, samples_of, through_bytes, AllBytes, with_samples}
use Rattle.pixels.proofs.Laws.Byte.{byte_most}
use Rattle.pixels.proofs.Laws.Sample.{sample_good, byte_back}

-- ---- what stands in the lists

pub bytes_length : (xs : List Float) → length (bytes_of xs) ≡ length xs
unfolding bytes_of
bytes_length xs = length-map xs byte_of

pub byte_at : (xs : List Float) (j : ℕ) → j < length xs → get_or (bytes_of xs) j 0 ≡ byte_of (get_or xs j nan)
unfolding bytes_of
byte_at xs j l = map_at byte_of xs j nan 0 l

pub samples_length : (ks : List ℕ) → length (samples_of ks) ≡ length ks
unfolding samples_of
samples_length ks = length-map ks sample_of

pub sample_at_law : (ks : List ℕ) (j : ℕ) → j < length ks → get_or (samples_of ks) j nan ≡ sample_of (get_or ks j 0)
unfolding samples_of
sample_at_law ks j l = map_at sample_of ks j 0 nan l

pub bytes_all : (xs : List Float) → AllBytes (bytes_of xs)
bytes_all xs j l =
    subst (λ (k : ℕ). k ≤ 255) (sym (byte_at xs j (subst (λ (n : ℕ). j < n) (bytes_length xs) l))) (byte_most (get_or xs j nan))

-- ---- there and back

pub bytes_back : (ks : List ℕ) → AllBytes ks → bytes_of (samples_of ks) ≡ ks
bytes_back ks a =
    let xs = samples_of ks in
    ext_get_or 0 (bytes_of xs) ks (bytes_length xs ∙ samples_length ks)
    (λ j h.
    let l : j < length xs = subst (λ (n : ℕ). j < n) (bytes_length xs) h in
    let b : j < length ks = subst (λ (n : ℕ). j < n) (samples_length ks) l in
    byte_at xs j l ∙ ap byte_of (sample_at_law ks j b) ∙ byte_back (get_or ks j 0) (a j b))

pub through_same : (xs : List Float) → bytes_of (through_bytes xs) ≡ bytes_of xs
unfolding through_bytes
through_same xs = bytes_back (bytes_of xs) (bytes_all xs)

pub through_again : (xs : List Float) → through_bytes (through_bytes xs) ≡ through_bytes xs
unfolding through_bytes
through_again xs = ap samples_of (through_same xs)

-- ---- the checks

pub samples_good : (ks : List ℕ) → AllBytes ks → Pass.bad_samples (samples_of ks) ≡ false
samples_good ks a =
    samples_pass (samples_of ks)
    (λ j l.
    let b : j < length ks = subst (λ (n : ℕ). j < n) (samples_length ks) l in
    ap (Pass.oversize binary32) (sample_at_law ks j b) ∙ sample_good (get_or ks j 0) (a j b))

-- check 40, of an output that is as long as what comes in
same_output : (n m : ℕ) → m ≡ n → bad_output n m ≡ false
unfolding bad_output
same_output n m e = ap not (eq-eqb m n e)

pub out_accepted : (ks : List ℕ) → AllBytes ks → accepted (samples_of ks) (length ks) ≡ true
unfolding accepted refusal_number
out_accepted ks a =
    let n = length ks in
    eq-eqb _ 0 (none_fails (checks (samples_of ks) n) (same_output (length (samples_of ks)) n (sym (samples_length ks)), (samples_good ks a, tt)))

pub from_bytes_accepted : (i : Pass.Input) (ks : List ℕ) → AllBytes ks → length ks ≡ length i.samples → Pass.accepted i ≡ true
    → Pass.accepted (with_samples i (samples_of ks)) ≡ true
unfolding Pass.accepted
from_bytes_accepted i ks a e ok =
    let s = stages i (eqb-true (Pass.refusal_number i) 0 ok) in
    eq-eqb _ 0
    (staged (with_samples i (samples_of ks))
    (record {
      sizes = ap (λ (n : ℕ). Pass.size_refusal i.width i.height i.channels n (length i.stencil)) (samples_length ks ∙ e) ∙ s.sizes;
      room = s.room;
      settings = s.settings;
      samples = samples_good ks a;
      outlines = s.outlines;
    }))

pub through_accepted : (i : Pass.Input) → Pass.accepted i ≡ true → Pass.accepted (with_samples i (through_bytes i.samples)) ≡ true
unfolding through_bytes
through_accepted i = from_bytes_accepted i (bytes_of i.samples) (bytes_all i.samples) (bytes_length i.samples)
