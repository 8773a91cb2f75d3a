-- What an accepted pass leaves is accepted as input: every sample is again within check 6's limit. Assumes nothing.
--     samples_within     no sample that is left is refused
--     accepted_again     so a pass over the result is accepted, with any mode, settings and outlines that are
--     promise_within     the first of a run of the public function, by its promise
use mathlib.Core.Path.{◌≡◌, sym, ◌∙◌, ap, subst}
use mathlib.Core.Bool.{Bool, true, false, cond, ◌&&◌}
use mathlib.Core.List.{List}
use Prim.Native.Nat.{ℕ, ◌+◌, ◌*◌, ◌/◌, ◌%◌, ◌<◌, ◌≤◌}
use native.Mathlib.Nat.{div-lt_iff_lt-mul, lt_of_lt_of_le}
use native.Mathlib.Omega.{arith}
use lib.Arith.{digits_lt}
use lib.Dec.{ltb}
use lib.ListN.{get_or, length}
use lib.Ieee.{Float, binary32, nan}
use contract.Lifetimes.{Lfts}
use borrow.Fn.Kinds.{Dens}
use borrow.Author.Tests.{le-ltb, eq-eqb}
use Rattle.detectors.proofs.Laws.Texel.{texel_median_keeps}
use Rattle.correction.specs.Bitmap.{cell_texel}
use Rattle.inputs.specs.Checks.{Input, bad_room, oversize, refusal_number, accepted}
use Rattle.correction.specs.Collapse.{cell_median, collapsed_sample, collapsed}
use Rattle.correction.specs.Pass.{flags, pass_samples, stencil_after, samples_after, room_after, fed_back, number_of}
use Rattle.ground.proofs.Laws.Fill.{tab_length, tab_at}
use Rattle.inputs.proofs.Laws.Checks.{sizes, passed, stages, staged, samples_pass}
use Rattle.correction.proofs.pass.msdf_error_correction.Kinds.{ps}
use Rattle.correction.proofs.pass.msdf_error_correction.Reads as entry
use Rattle.correction.proofs.Laws.Answer.{zero_accepts}
use Rattle.correction.proofs.Laws.Leaves.{number_zero, accepted_leaves, stencil_length, room_length, given}

-- As many samples are left as came.
pub samples_length : (i : Input) → accepted i ≡ true → length (samples_after i) ≡ length i.samples
unfolding pass_samples collapsed
samples_length i p = ap length (accepted_leaves i p).1 ∙ tab_length (length i.samples) _

-- the texel of sample j is one of the n
texel_lt : (ch n j : ℕ) → 0 < ch → j < n * ch → j / ch < n
texel_lt ch n j p l = (div-lt_iff_lt-mul p).1 l

-- A sample of a collapsed bitmap has what all samples of the bitmap have.
collapsed_keeps : (P : Float → Type 0) (xs : List Float) (ch n : ℕ) (flag : ℕ → Bool) → 3 ≤ ch → length xs ≡ n * ch → ((j : ℕ) → j < length xs → P (get_or xs j nan)) → (j : ℕ) → j < length xs → P (collapsed_sample xs ch flag j)
unfolding collapsed_sample
collapsed_keeps P xs ch n flag few long all j l = go (flag (j / ch) && ltb (j % ch) 3)
  where
    in_texel : (c : ℕ) → c < 3 → j / ch * ch + c < length xs
    in_texel c d = subst (λ (m : ℕ). j / ch * ch + c < m) (sym long) (digits_lt (texel_lt ch n j (omega arith) (subst (λ (m : ℕ). j < m) long l)) (lt_of_lt_of_le d few))

    go : (b : Bool) → P (cond b (cell_median xs ch (j / ch)) (get_or xs j nan))
    go true =
        texel_median_keeps P (cell_texel xs ch (j / ch)) (all (j / ch * ch + 0) (in_texel 0 (omega arith))) (all (j / ch * ch + 1) (in_texel 1 (omega arith))) (all (j / ch * ch + 2) (in_texel 2 (omega arith)))
    go false = all j l

-- After an accepted pass every sample is within check 6's limit.
pub samples_within : (i : Input) → accepted i ≡ true → (j : ℕ) → j < length (samples_after i) → oversize binary32 (get_or (samples_after i) j nan) ≡ false
unfolding pass_samples collapsed
samples_within i p j l =
    let q = passed i (number_zero i p) in
    let z = sizes i.width i.height i.channels (length i.samples) (length i.stencil) q.sizes in
    let h : j < length i.samples = subst (λ (n : ℕ). j < n) (samples_length i p) l in
    let f : ℕ → Bool = λ k. flags i (k % i.width) (k / i.width) in
    ap (λ (xs : List Float). oversize binary32 (get_or xs j nan)) (accepted_leaves i p).1
    ∙ ap (oversize binary32) (tab_at (length i.samples) (collapsed_sample i.samples i.channels f) j nan h)
    ∙ collapsed_keeps (λ (v : Float). oversize binary32 v ≡ false) i.samples i.channels (i.width * i.height) f z.channels.0 z.samples q.samples j h

-- A room that was long enough for a bitmap is so for another of its width.
room_pass : (i j : Input) → accepted i ≡ true → i.width ≡ j.width → bad_room j.width (length (room_after i)) ≡ false
unfolding bad_room
room_pass i j p w = le-ltb (length (room_after i)) (2 * j.width) (omega (arith, room_length i p, (passed i (number_zero i p)).room))

-- So the result of an accepted pass is accepted as input, with the mode, the settings and the outlines of any accepted input of its size.
pub accepted_again : (i j : Input) → accepted i ≡ true → accepted j ≡ true → i.width ≡ j.width → i.height ≡ j.height → i.channels ≡ j.channels → accepted (fed_back i j) ≡ true
unfolding accepted
accepted_again i j p q w h ch =
    let s = stages j (number_zero j q) in
    let z = sizes j.width j.height j.channels (length j.samples) (length j.stencil) s.sizes in
    let y = sizes i.width i.height i.channels (length i.samples) (length i.stencil) (passed i (number_zero i p)).sizes in
    let n : length (samples_after i) ≡ length j.samples = samples_length i p ∙ y.samples ∙ rw (w, h, ch) (sym z.samples) in
    let m : length (stencil_after i) ≡ length j.stencil = stencil_length i p ∙ rw (w, h) (sym z.cells) in
    eq-eqb (refusal_number (fed_back i j)) 0 (staged (fed_back i j) (record { sizes = rw (n, m) s.sizes; room = room_pass i j p w; settings = s.settings; samples = samples_pass (samples_after i) (samples_within i p); outlines = s.outlines }))

-- The first of a run of `msdf_error_correction` that answers 0: it keeps the promise as it is read from the source, of the arguments a, the answer z and the arguments at exit e, of which the samples are the fourth.
pub promise_within : (κs : Lfts 6) (a : Dens κs ps) (z : _) (e : _) → entry.Post κs a z e → number_of z ≡ 0 → (j : ℕ) → j < length e.1.1.1.0.now → oversize binary32 (get_or e.1.1.1.0.now j nan) ≡ false
promise_within κs a z e p n j l =
    let i = given κs a in
    ap (λ (xs : List Float). oversize binary32 (get_or xs j nan)) p.1.1.0 ∙ samples_within i (zero_accepts i z p.0 n) j (subst (λ (xs : List Float). j < length xs) p.1.1.0 l)
