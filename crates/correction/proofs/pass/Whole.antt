-- The pass over plain lists: a bitmap alone is the window that is the whole, and what the engine leaves there is what the pass leaves. Assumes nothing.
--     held                the window has its samples
--     windowed            checks 5 to 9 of the window are those of the bitmap
--     started, finished   what the engine asks for, and what it leaves
--     refused, answered   the answer and what is left, of a refusal and of an accepted input
use mathlib.Core.Path.{◌≡◌, sym, ◌∙◌, ap, subst}
use mathlib.Core.Bool.{true, false}
use mathlib.Core.List.{List, []}
use Prim.Native.Nat.{ℕ, ◌*◌}
use lib.Dec.{eqb}
use lib.ListN.{length}
use lib.Ieee.{Float, binary32, nan}
use borrow.Author.Tests.{eq-eqb, ne_eqb}
use Rattle.numbers.specs.Constants.{zero_of}
use Rattle.ground.specs.Lists.{tab}
use Rattle.ground.proofs.Laws.Fill.{tab_length}
use Rattle.ground.proofs.Laws.Picked.{picked_all, pasted_all}
use Rattle.inputs.specs.declared.sizes.Window.{Window}
use Rattle.inputs.specs.declared.stencil.Counts.{Counts}
use Rattle.inputs.specs.Window.{cell_shown, sample_shown, cut_samples, CellsPasted, SamplesPasted, whole}
use Rattle.inputs.specs.Inner.{Sized, Celled, Sampled, Stencilled}
use Rattle.inputs.specs.Stencil.{counts_of}
use Rattle.inputs.specs.Checks.{Input, input, accepted, content_refusal, place_of, refusal_number, refusal_place}
use Rattle.inputs.proofs.Laws.Windows.{whole_cells, whole_samples, whole_sampled, whole_stencilled}
use Rattle.std.specs.Prelude.{Ok, Err}
use Rattle.inputs.specs.declared.refusal.Refusal.{Refusal}
use Rattle.inputs.specs.Refusal.{number, place, refusal_with}
use Rattle.inputs.proofs.Laws.Refusal.{told, number_not_0}
use Rattle.correction.specs.Inner.{Cleared, cut_out}
use Rattle.correction.specs.Pass.{texels, cornered, edge_priority_protects, protects, flags, byte_at, tests_at, pass_stencil, pass_samples, pass_tests, Answer, Answers, answer, stencil_after, samples_after, room_after}
use Rattle.correction.proofs.Laws.Answer.{as_answered}

module _ (i : Input) where
  abbrev all : Window
  all = whole i.width i.height i.channels

  -- a window as a bitmap alone, as the checks are given it
  abbrev alone : Window → Input
  alone g = input g.width g.height g.channels (cut_samples g i.samples) [] [] i.mode i.settings i.colours i.coords i.ends

  -- the same as the engine is given it
  abbrev cleared : Window → Input
  cleared g = cut_out g i.samples i.mode i.settings i.colours i.coords i.ends

  -- an input with other samples, another stencil and no room
  abbrev with : List Float → List ℕ → Input
  with xs st = input i.width i.height i.channels xs st [] i.mode i.settings i.colours i.coords i.ends

  module _ {g : Window} (e : g ≡ whole i.width i.height i.channels) (s : Sized i.width i.height i.channels i.samples) where
    pub held : Sampled g i.samples
    held = subst (λ (v : Window). Sampled v i.samples) (sym e) (whole_sampled i.width i.height i.channels i.samples s)

    cut : cut_samples all i.samples ≡ i.samples
    cut = picked_all nan (i.height * i.width * i.channels) (sample_shown all) i.samples s.long (λ k l. whole_samples i.width i.height i.channels k)

    pub windowed : {k o : ℕ} → (k ≡ content_refusal (alone g)) × (o ≡ place_of (alone g) k) → (k ≡ content_refusal i) × (o ≡ place_of i k)
    unfolding content_refusal place_of
    windowed {k} {o} p =
        let q = subst (λ (v : Window). (k ≡ content_refusal (alone v)) × (o ≡ place_of (alone v) k)) e p in
        (q.0 ∙ ap (λ (z : List Float). content_refusal (with z [])) cut, q.1 ∙ ap (λ (z : List Float). place_of (with z []) k) cut)

    module _ (m : length i.stencil ≡ i.height * i.width) (st : List ℕ) (f : st ≡ tab (length i.stencil) (λ k. 0)) where
      zeros : st ≡ tab (i.height * i.width) (λ k. 0)
      zeros = f ∙ ap (λ (n : ℕ). tab n (λ k. 0)) m

      long : length st ≡ i.height * i.width
      long = ap length zeros ∙ tab_length (i.height * i.width) (λ k. 0)

      pub started : Stencilled g st × Cleared g st
      started =
          let c : Celled i.width i.height st = record { any = s.any; wide = s.wide; high = s.high; long = long } in
          subst (λ (v : Window). Stencilled v st × Cleared v st) (sym e)
          (whole_stencilled i.width i.height i.channels st c, picked_all 0 (i.height * i.width) (cell_shown all) st long (λ k l. whole_cells i.width i.height i.channels k) ∙ zeros)

      pub finished : {t : ℕ} {st' : List ℕ} {xs' : List Float} → (t ≡ pass_tests (cleared g)) × (CellsPasted g st st' (pass_stencil (cleared g)) × SamplesPasted g i.samples xs' (pass_samples (cleared g))) → (t ≡ pass_tests i) × ((st' ≡ pass_stencil i) × (xs' ≡ pass_samples i))
      unfolding pass_tests pass_stencil pass_samples tests_at byte_at flags cornered protects edge_priority_protects texels
      finished {t} {st'} {xs'} p =
          let z : List ℕ = tab (i.height * i.width) (λ k. 0) in
          let q = subst (λ (v : Window). (t ≡ pass_tests (cleared v)) × (CellsPasted v st st' (pass_stencil (cleared v)) × SamplesPasted v i.samples xs' (pass_samples (cleared v)))) e p in (
            q.0 ∙ ap (λ (x : List Float). pass_tests (with x z)) cut,
            (
              pasted_all 0 (i.height * i.width) (cell_shown all) q.1.0 long (λ k l. whole_cells i.width i.height i.channels k) ∙ ap (λ (x : List Float). pass_stencil (with x z)) cut,
              pasted_all nan (i.height * i.width * i.channels) (sample_shown all) q.1.1 s.long (λ k l. whole_samples i.width i.height i.channels k) ∙ ap (λ (x : List Float). pass_samples (with x z)) cut,
            ),
          )

  -- a refusal with the number and the place of the first check that fails
  pub refused : (r : Refusal) → number r ≡ refusal_number i → place r ≡ refusal_place i → Answers i (Err r) × ((i.stencil ≡ stencil_after i) × ((i.samples ≡ samples_after i) × (i.room ≡ room_after i)))
  unfolding answer stencil_after samples_after room_after accepted
  refused r e f =
      let t : eqb (refusal_number i) 0 ≡ false = ne_eqb _ 0 (λ q. number_not_0 r (e ∙ q)) in
      let s : r ≡ refusal_with (refusal_number i) (refusal_place i) = sym (told r) ∙ ap (λ (k : ℕ). refusal_with k (place r)) e ∙ ap (refusal_with (refusal_number i)) f in
      (as_answered i (Err r) (simp t (ap Err s)), (simp t, (simp t, simp t)))

  pub refused_as : (a : Answer) (r : Refusal) → a ≡ Err r → number r ≡ refusal_number i → place r ≡ refusal_place i → Answers i a × ((i.stencil ≡ stencil_after i) × ((i.samples ≡ samples_after i) × (i.room ≡ room_after i)))
  refused_as a r e n p = let h = refused r n p in (subst (Answers i) (sym e) h.0, h.1)

  pub answered : (st : List ℕ) (xs room : List Float) (c : Counts) (t : ℕ) → refusal_number i ≡ 0 → t ≡ pass_tests i → st ≡ pass_stencil i → xs ≡ pass_samples i → room ≡ tab (length i.room) (λ k. zero_of binary32) → c ≡ counts_of st → Answers i (Ok (record { counts = c; tests = t })) × ((st ≡ stencil_after i) × ((xs ≡ samples_after i) × (room ≡ room_after i)))
  unfolding answer stencil_after samples_after room_after accepted
  answered st xs room c t z o p q m r =
      let a : eqb (refusal_number i) 0 ≡ true = eq-eqb _ 0 z in
      let e : c ≡ counts_of (pass_stencil i) = r ∙ ap counts_of p in
      (as_answered i (Ok (record { counts = c; tests = t })) (simp a (λ j. Ok (record { counts = e j; tests = o j }))), (simp a p, (simp a q, simp a m)))
