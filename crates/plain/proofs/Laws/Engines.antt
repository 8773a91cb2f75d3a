-- Two engines, one pass: on every input, refused ones and Disabled included, the plain engine answers what the first answers, less its number of range tests, and leaves the same stencil, samples and room. Assumes nothing.
-- `Post κs a z e` is a promise as it is read from the source: of the arguments a, the result z and the arguments at exit e, of which the samples are the fourth, the stencil is the fifth and the room is the sixth.
-- The two runs may be lent different slices: what is in them is the same at entry, so it is the same at exit.
--     answers_agree    the case, the number and the place, or the counts
--     stencils_agree   every byte of the stencil
--     samples_agree    every sample
--     rooms_agree      every element of the room
use Rattle.std.proofs.Common.{◌≡◌, sym, ap, ◌∙◌}
use contract.Lifetimes.{Lfts}
use borrow.Fn.Kinds.{Dens}
use Rattle.correction.specs.Pass.{stencil_after, samples_after, room_after}
use Rattle.correction.proofs.Laws.Answer.{answers_fix}
use Rattle.correction.proofs.Laws.Leaves.{given}
use Rattle.correction.proofs.pass.msdf_error_correction.Kinds.{ps}
use Rattle.correction.proofs.pass.msdf_error_correction.Reads as first
use Rattle.plain.specs.Answer.{untested, plain_answer}
use Rattle.plain.proofs.pass.plain_error_correction.Reads as plain

module _ (κs κs' : Lfts 6) (a : Dens κs ps) (a' : Dens κs' ps) (z z' : _) (e e' : _) (p : first.Post κs a z e) (q : plain.Post κs' a' z' e') (same : given κs a ≡ given κs' a') where
  pub answers_agree : untested z ≡ z'
  unfolding plain_answer
  answers_agree = ap untested (answers_fix (given κs a) z p.0) ∙ ap plain_answer same ∙ sym q.0

  pub stencils_agree : e.1.1.1.1.0.now ≡ e'.1.1.1.1.0.now
  stencils_agree = p.1.0 ∙ ap stencil_after same ∙ sym q.1.0

  pub samples_agree : e.1.1.1.0.now ≡ e'.1.1.1.0.now
  samples_agree = p.1.1.0 ∙ ap samples_after same ∙ sym q.1.1.0

  pub rooms_agree : e.1.1.1.1.1.0.now ≡ e'.1.1.1.1.1.0.now
  rooms_agree = p.1.1.1 ∙ ap room_after same ∙ sym q.1.1.1
