-- `reading::run::run` meets its contract: the engine's answer is matched, and the stencil that it leaves and the samples that were kept are printed. Assumes nothing.
use mathlib.Core.Path.{sym, ◌∙◌, subst}
use mathlib.Core.List.{List}
use Prim.Native.Nat.{◌≤◌}
use native.Mathlib.Omega.{arith}
use lib.ListN.{replicate}
use lib.Ieee.{Float, binary32}
use Rattle.numbers.specs.Constants.{zero_of}
use Rattle.ground.proofs.Laws.Write.{written_as, front, front_length}
use Rattle.ranges.specs.declared.config.Settings.{Settings}
use Rattle.inputs.specs.Checks.{Input, input}
use Rattle.reading.specs.Case.{mode_of}
use Rattle.reading.specs.Text.{refused_text}
use Rattle.reading.proofs.run.Answered.{accepted_text_law, refused_text_law, roomy, printed_as}
use Rattle.reading.proofs.run.run.Given.{Over}
use Rattle.reading.proofs.run.run.Goals as goal
use Rattle.reading.proofs.run.run.Goals.{After-keep-n, After-settings}

-- all samples are kept, and they fit
keeps : (g : Over) (c : After-keep-n g) → c.keep-n.result ≤ 12288
keeps g c = omega (arith, c.keep-n.ensures.to, c.requires.1)

-- what the pass is given, with some settings and some room
abbrev case : (g : Over) → After-settings g → Settings → List Float → Input
case g c t room = let d = c.args in input d.b.width d.b.height d.b.channels d.samples.now d.stencil.now room (mode_of d.s.now) t d.colours.now d.coords.now d.ends.now

-- the room that the array lends
abbrev zeros : List Float
zeros = replicate 8192 (zero_of binary32)

pub slice_bounds-kept-end : goal.slice_bounds-kept-end
slice_bounds-kept-end g c =
    subst (λ n. c.keep-n.result ≤ n) (sym c.keep-n.auto.out) (keeps g (goal.at.slice_bounds-kept-end g c).After-keep-n)

pub slice_bounds-put_accepted-end : goal.slice_bounds-put_accepted-end
slice_bounds-put_accepted-end g c =
    front_length c.keep-n.ensures (keeps g (goal.at.slice_bounds-put_accepted-end g c).After-keep-n)

pub put_accepted-requires : goal.put_accepted-requires
put_accepted-requires g c =
    let i = case g (goal.at.put_accepted-requires g c).After-settings c.settings.result zeros in
    let p = c.judge.ensures in
    let r = roomy _ i _ _ _ (c.in-Ok.ensures.answers) c.requires.1 p.leaves (front c.keep-n.ensures (keeps g (goal.at.put_accepted-requires g c).After-keep-n)) in record { sizes = r.sizes; room = (r.cells, r.samples, c.requires.0) }

pub returns-in-Ok : goal.returns-in-Ok
returns-in-Ok g c =
    let f = case g (goal.at.returns-in-Ok g c).After-settings in
    let i = f c.settings.result zeros in
    let p = c.judge.ensures in
    let e = accepted_text_law _ i _ _ _ (c.in-Ok.ensures.answers) p.leaves (front c.keep-n.ensures (keeps g (goal.at.returns-in-Ok g c).After-keep-n)) in
    written_as _ (e ∙ printed_as g.E.Engine.plainly f c.settings.ensures) c.put_accepted.ensures

pub returns-in-Err : goal.returns-in-Err
returns-in-Err g c =
    let f = case g (goal.at.returns-in-Err g c).After-settings in
    let i = f c.settings.result zeros in
    let e = refused_text_law _ i _ (c.in-Err.ensures.answers) in
    written_as _ ((λ j. refused_text (c.number.ensures j) (c.place.ensures j)) ∙ e ∙ printed_as g.E.Engine.plainly f c.settings.ensures) c.put_refused.ensures
