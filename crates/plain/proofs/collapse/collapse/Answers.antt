-- `plain::collapse::collapse` meets its contract, by the laws of a loop that collapses. Assumes nothing.
use Rattle.plain.proofs.collapse.Turns.{turned_more, turned_all}
use Rattle.plain.proofs.collapse.collapse.Goals as goal

pub loop-k-preserved : goal.loop-k-preserved
loop-k-preserved c =
    turned_more _ _ c.requires c.loop-k.invariant c.loop-k-test.true c.is_flagged.ensures c.collapse_texel.ensures

pub returns : goal.returns
returns c = turned_all _ _ c.requires c.loop-k.invariant c.loop-k-test.false
