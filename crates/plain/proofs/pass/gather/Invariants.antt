-- `plain::pass::gather` meets its contract, by the laws of a loop that fills: a cell is read before it is written. Assumes nothing.
use Rattle.std.proofs.Common.{ℕ, ◌/◌, ◌%◌, eqb, List, get_or}
use Rattle.ground.proofs.Laws.Fill.{Filled}
use Rattle.ranges.specs.declared.config.Settings.{Settings}
use Rattle.plain.specs.Read.{read}
use Rattle.plain.specs.declared.texels.Texels.{Texels}
use Rattle.plain.specs.Inner.{byte_by}
use Rattle.plain.proofs.pass.gather.Given as goal

-- the byte of cell k of a stencil
abbrev pub gathered : Texels → ℕ → Settings → List ℕ → ℕ → ℕ
gathered t mode s st k = byte_by (read t) t.bitmap.width t.bitmap.height mode s (eqb (get_or st k 0) 4) (k % t.bitmap.width) (k / t.bitmap.width)

abbrev pub invariant-loop-k : goal.invariant-loop-k
invariant-loop-k l = Filled 0 (gathered l.all l.mode l.s l.initial.stencil) l.initial.stencil l.k l.stencil
