use native.Mathlib.Omega.{arith}
use mathlib.Core.Path.{◌∙◌}
use Rattle.inputs.proofs.Laws.{written_none, written_next, written_whole}
use Rattle.inputs.proofs.fill_byte.Goals as goal

pub loop-k-init : goal.loop-k-init
loop-k-init c = written_none _ _ _

pub loop-k-preserved : goal.loop-k-preserved
loop-k-preserved c = written_next _ _ _ c.loop-k-test.true _ c.loop-k.invariant _ c.class_of_bits.ensures

pub returns : goal.returns
returns c = c.loop-k.invariant ∙ written_whole _ _ _ (omega arith)
