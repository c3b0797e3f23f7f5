use Rattle.std.proofs.Common.{sym, ◌∙◌, arith}
use Rattle.tie.proofs.Laws.{tie_more, tie_end}
use Rattle.tie.proofs.tie_from.Goals as goal

pub loop-byte-preserved : goal.loop-byte-preserved
loop-byte-preserved c = let l = c.loop-byte in l.invariant ∙ tie_more l.a l.b c.args.rest.now l.byte-index (omega arith)

pub returns : goal.returns
returns c = let l = c.loop-byte in sym (l.invariant ∙ tie_end l.a l.b c.args.rest.now l.byte-index (omega arith))
