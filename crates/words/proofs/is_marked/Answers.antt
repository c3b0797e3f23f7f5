use Rattle.std.proofs.Common.{arith, ◌∙◌}
use Rattle.words.proofs.Laws.{marked_by}
use Rattle.words.proofs.is_marked.Goals as goal

pub returns : goal.returns
returns c = c.eq.ensures ∙ marked_by c.args.s.now c.args.mark.now c.byte_at.ensures c.byte_at-2.ensures c.byte_at-3.ensures (omega arith)
