use Rattle.std.proofs.Common.{refl, ◌∙◌, arith}
use Rattle.tie.specs.Tie.{tie_of}
use Rattle.tie.proofs.Laws.{block_more}
use Rattle.tie.proofs.tie.Goals as goal

pub loop-block-init : goal.loop-block-init
unfolding tie_of
loop-block-init c = refl

pub loop-block-preserved : goal.loop-block-preserved
loop-block-preserved c =
    let l = c.loop-block in
    let e = l.invariant ∙ block_more l.a l.b c.args.s.now c.as_chunks.result.0.now l.block-index (omega arith) (omega arith) c.as_chunks.ensures.front (omega arith) in
    rw (c.block_sum-a.ensures, c.block_weight-b.ensures) e
