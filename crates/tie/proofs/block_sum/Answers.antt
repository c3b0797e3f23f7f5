use Rattle.std.proofs.Common.{arith, rules}
use Rattle.tie.proofs.Laws.{sum_more, sum_end}
use Rattle.tie.proofs.block_sum.Goals as goal

pub loop-byte-preserved : goal.loop-byte-preserved
loop-byte-preserved c =
    let l = c.loop-byte in
    let e = sum_more 64 c.args.block.now l.byte-index l.byte-index (search rules) in
    let small = c.type_inv.block in
    (omega arith, omega (arith, l.invariant.1))

pub returns : goal.returns
returns c = let l = c.loop-byte in omega (arith, l.invariant.1, sum_end 64 c.args.block.now l.byte-index l.byte-index (search rules))
