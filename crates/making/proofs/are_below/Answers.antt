use Rattle.std.proofs.Common.{sym, ◌∙◌, leb, get_or, arith}
use Rattle.making.proofs.Making.{or_low, below_more_high, below_end}
use Rattle.making.proofs.are_below.Goals as goal

pub loop-pin-preserved : goal.loop-pin-preserved
loop-pin-preserved c =
    let l = c.loop-pin in (
      or_low l.high (leb c.args.bound (get_or c.args.row l.pin-index 0)) l.invariant.0,
      below_more_high c.args.row c.args.bound l.high l.pin-index l.invariant.0 (omega arith) l.invariant.1,
    )

pub returns : goal.returns
returns c = let l = c.loop-pin in
    sym (l.invariant.1 ∙ below_end c.args.row c.args.bound l.high l.pin-index (omega arith))
