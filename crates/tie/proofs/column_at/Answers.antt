use Rattle.std.proofs.Common.{zero-add, rules}
use Rattle.tie.specs.Blocks.{column_at}
use Rattle.tie.proofs.column_at.Goals as goal

-- `column_at`: four weighted bytes have room. Assumes nothing.
pub returns : goal.returns
unfolding column_at
returns c = rw (zero-add c.args.k) (search rules)
