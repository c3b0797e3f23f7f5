use Rattle.std.proofs.Common.{◌≡◌, ◌+◌, ◌*◌, ◌≤◌}
use Rattle.tie.proofs.Laws.{rows_from}
use Rattle.tie.proofs.block_weight.Given as goal

-- `block_weight`: the columns passed and what is left make the rows. Assumes nothing.
abbrev pub invariant-loop-column : goal.invariant-loop-column
invariant-loop-column l = (l.sum ≤ 65535 * l.column-index) × (rows_from l.block 0 0 ≡ l.sum + rows_from l.block 0 l.column-index)
