use Rattle.std.proofs.Common.{◌≡◌, ◌+◌, ◌-◌, ◌*◌, ◌≤◌}
use Rattle.tie.specs.Blocks.{sum_at}
use Rattle.tie.proofs.block_sum.Given as goal

-- `block_sum`: what is passed and what is left make the sum. Assumes nothing.
abbrev pub invariant-loop-byte : goal.invariant-loop-byte
invariant-loop-byte l = (l.sum ≤ 255 * l.byte-index) × (sum_at 64 l.block 0 ≡ l.sum + sum_at (64 - l.byte-index) l.block l.byte-index)
