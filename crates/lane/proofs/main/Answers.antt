use Rattle.std.proofs.Common.{arith}
use Rattle.listing.proofs.Theorems.{moved}
use Rattle.lane.proofs.main.Goals as goal

pub loop-rt-smaller : goal.loop-rt-smaller
loop-rt-smaller c = moved _ _ _ _ c.next_piece-piece.ensures (omega arith)
