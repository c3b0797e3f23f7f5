-- `lane::main` is safe and ends: with each piece that is not empty less is left to print. Assumes nothing.
use Rattle.std.proofs.Common.{◌≡◌, length, take}
use Rattle.listing.proofs.Theorems.{left}
use Rattle.lane.proofs.main.Given as goal

abbrev pub invariant-loop-rt : goal.invariant-loop-rt
invariant-loop-rt l = length l.buffer ≡ 65536

abbrev pub decreases-loop-rt : goal.decreases-loop-rt
decreases-loop-rt l = left (take l.n l.netlist) (take l.l l.list) l.progress
