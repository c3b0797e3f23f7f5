use Rattle.std.proofs.Common.{◌≡◌, ◌*◌, drop}
use Rattle.tie.specs.Tie.{tie_from, tie_of}
use Rattle.tie.proofs.tie.Given as goal

-- `tie`: what is left of the tie is the whole tie. Assumes nothing.
abbrev pub invariant-loop-block : goal.invariant-loop-block
invariant-loop-block l = tie_of l.s ≡ tie_from l.a l.b (drop (64 * l.block-index) l.s)
