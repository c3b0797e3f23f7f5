use Rattle.std.proofs.Common.{◌≡◌, drop}
use Rattle.tie.specs.Tie.{tie_from}
use Rattle.tie.proofs.tie_from.Given as goal

-- `tie_from`: what is left of the tie is the whole tie. Assumes nothing.
abbrev pub invariant-loop-byte : goal.invariant-loop-byte
invariant-loop-byte l = tie_from l.first l.second l.rest ≡ tie_from l.a l.b (drop l.byte-index l.rest)
