use Rattle.std.proofs.Common.{◌≡◌, ◌++◌, take, drop}
use mathlib.Core.List.{map}
use Rattle.forward.specs.Known.{known_or8}
use Rattle.forward.proofs.mark_unknown.Given as goal

-- `forward::mark_unknown` meets its contract. The loop's invariant: the gates passed are marked, and the others are as they came. Assumes nothing.
abbrev pub invariant-loop-class : goal.invariant-loop-class
invariant-loop-class l = l.class-items ≡ map known_or8 (take l.class-index l.initial.class-items) ++ drop l.class-index l.initial.class-items
