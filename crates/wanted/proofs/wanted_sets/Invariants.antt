use Prim.Native.Nat.{◌-◌, ◌≤◌}
use mathlib.Core.Path.{◌≡◌}
use lib.ListN.{replicate}
use Rattle.inputs.specs.Written.{written}
use Rattle.wanted.proofs.Laws.{declared_set}
use Rattle.wanted.proofs.wanted_sets.Given as goal

-- `wanted::wanted_sets` meets its contract. The loop's invariant: the sets of the outputs so far are written. Assumes nothing.
abbrev pub invariant-loop-output : goal.invariant-loop-output
invariant-loop-output l =
    (l.output ≤ l.output-end) × (l.sets ≡ written (replicate 64 15) 0 (declared_set l.list l.layout l.change) l.output)

abbrev pub decreases-loop-output : goal.decreases-loop-output
decreases-loop-output l = l.output-end - l.output
