use Prim.Native.Nat.{◌+◌, ◌-◌, ◌*◌, ◌≤◌}
use mathlib.Core.Path.{◌≡◌}
use lib.ListN.{length}
use Rattle.spares.specs.Spares.{size_of, first_spare}
use Rattle.spares.proofs.spare_from.Given as goal

-- `spares::spare_from` meets its contract. The loop's invariant: the changes from t on fill the list, and the first byte is theirs. Assumes nothing.
abbrev pub invariant-loop-t : goal.invariant-loop-t
invariant-loop-t l =
    (l.t ≤ l.changes) × (11 ≤ l.at) × (length l.list ≡ l.at + (l.changes - l.t) * size_of l.width l.row)
    × (first_spare l.changes l.inputs l.declared l.list 11 ≡ first_spare (l.changes - l.t) l.inputs l.declared l.list l.at)
