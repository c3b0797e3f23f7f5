use Prim.Native.Nat.{◌+◌, ◌-◌, ◌*◌, ◌≤◌}
use mathlib.Core.Path.{◌≡◌}
use lib.ListN.{length}
use Rattle.spares.proofs.United.{Under}
use Rattle.spares.proofs.may_spare.Given as goal

-- `spares::may_spare` meets its contract. The loop's invariant: the last bytes so far are at most their union, and the changes left have room. Assumes
-- nothing.
abbrev pub invariant-loop-t : goal.invariant-loop-t
invariant-loop-t l =
    (l.t ≤ l.changes) × (l.last + l.width + 1 + (l.changes - l.t) * l.size ≤ length l.list + l.size) × (l.last + 1 ≡ l.at + l.width + l.t * l.size) × Under l.bits l.list l.at l.size l.t l.all
