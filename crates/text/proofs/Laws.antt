-- A law of what the check of a list leaves. Assumes nothing.
use Rattle.std.specs.Prelude.{Ok}
use Rattle.std.proofs.Common.{◌≡◌, ap}
use Rattle.changes.specs.declared.Task.{Task}
use Rattle.changes.specs.Refusals.{Listed}
use Rattle.text.specs.Listing.{printed_changes}

-- the changes of an accepted list are those to print
pub changes_are : {listed : Listed} {task : Task} → listed ≡ Ok task → printed_changes listed ≡ task.changes
unfolding printed_changes
changes_are e = ap printed_changes e
