-- What decoding an accepted netlist and list in lent room gives: the one hypothesis of the layers above. Assumes nothing.
use Prim.Native.Nat.{ℕ, ◌+◌, ◌*◌, ◌≤◌}
use native.Mathlib.Omega.{arith}
use mathlib.Core.Path.{◌≡◌, sym, subst}
use mathlib.Core.Bool.{Bool}
use mathlib.Core.List.{List}
use lib.ListN.{length}
use Rattle.std.specs.Prelude.{Ok}
use Rattle.netlist.specs.Formed.{Formed}
use Rattle.netlist.specs.Decoded.{Decoded, decoded}
use Rattle.netlist.proofs.Accepted.{formed}
use Rattle.netlist.proofs.Decoded.{decoded_rows}
use Rattle.changes.specs.declared.Task.{Task}
use Rattle.changes.specs.Lent.{Accepts, signals_of, signals_for}
use Rattle.changes.specs.Refusals.{list_checked}
use Rattle.changes.proofs.Accepted.{listed}

-- an accepted card and its list, with a byte for each signal that the netlist says
module _ {task : Task} {bytes : ℕ} (n l : List ℕ) (e : list_checked n l ≡ Ok task) (told : signals_for n ≤ bytes) where
  shaped : Formed n task.shape
  shaped = formed n (listed n l e).netlist_accepted

  -- a byte for each signal
  pub in_room : signals_of task.shape ≤ bytes
  in_room = let f = shaped in omega arith

  -- what the check decodes into the lent numbers
  pub accepts : (old : List ℕ) → 9 * bytes + 64 ≤ length old → (repeated : Bool) (rows : List ℕ) → rows ≡ decoded repeated n old
      → Accepts repeated n l rows task
  accepts old long repeated rows is =
      record {
        accepted = e;
        decoded =
            subst (Decoded repeated n) (sym is)
            (decoded_rows repeated n old (listed n l e).netlist_accepted (omega (arith, in_room, shaped.outputs_high)));
      }
