use Rattle.std.specs.Prelude.{Ok}
use Rattle.std.proofs.Common.{◌≡◌, true, replicate, sym, ap, ◌∙◌, arith}
use Rattle.changes.specs.Refusals.{list_checked}
use Rattle.changes.proofs.Rooms.{accepts}
use Rattle.text.specs.Listing.{printed_changes}
use Rattle.text.proofs.Laws.{changes_are}
use Rattle.listing.proofs.Pages.{written_none}
use Rattle.listing.proofs.put_changes.Goals.{In-Ok}
use Rattle.listing.proofs.put_changes.Goals as goal

-- a page of an accepted card, or nothing
accepted : (c : In-Ok) → list_checked c.args.netlist.now c.args.list.now ≡ Ok c.in-Ok.task
accepted c = sym c.decode.ensures.value ∙ c.in-Ok.is

pub invariant_of-job : goal.invariant_of-job
invariant_of-job c =
    record {
      accepts = accepts {bytes = 2304} _ _ (accepted (goal.at.invariant_of-job c).In-Ok) (omega arith) (replicate 20800 0) (omega arith) true _ c.decode.ensures.rows_after;
    }

pub returns-in_default : goal.returns-in_default
returns-in_default c =
    let a = c.args in
    written_none a.netlist.now a.list.now a.buffer.now a.from (omega (arith, c.if-from-task.false, changes_are (accepted (goal.at.returns-in_default c).In-Ok)))

pub returns-in_default-2 : goal.returns-in_default-2
unfolding printed_changes
returns-in_default-2 c =
    let a = c.args in
    written_none a.netlist.now a.list.now a.buffer.now a.from (omega (arith, ap printed_changes (sym c.decode.ensures.value ∙ c.in_default.is)))
