use Rattle.std.proofs.Common.{◌≡◌, length}
use Rattle.core_search.specs.Lent.{NoneKnown}
use Rattle.listing.proofs.Pages.{Grown}
use Rattle.listing.proofs.put_page.Given as goal

-- The loop's invariant: the page has grown up to the change, and no gate's class is known.
abbrev pub invariant-loop-change : goal.invariant-loop-change
invariant-loop-change l = record {
  grown : Grown l.job.netlist.now l.job.list.now l.initial.text l.text l.from l.change;
  none_known : NoneKnown l.job.task.shape.inputs l.known;
  known_room : length l.known ≡ 2304;
  classes_room : length l.classes ≡ 2304;
}
