use Rattle.std.proofs.Common.{◌≡◌, length}
use Rattle.core_search.specs.Lent.{NoneKnown}
use Rattle.lists.specs.Methods.{core_sum}
use Rattle.lists.specs.Lent.{core_for}
use Rattle.lists.specs.Left.{after, filled}
use Rattle.lists.proofs.Rows.{Begun}
use Rattle.lists.proofs.Changes.{Counted}
use Rattle.lists.proofs.core_rows.Given as goal

-- `lists::core_rows` meets its contract. The loop's invariant: the rows of the changes so far are written, the counts are summed, and past the inputs
-- nothing is known. Assumes nothing.
abbrev pub invariant-loop-change : goal.invariant-loop-change
invariant-loop-change l = record {
  rows : Begun (core_for l.job) l.change-end l.change l.initial.buffer l.buffer;
  visited : Counted (core_sum (λ a. a.gates) l.job.netlist.now l.job.list.now) l.change l.visited;
  taken : Counted (core_sum (λ a. a.pins) l.job.netlist.now l.job.list.now) l.change l.taken;
  none_known : NoneKnown l.job.task.shape.inputs l.known;
  known_kept : length l.known ≡ length l.initial.known;
  known : l.known ≡ after (filled l.job) l.change l.initial.known;
}
