use Rattle.std.proofs.Common.{◌≡◌, length}
use Rattle.constants.specs.Change.{touched_in}
use Rattle.forward.specs.Forward.{visited_in}
use Rattle.lists.specs.Lent.{forward_for}
use Rattle.lists.specs.Left.{after, heated, known_constants}
use Rattle.lists.proofs.Rows.{Begun}
use Rattle.lists.proofs.Changes.{Counted}
use Rattle.lists.proofs.forward_rows.Given as goal

-- `lists::forward_rows` meets its contract. The loop's invariant: the rows of the changes so far are written, and the counts are summed. Assumes nothing.
abbrev pub invariant-loop-change : goal.invariant-loop-change
invariant-loop-change l = record {
  rows : Begun (forward_for l.job) l.change-end l.change l.initial.buffer l.buffer;
  touched : Counted (touched_in l.job.netlist.now l.job.list.now) l.change l.touched;
  visited : Counted (visited_in l.job.netlist.now l.job.list.now) l.change l.visited;
  known_kept : length l.known ≡ length l.initial.known;
  hot_kept : length l.hot ≡ length l.initial.hot;
  known : l.known ≡ after (known_constants l.job) l.change l.initial.known;
  hot : l.hot ≡ after (heated l.job) l.change l.initial.hot;
}
