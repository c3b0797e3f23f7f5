use Rattle.std.proofs.Common.{◌≡◌, length}
use Rattle.lists.specs.Lent.{full_for}
use Rattle.lists.specs.Left.{after, heated}
use Rattle.lists.proofs.Rows.{Begun}
use Rattle.lists.proofs.full_rows.Given as goal

-- `lists::full_rows` meets its contract. The loop's invariant: the rows of the changes so far are written. Assumes nothing.
abbrev pub invariant-loop-change : goal.invariant-loop-change
invariant-loop-change l = record {
  rows : Begun (full_for l.job) l.change-end l.change l.initial.buffer l.buffer;
  hot_kept : length l.hot ≡ length l.initial.hot;
  hot : l.hot ≡ after (heated l.job) l.change l.initial.hot;
}
