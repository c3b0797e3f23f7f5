-- What an accepted change list is: all that the layers above know of the check.
use Rattle.std.specs.Prelude.{ℕ, ◌+◌, ◌*◌, ◌≤◌, ◌≡◌, List, ◌⊎◌, length, Ok}
use Rattle.words.specs.Words.{long_at}
use Rattle.tie.specs.Tie.{tie_of}
use Rattle.netlist.specs.Netlist.{checked}
use Rattle.changes.specs.declared.Task.{Task}
use Rattle.changes.specs.Changes.{version_of, changes_of, layout_of, size_of}

pub record ListFormed (n l : List ℕ) (task : Task) : Type 0 where
  pub netlist_accepted : checked n ≡ Ok task.shape
  pub version_one_or_two : (version_of l ≡ 1) ⊎ (version_of l ≡ 2)
  pub changes_are : task.changes ≡ changes_of l
  pub changes_high : task.changes ≤ 1000
  pub layout_is : task.layout ≡ layout_of (version_of l) task.shape.inputs task.shape.outputs
  pub width_high : task.layout.width ≤ 32
  pub row_high : task.layout.row ≤ 8
  pub tied : long_at l 5 ≡ tie_of n
  pub whole : length l ≡ 11 + task.changes * size_of task.layout.width task.layout.row
