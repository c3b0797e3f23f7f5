use mathlib.Core.Path.{◌≡◌}
use mathlib.Core.List.{◌++◌}
use lib.ListN.{take, drop}
use Rattle.cells.specs.Cells.{known_in}
use Rattle.cells.proofs.reset.Given as goal

-- `cells::reset` meets its contract. The loop's invariant: the bytes passed say what is known, and the others are as they came. Assumes nothing.
abbrev pub invariant-loop-cell : goal.invariant-loop-cell
invariant-loop-cell l =
    l.cell-items ≡ known_in (take l.cell-index l.initial.cell-items) ++ drop l.cell-index l.initial.cell-items
