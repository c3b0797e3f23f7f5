use mathlib.Core.Path.{◌≡◌}
use Rattle.kung.specs.Tables.{tab}
use Rattle.rows.specs.Rows.{pin_in}
use Rattle.sweep.specs.Sweep.{pin_set}
use Rattle.sweep.proofs.pin_set.Given as goal

-- `sweep::pin_set` meets its contract: after each turn the set is that of the pins so far. Assumes nothing.
abbrev pub invariant-loop-pin : goal.invariant-loop-pin
invariant-loop-pin l = l.set ≡ pin_set l.hot (tab (pin_in l.rows l.s) 0 l.pin-index)
