use Prim.Native.Nat.{◌≤◌}
use mathlib.Core.Path.{◌≡◌}
use mathlib.Core.List.{◌++◌}
use lib.ListN.{take, drop}
use Rattle.sweep.specs.Sweep.{hots_of}
use Rattle.sweep.proofs.heat.Given as goal

-- `sweep::heat` meets its contract: after each turn the sets of the inputs so far are written. Assumes nothing.
abbrev pub invariant-loop-k : goal.invariant-loop-k
invariant-loop-k l = (l.k ≤ l.inputs) × (l.hot ≡ hots_of (take l.k l.buffer) ++ drop l.k l.initial.hot)
