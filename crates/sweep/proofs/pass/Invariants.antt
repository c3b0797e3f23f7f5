use Prim.Native.Nat.{◌+◌, ◌≤◌}
use mathlib.Core.Path.{◌≡◌}
use mathlib.Core.List.{◌++◌}
use lib.ListN.{drop}
use Rattle.sweep.specs.Sweep.{codes_of, hots_of, touched_by}
use Rattle.sweep.proofs.pass.Given as goal

-- `sweep::pass` meets its contract: after each turn both buffers have what is due to the signals so far, then their own bytes. Assumes nothing.
abbrev pub invariant-loop-gate : goal.invariant-loop-gate
invariant-loop-gate l =
    (l.gate ≤ l.gates) × (l.buffer ≡ codes_of l.rows l.initial.buffer l.inputs l.gates (l.inputs + l.gate) ++ drop (l.inputs + l.gate) l.initial.buffer)
    × (l.hot ≡ hots_of (codes_of l.rows l.initial.buffer l.inputs l.gates (l.inputs + l.gate)) ++ drop (l.inputs + l.gate) l.initial.hot)
    × (l.touched ≡ touched_by l.rows (codes_of l.rows l.initial.buffer l.inputs l.gates (l.inputs + l.gates)) l.inputs l.gate) × (l.touched ≤ l.gate)
