use Prim.Native.Nat.{◌-◌, ◌*◌, ◌≤◌}
use mathlib.Core.Path.{◌≡◌}
use Rattle.inputs.specs.Written.{written}
use Rattle.outputs.specs.Outputs.{byte_from, sum_from}
use Rattle.outputs.proofs.search_outputs.Given as goal

-- `outputs::search_outputs` meets its contract. The loop's invariant: the first outputs are searched, their bytes written, their gates and pins summed, and
-- what is known stays. Assumes nothing.
abbrev pub invariant-loop-output : goal.invariant-loop-output
invariant-loop-output l =
    (l.output ≤ l.output-end) × (l.gates ≡ sum_from (λ a. a.gates) l.rows l.initial.known l.wanted l.signals l.output) × (l.pins ≡ sum_from (λ a. a.pins) l.rows l.initial.known l.wanted l.signals l.output)
    × (l.gates ≤ 18432 * l.output) × (l.pins ≤ 18432 * l.output) × (l.buffer ≡ written l.initial.buffer 0 (byte_from l.rows l.initial.known l.wanted l.signals) l.output)
    × (l.known ≡ l.initial.known)
