use Prim.Native.Nat.{◌*◌}
use mathlib.Core.Path.{◌≡◌}
use Rattle.inputs.specs.Written.{code_from, written}
use Rattle.inputs.proofs.fill_inputs.Given as goal

-- `inputs::fill_inputs` meets its contract. The loop's invariant: the inputs of the first j bytes are written. Assumes nothing.
abbrev pub invariant-loop-j : goal.invariant-loop-j
invariant-loop-j l = l.buffer ≡ written l.initial.buffer 0 (code_from l.list l.first l.second) (8 * l.j)
