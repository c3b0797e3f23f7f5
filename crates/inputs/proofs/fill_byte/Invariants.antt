use mathlib.Core.Path.{◌≡◌}
use Rattle.inputs.specs.Written.{code_in, written}
use Rattle.inputs.proofs.fill_byte.Given as goal

-- `inputs::fill_byte` meets its contract. The loop's invariant: the first k classes are written. Assumes nothing.
abbrev pub invariant-loop-k : goal.invariant-loop-k
invariant-loop-k l = l.classes ≡ written l.initial.classes 0 (code_in l.first l.second) l.k
