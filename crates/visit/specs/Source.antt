-- The card that a search runs on: signals whose class is known, and gates to be searched.
use Rattle.std.specs.Prelude.{ℕ, cond, List, ltb, get_or}
use Rattle.kung.specs.Class.{Class, of_code}
use Rattle.circuit.specs.Circuit.{Source, given, gate}
use Rattle.rows.specs.Rows.{row_kind, row_pins}

-- signal s, of which `known` is the code of its class where that is given (an input's; in the forward method a constant gate's too), 8 for a gate to be
-- searched
unfoldable pub signal_of : (rows : List ℕ) (s known : ℕ) → Source Class
signal_of rows s k = cond (ltb k 8) (given (of_code k)) (gate (row_kind rows s) (row_pins rows s))

-- `known` has a byte for each signal. What is past the end is given as `0`.
unfoldable pub source_from : (rows known : List ℕ) → ℕ → Source Class
source_from rows known s = signal_of rows s (get_or known s 0)
