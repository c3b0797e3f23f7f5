-- The one hypothesis of the layers above: the check of these bytes gave this value, and decoded the netlist into these rows.
use Rattle.std.specs.Prelude.{ℕ, ◌+◌, min, ◌≡◌, Bool, List, Ok}
use Rattle.netlist.specs.Netlist.{inputs_of, gates_of}
use Rattle.netlist.specs.Decoded.{Decoded}
use Rattle.netlist.specs.declared.Shape.{Shape}
use Rattle.changes.specs.declared.Task.{Task}
use Rattle.changes.specs.Refusals.{list_checked}

pub record Accepts (repeated : Bool) (netlist list rows : List ℕ) (task : Task) : Type 0 where
  pub accepted : list_checked netlist list ≡ Ok task
  pub decoded : Decoded repeated netlist rows

-- a card's signals
abbrev pub signals_of : Shape → ℕ
signals_of shape = shape.inputs + shape.gates

-- the signals that a netlist says it has, before any check, as far as document 01 allows so many: "inputs I (1 to 256), gates G (0 to 2,048)"
abbrev pub signals_for : (netlist : List ℕ) → ℕ
signals_for n = min (inputs_of n + gates_of n) 2304
