-- Document 01, "The forward method": the constants in a change of a list, and the gates that they touch.
use Rattle.std.specs.Prelude.{ℕ, ◌+◌, List}
use Rattle.std.proofs.Math.Option.{Option}
use Rattle.kung.specs.Class.{Class}
use Rattle.netlist.specs.Netlist.{inputs_of, gates_of, card_of}
use Rattle.changes.specs.Changes.{sources_of}
use Rattle.constants.specs.Constants.{constants, touched}

-- the constants in change t
abbrev pub constants_in : (netlist list : List ℕ) → (t signal : ℕ) → Option Class
constants_in n l t = constants (sources_of n l t) (inputs_of n + gates_of n)

unfoldable pub touched_in : (netlist list : List ℕ) → (t : ℕ) → ℕ
touched_in n l t = touched (card_of n) (constants_in n l t)
