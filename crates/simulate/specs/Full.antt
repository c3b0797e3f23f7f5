-- Document 01, "The eight classes" and "Turned back, by operation": full simulation of a change.
use Rattle.std.specs.Prelude.{ℕ, ◌+◌, List, ◌++◌, map, leb, ltb, length, drop, Result, Ok, Err, ⊤}
use Rattle.kung.specs.Class.{Class, c0, code}
use Rattle.kung.specs.Rule.{gate_class}
use Rattle.circuit.specs.Circuit.{values}
use Rattle.circuit.specs.Settled.{class_of}
use Rattle.refusals.specs.Refusal.{refuse}
use Rattle.refusals.specs.declared.Refusal.{Refusal}
use Rattle.refusals.specs.declared.Refusal.TheVariants.{NoChange, BufferShort}
use Rattle.netlist.specs.Netlist.{inputs_of, gates_of, card_of}
use Rattle.changes.specs.Changes.{layout_in, first, second, bit_of, sources_of}
use Rattle.changes.specs.Refusals.{Listed, list_checked}

-- the answer of full simulation: nothing but that the classes are written
abbrev pub Simulated : Type 0
Simulated = Result ⊤ Refusal

abbrev pub done : Simulated
done = Ok tt

-- each signal's class in change t: an input's by its two bits, a gate's by the rule over all its pins, gate 0 first
unfoldable pub class_in : (netlist list : List ℕ) → (t signal : ℕ) → Class
class_in n l t = class_of (card_of n) (bit_of l (layout_in n l) t first) (bit_of l (layout_in n l) t second)

-- "Full simulation writes each signal's code into the first I + G bytes"
unfoldable pub codes : (netlist list : List ℕ) → (t : ℕ) → List ℕ
codes n l t = map code (values gate_class c0 (sources_of n l t) (inputs_of n + gates_of n))

-- "Full: the list's, then change not below T 18; buffer under I + G 20."; "Places from 18 up are 0 unless given otherwise."
unfoldable pub full_from : Listed → (change room : ℕ) → Simulated
full_from (Err refusal) change room = Err refusal
full_from (Ok task) change room =
    refuse (leb task.changes change) NoChange
    (refuse (ltb room (task.shape.inputs + task.shape.gates)) BufferShort
    done)

unfoldable pub full_answer : (netlist list : List ℕ) → (change : ℕ) → (buffer : List ℕ) → Simulated
full_answer n l change buffer = full_from (list_checked n l) change (length buffer)

-- "of a lent buffer; later bytes stay"; a refused call leaves it as it was
abbrev pub left : Simulated → (written buffer : List ℕ) → List ℕ
left (Ok _) written buffer = written ++ drop (length written) buffer
left (Err refusal) written buffer = buffer

unfoldable pub full_buffer : (netlist list : List ℕ) → (change : ℕ) → (buffer : List ℕ) → List ℕ
full_buffer n l change buffer = left (full_answer n l change buffer) (codes n l change) buffer
