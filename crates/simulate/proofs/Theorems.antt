-- What the layers above cite of the classes in a change. Assumes nothing.
use Prim.Native.Nat.{ℕ, ◌+◌, ◌<◌}
use native.Mathlib.Omega.{arith}
use mathlib.Core.Path.{◌≡◌, refl, sym, ◌∙◌, ap}
use mathlib.Core.List.{List, map}
use lib.ListN.{length, get_or, length-map, get_or-map}
use Rattle.kung.specs.Class.{c0, code, start, end}
use Rattle.kung.specs.Rule.{gate_class}
use Rattle.circuit.specs.Circuit.{values, value}
use Rattle.circuit.specs.Settled.{settled, class_of}
use Rattle.circuit.proofs.Laws.{values_length, values_at}
use Rattle.circuit.proofs.Ends.{class_gate, start_is, end_is}
use Rattle.netlist.specs.Netlist.{inputs_of, gates_of, gate_kind, gate_pins, card_of}
use Rattle.netlist.specs.Formed.{Formed}
use Rattle.netlist.specs.declared.Shape.{Shape}
use Rattle.changes.specs.Changes.{layout_in, first, second, bit_of, class_at, sources_of}
use Rattle.simulate.specs.Full.{class_in, codes}

-- the class is the value that the sources give
pub class_value : (n l : List ℕ) (t s : ℕ) → class_in n l t s ≡ value gate_class c0 (sources_of n l t) s
unfolding class_in class_of sources_of class_at
class_value n l t s = refl

-- a code for each signal
pub codes_length : (n l : List ℕ) (t : ℕ) → length (codes n l t) ≡ inputs_of n + gates_of n
unfolding codes
codes_length n l t =
    length-map (values gate_class c0 (sources_of n l t) (inputs_of n + gates_of n)) code
    ∙ values_length gate_class c0 (sources_of n l t) (inputs_of n + gates_of n)

-- byte s of what is written is the code of signal s's class
pub codes_at : (n l : List ℕ) (t s : ℕ) → s < inputs_of n + gates_of n → get_or (codes n l t) s 0 ≡ code (class_in n l t s)
unfolding codes
codes_at n l t s h =
    get_or-map code (values gate_class c0 (sources_of n l t) (inputs_of n + gates_of n)) s c0
    ∙ ap code (values_at gate_class c0 (sources_of n l t) (inputs_of n + gates_of n) s h ∙ sym (class_value n l t s))

module _ {shape : Shape} (n l : List ℕ) (t : ℕ) (formed : Formed n shape) where
  -- each gate's class is the rule over its pins' classes
  pub class_law : (h : ℕ) → h < shape.gates → class_in n l t (shape.inputs + h) ≡ gate_class (gate_kind n h) (map (class_in n l t) (gate_pins n h))
  unfolding class_in card_of
  class_law h below =
      ap (λ x. class_of (card_of n) (bit_of l (layout_in n l) t first) (bit_of l (layout_in n l) t second) (x + h)) formed.inputs_are
      ∙ class_gate (card_of n) formed.well_formed (bit_of l (layout_in n l) t first) (bit_of l (layout_in n l) t second) h
      (omega (arith, formed.gates_are))

  -- a class starts and ends at the values settled at the first and at the second vector
  pub starts : (s : ℕ) → settled (card_of n) (bit_of l (layout_in n l) t first) s ≡ start (class_in n l t s)
  unfolding class_in
  starts = start_is (card_of n) formed.well_formed (bit_of l (layout_in n l) t first) (bit_of l (layout_in n l) t second)

  pub ends : (s : ℕ) → settled (card_of n) (bit_of l (layout_in n l) t second) s ≡ end (class_in n l t s)
  unfolding class_in
  ends = end_is (card_of n) formed.well_formed (bit_of l (layout_in n l) t first) (bit_of l (layout_in n l) t second)
