-- Settled values and classes: the two kinds of values that spread over a card.
use Rattle.std.specs.Prelude.{ℕ, Bool, false}
use Rattle.kung.specs.Class.{Class, c0, input_class}
use Rattle.kung.specs.Rule.{gate_class, gate_value}
use Rattle.circuit.specs.Circuit.{Card, sources, value}

-- Document 01, "The bench": "Settled at a vector, an input has its bit there, a gate's signal, gate 0 first, is the gate's Boolean function of its
-- pins, and a pin has its driver's value."
unfoldable pub settled : Card → (ℕ → Bool) → ℕ → Bool
settled card v = value gate_value false (sources card false v)

-- the signals' classes for a change from the first vector to the second
unfoldable pub class_of : Card → (first second : ℕ → Bool) → ℕ → Class
class_of card first second = value gate_class c0 (sources card c0 (λ i. input_class (first i) (second i)))
