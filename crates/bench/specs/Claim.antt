-- What the bench shows of every signal by its class. "Demand 3 is a single claim about the whole list of events, and not one for each
-- event."
use Rattle.std.specs.Prelude.{ℕ, ◌+◌, ◌≤◌, ◌<◌, ◌≡◌, Bool, true, false, List, ◌++◌}
use Rattle.kung.specs.Class.{clean}
use Rattle.circuit.specs.Circuit.{Card, signals}
use Rattle.circuit.specs.Settled.{settled, class_of}
use Rattle.bench.specs.Bench.{Event, signal_value, after, AllowedFrom, Order, Complete, GateAfterGate, needs}

-- an order that shows every hazard of a card's change
pub record Shows (card : Card) (first second : ℕ → Bool) (order : List Event) : Type 0 where
  -- each of its events is allowed where it stands
  pub is_order : Order card first second order
  pub gate_after_gate : GateAfterGate order
  pub complete : Complete card first second order
  -- after it each signal of a hazardous class has changed at least two times more than its ends need
  pub twice_more : (s : ℕ) → s < signals card → clean (class_of card first second s) ≡ false
      → needs card first second s + 2 ≤ (after card first second order).changes s

pub record Claim (card : Card) (first second : ℕ → Bool) : Type 0 where
  -- every list of events, order or not, can be carried on, by allowed events, to a complete one
  pub carried_on : (es : List Event) → (rest : List Event) × AllowedFrom card first second (after card first second es) rest
      × Complete card first second (es ++ rest)
  -- after every complete list all signals are settled at the second vector
  pub settles : (es : List Event) → Complete card first second es → (s : ℕ) → s < signals card
      → signal_value card first (after card first second es) s ≡ settled card second s
  -- after any list a signal of a clean class has changed at most as often as its ends need
  pub stays_clean : (es : List Event) (s : ℕ) → s < signals card → clean (class_of card first second s) ≡ true
      → (after card first second es).changes s ≤ needs card first second s
  -- one order shows every hazard
  pub hazard : (order : List Event) × Shows card first second order
