-- Document 01, "The bench", sentence by sentence: what can happen on a card between two vectors. "A definition only."
use Rattle.std.specs.Prelude.{ℕ, zero, suc, ◌+◌, ◌≤◌, ◌≡◌, Bool, true, false, cond, not, ◌&&◌, List, [], ◌∷◌, ltb, eqb, length, get_or}
use Rattle.kung.specs.Rule.{gate_value}
use Rattle.circuit.specs.Circuit.{Card, Each}
use Rattle.circuit.specs.Settled.{settled}

abbrev pub differ : Bool → Bool → Bool
differ true w = not w
differ false w = w

-- "A signal has a number of changes, a pin a number of changes passed on": a pin by its gate and its place among the gate's pins.
pub record State : Type 0 where
  pub changes : (signal : ℕ) → ℕ
  pub passed : (gate place : ℕ) → ℕ

-- "all start at 0"
abbrev pub begin : State
begin = record { changes = λ s. 0; passed = λ g k. 0 }

-- "An event names an input or a pin"
pub data Event : Type 0 where
  input : (i : ℕ) → Event
  pin : (gate place : ℕ) → Event

-- "all inputs first, then all events of gate 0's pins, then gate 1's, and so on": an event's turn
abbrev pub turn : Event → ℕ
turn (input i) = 0
turn (pin g k) = suc g

-- a value, flipped so many times
unfoldable pub flipped : ℕ → Bool → Bool
flipped zero v = v
flipped (suc n) v = not (flipped n v)

-- counts with one more at n
abbrev pub one_more : (ℕ → ℕ) → ℕ → ℕ → ℕ
one_more count n m = cond (eqb m n) (suc (count m)) (count m)

unfoldable pub change : State → ℕ → State
change st s = record { changes = one_more st.changes s; passed = st.passed }

unfoldable pub pass_on : State → (gate place : ℕ) → State
pass_on st g k = record { changes = st.changes; passed = λ h. cond (eqb h g) (one_more (st.passed h) k) (st.passed h) }

-- the signal that drives a pin
abbrev pub driver : Card → (gate place : ℕ) → ℕ
driver card g k = get_or (card.pins g) k 0

module _ (card : Card) (first : ℕ → Bool) where
  -- "values settled at the first vector. … A signal's or pin's value is its starting value, flipped once per change."
  unfoldable pub signal_value : State → ℕ → Bool
  signal_value st s = flipped (st.changes s) (settled card first s)

  -- the values of pins with these drivers that have passed on `passed 0`, `passed 1`, … changes
  unfoldable pub pin_values : (passed : ℕ → ℕ) → List ℕ → List Bool
  pin_values passed [] = []
  pin_values passed (x ∷ xs) = flipped (passed 0) (settled card first x) ∷ pin_values (λ k. passed (suc k)) xs

  -- "the gate's Boolean function of its pins"
  unfoldable pub gate_output : State → ℕ → Bool
  gate_output st g = gate_value (card.kind g) (pin_values (st.passed g) (card.pins g))

  -- "if the gate's Boolean function of its pins now differs from its signal, the signal changes"
  unfoldable pub follow : State → ℕ → State
  follow st g = cond (differ (gate_output st g) (signal_value st (card.inputs + g))) (change st (card.inputs + g)) st

  -- "an input … changes; or a pin … passes on one, and … the signal changes within that event"
  unfoldable pub happen : State → Event → State
  happen st (input i) = change st i
  happen st (pin g k) = follow (pass_on st g k) g

module _ (card : Card) (first second : ℕ → Bool) where
  -- "is allowed in two cases: an input whose bits differ, unchanged so far …; or a pin that has passed on fewer changes than its driver
  -- made"
  unfoldable pub allowed : State → Event → Bool
  allowed st (input i) = ltb i card.inputs && (differ (first i) (second i) && eqb (st.changes i) 0)
  allowed st (pin g k) =
      ltb g card.gates && (ltb k (length (card.pins g)) && ltb (st.passed g k) (st.changes (driver card g k)))

  -- "one that isn't allowed where it stands changes nothing"
  unfoldable pub step : State → Event → State
  step st e = cond (allowed st e) (happen card first st e) st

  -- "Each event meets the bench as the one before left it, and nothing else changes it."
  unfoldable pub run : State → List Event → State
  run st [] = st
  run st (e ∷ es) = run (step st e) es

  abbrev pub after : List Event → State
  after es = run begin es

  -- "An order is a list of allowed events."
  abbrev pub AllowedFrom : State → List Event → Type 0
  AllowedFrom st [] = Unit {0}
  AllowedFrom st (e ∷ es) = (allowed st e ≡ true) × AllowedFrom (step st e) es

  abbrev pub Order : List Event → Type 0
  Order es = AllowedFrom begin es

  -- "A list, order or not, is complete when after it no event is allowed."
  abbrev pub Complete : List Event → Type 0
  Complete es = (e : Event) → allowed (after es) e ≡ false

-- "Gate after gate": no event stands before one of an earlier turn.
abbrev pub GateAfterGate : List Event → Type 0
GateAfterGate [] = Unit {0}
GateAfterGate (e ∷ es) = Each (λ later. turn e ≤ turn later) es × GateAfterGate es

module _ (card : Card) (first second : ℕ → Bool) where
  -- "A signal's ends are its values settled at the first and at the second vector; they need one change where they differ and none where
  -- they agree."
  unfoldable pub needs : ℕ → ℕ
  needs s = cond (differ (settled card first s) (settled card second s)) 1 0
