-- Document 02, "Job 8": the cone of a signal, by gate number, and the number of its pins.
use Rattle.std.specs.Prelude.{ℕ, zero, suc, ◌+◌, ◌-◌, ◌≡◌, Bool, true, false, cond, ◌||◌, List, [], eqb, ltb, length}
use Rattle.kung.specs.Rule.{some}
use Rattle.circuit.specs.Circuit.{Card, signals}
use Rattle.search.specs.Pins.{sum_below}

-- the pins of the gate that drives signal s; an input has none, nor has what is no signal
unfoldable pub pins_behind : Card → (s : ℕ) → List ℕ
pins_behind card s = cond (ltb s card.inputs) [] (cond (ltb s (signals card)) (card.pins (s - card.inputs)) [])

-- signal t is signal s, or reaches it through fewer than n pins
unfoldable pub reaches_by : Card → (n t s : ℕ) → Bool
reaches_by card zero t s = false
reaches_by card (suc n) t s = eqb t s || some (reaches_by card n t) (pins_behind card s)

-- through any number of pins: a pin names a signal below its own gate's, so that at most s pins follow one another up to signal s
unfoldable pub reaches : Card → (t s : ℕ) → Bool
reaches card t s = reaches_by card (suc s) t s

-- "the cone being the output's own gate and every gate that reaches it through pins; an output that is an input has an empty cone": gate g is in the
-- cone of signal s
abbrev pub in_cone : Card → (s g : ℕ) → Bool
in_cone card s g = reaches card (card.inputs + g) s

-- the pins of the cone's gates
unfoldable pub cone_pins : Card → (s : ℕ) → ℕ
cone_pins card s = sum_below (λ g. cond (in_cone card s g) (length (card.pins g)) 0) card.gates

-- The same without a number of pins: `reaches` is true exactly where there is a path (proofs/Cones.antt).
-- a pin of the gate that drives signal s names signal x
abbrev pub is_pin : Card → (x s : ℕ) → Bool
is_pin card x s = some (eqb x) (pins_behind card s)

pub data PinPath (card : Card) (t : ℕ) : (s : ℕ) → Type 0 where
  here : {s : ℕ} → t ≡ s → PinPath card t s
  through : {s : ℕ} (x : ℕ) → is_pin card x s ≡ true → PinPath card t x → PinPath card t s
