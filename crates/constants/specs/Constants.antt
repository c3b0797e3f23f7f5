-- Document 01, "The forward method": the constants, the gates that they touch, and the card on which constant gates are known.
use Rattle.std.specs.Prelude.{ℕ, zero, suc, Bool, true, false, cond, List, [], ◌∷◌, map}
use Rattle.std.proofs.Math.Option.{Option, none, some}
use Rattle.kung.specs.Class.{Class, c0, c1, R, F, S0, S1, D+, D-, same}
use Rattle.kung.specs.Rule as rule
use Rattle.kung.specs.Rule.{Kind, gate_class}
use Rattle.kung.specs.Operation.{op_of, inverts, invert_if, controlling}
use Rattle.kung.specs.Sets.{bit}
use Rattle.circuit.specs.Circuit.{Source, given, gate, Card}
use Rattle.search.specs.Pins.{sum_below}

-- "Constants `0` and `1`"
abbrev pub is_constant : Class → Bool
is_constant c0 = true
is_constant c1 = true
is_constant R = false
is_constant F = false
is_constant S0 = false
is_constant S1 = false
is_constant D+ = false
is_constant D- = false

-- a class where it is constant
abbrev pub constant_of : Class → Option Class
constant_of k = cond (is_constant k) (some k) none

-- a signal is known to be constant; to be the constant k
abbrev pub is_known : Option Class → Bool
is_known none = false
is_known (some k) = true

abbrev pub is_known_as : Class → Option Class → Bool
is_known_as k none = false
is_known_as k (some j) = same k j

-- the pins' classes where all pins are constant
abbrev pub with_pin : Option Class → Option (List Class) → Option (List Class)
with_pin none pins = none
with_pin (some k) none = none
with_pin (some k) (some ks) = some (k ∷ ks)

unfoldable pub all_known : List (Option Class) → Option (List Class)
all_known [] = some []
all_known (pin ∷ pins) = with_pin pin (all_known pins)

abbrev pub gate_of_known : Kind → Option (List Class) → Option Class
gate_of_known d none = none
gate_of_known d (some ks) = some (gate_class d ks)

-- A "gate's class follows from constant pins" where one of them decides it alone, or where all pins are constant.
unfoldable pub follows : Kind → (pins : List (Option Class)) → Option Class
follows d pins =
    cond (rule.some (is_known_as (controlling (op_of d))) pins) (some (invert_if (inverts d) (controlling (op_of d))))
    (gate_of_known d (all_known pins))

-- what follows of a signal from the constants known so far
abbrev pub constant_from : Source Class → (known : ℕ → Option Class) → Option Class
constant_from (given k) known = constant_of k
constant_from (gate d ps) known = follows d (map known ps)

-- a signal that is known to be constant is given
abbrev pub or_known : Option Class → Source Class → Source Class
or_known none c = c
or_known (some k) c = given k

module _ (src : ℕ → Source Class) where
  -- "Constants [...] spread from the inputs": what is known after a number of rounds
  unfoldable pub spread : (rounds : ℕ) → (s : ℕ) → Option Class
  spread zero s = none
  spread (suc n) s = constant_from (src s) (spread n)

  -- "until no gate's class follows from constant pins any more": as many rounds as there are signals. A pin names a signal below its own gate's, so
  -- that another round changes nothing (`constants_stay`).
  abbrev pub constants : (signals : ℕ) → (s : ℕ) → Option Class
  constants signals = spread signals

  -- "constant gates being known"
  unfoldable pub known_sources : (signals : ℕ) → (s : ℕ) → Source Class
  known_sources signals s = or_known (constants signals s) (src s)

-- "The touched count is the number of gates with at least one pin whose driver is then constant."
unfoldable pub touched : Card → (known : ℕ → Option Class) → ℕ
touched card known = sum_below (λ g. bit (rule.some (λ x. is_known (known x)) (card.pins g))) card.gates
