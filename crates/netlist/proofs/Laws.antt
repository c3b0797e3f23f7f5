-- Laws of the places of records. Assumes nothing.
use Prim.Native.Nat.{ℕ, zero, suc, ◌+◌, ◌-◌, ◌*◌, ◌/◌}
use native.Mathlib.Omega.{arith}
use native.Mathlib.Numerals.{add-one}
use mathlib.Core.Path.{◌≡◌, refl}
use mathlib.Core.List.{List}
use Rattle.records.specs.Records.{past_record}
use Rattle.netlist.specs.Netlist.{gates_of, place_of, pins_below, pin_total, entries_at}

-- the next record's place
pub place_next : (s : List ℕ) (g at : ℕ) → at ≡ place_of s g → past_record s at ≡ place_of s (g + 1)
unfolding place_of
place_next s g at e = rw (add-one g, e)

-- a record's place by the pins below it
pub place_pins : (s : List ℕ) (g : ℕ) → place_of s g ≡ 11 + 2 * g + 2 * pins_below s g
unfolding place_of pins_below
place_pins s zero = refl
place_pins s (suc g) = omega (arith, place_pins s g)

-- the pins together, by the place of the output entries
pub pins_read : (s : List ℕ) {gates at : ℕ} → gates ≡ gates_of s → at ≡ entries_at s → (at - 11) / 2 - gates ≡ pin_total s
pins_read s g e = omega (arith, place_pins s (gates_of s))
