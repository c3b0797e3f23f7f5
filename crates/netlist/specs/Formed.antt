-- What an accepted netlist is: all that the layers above know of the check.
use Rattle.std.specs.Prelude.{ℕ, ◌+◌, ◌*◌, ◌≤◌, ◌<◌, ◌≡◌, List, length}
use Rattle.circuit.specs.Circuit.{WellFormed}
use Rattle.records.specs.Records.{kind_at, count_at, pin_at, past_record, least_pins, most_pins}
use Rattle.netlist.specs.declared.Shape.{Shape}
use Rattle.netlist.specs.Netlist.{inputs_of, gates_of, outputs_of, place_of, pin_total, entries_at, output_at, card_of}

-- a record's form: a kind, a pin count that the kind takes, and room for the pins
pub record RecordFormed (s : List ℕ) (at : ℕ) : Type 0 where
  pub kind_low : 1 ≤ kind_at s at
  pub kind_high : kind_at s at ≤ 6
  pub count_low : least_pins (kind_at s at) ≤ count_at s at
  pub count_high : count_at s at ≤ most_pins (kind_at s at)
  pub count_some : 1 ≤ count_at s at
  pub count_eight : count_at s at ≤ 8
  pub room : past_record s at ≤ length s

pub record Formed (s : List ℕ) (shape : Shape) : Type 0 where
  pub inputs_are : shape.inputs ≡ inputs_of s
  pub gates_are : shape.gates ≡ gates_of s
  pub outputs_are : shape.outputs ≡ outputs_of s
  pub pins_are : shape.pins ≡ pin_total s
  pub entries_are : shape.entries ≡ entries_at s
  pub inputs_low : 1 ≤ shape.inputs
  pub inputs_high : shape.inputs ≤ 256
  pub gates_high : shape.gates ≤ 2048
  pub outputs_low : 1 ≤ shape.outputs
  pub outputs_high : shape.outputs ≤ 64
  pub records : (g : ℕ) → g < shape.gates → RecordFormed s (place_of s g)
  pub pin_below : (g k : ℕ) → g < shape.gates → k < count_at s (place_of s g) → pin_at s (place_of s g) k < shape.inputs + g
  pub well_formed : WellFormed (card_of s)
  pub output_below : (o : ℕ) → o < shape.outputs → output_at s o < shape.inputs + shape.gates
  pub pins_high : shape.pins ≤ 8 * shape.gates
  pub place_high : (g : ℕ) → g ≤ shape.gates → place_of s g ≤ 11 + 18 * g
  pub whole : length s ≡ shape.entries + 2 * shape.outputs
