-- Document 01, "The card netlist": what the bytes say, and, from "Turned back, by operation", when they are refused.
use Rattle.std.specs.Prelude.{ℕ, zero, suc, ◌+◌, ◌*◌, not, List, eqb, leb, ltb, length, Result, Ok}
use Rattle.kung.specs.Rule.{Kind, kind_of}
use Rattle.circuit.specs.Circuit.{Card}
use Rattle.words.specs.Words.{word_at, words_at, marked, outside}
use Rattle.refusals.specs.Refusal.{refuse}
use Rattle.refusals.specs.declared.Refusal.{Refusal}
use Rattle.refusals.specs.declared.Refusal.TheVariants.{NetlistShort, NetlistMark, NetlistVersion, Count, CutOff, Kind as KindByte, PinCount, Pin, Entry, BytesLeft, Signals}
use Rattle.records.specs.Records.{kind_at, count_at, past_record, no_kind, least_pins, most_pins}
use Rattle.netlist.specs.declared.Shape.{Shape}

-- the answer of a check
abbrev pub Checked : Type 0
Checked = Result Shape Refusal

-- "A netlist is the letters `LCN`, a 16-bit version (1), three 16-bit counts: inputs I (1 to 256), gates G (0 to 2,048), outputs O (1 to
-- 64); then G gate records; then O 16-bit output entries"
abbrev pub inputs_of : List ℕ → ℕ
inputs_of s = word_at s 5

abbrev pub gates_of : List ℕ → ℕ
gates_of s = word_at s 7

abbrev pub outputs_of : List ℕ → ℕ
outputs_of s = word_at s 9

-- the place of gate g's record
unfoldable pub place_of : List ℕ → ℕ → ℕ
place_of s zero = 11
place_of s (suc g) = past_record s (place_of s g)

-- the pins of the gates below g together
unfoldable pub pins_below : List ℕ → ℕ → ℕ
pins_below s zero = 0
pins_below s (suc g) = pins_below s g + count_at s (place_of s g)

-- "P is the number of all pins."
abbrev pub pin_total : List ℕ → ℕ
pin_total s = pins_below s (gates_of s)

-- where the output entries begin, and output o's
abbrev pub entries_at : List ℕ → ℕ
entries_at s = place_of s (gates_of s)

abbrev pub output_at : List ℕ → ℕ → ℕ
output_at s o = word_at s (entries_at s + 2 * o)

-- where they end
abbrev pub outputs_end : List ℕ → ℕ
outputs_end s = entries_at s + 2 * outputs_of s

-- the card that the bytes describe
abbrev pub gate_kind : List ℕ → ℕ → Kind
gate_kind s g = kind_of (kind_at s (place_of s g))

abbrev pub gate_pins : List ℕ → ℕ → List ℕ
gate_pins s g = words_at (count_at s (place_of s g)) s (place_of s g + 2)

unfoldable pub card_of : List ℕ → Card
card_of s = record { inputs = inputs_of s; gates = gates_of s; kind = gate_kind s; pins = gate_pins s }

-- "Netlist: under 11 bytes 1 (place: the length); mark 2 (0); version 3 (3);"
unfoldable pub opening : (version : ℕ) → List ℕ → Checked → Checked
opening version s next =
    refuse (ltb (length s) 11) (NetlistShort (length s))
    (refuse (not (marked s 0x4C 0x43 0x4E)) NetlistMark
    (refuse (not (eqb (word_at s 3) version)) NetlistVersion
    next))

-- "I, G, O out of range 4 (5, 7, 9)."
unfoldable pub counts : List ℕ → Checked → Checked
counts s next =
    refuse (outside 1 256 (inputs_of s)) (Count 5)
    (refuse (outside 0 2048 (gates_of s)) (Count 7)
    (refuse (outside 1 64 (outputs_of s)) (Count 9)
    next))

-- the n words from `at` on in turn: the first not below the bound is refused
unfoldable pub words_below : (n : ℕ) → List ℕ → (at bound : ℕ) → (refusal : (at : ℕ) → Refusal) → Checked → Checked
words_below zero s at bound refusal next = next
words_below (suc n) s at bound refusal next = refuse (leb bound (word_at s at)) (refusal at) (words_below n s (at + 2) bound refusal next)

-- "Per record: under two bytes left 5 (record start); kind 6 (its byte); pin count 7 (its byte); pins cut off 5 (record start); pin not
-- below its gate 8 (that pin)"
unfoldable pub record_at : List ℕ → (signal at : ℕ) → Checked → Checked
record_at s signal at next =
    refuse (ltb (length s) (at + 2)) (CutOff at)
    (refuse (no_kind (kind_at s at)) (KindByte at)
    (refuse (outside (least_pins (kind_at s at)) (most_pins (kind_at s at)) (count_at s at)) (PinCount (at + 1))
    (refuse (ltb (length s) (past_record s at)) (CutOff at)
    (words_below (count_at s at) s (at + 2) signal Pin
    next))))

-- the n records from gate g's on; "the first bad pin ends the reading of all records"
unfoldable pub records_from : (n g : ℕ) → List ℕ → Checked → Checked
records_from zero g s next = next
records_from (suc n) g s next = record_at s (inputs_of s + g) (place_of s g) (records_from n (suc g) s next)

-- "Then output entries cut off 5 (their start); entry not below I + G 9 (it); bytes left 10 (the first)."
unfoldable pub outputs : List ℕ → Checked → Checked
outputs s next =
    refuse (ltb (length s) (outputs_end s)) (CutOff (entries_at s))
    (words_below (outputs_of s) s (entries_at s) (inputs_of s + gates_of s) Entry
    (refuse (ltb (outputs_end s) (length s)) (BytesLeft (outputs_end s))
    next))

-- what an accepted netlist gives
unfoldable pub shape_of : List ℕ → Shape
shape_of s = record { inputs = inputs_of s; gates = gates_of s; outputs = outputs_of s; pins = pin_total s; entries = entries_at s }

unfoldable pub accepted : List ℕ → Checked
accepted s = Ok (shape_of s)

-- what follows the counts
unfoldable pub body : List ℕ → Checked
body s = records_from (gates_of s) 0 s (outputs s (accepted s))

-- A caller may keep fewer signals than document 01 allows (23, place 5). One that keeps 256 + 2,048 of them never meets this limit.
unfoldable pub body_within : (limit : ℕ) → List ℕ → Checked
body_within limit s = refuse (ltb limit (inputs_of s + gates_of s)) Signals (body s)

unfoldable pub checked_within : (limit version : ℕ) → List ℕ → Checked
checked_within limit version s = opening version s (counts s (body_within limit s))

-- the check of document 01
unfoldable pub checked : List ℕ → Checked
checked s = checked_within 2304 1 s
