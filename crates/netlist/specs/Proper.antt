-- Document 01: what is asked of a netlist's bytes, from "The card netlist", and the conditions of "Turned back, by operation" one after
-- the other. `checked` accepts exactly the proper bytes and refuses the others by the first condition met (proofs/Proper.antt).
use Rattle.std.specs.Prelude.{ℕ, zero, suc, ◌+◌, ◌≤◌, ◌<◌, ◌≡◌, Bool, true, cond, not, List, [], ◌∷◌, ◌++◌, eqb, leb, ltb, length, Result, Err}
use Rattle.words.specs.Words.{word_at, marked, outside}
use Rattle.records.specs.Records.{kind_at, count_at, pin_at, past_record, no_kind, least_pins, most_pins}
use Rattle.refusals.specs.declared.Refusal.{Refusal}
use Rattle.refusals.specs.declared.Refusal.TheVariants.{NetlistShort, NetlistMark, NetlistVersion, Count, CutOff, Kind, PinCount, Pin, Entry, BytesLeft}
use Rattle.netlist.specs.Netlist.{inputs_of, gates_of, outputs_of, place_of, entries_at, output_at, outputs_end}

-- "A record is a kind byte, a pin-count byte and a 16-bit signal number for each pin. Kinds: 1 NOT, 2 BUFFER, 3 AND, 4 OR, 5 NAND, 6 NOR.
-- Kinds 1 and 2 take one pin, 3 to 6 take two to eight. A pin names a signal number below its own gate's."
pub record ProperRecord (s : List ℕ) (signal at : ℕ) : Type 0 where
  pub kind_low : 1 ≤ kind_at s at
  pub kind_high : kind_at s at ≤ 6
  pub count_low : least_pins (kind_at s at) ≤ count_at s at
  pub count_high : count_at s at ≤ most_pins (kind_at s at)
  pub room : past_record s at ≤ length s
  pub pin_below : (k : ℕ) → k < count_at s at → pin_at s at k < signal

-- "A netlist is the letters `LCN`, a 16-bit version (1), three 16-bit counts: inputs I (1 to 256), gates G (0 to 2,048), outputs O (1 to
-- 64); then G gate records; then O 16-bit output entries, and nothing after. .. gate g (from 0) drives signal I + g."
pub record Proper (s : List ℕ) : Type 0 where
  pub long : 11 ≤ length s
  pub mark : marked s 0x4C 0x43 0x4E ≡ true
  pub version : word_at s 3 ≡ 1
  pub inputs_low : 1 ≤ inputs_of s
  pub inputs_high : inputs_of s ≤ 256
  pub gates_high : gates_of s ≤ 2048
  pub outputs_low : 1 ≤ outputs_of s
  pub outputs_high : outputs_of s ≤ 64
  pub records : (g : ℕ) → g < gates_of s → ProperRecord s (inputs_of s + g) (place_of s g)
  pub output_below : (o : ℕ) → o < outputs_of s → output_at s o < inputs_of s + gates_of s
  pub whole : length s ≡ outputs_end s

-- "A refusal is a number and a byte place."
pub data Condition : Type 0 where
  when : (met : Bool) (refusal : Refusal) → Condition

-- "In the order below, the first condition met is the refusal; where none is met there is none."
unfoldable pub first_met : {A : Type 0} → List Condition → Result A Refusal → Result A Refusal
first_met [] answer = answer
first_met (when met refusal ∷ rest) answer = cond met (Err refusal) (first_met rest answer)

-- each of the n words from `at` on that is not below the bound
unfoldable pub word_conditions : (n : ℕ) → List ℕ → (at bound : ℕ) → (refusal : (at : ℕ) → Refusal) → List Condition
word_conditions zero s at bound refusal = []
word_conditions (suc n) s at bound refusal = when (leb bound (word_at s at)) (refusal at) ∷ word_conditions n s (at + 2) bound refusal

-- "Netlist: under 11 bytes 1 (place: the length); mark 2 (0); version 3 (3); I, G, O out of range 4 (5, 7, 9)."
unfoldable pub head_conditions : List ℕ → List Condition
head_conditions s =
    when (ltb (length s) 11) (NetlistShort (length s))
    ∷ when (not (marked s 0x4C 0x43 0x4E)) NetlistMark
    ∷ when (not (eqb (word_at s 3) 1)) NetlistVersion
    ∷ when (outside 1 256 (inputs_of s)) (Count 5)
    ∷ when (outside 0 2048 (gates_of s)) (Count 7)
    ∷ when (outside 1 64 (outputs_of s)) (Count 9)
    ∷ []

-- "Per record: under two bytes left 5 (record start); kind 6 (its byte); pin count 7 (its byte); pins cut off 5 (record start); pin not
-- below its gate 8 (that pin)"
unfoldable pub record_conditions : List ℕ → (signal at : ℕ) → List Condition
record_conditions s signal at =
    when (ltb (length s) (at + 2)) (CutOff at)
    ∷ when (no_kind (kind_at s at)) (Kind at)
    ∷ when (outside (least_pins (kind_at s at)) (most_pins (kind_at s at)) (count_at s at)) (PinCount (at + 1))
    ∷ when (ltb (length s) (past_record s at)) (CutOff at)
    ∷ word_conditions (count_at s at) s (at + 2) signal Pin

-- those of the n records from gate g's on
unfoldable pub records_conditions : (n g : ℕ) → List ℕ → List Condition
records_conditions zero g s = []
records_conditions (suc n) g s = record_conditions s (inputs_of s + g) (place_of s g) ++ records_conditions n (suc g) s

-- "Then output entries cut off 5 (their start); entry not below I + G 9 (it); bytes left 10 (the first)."
unfoldable pub output_conditions : List ℕ → List Condition
output_conditions s =
    when (ltb (length s) (outputs_end s)) (CutOff (entries_at s))
    ∷ (word_conditions (outputs_of s) s (entries_at s) (inputs_of s + gates_of s) Entry
    ++ (when (ltb (outputs_end s) (length s)) (BytesLeft (outputs_end s)) ∷ []))

unfoldable pub conditions : List ℕ → List Condition
conditions s = head_conditions s ++ records_conditions (gates_of s) 0 s ++ output_conditions s
