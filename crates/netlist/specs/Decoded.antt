-- A netlist decoded into rows: what `decode` leaves in the numbers that are lent to it, and what an accepted netlist's rows say.
use Rattle.std.specs.Prelude.{ℕ, zero, suc, ◌+◌, ◌*◌, ◌≤◌, ◌<◌, ◌≡◌, Bool, true, false, cond, List, [], ◌∷◌, ◌++◌, ltb, length, Ok, Err}
use Rattle.words.specs.Words.{words_at}
use Rattle.rows.specs.Rows.{row_kind, row_pins, output_in}
use Rattle.rows.specs.Lent.{GateRow, Repeats}
use Rattle.making.specs.Making.{row_at, put_at}
use Rattle.records.specs.Records.{count_at}
use Rattle.records.specs.Reading.{word_of}
use Rattle.refusals.specs.Refusal.{number_of}
use Rattle.netlist.specs.Netlist.{Checked, inputs_of, gates_of, outputs_of, place_of, entries_at, output_at, gate_kind, gate_pins}
use Rattle.netlist.specs.Netlist.{record_at, accepted, checked}

-- whether nothing is refused
unfoldable pub passes : Checked → Bool
passes (Ok shape) = true
passes (Err refusal) = false

-- whether nothing of the record at a place is refused
unfoldable pub record_fits : List ℕ → (signal at : ℕ) → Bool
record_fits s signal at = passes (record_at s signal at (accepted s))

-- a record's nine numbers: its pins, the last repeated where that is asked for, and its gate's word
unfoldable pub row_of : (repeated : Bool) → List ℕ → (at : ℕ) → List ℕ
row_of repeated s at = row_at repeated s (at + 2) (count_at s at) ++ (word_of s at ∷ [])

-- of the n records from gate g's on, those before the first that is refused are kept, each at its gate's signal where it has room
unfoldable pub rows_from : (repeated : Bool) → (n g : ℕ) → List ℕ → (rows : List ℕ) → List ℕ
rows_from repeated zero g s rows = rows
rows_from repeated (suc n) g s rows =
    cond (record_fits s (inputs_of s + g) (place_of s g))
    (rows_from repeated n (suc g) s (put_at rows (9 * (inputs_of s + g)) (row_of repeated s (place_of s g))))
    rows

-- 1 to 4 are refused before any record is read
unfoldable pub early : Checked → Bool
early (Ok shape) = false
early (Err refusal) = ltb (number_of refusal) 5

-- the outputs' signals are kept after the rows of all signals, where nothing is refused
unfoldable pub with_outputs : Checked → List ℕ → (rows : List ℕ) → List ℕ
with_outputs (Ok shape) s rows = put_at rows (9 * (inputs_of s + gates_of s)) (words_at (outputs_of s) s (entries_at s))
with_outputs (Err refusal) s rows = rows

-- the rows that the check with this answer leaves
unfoldable pub decoded_by : (repeated : Bool) → Checked → List ℕ → (rows : List ℕ) → List ℕ
decoded_by repeated answer s rows = with_outputs answer s (cond (early answer) rows (rows_from repeated (gates_of s) 0 s rows))

unfoldable pub decoded : (repeated : Bool) → List ℕ → (rows : List ℕ) → List ℕ
decoded repeated s rows = decoded_by repeated (checked s) s rows

-- the rows say what the bytes say
pub record Decoded (repeated : Bool) (s rows : List ℕ) : Type 0 where
  pub long : 9 * (inputs_of s + gates_of s) + outputs_of s ≤ length rows
  pub gate : (g : ℕ) → g < gates_of s → GateRow rows (inputs_of s + g)
  pub repeats : repeated ≡ true → (g : ℕ) → g < gates_of s → Repeats rows (inputs_of s + g)
  pub kinds_are : (g : ℕ) → g < gates_of s → row_kind rows (inputs_of s + g) ≡ gate_kind s g
  pub pins_are : (g : ℕ) → g < gates_of s → row_pins rows (inputs_of s + g) ≡ gate_pins s g
  pub outputs_are : (o : ℕ) → o < outputs_of s → output_in rows (inputs_of s + gates_of s) o ≡ output_at s o
