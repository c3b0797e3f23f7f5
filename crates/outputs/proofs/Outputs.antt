-- Laws of the outputs' searches. Assumes nothing.
use Prim.Native.Nat.{ℕ, zero, suc, ◌+◌, ◌*◌, ◌≤◌, ◌<◌}
use native.Mathlib.Omega.{arith}
use native.Mathlib.Nat.{add_comm, le_trans}
use native.Mathlib.Decide.{dec_lt}
use native.Mathlib.Numerals.{add-one}
use mathlib.Core.Path.{◌≡◌, refl, ◌∙◌, ap}
use mathlib.Core.Bool.{true}
use mathlib.Core.List.{List}
use lib.ListN.{length, get_or, set, length-replicate}
use Rattle.kung.specs.Class.{Class}
use Rattle.kung.specs.Operation.{op_of, unit}
use Rattle.kung.proofs.Listed.{length_tab}
use Rattle.circuit.specs.Circuit.{Source, given, gate, pins_of}
use Rattle.rows.specs.Rows.{row_pins, output_in}
use Rattle.inputs.specs.Written.{written}
use Rattle.inputs.proofs.Laws.{written_next}
use Rattle.search.specs.Search as search
use Rattle.search.specs.Search.{Answer, answer_of, search, visit, end_from, fresh, nobody}
use Rattle.search.specs.Pins.{sum_below, pins_in}
use Rattle.search.proofs.Writes.{visit_length, closed_all}
use Rattle.search.proofs.Counts.{search_pins}
use Rattle.visit.specs.Source.{source_from}
use Rattle.visit.specs.Found.{found_of, verdict_code}
use Rattle.visit.specs.Lent.{SearchReady}
use Rattle.visit.specs.declared.Found.{Found}
use Rattle.visit.proofs.Sources.{source_given, source_gate}
use Rattle.visit.proofs.Totals.{gates_few}
use Rattle.outputs.specs.Outputs.{verdict_byte, search_from, byte_from, sum_from}
use Rattle.outputs.specs.Codes.{found_byte}

-- a search visits no more gates than it has cells
pub search_few : (src : ℕ → Source Class) (w s : ℕ) → (search src w s).gates ≤ suc s
unfolding search
search_few src w s = go (src s)
  where
    go : (c : Source Class) → (answer_of w (end_from src (suc s) c w s (fresh (suc s)))).gates ≤ suc s
    go (given k) = omega arith
    go (gate d ps) =
        omega (
          arith,
          gates_few (visit src (suc s) s (unit (op_of d)) 0 w nobody (fresh (suc s))).1,
          visit_length src (suc s) s (unit (op_of d)) 0 w nobody (fresh (suc s)),
          length-replicate {A = ℕ} (suc s) 0,
        )

-- and takes no more than eight pins of each
module _ {rows known : List ℕ} (r : SearchReady rows known) where
  few_pins : (s : ℕ) → length (pins_of (source_from rows known s)) ≤ 8
  unfolding row_pins
  few_pins s = go (dec_lt (get_or known s 0) 8)
    where
      go : Dec (get_or known s 0 < 8) → length (pins_of (source_from rows known s)) ≤ 8
      go (yes h) = rw (source_given rows known s h) (omega arith)
      go (no h) = rw (source_gate rows known s (omega arith)) (rw length_tab (r.gates_only s (omega arith)).count_eight)

  sum_few : (n : ℕ) → pins_in (source_from rows known) (λ s. true) n ≤ 8 * n
  unfolding sum_below
  sum_few zero = omega arith
  sum_few (suc n) = omega (arith, sum_few n, few_pins n)

  taken_few : (w s : ℕ) → s < length known → (search (source_from rows known) w s).pins ≤ 8 * 2304
  taken_few w s below =
      let src = source_from rows known in
      le_trans (search_pins src (λ s. true) (closed_all src) w s (length known) refl below)
      (omega (arith, sum_few (length known), r.few_signals))

  pub found_few : (w s : ℕ) → s < length known → (found : Found) → found ≡ found_of (search (source_from rows known) w s)
      → (found.gates ≤ suc s) × (found.pins ≤ 8 * 2304)
  found_few w s below found is = rw is (search_few (source_from rows known) w s, taken_few w s below)

pub byte_code : (v : search.Verdict) → found_byte (verdict_code v) ≡ verdict_byte v
byte_code (search.clean k) = refl
byte_code search.hazardous = refl

-- what is found of output o of a card of n signals
module _ (rows known wanted : List ℕ) (n o s : ℕ) (at : s ≡ output_in rows n o) (found : Found)
    (is : found ≡ found_of (search (source_from rows known) (get_or wanted o 0) s)) where
  pub found_is : found ≡ found_of (search_from rows known wanted n o)
  unfolding search_from
  found_is = is ∙ ap (λ s. found_of (search (source_from rows known) (get_or wanted o 0) s)) at

  pub found_next : (count : Answer → ℕ) (sum more : ℕ) → sum ≡ sum_from count rows known wanted n o → more ≡ count (search_from rows known wanted n o)
      → sum + more ≡ sum_from count rows known wanted n (o + 1)
  unfolding sum_below
  found_next count sum more e m = rw (e, m, add-one o) (add_comm _ _)

  pub found_byte_lem : (old now : List ℕ) → now ≡ written old 0 (byte_from rows known wanted n) o → o < length old
      → (byte : ℕ) → byte ≡ found_byte found.verdict
      → set now o byte ≡ written old 0 (byte_from rows known wanted n) (o + 1)
  found_byte_lem old now e h byte b =
      written_next old (byte_from rows known wanted n) o h now e byte
      (b ∙ ap (λ f. found_byte f.verdict) found_is ∙ byte_code (search_from rows known wanted n o).verdict)
