-- An accepted card under the search: its cones have at most P pins, and where only the inputs are known the decoded card is that of the definition.
-- Assumes nothing.
use Rattle.std.specs.Prelude.{◌≡◌, ℕ, zero, suc, ◌+◌, ◌-◌, ◌<◌, ◌≤◌, Bool, true, false, cond, List, length, get_or, replicate}
use native.Mathlib.Omega.{arith}
use native.Mathlib.Decide.{dec_lt}
use mathlib.Core.Path.{◌∙◌, ap}
use lib.ListN.{length-append, length-replicate, get_or-replicate, get_or-append, get_or-eq_default}
use lib.Seq.{get_or-append-add}
use Rattle.kung.specs.Class.{Class, c0, code, of_code}
use Rattle.kung.specs.Tables.{tab}
use Rattle.kung.proofs.Finite.{of_code_code}
use Rattle.kung.proofs.Listed.{get_d_tab, length_tab}
use Rattle.kung.proofs.SetLaws.{code_lt}
use Rattle.circuit.specs.Circuit.{given, gate, sources}
use Rattle.circuit.proofs.Laws.{sources_cases}
use Rattle.words.proofs.Laws.{words_length}
use Rattle.records.specs.Records.{count_at}
use Rattle.netlist.specs.Netlist.{inputs_of, gates_of, gate_pins, place_of, pins_below, pin_total, card_of}
use Rattle.netlist.specs.Decoded.{Decoded}
use Rattle.search.specs.Pins.{sum_below}
use Rattle.search.specs.Cone.{in_cone, cone_pins}
use Rattle.visit.specs.Source.{source_from}
use Rattle.visit.specs.Lent.{inputs_known}
use Rattle.visit.specs.Cells.{Afresh}
use Rattle.visit.proofs.Sources.{source_given, source_gate}

-- a cone has at most the card's pins
gates_most : (n : List ℕ) (c : ℕ → Bool) (g : ℕ) → sum_below (λ g. cond (c g) (length (gate_pins n g)) 0) g ≤ pins_below n g
unfolding sum_below pins_below
gates_most n c zero = omega arith
gates_most n c (suc g) = omega (arith, go (c g), gates_most n c g)
  where
    go : (b : Bool) → cond b (length (gate_pins n g)) 0 ≤ count_at n (place_of n g)
    go true = rw words_length (omega arith)
    go false = omega arith

pub cone_most : (n : List ℕ) (s : ℕ) → cone_pins (card_of n) s ≤ pin_total n
unfolding cone_pins card_of
cone_most n s = gates_most n (in_cone (card_of n) s) _

-- where only the inputs are known
module _ {repeated : Bool} (n rows : List ℕ) (d : Decoded repeated n rows) (v : ℕ → Class) where
  abbrev known : List ℕ
  known = inputs_known (inputs_of n) (gates_of n) v

  abbrev codes : List ℕ
  codes = tab (λ i. code (v i)) 0 (inputs_of n)

  known_input : (i : ℕ) → i < inputs_of n → get_or known i 0 ≡ code (v i)
  known_input i h = get_or-append codes _ 0 i (rw length_tab h) ∙ get_d_tab (λ i. code (v i)) (inputs_of n) i h

  known_gate : (g : ℕ) → g < gates_of n → get_or known (inputs_of n + g) 0 ≡ 8
  known_gate g h =
      rw (length_tab (λ i. code (v i)) 0 (inputs_of n)) at (get_or-append-add codes (replicate (gates_of n) 8) g 0)
      ∙ get_or-replicate (gates_of n) g 8 0 h

  known_past : (s : ℕ) → inputs_of n + gates_of n ≤ s → get_or known s 0 ≡ 0
  known_past s h = get_or-eq_default known 0 {n = s} (simp (length-append, length_tab, length-replicate) h)

  pub known_length : length known ≡ inputs_of n + gates_of n
  known_length = simp (length-append, length_tab, length-replicate)

  pub known_below : (i : ℕ) → i < inputs_of n → get_or known i 0 < 8
  known_below i h = omega (arith, known_input i h, code_lt (v i))

  pub known_afresh : Afresh known
  known_afresh s = go (dec_lt s (inputs_of n)) (dec_lt s (inputs_of n + gates_of n))
    where
      go : Dec (s < inputs_of n) → Dec (s < inputs_of n + gates_of n) → get_or known s 0 ≤ 8
      go (yes l) e = omega (arith, known_below s l)
      go (no l) (yes e) = let at : inputs_of n + (s - inputs_of n) ≡ s = omega arith in omega (arith, rw at at (known_gate (s - inputs_of n) (omega arith)))
      go (no l) (no e) = omega (arith, known_past s (omega arith))

  -- the search runs on the card of the definition
  pub sources_known : source_from rows known ≡ sources (card_of n) c0 v
  unfolding card_of of_code
  sources_known =
      λ i s.
      sources_cases (card_of n) c0 v (λ s c. source_from rows known s ≡ c)
      (λ s h. source_given rows known s (known_below s h) ∙ ap given (ap of_code (known_input s h) ∙ of_code_code (v s)))
      (λ g h.
      source_gate rows known (inputs_of n + g) (omega (arith, known_gate g h)) ∙ (λ i. gate (d.kinds_are g h i) (d.pins_are g h i)))
      (λ s h. source_given rows known s (omega (arith, known_past s h)) ∙ ap given (ap of_code (known_past s h)))
      s i
