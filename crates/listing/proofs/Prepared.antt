-- The lines of a change of an accepted list: what they are made from, and the room that they take. Assumes nothing.
use Rattle.std.proofs.Common.{◌≡◌, ℕ, ◌+◌, ◌<◌, ◌≤◌, true, eqb, List, ◌++◌, length, get_or, refl, ap, ◌∙◌, ap₂, arith}
use lib.ListN.{get_or-append}
use Rattle.kung.specs.Class.{of_code}
use Rattle.kung.proofs.Finite.{of_code_code}
use Rattle.rows.specs.Rows.{output_in}
use Rattle.netlist.specs.Netlist.{inputs_of, gates_of, outputs_of, output_at}
use Rattle.netlist.specs.Formed.{Formed}
use Rattle.changes.specs.declared.Task.{Task}
use Rattle.changes.specs.Changes.{layout_in, input_class_at, sources_of}
use Rattle.changes.specs.Formed.{ListFormed}
use Rattle.changes.specs.Lent.{Accepts, signals_of}
use Rattle.simulate.specs.Full.{codes, class_in}
use Rattle.simulate.proofs.Theorems.{codes_length, codes_at}
use Rattle.wanted.specs.Sets.{sets_at}
use Rattle.wanted.proofs.Laws.{sets_in}
use Rattle.search.specs.Search.{Verdict, clean, hazardous, search}
use Rattle.visit.specs.Lent.{inputs_known}
use Rattle.core_search.specs.Core.{search_of}
use Rattle.outputs.specs.Outputs.{verdict_byte, search_from, byte_from}
use Rattle.outputs.proofs.Ready.{output_is}
use Rattle.core_search.proofs.Entry as entry
use Rattle.core_search.proofs.Theorems.{pins_within, gates_within}
use Rattle.report.specs.Text.{verdict_line}
use Rattle.report.proofs.Lengths.{verdict_length}
use Rattle.lines.specs.Texts.{texts}
use Rattle.lines.specs.Lent.{text_from}
use Rattle.lines.proofs.Laws.{texts_high, texts_same}
use Rattle.text.specs.Listing.{is_clean, output_line, change_lines}

clean_byte : (v : Verdict) → eqb (verdict_byte v) 0 ≡ is_clean v
clean_byte (clean k) = refl
clean_byte hazardous = refl

module _ (n l rows : List ℕ) (task : Task) (a : Accepts true n l rows task) (change : ℕ) (early : change < task.changes) where
  list_formed : ListFormed n l task
  list_formed = entry.list_formed n l rows task a change

  card_formed : Formed n task.shape
  card_formed = entry.card_formed n l rows task a change

  -- the lines that are made of a change's classes and searches are those to print
  module _ (known classes rest wanted : List ℕ) (known-are : known ≡ inputs_known (inputs_of n) (gates_of n) (input_class_at l (layout_in n l) change))
      (classes-are : classes ≡ codes n l change ++ rest) (wants : wanted ≡ sets_at l task.layout change) where
    abbrev text : ℕ → List ℕ
    text = text_from rows known wanted classes (signals_of task.shape) change

    line_same : (o : ℕ) → o < task.shape.outputs → text o ≡ output_line n l change o
    unfolding text_from output_line search_of search_from
    line_same o h =
        λ i. verdict_line change o (class i) (verdict i) (answer i).gates (answer i).pins
      where
        s : ℕ
        s = output_at n o

        at : output_in rows (signals_of task.shape) o ≡ s
        at = output_is n l rows task a o h

        below : s < inputs_of n + gates_of n
        below = let f = card_formed in omega (arith, f.output_below o h, f.inputs_are, f.gates_are)

        class : of_code (get_or classes (output_in rows (signals_of task.shape) o) 0) ≡ class_in n l change s
        class =
            ap of_code
            (ap₂ (λ c s. get_or c s 0) classes-are at
            ∙ get_or-append (codes n l change) rest 0 s (omega (arith, below, codes_length n l change))
            ∙ codes_at n l change s below)
            ∙ of_code_code (class_in n l change s)

        answer : search_from rows known wanted (signals_of task.shape) o ≡ search_of n l change o
        answer =
            entry.search_is n l rows task a change known known-are (get_or wanted o 0) (output_in rows (signals_of task.shape) o)
            ∙ ap₂ (search (sources_of n l change)) (sets_in n l a.accepted change wanted wants o h) at

        verdict : eqb (byte_from rows known wanted (signals_of task.shape) o) 0 ≡ is_clean (search_of n l change o).verdict
        verdict = ap (λ a. eqb (verdict_byte a.verdict) 0) answer ∙ clean_byte (search_of n l change o).verdict

    pub lines_same : texts text 0 task.shape.outputs ≡ change_lines n l change
    unfolding change_lines
    lines_same =
        texts_same text (output_line n l change) 0 task.shape.outputs (λ k h. line_same (0 + k) (omega arith))
        ∙ ap (texts (output_line n l change) 0) card_formed.outputs_are

  pub lines_high : length (change_lines n l change) ≤ 3072
  unfolding change_lines output_line
  lines_high =
      let f = card_formed in
      omega (
        arith,
        texts_high (output_line n l change) 0 48 (outputs_of n)
            (λ k h.
            verdict_length change (0 + k) _ _ _ _ (omega (arith, list_formed.changes_high)) (omega (arith, f.outputs_are, f.outputs_high))
            (omega (arith, gates_within n l a.accepted change (0 + k), pins_within n l a.accepted change (0 + k), f.pins_high, f.gates_high))
            (omega (arith, pins_within n l a.accepted change (0 + k), f.pins_high, f.gates_high))),
        f.outputs_are,
        f.outputs_high,
      )
