-- Filled with the inputs' codes, a buffer gets the classes of the change from the gate pass. Assumes nothing.
use Prim.Native.Nat.{ℕ, ◌+◌, ◌≤◌, ◌<◌}
use native.Mathlib.Omega.{arith}
use mathlib.Core.Path.{◌≡◌, refl, sym, ◌∙◌, ap, ap₂}
use mathlib.Core.Bool.{true}
use mathlib.Core.List.{List, ◌++◌, map}
use lib.ListN.{length, get_or, drop, length-append, length-drop, get_or-append}
use lib.Seq.{drop-append-add, drop-drop}
use Rattle.kung.specs.Class.{c0, code, of_code}
use Rattle.kung.specs.Rule.{gate_class}
use Rattle.kung.proofs.Finite.{of_code_code}
use Rattle.kung.proofs.Listed.{get_d_tab, length_tab}
use Rattle.kung.proofs.SetLaws.{code_lt}
use Rattle.circuit.specs.Circuit.{sources, values}
use Rattle.circuit.proofs.Laws.{sources_ext}
use Rattle.rows.specs.Rows.{card_in}
use Rattle.rows.specs.Lent.{GateRow, Repeats}
use Rattle.netlist.specs.Netlist.{inputs_of, card_of}
use Rattle.netlist.specs.Formed.{Formed}
use Rattle.netlist.proofs.Accepted.{formed}
use Rattle.netlist.proofs.Decoded.{decoded_sources}
use Rattle.changes.specs.declared.Task.{Task}
use Rattle.changes.specs.Changes.{layout_in, input_class_at, sources_of}
use Rattle.changes.specs.Formed.{ListFormed}
use Rattle.changes.specs.Lent.{Accepts, signals_of}
use Rattle.changes.proofs.Accepted.{listed, laid}
use Rattle.inputs.specs.Written.{input_codes, code_at}
use Rattle.sweep.specs.Sweep.{sources_in, codes_of}
use Rattle.sweep.specs.Lent.{Passable}
use Rattle.simulate.specs.Full.{codes}

module _ (n l rows : List ℕ) (task : Task) (a : Accepts true n l rows task) (t : ℕ) (old : List ℕ) where
  list_formed : ListFormed n l task
  list_formed = listed n l a.accepted

  card : Formed n task.shape
  card = formed n list_formed.netlist_accepted

  abbrev inputs : ℕ
  inputs = task.shape.inputs

  abbrev gates : ℕ
  gates = task.shape.gates

  abbrev filled : List ℕ
  filled = input_codes l task.layout t inputs ++ drop inputs old

  input_at : (i : ℕ) → i < inputs → get_or filled i 0 ≡ code (input_class_at l task.layout t i)
  input_at i h =
      get_or-append (input_codes l task.layout t inputs) (drop inputs old) 0 i (rw length_tab h) ∙ get_d_tab (code_at l task.layout t) inputs i h

  -- the buffer can be passed
  pub filled_passable : (now : List ℕ) → now ≡ filled → (hots : ℕ) → signals_of task.shape ≤ length old → signals_of task.shape ≤ hots
      → Passable rows now hots inputs gates
  filled_passable now e hots room hot =
      rw e
      (record {
        few = card.inputs_high;
        gates_high = card.gates_high;
        gate = λ g h. row g h;
        repeats = λ g h. again g h;
        room = omega (arith, length-append (input_codes l task.layout t inputs) (drop inputs old), length_tab (code_at l task.layout t) 0 inputs, length-drop inputs old);
        hot_room = hot;
        coded = λ i h. rw (input_at i h) (code_lt (input_class_at l task.layout t i));
      })
    where
      row : (g : ℕ) → g < gates → GateRow rows (inputs + g)
      row g h = rw card.inputs_are (a.decoded.gate g (omega (arith, card.gates_are)))

      again : (g : ℕ) → g < gates → Repeats rows (inputs + g)
      again g h = rw card.inputs_are (a.decoded.repeats refl g (omega (arith, card.gates_are)))

  filled_sources : sources_in rows filled inputs gates ≡ sources_of n l t
  unfolding sources_in sources_of card_of
  filled_sources =
      (λ i. sources (card_in rows (card.inputs_are i) (card.gates_are i)) c0 (λ k. of_code (get_or filled k 0)))
      ∙ decoded_sources a.decoded c0 (λ k. of_code (get_or filled k 0))
      ∙ sources_ext (card_of n) c0 _ _ same
    where
      same : (i : ℕ) → i < inputs_of n → of_code (get_or filled i 0) ≡ input_class_at l (layout_in n l) t i
      same i h =
          ap of_code (input_at i (omega (arith, card.inputs_are))) ∙ of_code_code _
          ∙ ap (λ w. input_class_at l w t i) (laid n l a.accepted)

  -- and gets the classes of the change
  pub filled_codes : codes_of rows filled inputs gates (signals_of task.shape) ≡ codes n l t
  unfolding codes_of codes
  filled_codes = λ i. map code (values gate_class c0 (filled_sources i) (card.inputs_are i + card.gates_are i))

  -- what stands after the signals stays
  pub filled_after : drop (signals_of task.shape) filled ≡ drop (signals_of task.shape) old
  filled_after =
      ap (λ n. drop (n + gates) filled) (sym (length_tab (code_at l task.layout t) 0 inputs))
      ∙ drop-append-add (input_codes l task.layout t inputs) (drop inputs old) gates ∙ drop-drop gates inputs old

  pub swept : (now : List ℕ) → now ≡ filled → (exit : List ℕ)
      → exit ≡ codes_of rows now inputs gates (signals_of task.shape) ++ drop (signals_of task.shape) now → exit ≡ codes n l t ++ drop (signals_of task.shape) old
  swept now e exit x =
      x ∙ ap (λ b. codes_of rows b inputs gates (signals_of task.shape) ++ drop (signals_of task.shape) b) e ∙ ap₂ ◌++◌ filled_codes filled_after
