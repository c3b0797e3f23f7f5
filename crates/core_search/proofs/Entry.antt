-- CORE for an output of a change: what the search is lent, and what is answered in each case. Assumes nothing.
use Rattle.std.specs.Prelude.{◌≡◌, ℕ, zero, suc, ◌+◌, ◌-◌, ◌<◌, ◌≤◌, Bool, List, ◌∷◌, ◌++◌, length, take, drop, replicate, Ok, Err}
use native.Mathlib.Omega.{arith}
use mathlib.Core.Path.{refl, sym, ◌∙◌, ap, ap₂}
use borrow.Author.Tests.{le-leb, lt-leb}
use lib.ListN.{take-append-drop}
use lib.Seq.{take-append-add, drop_at}
use Rattle.kung.proofs.Listed.{length_tab}
use Rattle.refusals.specs.Refusal.{refuse}
use Rattle.refusals.specs.declared.Refusal.{Refusal}
use Rattle.refusals.specs.declared.Refusal.TheVariants.{NoChange, NoOutput}
use Rattle.netlist.specs.Netlist.{inputs_of, gates_of}
use Rattle.netlist.specs.Formed.{Formed}
use Rattle.netlist.proofs.Accepted.{formed}
use Rattle.changes.specs.declared.Layout.{Layout}
use Rattle.changes.specs.declared.Task.{Task}
use Rattle.changes.specs.Changes.{layout_in, input_class_at, sources_of}
use Rattle.changes.specs.Formed.{ListFormed}
use Rattle.changes.specs.Lent.{Accepts, signals_of}
use Rattle.changes.specs.Refusals.{list_checked}
use Rattle.changes.proofs.Accepted.{listed, laid}
use Rattle.inputs.specs.Written.{input_codes, code_at}
use Rattle.inputs.proofs.Laws.{drop_replicate}
use Rattle.search.specs.Search.{search}
use Rattle.visit.specs.Source.{source_from}
use Rattle.visit.specs.Lent.{inputs_known}
use Rattle.outputs.specs.Lent.{OutputsReady}
use Rattle.outputs.proofs.Ready.{outputs_ready}
use Rattle.core_search.specs.Core.{Cored, answered_with, search_of, core_from, core_answer}
use Rattle.core_search.specs.Lent.{NoneKnown}
use Rattle.core_search.proofs.Cards.{sources_known, known_length, known_below, known_afresh}

take_replicate : (g m a : ℕ) → g ≤ m → take g (replicate m a) ≡ replicate g a
take_replicate zero m a h = refl
take_replicate (suc g) zero a h = absurd (omega arith)
take_replicate (suc g) (suc m) a h = ap (λ l. a ∷ l) (take_replicate g m a (omega arith))

-- a first part that comes back as it was lent
pub part_back : (n : ℕ) (all back : List ℕ) → back ≡ take n all → back ++ drop n all ≡ all
part_back n all back e = ap (λ k. k ++ drop n all) e ∙ take-append-drop n all

-- a change writes the inputs' bytes alone
pub none_again : (l : List ℕ) (layout : Layout) (t i : ℕ) (old filled after : List ℕ) → NoneKnown i old → filled ≡ input_codes l layout t i ++ drop i old
    → length filled ≡ length old → after ≡ filled → NoneKnown i after
none_again l layout t i old filled after none e same is =
    ap (drop i) (is ∙ e) ∙ drop_at (input_codes l layout t i) (drop i old) i (length_tab (code_at l layout t) 0 i) ∙ none
    ∙ ap (λ m. drop i (replicate m 8)) (sym (ap length is ∙ same))

-- a change of an accepted list
module _ {repeated : Bool} (n l rows : List ℕ) (task : Task) (a : Accepts repeated n l rows task) (t : ℕ) where
  pub list_formed : ListFormed n l task
  list_formed = listed n l a.accepted

  pub card_formed : Formed n task.shape
  card_formed = formed n list_formed.netlist_accepted

  abbrev known : List ℕ
  known = inputs_known (inputs_of n) (gates_of n) (input_class_at l (layout_in n l) t)

  -- the bytes that a search is lent: the inputs' classes are known, and no gate
  pub known_is : (old filled : List ℕ) → NoneKnown task.shape.inputs old → signals_of task.shape ≤ length old
      → filled ≡ input_codes l task.layout t task.shape.inputs ++ drop task.shape.inputs old → take (signals_of task.shape) filled ≡ known
  known_is old filled none room e =
      let i = task.shape.inputs in
      let g = task.shape.gates in
      let codes = input_codes l task.layout t i in
      let f = card_formed in
      ap₂ take (ap (λ k. k + g) (sym (length_tab (code_at l task.layout t) 0 i))) e
      ∙ take-append-add codes (drop i old) g
      ∙ ap (λ x. codes ++ x) (ap (take g) (none ∙ drop_replicate i (length old) 8) ∙ take_replicate g (length old - i) 8 (omega arith))
      ∙ (λ k. input_codes l (laid n l a.accepted k) t (f.inputs_are k) ++ replicate (f.gates_are k) 8)

  -- a byte for each signal
  pub known_all : length known ≡ signals_of task.shape
  known_all =
      known_length n rows a.decoded (input_class_at l (layout_in n l) t)
      ∙ sym (ap₂ ◌+◌ card_formed.inputs_are card_formed.gates_are)

  -- so the outputs can be searched
  pub searchable : (k : List ℕ) → k ≡ known → (room : ℕ) → task.shape.outputs ≤ room → OutputsReady rows k task.shape room
  searchable k e room enough =
      let v = input_class_at l (layout_in n l) t in
      rw e
      (outputs_ready n l rows task a known known_all (known_afresh n rows a.decoded v)
      (λ i h. known_below n rows a.decoded v i (omega (arith, card_formed.inputs_are))) room enough)

  -- the search runs on the card of the definition
  pub search_is : (k : List ℕ) → k ≡ known → (w s : ℕ) → search (source_from rows k) w s ≡ search (sources_of n l t) w s
  unfolding sources_of
  search_is k e w s = ap (λ k. search (source_from rows k) w s) e ∙ ap (λ src. search src w s) (sources_known n rows a.decoded (input_class_at l (layout_in n l) t))

module _ (n l : List ℕ) (change output : ℕ) where
  -- a refusal is answered
  abbrev Refused : Refusal → Type 0
  Refused refusal = ◌≡◌ {A = Cored} (Err refusal) (core_answer n l change output)

  pub refused_list : (refusal : Refusal) → list_checked n l ≡ Err refusal → Refused refusal
  unfolding core_answer core_from
  refused_list refusal e = rw e

  module _ {task : Task} (e : list_checked n l ≡ Ok task) where
    pub refused_change : task.changes ≤ change → Refused NoChange
    unfolding core_answer core_from refuse
    refused_change late = rw (e, le-leb task.changes change late)

    module _ (early : change < task.changes) where
      pub refused_output : task.shape.outputs ≤ output → Refused NoOutput
      unfolding core_answer core_from refuse
      refused_output none = rw (e, lt-leb task.changes change early, le-leb task.shape.outputs output none)

      pub answers : output < task.shape.outputs → answered_with (search_of n l change output) ≡ core_answer n l change output
      unfolding core_answer core_from refuse
      answers is = rw (e, lt-leb task.changes change early, lt-leb task.shape.outputs output is)
