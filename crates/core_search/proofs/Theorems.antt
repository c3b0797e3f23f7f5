-- CORE is right: for every accepted netlist and list, each change and output. Assumes nothing.
use Rattle.std.specs.Prelude.{◌≡◌, ℕ, ◌+◌, ◌<◌, ◌≤◌, List, Ok}
use native.Mathlib.Omega.{arith}
use mathlib.Core.Path.{sym, ◌∙◌, ap}
use Rattle.kung.specs.Class.{c0}
use Rattle.kung.specs.Rule.{gate_class}
use Rattle.circuit.specs.Circuit.{value, Falling, WellFormed}
use Rattle.circuit.proofs.Laws.{sources_falling}
use Rattle.netlist.specs.Netlist.{output_at, card_of}
use Rattle.netlist.proofs.Accepted.{formed}
use Rattle.changes.specs.declared.Task.{Task}
use Rattle.changes.specs.Changes.{layout_in, input_class_at, sources_of}
use Rattle.changes.specs.Refusals.{list_checked}
use Rattle.changes.proofs.Accepted.{listed}
use Rattle.wanted.specs.Wanted.{wanted_in}
use Rattle.search.specs.Search.{judged}
use Rattle.search.specs.Cone.{cone_pins}
use Rattle.search.proofs.Right.{search_right}
use Rattle.search.proofs.Cones.{search_cone}
use Rattle.search.proofs.Counts.{search_gates}
use Rattle.core_search.specs.Core.{answered_with, search_of, core_answer}
use Rattle.core_search.proofs.Cards.{cone_most}
use Rattle.core_search.proofs.Entry.{answers}

module _ {task : Task} (n l : List ℕ) (accepted : list_checked n l ≡ Ok task) (change output : ℕ) where
  abbrev wanted : ℕ
  wanted = wanted_in n l change output

  well_formed : WellFormed (card_of n)
  well_formed = (formed n (listed n l accepted).netlist_accepted).well_formed

  falling : Falling (sources_of n l change)
  unfolding sources_of
  falling = sources_falling (card_of n) c0 (input_class_at l (layout_in n l) change) well_formed

  -- "CORE never takes more pins than the output's cone has"
  pub pins_in_cone : (search_of n l change output).pins ≤ cone_pins (card_of n) (output_at n output)
  unfolding search_of sources_of
  pins_in_cone = search_cone (card_of n) well_formed c0 (input_class_at l (layout_in n l) change) (output_at n output) wanted

  -- so never more than P
  pub pins_within : (search_of n l change output).pins ≤ task.shape.pins
  pins_within = omega (arith, pins_in_cone, cone_most n (output_at n output), (formed n (listed n l accepted).netlist_accepted).pins_are)

  -- each gate but the first is reached through a pin of its own
  pub gates_within : (search_of n l change output).gates ≤ (search_of n l change output).pins + 1
  unfolding search_of
  gates_within = search_gates (sources_of n l change) falling wanted (output_at n output)

  -- clean with its class exactly where that is in the wanted set
  pub core_right : change < task.changes → output < task.shape.outputs
      → core_answer n l change output
      ≡ answered_with (record {
        verdict = judged wanted (value gate_class c0 (sources_of n l change) (output_at n output));
        gates = (search_of n l change output).gates;
        pins = (search_of n l change output).pins;
      })
  unfolding search_of
  core_right early is =
      sym (answers n l change output accepted early is)
      ∙ ap (λ v. answered_with (record { verdict = v; gates = (search_of n l change output).gates; pins = (search_of n l change output).pins }))
      (search_right (sources_of n l change) falling wanted (output_at n output))
