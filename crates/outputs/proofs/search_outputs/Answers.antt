use Prim.Native.Nat.{◌≤◌}
use native.Mathlib.Omega.{arith}
use mathlib.Core.Path.{◌≡◌, refl, sym, ◌∙◌, ap, subst}
use lib.ListN.{length, get_or}
use Rattle.inputs.proofs.Laws.{written_none, written_kept}
use Rattle.search.specs.Pins.{sum_below}
use Rattle.search.specs.Search as spec
use Rattle.visit.specs.Source.{source_from}
use Rattle.visit.specs.Found.{found_of}
use Rattle.visit.specs.Lent.{SearchReady, InputsGiven}
use Rattle.outputs.proofs.Outputs.{found_is, found_few, found_next, found_byte_lem}
use borrow.Author.Rules.{rules}
use Rattle.outputs.proofs.search_outputs.Goals.{After-find-found, At-loop-output}
use Rattle.outputs.proofs.search_outputs.Goals as goal

pub loop-output-init : goal.loop-output-init
unfolding sum_below
loop-output-init c = (search rules, refl, refl, search rules, search rules, written_none _ _ _, refl)

-- what is found, by what is known at first
found : (c : After-find-found) →
    let a = c.args in
    c.find-found.result ≡ found_of (spec.search (source_from a.rows.now a.known.now) (get_or a.wanted.now c.loop-output.output 0) c.output_of-signal.result)
found c =
    let a = c.args in
    c.find-found.ensures.found
    ∙ ap (λ k. found_of (spec.search (source_from a.rows.now k) (get_or a.wanted.now c.loop-output.output 0) c.output_of-signal.result)) c.loop-output.invariant.6

-- a search visits no more gates than there are signals, and takes no more than eight pins of each
few : (c : After-find-found) → (c.find-found.result.gates ≤ 18432) × (c.find-found.result.pins ≤ 18432)
few c =
    let p = c.requires in
    let at = c.output_of-signal.ensures in
    let below = p.output_below c.loop-output.output c.loop-output-test.true in
    let most = found_few p.ready _ _ (omega arith) _ (found c) in
    (omega (arith, at, p.ready.few_signals, below, most.0), most.1)

pub overflow_add-gates : goal.overflow_add-gates
overflow_add-gates c =
    omega (arith, c.requires.outputs_high, (few (goal.at.overflow_add-gates c).After-find-found).0)

pub overflow_add-pins : goal.overflow_add-pins
overflow_add-pins c =
    omega (arith, c.requires.outputs_high, (few (goal.at.overflow_add-pins c).After-find-found).1)

pub loop-output-preserved : goal.loop-output-preserved
loop-output-preserved c =
    let w = c.args.wanted.now in
    let at = c.output_of-signal.ensures in
    let is = found_is _ _ w _ _ _ at _ (found (goal.at.loop-output-preserved c).After-find-found) in (
      search rules,
      found_next _ _ w _ _ _ at _ (found (goal.at.loop-output-preserved c).After-find-found) (λ a. a.gates) _ _ c.loop-output.invariant.1 (ap (λ c. c.gates) is),
      found_next _ _ w _ _ _ at _ (found (goal.at.loop-output-preserved c).After-find-found) (λ a. a.pins) _ _ c.loop-output.invariant.2 (ap (λ c. c.pins) is),
      omega (arith, (few (goal.at.loop-output-preserved c).After-find-found).0),
      omega (arith, (few (goal.at.loop-output-preserved c).After-find-found).1),
      found_byte_lem _ _ w _ _ _ at _ (found (goal.at.loop-output-preserved c).After-find-found) _ _ c.loop-output.invariant.5 (omega (arith, c.requires.enough)) _ c.byte_of.ensures,
      c.find-found.ensures.known ∙ c.loop-output.invariant.6,
    )
