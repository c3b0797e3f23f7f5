-- Document 02, "Job 8": CORE's pins are at most its output's cone's. Assumes nothing.
use Rattle.std.proofs.Common.{◌≡◌, ℕ, ◌+◌, ◌<◌, ◌≤◌, true, false, ◌↔◌, List, sym, ap, ◌∙◌, arith}
use mathlib.Core.Option.{some}
use Rattle.netlist.specs.Netlist.{inputs_of, outputs_of, output_at, card_of}
use Rattle.search.specs.Cone.{in_cone, cone_pins, PinPath}
use Rattle.search.proofs.Cones.{input_empty, input_pins, reaches_path}
use Rattle.core_search.specs.Core.{search_of, core_answer}
use Rattle.core_search.proofs.Cards.{cone_most}
use Rattle.core_search.proofs.Entry.{answers}
use Rattle.core_search.proofs.Theorems.{pins_in_cone}
use Rattle.demands.specs.Demands.{Accepted, pins_by, CorePins}
use Rattle.demands.proofs.Refusals.{form}

module _ (n l : List ℕ) (change : ℕ) (a : Accepted n l change) where
  -- the answer's pins are the search's
  searched : (output pins : ℕ) → output < outputs_of n → pins_by (core_answer n l change output) ≡ some pins → pins ≡ (search_of n l change output).pins
  searched output pins h e =
      let same : some pins ≡ some (search_of n l change output).pins =
      sym e ∙ ap pins_by (sym (answers n l change output a.on.list_accepted_lem a.in_range (omega (arith, (form a.on).outputs_are)))) in
      cc

  in_cone_lem : (output pins : ℕ) → output < outputs_of n → pins_by (core_answer n l change output) ≡ some pins → pins ≤ cone_pins (card_of n) (output_at n output)
  in_cone_lem output pins h e = omega (arith, searched output pins h e, pins_in_cone n l a.on.list_accepted_lem change output)

  cone_path : (output g : ℕ) → (in_cone (card_of n) (output_at n output) g ≡ true) ↔ PinPath (card_of n) (inputs_of n + g) (output_at n output)
  unfolding card_of
  cone_path output g = reaches_path (card_of n) (form a.on).well_formed (inputs_of n + g) (output_at n output)

  empty : (output g : ℕ) → output_at n output < inputs_of n → in_cone (card_of n) (output_at n output) g ≡ false
  unfolding card_of
  empty output g = input_empty (card_of n) (output_at n output) g

  input_none : (output pins : ℕ) → output < outputs_of n → pins_by (core_answer n l change output) ≡ some pins → output_at n output < inputs_of n → pins ≡ 0
  unfolding card_of
  input_none output pins h e low = omega (arith, in_cone_lem output pins h e, input_pins (card_of n) (output_at n output) low)

  pub core_pins : CorePins n l change
  core_pins =
      record {
        cone = cone_path;
        empty = empty;
        in_cone_lem = in_cone_lem;
        input_none = input_none;
        within = λ output pins h e. omega (arith, in_cone_lem output pins h e, cone_most n (output_at n output));
      }
