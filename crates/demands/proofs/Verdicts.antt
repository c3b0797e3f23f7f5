-- Demand 2: every method's verdict is the class's by the wanted set, and the counts are the definitions'. Assumes nothing.
use Rattle.std.specs.Prelude.{Ok}
use Rattle.std.proofs.Common.{◌≡◌, ℕ, ◌+◌, ◌<◌, Bool, true, false, cond, ltb, leb, ◌↔◌, List, map, length, get_or, drop, sym, refl, ap, ◌∙◌, subst, ap₂, arith, eq-eqb, eqb-true}
use mathlib.Core.Option.{some}
use lib.ListN.{get_or-append}
use Rattle.kung.specs.Class.{Class, c0, code, of_code, start, end, clean, input_class, same}
use Rattle.kung.specs.Rule.{gate_class}
use Rattle.kung.specs.Sets.{has}
use Rattle.kung.proofs.Finite.{of_code_code, ≡→T, implies, implied, every_class, class_at_lem, same→≡}
use Rattle.kung.proofs.SetLaws.{iff→≡, same_refl}
use Rattle.kung.proofs.Listed.{length_tab}
use Rattle.circuit.specs.Circuit.{given}
use Rattle.circuit.proofs.Laws.{sources_input}
use Rattle.circuit.proofs.Ends.{class_input, class_gate}
use Rattle.refusals.specs.Refusal.{refuse}
use Rattle.refusals.specs.declared.Refusal.TheVariants.{NoChange, BufferShort}
use Rattle.netlist.specs.Netlist.{inputs_of, gates_of, outputs_of, output_at, gate_kind, gate_pins, card_of}
use Rattle.netlist.specs.Formed.{Formed}
use Rattle.netlist.proofs.Accepted.{formed}
use Rattle.changes.specs.Refusals.{Listed}
use Rattle.changes.specs.Changes.{version_of, layout_in, class_at, input_class_at, sources_of}
use Rattle.changes.proofs.Accepted.{listed}
use Rattle.wanted.specs.Wanted.{wanted_in}
use Rattle.wanted.proofs.Laws.{has_clean, has_declared}
use Rattle.simulate.specs.Full.{class_in, codes, done, left, full_answer, full_buffer}
use Rattle.simulate.proofs.Theorems.{class_value, codes_length, codes_at}
use Rattle.search.specs.Search as definition
use Rattle.visit.specs.declared.Verdict.TheVariants.{Clean, Hazardous}
use Rattle.visit.specs.declared.Found.{Found}
use Rattle.visit.specs.Found.{verdict_code, found_of}
use Rattle.forward.specs.declared.Forwarded.{Forwarded}
use Rattle.core_search.specs.Core.{Cored, answered_with, search_of, core_answer}
use Rattle.core_search.proofs.Theorems.{core_right}
use Rattle.outputs.specs.Outputs.{verdict_byte}
use Rattle.constants.specs.Change.{constants_in, touched_in}
use Rattle.constants.proofs.Constants.{known_given}
use Rattle.constants.proofs.Theorems.{constants_are}
use Rattle.forward.specs.Forward as method
use Rattle.forward.specs.Forward.{ForwardAnswer, counted, visited_in, forward_bytes, output_search, forward_answer, forward_buffer}
use Rattle.forward.proofs.Theorems.{forward_clean, constant_output}
use Rattle.demands.specs.Demands.{
  Accepted,
  first_vector,
  second_vector,
  declared_start,
  declared_end,
  Method,
  full,
  forward,
  core,
  clean_by,
  Calls,
  CleanWith,
  compared,
  Demand2,
}

-- a clean class is the one with its ends
clean_ends : (k : Class) → clean k ≡ true → input_class (start k) (end k) ≡ k
unfolding every_class
clean_ends k h =
    same→≡ _ _
    (implied (clean k) _ (class_at_lem (λ k. implies (clean k) (same (input_class (start k) (end k)) k)) tt k) (≡→T _ h))

with_ends : (s e : Bool) → CleanWith (input_class s e) s e
with_ends false false = record { is_clean_lem = refl; starts_so = refl; ends_so = refl }
with_ends true true = record { is_clean_lem = refl; starts_so = refl; ends_so = refl }
with_ends false true = record { is_clean_lem = refl; starts_so = refl; ends_so = refl }
with_ends true false = record { is_clean_lem = refl; starts_so = refl; ends_so = refl }

clean_with : (k : Class) (s e : Bool) → (same (input_class s e) k ≡ true) ↔ CleanWith k s e
clean_with k s e = (
  (λ h. subst (λ k. CleanWith k s e) (same→≡ (input_class s e) k (≡→T _ h)) (with_ends s e)),
  λ w. ap (λ c. same c k) (sym (ap₂ input_class w.starts_so w.ends_so) ∙ clean_ends k w.is_clean_lem) ∙ same_refl k,
)

-- a verdict on a class is clean with the class's code alone
judged_class : (w : ℕ) (k : Class) (class : ℕ) → Clean class ≡ verdict_code (definition.judged w k) → class ≡ code k
unfolding definition.judged
judged_class w k class = go (has w k)
  where
    go : (b : Bool) → Clean class ≡ verdict_code (cond b (definition.clean k) definition.hazardous) → class ≡ code k
    go true e = cc
    go false e = cc

module _ (n l : List ℕ) (change : ℕ) (a : Accepted n l change) where
  abbrev form : Formed n a.on.task.shape
  form = formed n (listed n l a.on.list_accepted_lem).netlist_accepted

  input_class_lem : (i : ℕ) → i < inputs_of n → class_in n l change i ≡ input_class (first_vector n l change i) (second_vector n l change i)
  unfolding class_in card_of
  input_class_lem = class_input (card_of n) form.well_formed (first_vector n l change) (second_vector n l change)

  gate_class_lem : (g : ℕ) → g < gates_of n → class_in n l change (inputs_of n + g) ≡ gate_class (gate_kind n g) (map (class_in n l change) (gate_pins n g))
  unfolding class_in card_of
  gate_class_lem = class_gate (card_of n) form.well_formed (first_vector n l change) (second_vector n l change)

  -- the class of an output's signal
  abbrev kind : ℕ → Class
  kind output = class_in n l change (output_at n output)

  abbrev wanted : ℕ → ℕ
  wanted output = wanted_in n l change output

  pub output_below : (output : ℕ) → output < outputs_of n → output_at n output < inputs_of n + gates_of n
  output_below output h = omega (arith, form.output_below output (omega (arith, form.outputs_are)), form.inputs_are, form.gates_are)

  full_codes : (buffer : List ℕ) → full_answer n l change buffer ≡ done → (s : ℕ) → s < inputs_of n + gates_of n
      → get_or (full_buffer n l change buffer) s 0 ≡ code (class_in n l change s)
  unfolding full_buffer
  full_codes buffer e s h =
      ap (λ x. get_or (left x (codes n l change) buffer) s 0) e
      ∙ get_or-append (codes n l change) (drop (length (codes n l change)) buffer) 0 s (rw (codes_length n l change) h) ∙ codes_at n l change s h

  bytes_length : length (forward_bytes n l change) ≡ outputs_of n
  unfolding forward_bytes
  bytes_length = length_tab (λ o. verdict_byte (output_search n l change o).verdict) 0 (outputs_of n)

  forward_byte : (buffer : List ℕ) (touched visited : ℕ) → forward_answer n l change buffer ≡ counted touched visited
      → (output : ℕ) → output < outputs_of n → get_or (forward_buffer n l change buffer) output 0 ≡ get_or (forward_bytes n l change) output 0
  unfolding forward_buffer
  forward_byte buffer touched visited e output h =
      ap (λ x. get_or (method.left x (forward_bytes n l change) buffer) output 0) e
      ∙ get_or-append (forward_bytes n l change) (drop (length (forward_bytes n l change)) buffer) 0 output (rw bytes_length h)

  -- CORE's answer by the class
  abbrev answer_by : ℕ → definition.Verdict → Cored
  answer_by output verdict = answered_with (record { verdict = verdict; gates = (search_of n l change output).gates; pins = (search_of n l change output).pins })

  core_is : (output : ℕ) → output < outputs_of n → core_answer n l change output ≡ answer_by output (definition.judged (wanted output) (kind output))
  core_is output h =
      core_right n l a.on.list_accepted_lem change output a.in_range (omega (arith, form.outputs_are))
      ∙ ap (λ k. answer_by output (definition.judged (wanted output) k)) (sym (class_value n l change (output_at n output)))

  -- a verdict on a class is clean exactly where the wanted set has it
  judged_by : (output : ℕ) (w : ℕ) (k : Class) → clean_by (answer_by output (definition.judged w k)) ≡ some (has w k)
  unfolding definition.judged
  judged_by output w k = go (has w k)
    where
      go : (b : Bool) → clean_by (answer_by output (cond b (definition.clean k) definition.hazardous)) ≡ some b
      go true = refl
      go false = refl

  verdicts : (m : Method) (output : ℕ) → output < outputs_of n → (called : Bool) → Calls m n l change output called
      → called ≡ has (wanted output) (kind output)
  verdicts full output h called c =
      sym c.2 ∙ ap (λ b. has (wanted output) (of_code b)) (full_codes c.0 c.1 (output_at n output) (output_below output h))
      ∙ ap (has (wanted output)) (of_code_code (kind output))
  verdicts forward output h called c =
      let e = forward_byte c.0 c.1 c.2 c.3 output h in
      let exactly = forward_clean n l a.on.list_accepted_lem change output h in
      sym c.4
      ∙ iff→≡ _ _ (λ b. exactly.0 (sym e ∙ eqb-true _ 0 b)) (λ k. eq-eqb _ 0 (e ∙ exactly.1 k))
  verdicts core output h called c =
      let e : some called ≡ some (has (wanted output) (kind output)) = sym c ∙ ap clean_by (core_is output h) ∙ judged_by output (wanted output) (kind output) in
      cc

  found_is : (output : ℕ) → output < outputs_of n → (found : Found) → core_answer n l change output ≡ Ok found
      → found ≡ found_of (record { verdict = definition.judged (wanted output) (kind output); gates = (search_of n l change output).gates; pins = (search_of n l change output).pins })
  found_is output h found e = let same = sym e ∙ core_is output h in cc

  core_clean : (output class gates pins : ℕ) → output < outputs_of n → core_answer n l change output ≡ Ok (record { verdict = Clean class; gates = gates; pins = pins })
      → (class ≡ code (kind output)) × (gates ≡ (search_of n l change output).gates) × (pins ≡ (search_of n l change output).pins)
  core_clean output class gates pins h e =
      let same = found_is output h _ e in
      (judged_class (wanted output) (kind output) class (ap (λ f. f.verdict) same), ap (λ f. f.gates) same, ap (λ f. f.pins) same)

  core_hazardous : (output gates pins : ℕ) → output < outputs_of n → core_answer n l change output ≡ Ok (record { verdict = Hazardous; gates = gates; pins = pins })
      → (gates ≡ (search_of n l change output).gates) × (pins ≡ (search_of n l change output).pins)
  core_hazardous output gates pins h e = let same = found_is output h _ e in (ap (λ f. f.gates) same, ap (λ f. f.pins) same)

  forward_counts : (buffer : List ℕ) (touched visited : ℕ) → forward_answer n l change buffer ≡ counted touched visited
      → (touched ≡ touched_in n l change) × (visited ≡ visited_in n l change)
  unfolding forward_answer method.forward_from refuse
  forward_counts buffer touched visited e =
      go (leb a.on.task.changes change) (ltb (length buffer) a.on.task.shape.outputs) (sym (ap judge a.on.list_accepted_lem) ∙ e)
    where
      judge : Listed → ForwardAnswer
      judge x = method.forward_from x change (length buffer) (counted (touched_in n l change) (visited_in n l change))

      go : (b d : Bool) → refuse b NoChange (refuse d BufferShort (counted (touched_in n l change) (visited_in n l change))) ≡ counted touched visited
          → (touched ≡ touched_in n l change) × (visited ≡ visited_in n l change)
      go true d h = cc
      go false true h = cc
      go false false h =
          let same : ◌≡◌ {A = Forwarded} (record { touched = touched; visited = visited }) (record { touched = touched_in n l change; visited = visited_in n l change }) = cc in
          (ap (λ c. c.touched) same, ap (λ c. c.visited) same)

  -- by the list's version
  pub wanted_one : version_of l ≡ 1 → (output : ℕ) (k : Class) → has (wanted output) k ≡ clean k
  wanted_one one output k = has_clean l (layout_in n l) change output one k

  pub wanted_two : version_of l ≡ 2 → (output : ℕ) (k : Class)
      → (has (wanted output) k ≡ true) ↔ CleanWith k (declared_start n l change output) (declared_end n l change output)
  unfolding class_at
  wanted_two two output k =
      let exactly = clean_with k (declared_start n l change output) (declared_end n l change output) in
      let e = has_declared l (layout_in n l) change output two k in
      ((λ h. exactly.0 (sym e ∙ h)), λ w. e ∙ exactly.1 w)

  -- an output on an input, and one on a constant
  on_input : (output : ℕ) → output_at n output < inputs_of n → sources_of n l change (output_at n output) ≡ given (kind output)
  unfolding sources_of card_of class_at
  on_input output h =
      sources_input (card_of n) c0 (input_class_at l (layout_in n l) change) (output_at n output) h ∙ ap given (sym (input_class_lem (output_at n output) h))

  core_input : (output : ℕ) → output_at n output < inputs_of n → search_of n l change output ≡ compared n l change output
  unfolding search_of definition.search
  core_input output h = rw (on_input output h)

  forward_input : (output : ℕ) → output_at n output < inputs_of n → output_search n l change output ≡ compared n l change output
  unfolding output_search definition.search
  forward_input output h = rw (known_given (sources_of n l change) (inputs_of n + gates_of n) (output_at n output) (kind output) (on_input output h))

  forward_constant : (output : ℕ) → output < outputs_of n → (k : Class) → constants_in n l change (output_at n output) ≡ some k
      → output_search n l change output ≡ compared n l change output
  forward_constant output h k known =
      constant_output n l a.on.list_accepted_lem change output k known
      ∙ rw ((constants_are n l a.on.list_accepted_lem change (output_at n output) (output_below output h) k).0 known).0

  pub demand2 : Demand2 n l change
  demand2 =
      record {
        input_class_lem = input_class_lem;
        gate_class_lem = gate_class_lem;
        full_codes = full_codes;
        wanted_one = wanted_one;
        wanted_two = wanted_two;
        verdicts = verdicts;
        verdicts_one = λ one m output h called c. verdicts m output h called c ∙ wanted_one one output (kind output);
        verdicts_two =
            λ two m output h called c.
            let e = verdicts m output h called c in
            let exactly = wanted_two two output (kind output) in
            ((λ t. exactly.0 (sym e ∙ t)), λ w. e ∙ exactly.1 w);
        core_input = core_input;
        forward_input = forward_input;
        forward_constant = forward_constant;
        core_clean = core_clean;
        core_hazardous = core_hazardous;
        forward_counts = forward_counts;
      }
