-- What is promised holds: the three demands and what requests added. Assumes nothing.
use Rattle.std.specs.Prelude.{Ok, Err}
use Rattle.std.proofs.Common.{◌≡◌, ℕ, ◌+◌, ◌<◌, ◌≤◌, Bool, true, false, ltb, leb, ◌⊎◌, ◌↔◌, List, length, sym, refl, ◌∙◌, subst, ap₂, inl, inr, true≢false, arith, ltb-true, le-ltb, lt-ltb, le-leb, leb-true}
use borrow.Author.Tests.{lt-leb}
use Rattle.kung.specs.Class.{Class, start, end, clean}
use Rattle.circuit.specs.Settled.{settled}
use Rattle.refusals.specs.Refusal.{refuse}
use Rattle.refusals.specs.declared.Refusal.TheVariants.{NoOutput, BufferShort}
use Rattle.netlist.specs.Netlist.{inputs_of, gates_of, outputs_of, output_at, card_of, accepted}
use Rattle.netlist.proofs.Accepted.{formed}
use Rattle.netlist.proofs.Proper.{first_refusal, accepted→proper, proper→accepted}
use Rattle.changes.specs.Changes.{version_of}
use Rattle.changes.specs.Refusals.{Listed, list_checked}
use Rattle.changes.specs.Proper.{list_accepted}
use Rattle.changes.proofs.Accepted.{listed}
use Rattle.changes.proofs.Proper.{first_list_refusal, listed→proper, proper→listed}
use Rattle.simulate.specs.Full as full
use Rattle.simulate.specs.Full.{class_in, full_answer, full_buffer}
use Rattle.simulate.proofs.Theorems.{starts, ends}
use Rattle.search.specs.Search.{Answer}
use Rattle.visit.specs.Found.{found_of}
use Rattle.core_search.specs.Core.{search_of, core_from, core_answer}
use Rattle.constants.specs.Change.{touched_in}
use Rattle.forward.specs.Forward as forward
use Rattle.forward.specs.Forward.{visited_in, forward_answer, forward_buffer}
use Rattle.forward.specs.declared.Forwarded.{Forwarded}
use Rattle.bench.specs.Bench.{Event, signal_value, after, Complete}
use Rattle.bench.specs.Claim.{Claim}
use Rattle.bench.proofs.Theorem.{holds}
use Rattle.demands.specs.Demands.{
  ListAccepted,
  Accepted,
  first_vector,
  second_vector,
  declared_start,
  declared_end,
  Method,
  Calls,
  Numbers,
  Reading,
  Operations,
  CleanWith,
  Demand2,
  TwiceMore,
  NoMore,
  Otherwise,
  other_start,
  other_end,
  twice_more,
  ShowsAll,
  Demand3,
  Demands,
}
use Rattle.demands.proofs.Refusals.{chain, Cases, cases, form}
use Rattle.demands.proofs.Walks.{opening, step}
use Rattle.demands.proofs.Verdicts.{output_below, demand2}
use Rattle.demands.proofs.Cones.{core_pins}

-- each operation's answer is a chain of refusals
full_chain : (change room : ℕ) (x : Listed) → chain (tt {0}) (λ k. ltb room (k.inputs + k.gates)) BufferShort change x ≡ full.full_from x change room
unfolding full.full_from refuse
full_chain change room (Err refusal) = refl
full_chain change room (Ok task) = refl

forward_chain : (change room : ℕ) (counts : Forwarded) (x : Listed)
    → chain counts (λ k. ltb room k.outputs) BufferShort change x ≡ forward.forward_from x change room (Ok counts)
unfolding forward.forward_from refuse
forward_chain change room counts (Err refusal) = refl
forward_chain change room counts (Ok task) = refl

core_chain : (change output : ℕ) (found : Answer) (x : Listed)
    → chain (found_of found) (λ k. leb k.outputs output) NoOutput change x ≡ core_from x change output found
unfolding core_from refuse
core_chain change output found (Err refusal) = refl
core_chain change output found (Ok task) = refl

-- a test of numbers, both ways
abbrev Decides : Bool → Type 0 → Type 0
Decides b P = ((b ≡ true) ↔ P) × ((P → ⊥) → b ≡ false)

less : (x y z : ℕ) → y ≡ z → Decides (ltb x y) (x < z)
less x y z e =
    (((λ b. subst (λ k. x < k) e (ltb-true x y b)), λ h. lt-ltb x y (subst (λ k. x < k) (sym e) h)), λ h. le-ltb x y (omega arith))

most : (x y z : ℕ) → x ≡ z → Decides (leb x y) (z ≤ y)
most x y z e =
    (((λ b. subst (λ k. k ≤ y) e (leb-true x y b)), λ h. le-leb x y (subst (λ k. k ≤ y) (sym e) h)), λ h. lt-leb x y (omega arith))

module _ (n l : List ℕ) (change output : ℕ) (buffer : List ℕ) where
  -- the last condition of each, by the netlist's numbers
  short : (on : ListAccepted n l) → Decides (ltb (length buffer) (on.task.shape.inputs + on.task.shape.gates)) (length buffer < inputs_of n + gates_of n)
  short on = less (length buffer) (on.task.shape.inputs + on.task.shape.gates) (inputs_of n + gates_of n) (ap₂ ◌+◌ (form on).inputs_are (form on).gates_are)

  few : (on : ListAccepted n l) → Decides (ltb (length buffer) on.task.shape.outputs) (length buffer < outputs_of n)
  few on = less (length buffer) on.task.shape.outputs (outputs_of n) (form on).outputs_are

  none : (on : ListAccepted n l) → Decides (leb on.task.shape.outputs output) (outputs_of n ≤ output)
  none on = most on.task.shape.outputs output (outputs_of n) (form on).outputs_are

  full_cases : Cases (tt {0}) (λ k. ltb (length buffer) (k.inputs + k.gates)) BufferShort change n l (length buffer < inputs_of n + gates_of n)
  full_cases = cases (tt {0}) _ BufferShort change n l _ (λ on. (short on).0) (λ on. (short on).1)

  -- the forward method's counts
  abbrev counts : Forwarded
  counts = record { touched = touched_in n l change; visited = visited_in n l change }

  forward_cases : Cases counts (λ k. ltb (length buffer) k.outputs) BufferShort change n l (length buffer < outputs_of n)
  forward_cases = cases counts _ BufferShort change n l _ (λ on. (few on).0) (λ on. (few on).1)

  core_cases : Cases (found_of (search_of n l change output)) (λ k. leb k.outputs output) NoOutput change n l (outputs_of n ≤ output)
  core_cases = cases (found_of (search_of n l change output)) _ NoOutput change n l _ (λ on. (none on).0) (λ on. (none on).1)

  full_is : chain (tt {0}) (λ k. ltb (length buffer) (k.inputs + k.gates)) BufferShort change (list_checked n l) ≡ full_answer n l change buffer
  unfolding full_answer
  full_is = full_chain change (length buffer) (list_checked n l)

  forward_is : chain counts (λ k. ltb (length buffer) k.outputs) BufferShort change (list_checked n l) ≡ forward_answer n l change buffer
  unfolding forward_answer
  forward_is = forward_chain change (length buffer) counts (list_checked n l)

  core_is : chain (found_of (search_of n l change output)) (λ k. leb k.outputs output) NoOutput change (list_checked n l) ≡ core_answer n l change output
  unfolding core_answer
  core_is = core_chain change output (search_of n l change output) (list_checked n l)

  operations : Operations n l change output buffer
  unfolding full_buffer forward_buffer
  operations =
      record {
        full_done =
            ((λ e. let h = full_cases.answered.0 (full_is ∙ e) in (h.0, omega (arith, h.1))), λ h. sym full_is ∙ full_cases.answered.1 (h.0, λ k. omega arith));
        full_refused = λ refusal. ((λ e. (full_cases.refused refusal).0 (full_is ∙ e)), λ h. sym full_is ∙ (full_cases.refused refusal).1 h);
        full_untouched = λ refusal e. rw e;
        forward_done = (
          (λ e. let h = forward_cases.answered.0 (forward_is ∙ e) in (h.0, omega (arith, h.1))),
          λ h. sym forward_is ∙ forward_cases.answered.1 (h.0, λ k. omega arith),
        );
        forward_refused = λ refusal. ((λ e. (forward_cases.refused refusal).0 (forward_is ∙ e)), λ h. sym forward_is ∙ (forward_cases.refused refusal).1 h);
        forward_untouched = λ refusal e. rw e;
        core_done =
            ((λ e. let h = core_cases.answered.0 (core_is ∙ e) in (h.0, omega (arith, h.1))), λ h. sym core_is ∙ core_cases.answered.1 (h.0, λ k. omega arith));
        core_refused = λ refusal. ((λ e. (core_cases.refused refusal).0 (core_is ∙ e)), λ h. sym core_is ∙ (core_cases.refused refusal).1 h);
      }

numbers : Numbers
numbers = record {
  netlist_short = λ at. (refl, refl);
  count = λ at. (refl, refl);
  cut_off = λ at. (refl, refl);
  kind = λ at. (refl, refl);
  pin_count = λ at. (refl, refl);
  pin = λ at. (refl, refl);
  entry = λ at. (refl, refl);
  bytes_left = λ at. (refl, refl);
  list_short = λ at. (refl, refl);
  list_length = λ at. (refl, refl);
  spare_bit = λ at. (refl, refl);
  netlist_mark = (refl, refl);
  netlist_version = (refl, refl);
  list_mark = (refl, refl);
  list_version = (refl, refl);
  tie = (refl, refl);
  changes = (refl, refl);
  no_change = (refl, refl);
  no_output = (refl, refl);
  buffer_short = (refl, refl);
}

reading : (n l : List ℕ) → Reading n l
unfolding accepted list_accepted
reading n l =
    record {
      netlist_first = first_refusal n;
      list_first = first_list_refusal n l;
      netlist_proper = (accepted→proper n, proper→accepted n);
      list_proper = (listed→proper n l, proper→listed n l);
    }

-- two values are the same or not
decide : (x y : Bool) → (x ≡ y) ⊎ (x ≡ y → ⊥)
decide true true = inl refl
decide false false = inl refl
decide true false = inr true≢false
decide false true = inr (λ e. true≢false (sym e))

module _ (n l : List ℕ) (change : ℕ) (a : Accepted n l change) where
  abbrev claim : Claim (card_of n) (first_vector n l change) (second_vector n l change)
  claim =
      holds (card_of n) (formed n (listed n l a.on.list_accepted_lem).netlist_accepted).well_formed (first_vector n l change) (second_vector n l change)

  -- an output's signal and its class
  abbrev signal : ℕ → ℕ
  signal output = output_at n output

  abbrev kind : ℕ → Class
  kind output = class_in n l change (signal output)

  starts_at : (output : ℕ) → settled (card_of n) (first_vector n l change) (signal output) ≡ start (kind output)
  starts_at output = starts n l change (form a.on) (signal output)

  ends_at : (es : List Event) → Complete (card_of n) (first_vector n l change) (second_vector n l change) es → (output : ℕ) → output < outputs_of n
      → signal_value (card_of n) (first_vector n l change) (after (card_of n) (first_vector n l change) (second_vector n l change) es) (signal output)
      ≡ end (kind output)
  unfolding card_of
  ends_at es done output h = claim.settles es done (signal output) (output_below n l change a output h) ∙ ends n l change (form a.on) (signal output)

  -- a clean class makes no change more, a hazardous one at least two
  no_more : (es : List Event) (output : ℕ) → output < outputs_of n → clean (kind output) ≡ true → NoMore n l change output es
  unfolding class_in card_of
  no_more es output h = claim.stays_clean es (signal output) (output_below n l change a output h)

  twice : (output : ℕ) → output < outputs_of n → clean (kind output) ≡ false → TwiceMore n l change output claim.hazard.0
  unfolding class_in card_of
  twice output h = claim.hazard.1.twice_more (signal output) (output_below n l change a output h)

  -- a class that is not the clean one with the declared ends is hazardous, starts otherwise or ends otherwise
  otherwise : (output : ℕ) → output < outputs_of n → (CleanWith (kind output) (declared_start n l change output) (declared_end n l change output) → ⊥)
      → Otherwise n l change output claim.hazard.0
  otherwise output h not = go (clean (kind output)) refl (decide (start (kind output)) _) (decide (end (kind output)) _)
    where
      go : (b : Bool) → clean (kind output) ≡ b → (let s = declared_start n l change output in (start (kind output) ≡ s) ⊎ (start (kind output) ≡ s → ⊥))
          → (let e = declared_end n l change output in (end (kind output) ≡ e) ⊎ (end (kind output) ≡ e → ⊥)) → Otherwise n l change output claim.hazard.0
      go false c s e = twice_more (twice output h c)
      go true c (inr s) e = other_start (λ x. s (sym (starts_at output) ∙ x))
      go true c (inl s) (inr e) = other_end (λ x. e (sym (ends_at claim.hazard.0 claim.hazard.1.complete output h) ∙ x))
      go true c (inl s) (inl e) = absurd (not (record { is_clean_lem = c; starts_so = s; ends_so = e }))

  abbrev verdict : Demand2 n l change
  verdict = demand2 n l change a

  -- in both versions an output called clean has a clean class
  clean_called : (m : Method) (output : ℕ) → output < outputs_of n → Calls m n l change output true → clean (kind output) ≡ true
  clean_called m output h called = go (listed n l a.on.list_accepted_lem).version_one_or_two
    where
      go : (version_of l ≡ 1) ⊎ (version_of l ≡ 2) → clean (kind output) ≡ true
      go (inl one) = sym (verdict.verdicts_one one m output h true called)
      go (inr two) = ((verdict.verdicts_two two m output h true called).0 refl).is_clean_lem

  settles : (es : List Event) → Complete (card_of n) (first_vector n l change) (second_vector n l change) es → (s : ℕ) → s < inputs_of n + gates_of n
      → signal_value (card_of n) (first_vector n l change) (after (card_of n) (first_vector n l change) (second_vector n l change) es) s
      ≡ settled (card_of n) (second_vector n l change) s
  unfolding card_of
  settles = claim.settles

  shows_all : ShowsAll n l change claim.hazard.0
  shows_all =
      let shows = claim.hazard.1 in
      record {
        is_order = shows.is_order;
        gate_after_gate = shows.gate_after_gate;
        complete = shows.complete;
        all_twice_more = λ one m output h called. twice output h (sym (verdict.verdicts_one one m output h false called));
        all_otherwise = λ two m output h called. otherwise output h (λ w. true≢false (sym ((verdict.verdicts_two two m output h false called).1 w)));
      }

  demand3 : Demand3 n l change
  demand3 =
      record {
        carried_on = claim.carried_on;
        settles = settles;
        stays_clean = λ es m output h called. no_more es output h (clean_called m output h called);
        as_declared =
            λ two es done m output h called.
            let w = (verdict.verdicts_two two m output h true called).0 refl in
            record {
              starts_so = starts_at output ∙ w.starts_so;
              ends_so = ends_at es done output h ∙ w.ends_so;
              no_more = no_more es output h w.is_clean_lem;
            };
        hazard = (claim.hazard.0, shows_all);
      }

pub demands : Demands
demands =
    record {
      demand1 = record { numbers = numbers; reading = reading; operations = operations; opening = opening; step = step };
      demand2 = demand2;
      demand3 = demand3;
      core_pins = core_pins;
    }
