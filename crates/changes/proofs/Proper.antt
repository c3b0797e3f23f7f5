-- `list_checked` accepts exactly the proper lists, and its refusal is the first condition met. Assumes nothing.
use Prim.Native.Nat.{ℕ, zero, suc, ◌+◌, ◌*◌, ◌<◌}
use native.Mathlib.Omega.{arith}
use native.Mathlib.Nat.{add-zero, zero-mul}
use mathlib.Core.Path.{◌≡◌, refl, sym, ◌∙◌}
use mathlib.Core.Bool.{Bool, true, false, cond}
use mathlib.Core.List.{List, [], ◌∷◌}
use mathlib.Core.Logic.{◌⊎◌, inl, inr}
use borrow.Author.Tests.{ltb-false, eqb-true, not-false}
use Rattle.std.specs.Prelude.{Option, Some, None, Ok, Err, ltb}
use Rattle.std.specs.Option.{option_or}
use Rattle.circuit.specs.Circuit.{Each}
use Rattle.words.specs.Words.{outside}
use Rattle.words.proofs.Laws.{within, inside}
use Rattle.refusals.specs.Refusal.{refuse}
use Rattle.refusals.specs.declared.Refusal.TheVariants.{SpareBit}
use Rattle.tie.specs.Tie.{tie_of}
use Rattle.spares.specs.Spares.{last_place, spares_at, spare_at, spare_pair, first_spare}
use Rattle.spares.proofs.Laws.{NoSpare, next_change, none_first, option_or_assoc}
use Rattle.netlist.specs.Netlist.{Checked, inputs_of, outputs_of, shape_of, accepted}
use Rattle.netlist.specs.Proper.{Condition, when, first_met, conditions}
use Rattle.netlist.proofs.Proper.{proper→accepted, accepted→proper, Unmet, first_append, none_met, first_refusal}
use Rattle.changes.specs.declared.Task.{Task}
use Rattle.changes.specs.Changes.{version_of, changes_of, most_changes, declared_of, width_of, layout_in, size_of}
use Rattle.changes.specs.Changes.{Part, first, second, starts, ends, change_at, part_at}
use Rattle.changes.specs.Refusals.{Listed, refuse_spare, after_netlist, against, list_checked}
use Rattle.changes.specs.Proper.{bits_of, ProperList, list_accepted, spare_conditions, own_conditions, list_conditions}
use Rattle.changes.proofs.Refusals.{list_pass}
use Rattle.changes.proofs.Accepted.{one_or_two, listed}

version_inside : (version : ℕ) → (version ≡ 1) ⊎ (version ≡ 2) → outside 1 2 version ≡ false
version_inside version (inl e) = inside 1 2 version (omega arith) (omega arith)
version_inside version (inr e) = inside 1 2 version (omega arith) (omega arith)

pub proper→listed : (n l : List ℕ) → ProperList n l → list_checked n l ≡ list_accepted n l
unfolding list_checked against refuse_spare list_accepted accepted shape_of
proper→listed n l p =
    rw (
      proper→accepted n p.netlist,
      list_pass (inputs_of n) (outputs_of n) (tie_of n) l (list_accepted n l) (record {
        long = p.long;
        mark = p.mark;
        version = version_inside (version_of l) p.version;
        tied = p.tied;
        few = p.changes_high;
        whole = p.whole;
      }),
      none_first (changes_of l) (inputs_of n) (declared_of (version_of l) (outputs_of n)) l 11
          (λ t j. ((p.spare t j first, p.spare t j second), (p.spare t j starts, p.spare t j ends))),
    )

-- each chain of refusals is the list of its conditions
refuse_first : (met : Bool) (at : ℕ) (rest : Option ℕ) (next : Listed)
    → refuse_spare (option_or (cond met (Some at) None) rest) next ≡ cond met (Err (SpareBit at)) (refuse_spare rest next)
unfolding refuse_spare
refuse_first true at rest next = refl
refuse_first false at rest next = refl

refuse_pair : (bits : ℕ) (l : List ℕ) (at : ℕ) (rest : Option ℕ) (next : Listed)
    → refuse_spare (option_or (spare_pair bits l at) rest) next
    ≡ cond (ltb 0 (spares_at bits l at)) (Err (SpareBit (last_place bits at)))
    (cond (ltb 0 (spares_at bits l (at + width_of bits))) (Err (SpareBit (last_place bits (at + width_of bits)))) (refuse_spare rest next))
unfolding spare_pair spare_at
refuse_pair bits l at rest next =
    rw (← option_or_assoc (spare_at bits l at) (spare_at bits l (at + width_of bits)) rest, refuse_first, refuse_first)

spares_first : (n inputs declared : ℕ) (l : List ℕ) (at : ℕ) (next : Listed)
    → refuse_spare (first_spare n inputs declared l at) next ≡ first_met (spare_conditions n inputs declared l at) next
unfolding refuse_spare first_spare spare_conditions first_met
spares_first zero inputs declared l at next = refl
spares_first (suc n) inputs declared l at next =
    rw (
      refuse_pair inputs l at _ next,
      refuse_pair declared l (at + 2 * width_of inputs) _ next,
      spares_first n inputs declared l (at + size_of (width_of inputs) (width_of declared)) next,
    )

own_first : (inputs outputs tie : ℕ) (l : List ℕ) (next : Listed)
    → after_netlist inputs outputs tie l next ≡ first_met (own_conditions inputs outputs tie l) next
unfolding after_netlist own_conditions first_met refuse
own_first inputs outputs tie l next = rw (spares_first (changes_of l) inputs (declared_of (version_of l) outputs) l 11 next)

-- the netlist's conditions are the list's first ones
against_first : (n l : List ℕ) (cs : List Condition) (answer : Checked)
    → against n l (first_met cs answer) ≡ first_met cs (against n l answer)
unfolding against first_met
against_first n l [] answer = refl
against_first n l (when true refusal ∷ rest) answer = refl
against_first n l (when false refusal ∷ rest) answer = against_first n l rest answer

accepted_first : (n l : List ℕ) → against n l (accepted n) ≡ first_met (own_conditions (inputs_of n) (outputs_of n) (tie_of n) l) (list_accepted n l)
unfolding against accepted shape_of list_accepted
accepted_first n l = own_first (inputs_of n) (outputs_of n) (tie_of n) l _

list_first : (n l : List ℕ)
    → list_checked n l ≡ first_met (conditions n) (first_met (own_conditions (inputs_of n) (outputs_of n) (tie_of n) l) (list_accepted n l))
unfolding list_checked
list_first n l = rw (first_refusal n, against_first n l (conditions n) (accepted n), accepted_first n l)

pub first_list_refusal : (n l : List ℕ) → list_checked n l ≡ first_met (list_conditions n l) (list_accepted n l)
unfolding list_conditions
first_list_refusal n l = list_first n l ∙ sym (first_append (conditions n) _ _)

-- where no condition on the spare bits is met there are none
spares_none : (n inputs declared : ℕ) (l : List ℕ) (at : ℕ) → Each Unmet (spare_conditions n inputs declared l at)
    → (t : ℕ) → t < n → NoSpare inputs declared l (at + t * size_of (width_of inputs) (width_of declared))
unfolding spare_conditions Unmet
spares_none zero inputs declared l at h t j = absurd (omega arith)
spares_none (suc n) inputs declared l at h zero j =
    rw (zero-mul, add-zero) (
      (
        omega (arith, ltb-false 0 (spares_at inputs l at) h.0),
        omega (arith, ltb-false 0 (spares_at inputs l (at + width_of inputs)) h.1.0),
      ),
      (
        omega (arith, ltb-false 0 (spares_at declared l (at + 2 * width_of inputs)) h.1.1.0),
        omega (arith, ltb-false 0 (spares_at declared l (at + 2 * width_of inputs + width_of declared)) h.1.1.1.0),
      ),
    )
spares_none (suc n) inputs declared l at h (suc t) j =
    rw (next_change at t (size_of (width_of inputs) (width_of declared))) (spares_none n inputs declared l _ h.1.1.1.1 t (omega arith))

pub listed→proper : {task : Task} (n l : List ℕ) → list_checked n l ≡ Ok task → ProperList n l
unfolding own_conditions Unmet
listed→proper {task} n l h =
    let netlist = none_met (conditions n) _ _ (sym (list_first n l) ∙ h) in
    let own = (none_met (own_conditions (inputs_of n) (outputs_of n) (tie_of n) l) _ _ netlist.1).0 in
    record {
      netlist = accepted→proper n (listed n l h).netlist_accepted;
      long = ltb-false _ _ own.0;
      mark = not-false _ own.1.0;
      version = one_or_two (version_of l) (within 1 2 (version_of l) own.1.1.0);
      tied = eqb-true _ _ (not-false _ own.1.1.1.0);
      changes_high = (within 0 (most_changes (version_of l)) (changes_of l) own.1.1.1.1.0).1;
      whole = eqb-true _ _ (not-false _ own.1.1.1.1.1.0);
      spare = λ t j. of t (spares_none (changes_of l) (inputs_of n) (declared_of (version_of l) (outputs_of n)) l 11 own.1.1.1.1.1.1 t j);
    }
  where
    of : (t : ℕ) → NoSpare (inputs_of n) (declared_of (version_of l) (outputs_of n)) l (change_at (layout_in n l) t) → (part : Part)
        → spares_at (bits_of (inputs_of n) (declared_of (version_of l) (outputs_of n)) part) l (part_at (layout_in n l) t part) ≡ 0
    of t v first = v.0.0
    of t v second = v.0.1
    of t v starts = v.1.0
    of t v ends = v.1.1
