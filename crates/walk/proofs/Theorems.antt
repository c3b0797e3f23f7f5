-- A walk of an accepted netlist hands back its records in order, and a refused netlist opens none; no byte is the answer of a step that gives
-- none, and no other. Assumes nothing.
use Rattle.std.specs.Prelude.{Option, Some, None, Ok, Err}
use Prim.Native.Nat.{ℕ, zero, suc, ◌+◌, ◌-◌, ◌≤◌, ◌<◌}
use native.Mathlib.Omega.{arith}
use native.Mathlib.Numerals.{add-one}
use mathlib.Core.Path.{◌≡◌, refl, sym, ◌∙◌, ap}
use mathlib.Core.List.{List}
use lib.ListN.{drop, length-drop}
use lib.Seq.{length-take-le}
use denote.Ref.{Bor}
use Rattle.refusals.specs.declared.Refusal.{Refusal}
use Rattle.netlist.specs.declared.Shape.{Shape}
use Rattle.netlist.specs.Netlist.{gates_of, place_of, checked}
use Rattle.netlist.specs.Formed.{Formed}
use Rattle.netlist.proofs.Accepted.{formed}
use Rattle.walk.specs.declared.Walk.{Walk}
use Rattle.walk.specs.Walk.{part, found, handed, stepped, walk_at, walk_of, opened, size_of, after, HandsBack}
use Rattle.walk.proofs.Laws.{whole_formed, whole_room, found_none, found_record, record_found}

-- what a step does, by what it finds
module _ (w : Walk) where
  pub finds : (past : ℕ) → found w ≡ Some past
      → (handed w ≡ Some (part w.netlist.now w.place past)) × (stepped w ≡ record { netlist = w.netlist; number = w.number + 1; place = past; count = w.count })
  finds past e = (rw e, rw e)

  pub none : found w ≡ None → (handed w ≡ None) × (stepped w ≡ w)
  none e = (rw e, rw e)

  -- a record has bytes, so a step that hands back none, or a part without any, has found none
  pub empty_none : size_of (handed w) ≡ 0 → found w ≡ None
  empty_none h = go (found w) refl
    where
      go : (f : Option ℕ) → found w ≡ f → f ≡ None
      go (Some past) e =
          let r = record_found w.netlist.now w.place w.number w.count past e in
          let room = whole_room w.netlist.now w.place r.1 in
          let d = length-drop w.place w.netlist.now in
          let long = length-take-le (past - w.place) (drop w.place w.netlist.now) (omega (arith, r.2, room, d)) in
          let empty = ap size_of (sym (finds past e).0) ∙ h in
          absurd (omega (arith, r.2, long, empty))
      go None e = refl

module _ (s : Bor (List ℕ)) {shape : Shape} (accepted : checked s.now ≡ Ok shape) where
  form : Formed s.now shape
  form = formed s.now accepted

  -- the walk where it has reached gate k's record
  abbrev at_gate : ℕ → Walk
  at_gate k = walk_at s k (place_of s.now k) (gates_of s.now)

  at_record : (k : ℕ) → k < gates_of s.now → found (at_gate k) ≡ Some (place_of s.now (suc k))
  unfolding place_of
  at_record k h = sym (found_record s.now (place_of s.now k) k (gates_of s.now) h (whole_formed s.now (place_of s.now k) (form.records k (omega (arith, form.gates_are)))))

  at_end : found (at_gate (gates_of s.now)) ≡ None
  at_end = sym (found_none s.now (place_of s.now (gates_of s.now)) (gates_of s.now) (gates_of s.now) (omega arith))

  reaches : (k : ℕ) → k ≤ gates_of s.now → after k (walk_of s) ≡ at_gate k
  unfolding after place_of
  reaches zero h = refl
  reaches (suc k) h = ap stepped (reaches k (omega arith)) ∙ (finds (at_gate k) _ (at_record k (omega arith))).1 ∙ rw (add-one k)

  pub hands_back : HandsBack s
  hands_back = record {
    opens = λ given e. rw e (rw (formed s.now e).gates_are);
    in_order = λ k h. rw (reaches k (omega arith)) (finds (at_gate k) _ (at_record k h)).0;
    then_none = rw (reaches (gates_of s.now) (omega arith)) (none (at_gate (gates_of s.now)) at_end).0;
    then_unchanged = rw (reaches (gates_of s.now) (omega arith)) (none (at_gate (gates_of s.now)) at_end).1;
  }

pub refused_none : (s : Bor (List ℕ)) (refusal : Refusal) → checked s.now ≡ Err refusal → opened s ≡ Err refusal
refused_none s refusal refused = rw refused
