-- What acceptance of a change list gives: `listed`, the one theorem of the check that later layers cite. Assumes nothing.
use Prim.Native.Nat.{ℕ, zero, suc, ◌≤◌}
use native.Mathlib.Omega.{arith}
use mathlib.Core.Path.{◌≡◌, refl, sym, ◌∙◌, ap, ap₂}
use mathlib.Core.List.{List}
use mathlib.Core.Logic.{◌⊎◌, inl, inr}
use borrow.Author.Tests.{eqb-true, not-false}
use Rattle.std.specs.Prelude.{Option, Some, None, Ok, Err}
use Rattle.words.proofs.Laws.{within}
use Rattle.refusals.specs.declared.Refusal.TheVariants.{SpareBit}
use Rattle.refusals.proofs.Laws.{refused_not, passed}
use Rattle.netlist.specs.Netlist.{Checked, checked}
use Rattle.netlist.specs.declared.Shape.{Shape}
use Rattle.netlist.proofs.Accepted.{formed}
use Rattle.changes.specs.declared.Task.{Task}
use Rattle.changes.specs.Changes.{version_of, changes_of, most_changes, layout_of, layout_in}
use Rattle.changes.specs.Refusals.{Listed, refuse_spare, after_netlist, task_of, against, list_checked}
use Rattle.changes.specs.Formed.{ListFormed}
use Rattle.changes.proofs.Laws.{version_high}

pub one_or_two : (version : ℕ) → (1 ≤ version) × (version ≤ 2) → (version ≡ 1) ⊎ (version ≡ 2)
one_or_two zero h = absurd (omega arith)
one_or_two (suc zero) h = inl refl
one_or_two (suc (suc zero)) h = inr refl
one_or_two (suc (suc (suc version))) h = absurd (omega arith)

laid_out : (shape : Shape) (l : List ℕ) (task : Task) → task_of shape l ≡ task
    → task.layout ≡ layout_of (version_of l) task.shape.inputs task.shape.outputs
laid_out shape l task e = rw (← e)

-- an accepted netlist has few inputs and outputs
pub few_bits : (n : List ℕ) {shape : Shape} → Ok shape ≡ checked n → (shape.inputs ≤ 256) × (shape.outputs ≤ 64)
few_bits n e = let f = formed n (sym e) in (f.inputs_high, f.outputs_high)

-- an answer that is no refusal was passed on past the spare bits
spare_passed : (spare : Option ℕ) (next : Listed) (task : Task) → refuse_spare spare next ≡ Ok task → next ≡ Ok task
unfolding refuse_spare
spare_passed (Some at) next task h = absurd (refused_not (SpareBit at) task h)
spare_passed None next task h = h

listed_against : (task : Task) (n l : List ℕ) (answer : Checked) → checked n ≡ answer → against n l answer ≡ Ok task → ListFormed n l task
unfolding against after_netlist
listed_against task n l (Err refusal) c h = absurd (refused_not refusal task h)
listed_against task n l (Ok shape) c h =
    let long = passed _ _ _ _ h in
    let mark = passed _ _ _ _ long.1 in
    let version = passed _ _ _ _ mark.1 in
    let tie = passed _ _ _ _ version.1 in
    let few = passed _ _ _ _ tie.1 in
    let whole = passed _ _ _ _ few.1 in
    let accepted : ◌≡◌ {A = Listed} (Ok (task_of shape l)) (Ok task) = spare_passed _ _ _ whole.1 in
    let end : task_of shape l ≡ task = cc in
    let card : checked n ≡ Ok task.shape = c ∙ ap (λ t. Ok t.shape) end in
    let ts : task.changes ≡ changes_of l = sym (ap (λ t. t.changes) end) in
    let ys = laid_out shape l task end in
    let f = formed n card in
    record {
      netlist_accepted = card;
      version_one_or_two = one_or_two (version_of l) (within 1 2 (version_of l) version.0);
      changes_are = ts;
      changes_high =
          omega (arith, within 0 (most_changes (version_of l)) (changes_of l) few.0, version_high (version_of l) 1000 800 1000 (omega arith) (omega arith));
      layout_is = ys;
      width_high = omega (arith, ap (λ y. y.width) ys, f.inputs_high);
      row_high =
          omega (arith, ap (λ y. y.row) ys, version_high (version_of l) 0 task.shape.outputs 64 (omega arith) f.outputs_high);
      tied = eqb-true _ _ (not-false _ tie.0);
      whole = rw (ts, ← ap (λ t. t.layout) end) (eqb-true _ _ (not-false _ whole.0));
    }

pub listed : {task : Task} (n l : List ℕ) → list_checked n l ≡ Ok task → ListFormed n l task
unfolding list_checked
listed {task} n l h = listed_against task n l (checked n) refl h

-- how its changes lie
pub laid : {task : Task} (n l : List ℕ) → list_checked n l ≡ Ok task → task.layout ≡ layout_in n l
laid n l h =
    let f = listed n l h in
    let card = formed n f.netlist_accepted in
    f.layout_is ∙ ap₂ (layout_of (version_of l)) card.inputs_are card.outputs_are
