-- What each analysis keeps, and why full simulation, the forward method and CORE do.
use Rattle.std.specs.Prelude.{◌≡◌, ℕ, ◌≤◌, List, Ok}
use native.Mathlib.Omega.{arith}
use Rattle.netlist.specs.declared.Shape.{Shape}
use Rattle.changes.specs.declared.Task.{Task}
use Rattle.changes.specs.Lent.{signals_of}
use Rattle.changes.specs.Refusals.{list_checked}
use Rattle.lists.specs.Methods.{Method, full_of, forward_of, core_of}
use Rattle.lists.proofs.Rows.{Regular}
use Rattle.lists.proofs.Changes.{card, full_regular, forward_regular, core_regular}

-- the rows of a method for an accepted list have the analysis's width, which is small
pub record AnalysisLaws (method : (netlist list : List ℕ) → Method) (width : Shape → ℕ) : Type 0 where
  pub regular : {task : Task} (n l : List ℕ) → list_checked n l ≡ Ok task → Regular (method n l) (width task.shape)
  pub high : {task : Task} (n l : List ℕ) → list_checked n l ≡ Ok task → width task.shape ≤ 2304

pub full_laws : AnalysisLaws full_of signals_of
full_laws = record {
  regular = λ n l e. full_regular n l e;
  high = λ n l e. omega (arith, (card n l e).inputs_high, (card n l e).gates_high);
}

pub forward_laws : AnalysisLaws forward_of (λ shape. shape.outputs)
forward_laws = record {
  regular = λ n l e. forward_regular n l e;
  high = λ n l e. omega (arith, (card n l e).outputs_high);
}

pub core_laws : AnalysisLaws core_of (λ shape. shape.outputs)
core_laws = record {
  regular = λ n l e. core_regular n l e;
  high = λ n l e. omega (arith, (card n l e).outputs_high);
}
