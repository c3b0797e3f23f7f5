use Prim.Native.Nat.{◌+◌, ◌*◌}
use native.Mathlib.Omega.{arith}
use mathlib.Core.Path.{◌≡◌, sym, subst}
use Rattle.spares.specs.Spares.{width_of, size_of}
use Rattle.spares.specs.Looked.{PairClear}
use Rattle.spares.proofs.Laws.{none_first}
use Rattle.spares.proofs.first_spare.Goals.{then-may_spare, else-may_spare}
use Rattle.spares.proofs.first_spare.Goals as goal

-- `spares::first_spare` meets its contract: where nothing is seen none is spare. Assumes nothing.
pub returns-else-may_spare-2 : goal.returns-else-may_spare-2
returns-else-may_spare-2 c =
    let a = c.args in
    let at = 11 + 2 * width_of a.inputs in
    let size = size_of (width_of a.inputs) (width_of a.declared) in
    elim c.if-may_spare.branch [
      | then-may_spare w ↦ absurd (cc)
      | else-may_spare w ↦
          sym (none_first a.changes a.inputs a.declared a.list.now 11 (λ t h.
          let same : at + t * size ≡ 11 + t * size + 2 * width_of a.inputs = omega arith in (
            c.may_spare.ensures.clear w.if-may_spare.false t h,
            subst (PairClear a.declared a.list.now) same (w.may_spare-else-may_spare.ensures.clear (cc) t h),
          )))
    ]
