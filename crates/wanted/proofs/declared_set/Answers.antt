use Prim.Native.Nat.{◌+◌, ◌*◌}
use mathlib.Core.Path.{◌∙◌, ap}
use Rattle.kung.specs.Class.{same}
use Rattle.kung.specs.Sets.{set_of}
use Rattle.changes.specs.Changes.{class_at}
use Rattle.wanted.proofs.Laws.{set_by_bytes}
use Rattle.wanted.proofs.declared_set.Goals as goal

-- `wanted::declared_set` meets its contract. Assumes nothing.
pub returns : goal.returns
returns c =
    let a = c.args in
    c.with_class.ensures
    ∙ set_by_bytes _ _ _ _ _ _ c.byte_at.ensures c.byte_at-2.ensures _ c.class_of_bits-class.ensures
    ∙ ap (λ at. set_of (same (class_at a.list.now (at + 2 * a.layout.width) (at + 2 * a.layout.width + a.layout.row) a.output))) c.change_at.ensures.value
