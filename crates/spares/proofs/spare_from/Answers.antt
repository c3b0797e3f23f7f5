use Prim.Native.Nat.{◌+◌, ◌-◌, ◌*◌}
use native.Mathlib.Omega.{arith}
use native.Mathlib.Nat.{sub-zero}
use mathlib.Core.Path.{◌≡◌, refl, sym, ◌∙◌}
use lib.ListN.{length}
use Rattle.std.specs.Option.{option_or}
use Rattle.spares.specs.Spares.{width_of, size_of, first_spare}
use Rattle.spares.proofs.Laws.{found, not_found, changes_left, changes_split, changes_end}
use borrow.Author.Rules.{rules}
use Rattle.spares.proofs.spare_from.Goals.{After-or-spare, In-loop-t}
use Rattle.spares.proofs.spare_from.Goals as goal

-- a turn has a whole change before it
whole : (c : In-loop-t)
    → (let a = c.args in
    let size = size_of (width_of a.inputs) (width_of a.declared) in
    length a.list.now ≡ c.loop-t.at + size + (a.changes - (c.loop-t.t + 1)) * size)
whole c =
    let a = c.args in
    omega (arith, changes_left a.changes c.loop-t.t (size_of (width_of a.inputs) (width_of a.declared)) c.loop-t-test.true)

-- what it finds, or what the changes after it have
turn : (c : After-or-spare)
    → (let a = c.args in
    first_spare a.changes a.inputs a.declared a.list.now 11
    ≡ option_or c.or-spare.result
    (first_spare (a.changes - (c.loop-t.t + 1)) a.inputs a.declared a.list.now (c.loop-t.at + size_of (width_of a.inputs) (width_of a.declared))))
turn c =
    rw (c.or-spare.ensures, c.spare_in.ensures, c.spare_in-in-loop-t.ensures)
    (c.loop-t.invariant.3 ∙ changes_split _ _ _ _ _ _ c.loop-t-test.true)

pub loop-t-init : goal.loop-t-init
loop-t-init c = (search rules, search rules, rw sub-zero (search rules), rw sub-zero refl)

pub spare_in-requires : goal.spare_in-requires
spare_in-requires c = (search rules, search rules, omega (arith, whole (goal.at.spare_in-requires c).In-loop-t))

pub spare_in-requires-in-loop-t : goal.spare_in-requires-in-loop-t
spare_in-requires-in-loop-t c = (search rules, search rules, omega (arith, whole (goal.at.spare_in-requires-in-loop-t c).In-loop-t))

pub returns-then-is_some : goal.returns-then-is_some
returns-then-is_some c = found _ _ (sym c.is_some.ensures ∙ c.if-is_some.true) ∙ sym (turn (goal.at.returns-then-is_some c).After-or-spare)

pub loop-t-preserved : goal.loop-t-preserved
loop-t-preserved c = (
  search rules,
  search rules,
  whole (goal.at.loop-t-preserved c).In-loop-t,
  turn (goal.at.loop-t-preserved c).After-or-spare ∙ not_found _ _ (sym c.is_some.ensures ∙ c.if-is_some.false),
)

pub returns : goal.returns
returns c = sym (c.loop-t.invariant.3 ∙ changes_end _ _ _ _ _ _ c.loop-t-test.false)
