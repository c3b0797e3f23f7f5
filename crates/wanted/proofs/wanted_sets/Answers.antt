use Prim.Native.Nat.{ℕ, ◌*◌, ◌<◌}
use native.Mathlib.Omega.{arith}
use mathlib.Core.Path.{◌≡◌, ◌∙◌, ap}
use lib.ListN.{length, replicate, length-replicate}
use Rattle.inputs.specs.Written.{written}
use Rattle.inputs.proofs.Laws.{written_none, written_next}
use Rattle.wanted.proofs.Laws.{declared_set, sets_are}
use borrow.Author.Rules.{rules}
use Rattle.wanted.proofs.wanted_sets.Goals as goal

pub loop-output-init : goal.loop-output-init
loop-output-init c = (search rules, written_none _ _ _)

pub declared_set-requires : goal.declared_set-requires
declared_set-requires c =
    let p = c.requires in (p.0, p.1, p.2, omega (arith, p.1, c.loop-output-test.true))

pub loop-output-preserved : goal.loop-output-preserved
loop-output-preserved c =
    let p = c.requires in
    let room : c.loop-output.output < length (replicate {A = ℕ} 64 15) = omega (arith, p.1, c.loop-output-test.true, length-replicate {A = ℕ} 64 15) in
    (search rules, written_next _ _ _ room _ c.loop-output.invariant.1 _ c.declared_set.ensures)

pub returns : goal.returns
returns c =
    let e : c.loop-output.output ≡ 8 * c.args.layout.row = search rules in
    c.loop-output.invariant.1 ∙ ap (written (replicate 64 15) 0 (declared_set c.args.list.now c.args.layout c.args.change)) e ∙ sets_are _ _ _ c.requires.1
