use Prim.Native.Nat.{◌+◌, ◌*◌, ◌/◌, ◌%◌}
use native.Mathlib.Omega.{arith}
use mathlib.Core.Path.{◌≡◌, ◌∙◌, ap}
use mathlib.Core.List.{◌++◌}
use lib.ListN.{drop}
use Rattle.kung.specs.Tables.{tab}
use Rattle.inputs.specs.Written.{code_from}
use Rattle.inputs.proofs.Laws.{written_none, written_all, part_written, byte_written}
use Rattle.inputs.proofs.fill_inputs.Goals as goal

pub loop-j-init : goal.loop-j-init
loop-j-init c = written_none _ _ _

pub loop-j-preserved : goal.loop-j-preserved
loop-j-preserved c =
    let e : 8 * (c.loop-j.j + 1) ≡ 8 * c.loop-j.j + 8 = omega arith in
    rw e
    (part_written _ _ _ _ 8 _ c.fill_byte.ensures (omega arith) (omega arith)
    ∙ byte_written _ _ _ _ _ _ c.byte_at.ensures c.byte_at-in-loop-j.ensures _ _ 8 (omega arith) c.loop-j.invariant)

pub returns : goal.returns
returns c =
    let n = c.args.task.shape.inputs in
    let e : 8 * (n / 8) + n % 8 ≡ n = omega arith in
    let whole : c.loop-j.j ≡ n / 8 = omega arith in
    part_written _ _ _ _ (n % 8) _ c.fill_byte-2.ensures (omega arith) (omega arith)
    ∙ byte_written _ _ _ _ _ _ c.byte_at-2.ensures c.byte_at-3.ensures _ _ (n % 8) (omega arith) (rw whole at c.loop-j.invariant)
    ∙ rw e (written_all _ _ _)
    ∙ ap (λ first. tab (code_from c.args.list.now first (first + c.args.task.layout.width)) 0 n ++ drop n c.args.buffer.now) c.change_at-first.ensures.value
