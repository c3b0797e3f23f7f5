use native.Mathlib.Omega.{arith}
use mathlib.Core.Path.{sym}
use mathlib.Core.Bool.{true}
use Rattle.std.proofs.lemmas.Result.{err_from_is_err_and}
use Rattle.netlist.proofs.Accepted.{formed}
use Rattle.changes.proofs.Accepted.{listed}
use Rattle.changes.proofs.Rooms.{in_room, accepts}
use Rattle.simulate.proofs.Answers.{refused_list, refused_change, refused_room, written}
use Rattle.simulate.proofs.Laws.{filled_passable, swept}
use Rattle.simulate.proofs.full_in.Goals as goal

-- `simulate::full_in` meets its contract, case by case. Assumes nothing.
pub returns-in_err-task : goal.returns-in_err-task
returns-in_err-task c =
    let p = err_from_is_err_and c.from_residual.result c.from_residual.ensures.1 in
    rw (p.1, p.2) (refused_list _ _ _ _ _ (sym c.in_err-task.ensures.value))

pub returns-then-task-change : goal.returns-then-task-change
returns-then-task-change c = refused_change _ _ _ _ (sym c.in_ok-task.ensures.value) c.if-task-change.true

pub overflow_add-shape : goal.overflow_add-shape
overflow_add-shape c =
    let f = formed _ (listed _ _ (sym c.in_ok-task.ensures.value)).netlist_accepted in
    omega (arith, f.inputs_high, f.gates_high)

pub returns-then-buffer-shape : goal.returns-then-buffer-shape
returns-then-buffer-shape c = refused_room _ _ _ _ (sym c.in_ok-task.ensures.value) c.if-task-change.false c.if-buffer-shape.true

pub fill_inputs-requires : goal.fill_inputs-requires
fill_inputs-requires c =
    let f = listed _ _ (sym c.in_ok-task.ensures.value) in
    (f.width_high, f.row_high, omega (arith, f.changes_high, c.if-task-change.false), omega (arith, c.if-buffer-shape.false))

pub pass-requires : goal.pass-requires
pass-requires c =
    let e = sym c.in_ok-task.ensures.value in
    filled_passable _ _ _ _ (accepts _ _ e c.requires.0 _ c.requires.1 true _ c.decode.ensures.rows_after) _ _ _ c.fill_inputs.ensures _
    (omega (arith, c.if-buffer-shape.false)) (in_room _ _ e c.requires.0)

pub returns : goal.returns
returns c =
    let e = sym c.in_ok-task.ensures.value in
    written _ _ _ _ e c.if-task-change.false c.if-buffer-shape.false _
    (swept _ _ _ _ (accepts _ _ e c.requires.0 _ c.requires.1 true _ c.decode.ensures.rows_after) _ _ _ c.fill_inputs.ensures _ c.pass.ensures.codes)
