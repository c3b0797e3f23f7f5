use Rattle.std.proofs.Common.{true, drop, sym, ap, arith}
use Rattle.std.proofs.lemmas.Result.{err_from_is_err_and}
use Rattle.changes.proofs.Rooms.{in_room, accepts}
use Rattle.lists.proofs.Changes.{card}
use Rattle.batch.proofs.Answers.{refused_list, refused_room, rows_fit, done}
use Rattle.batch.proofs.judge_in.Goals as goal

-- `batch::judge_in` meets its contract, case by case. Assumes nothing.
pub returns-in_err-task : goal.returns-in_err-task
returns-in_err-task g c =
    let p = err_from_is_err_and c.from_residual.result c.from_residual.ensures.1 in
    rw (p.1, p.2) (refused_list _ _ _ _ _ (sym c.in_err-task.ensures.value))

pub width-requires : goal.width-requires
width-requires g c =
    let f = card _ _ (sym c.in_ok-task.ensures.value) in
    (f.inputs_high, f.gates_high)

pub overflow_mul-task : goal.overflow_mul-task
overflow_mul-task g c =
    let e = sym c.in_ok-task.ensures.value in
    rw c.width.ensures (omega (arith, rows_fit _ _ e _ (g.met.A.Analysis.laws.high _ _ e)))

pub returns-then-buffer-task : goal.returns-then-buffer-task
returns-then-buffer-task g c =
    let e = sym c.in_ok-task.ensures.value in
    refused_room _ _ _ _ e (g.met.A.Analysis.laws.regular _ _ e) (rw c.width.ensures at c.if-buffer-task.true)

pub invariant_of-job : goal.invariant_of-job
invariant_of-job g c =
    let room = c.requires.netlist_in_bounds in
    record { accepts = accepts _ _ (sym c.in_ok-task.ensures.value) room.0 _ room.1 true _ c.decode.ensures.rows_after }

pub judge_rows-requires-clause-buffer_in_bounds : goal.judge_rows-requires-clause-buffer_in_bounds
judge_rows-requires-clause-buffer_in_bounds g c = rw c.width.ensures at c.if-buffer-task.false

pub judge_rows-requires-clause-shape_in_bounds : goal.judge_rows-requires-clause-shape_in_bounds
judge_rows-requires-clause-shape_in_bounds g c =
    let k = c.requires.known_value in
    (in_room _ _ (sym c.in_ok-task.ensures.value) c.requires.netlist_in_bounds.0, k.1, ap (drop c.in_ok-task.task.shape.inputs) k.0)

pub returns : goal.returns
returns g c =
    let e = sym c.in_ok-task.ensures.value in
    done _ _ _ _ e (g.met.A.Analysis.laws.regular _ _ e) (rw c.width.ensures at c.if-buffer-task.false) _ _ c.judge_rows.ensures
