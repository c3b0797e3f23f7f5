use Rattle.std.proofs.Common.{true, length, sym, ap, ◌∙◌, arith}
use Rattle.std.proofs.lemmas.Result.{err_from_is_err_and}
use Rattle.changes.proofs.Rooms.{in_room, accepts}
use Rattle.simulate.proofs.Laws.{filled_passable}
use Rattle.core_search.proofs.Entry.{list_formed, card_formed}
use Rattle.forward.proofs.Answers.{refused_list, refused_change, refused_room, forwarded}
use Rattle.forward.proofs.Changes.{known_by, known_length, searchable, touched_by_lem, visited_by, bytes_by}
use Rattle.forward.proofs.forward_in.Goals as goal

-- `forward::forward_in` meets its contract, case by case: constants spread, then the outputs are searched. Assumes nothing.
pub returns-in_err-task : goal.returns-in_err-task
returns-in_err-task c =
    let p = err_from_is_err_and c.from_residual.result c.from_residual.ensures.1 in
    rw (p.1, p.2) (refused_list _ _ _ _ _ (sym c.in_err-task.ensures.value))

pub returns-then-task-change : goal.returns-then-task-change
returns-then-task-change c = refused_change _ _ _ _ (sym c.in_ok-task.ensures.value) c.if-task-change.true

pub returns-then-buffer-shape : goal.returns-then-buffer-shape
returns-then-buffer-shape c = refused_room _ _ _ _ (sym c.in_ok-task.ensures.value) c.if-task-change.false c.if-buffer-shape.true

pub fill_inputs-requires : goal.fill_inputs-requires
fill_inputs-requires c =
    let e = sym c.in_ok-task.ensures.value in
    let room = c.requires.netlist_in_bounds in
    let f = list_formed _ _ _ _ (accepts _ _ e room.0 _ room.1 true _ c.decode.ensures.rows_after) 0 in
    (f.width_high, f.row_high, omega (arith, f.changes_high, c.if-task-change.false), omega (arith, in_room _ _ e room.0))

pub spread-touched-requires : goal.spread-touched-requires
spread-touched-requires c =
    let e = sym c.in_ok-task.ensures.value in
    let room = c.requires.netlist_in_bounds in
    let r = in_room _ _ e room.0 in
    filled_passable _ _ _ _ (accepts _ _ e room.0 _ room.1 true _ c.decode.ensures.rows_after) _ _ _ c.fill_inputs.ensures _ r
    (omega (arith, r, c.requires.known_in_bounds))

pub overflow_add-signals : goal.overflow_add-signals
overflow_add-signals c =
    let e = sym c.in_ok-task.ensures.value in
    let room = c.requires.netlist_in_bounds in
    let f = card_formed _ _ _ _ (accepts _ _ e room.0 _ room.1 true _ c.decode.ensures.rows_after) 0 in
    omega (arith, f.inputs_high, f.gates_high)

pub wanted_sets-wanted-requires : goal.wanted_sets-wanted-requires
wanted_sets-wanted-requires c =
    let e = sym c.in_ok-task.ensures.value in
    let room = c.requires.netlist_in_bounds in
    let f = list_formed _ _ _ _ (accepts _ _ e room.0 _ room.1 true _ c.decode.ensures.rows_after) 0 in
    (f.width_high, f.row_high, omega (arith, f.changes_high, c.if-task-change.false))

pub slice_bounds-search_outputs-end : goal.slice_bounds-search_outputs-end
slice_bounds-search_outputs-end c =
    omega (arith, in_room _ _ (sym c.in_ok-task.ensures.value) c.requires.netlist_in_bounds.0, c.spread-touched.auto.known, c.fill_inputs.auto.buffer)

pub slice_bounds-search_outputs-end-2 : goal.slice_bounds-search_outputs-end-2
slice_bounds-search_outputs-end-2 c =
    let e = sym c.in_ok-task.ensures.value in
    let room = c.requires.netlist_in_bounds in
    let a = accepts _ _ e room.0 _ room.1 true _ c.decode.ensures.rows_after in
    let r = in_room _ _ e room.0 in
    sym (ap length (known_by _ _ _ _ a c.args.change _ r _ c.fill_inputs.ensures _ c.spread-touched.ensures.known)
    ∙ known_length _ _ _ _ a c.args.change _ r)

pub search_outputs-searched-requires : goal.search_outputs-searched-requires
search_outputs-searched-requires c =
    let e = sym c.in_ok-task.ensures.value in
    let room = c.requires.netlist_in_bounds in
    let a = accepts _ _ e room.0 _ room.1 true _ c.decode.ensures.rows_after in
    let r = in_room _ _ e room.0 in
    searchable _ _ _ _ a c.args.change _ r _
    (known_by _ _ _ _ a c.args.change _ r _ c.fill_inputs.ensures _ c.spread-touched.ensures.known) _ c.if-buffer-shape.false

pub returns : goal.returns
returns c =
    let e = sym c.in_ok-task.ensures.value in
    let room = c.requires.netlist_in_bounds in
    let a = accepts _ _ e room.0 _ room.1 true _ c.decode.ensures.rows_after in
    let r = in_room _ _ e room.0 in
    let k = known_by _ _ _ _ a c.args.change _ r _ c.fill_inputs.ensures _ c.spread-touched.ensures.known in
    forwarded _ _ _ _ e c.if-task-change.false c.if-buffer-shape.false _ _
    (touched_by_lem _ _ _ _ a c.args.change _ r _ c.fill_inputs.ensures _ c.spread-touched.ensures.touched)
    (visited_by _ _ _ _ a c.args.change _ r _ c.wanted_sets-wanted.ensures _ k _ c.search_outputs-searched.ensures.gates)
    _
    (bytes_by _ _ _ _ a c.args.change _ r _ c.wanted_sets-wanted.ensures _ k _ _ c.search_outputs-searched.ensures.bytes)
