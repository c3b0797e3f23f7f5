use Rattle.std.specs.Prelude.{◌≡◌, ℕ, ◌<◌, ◌≤◌, false, List, length, take, drop, Ok}
use native.Mathlib.Omega.{arith}
use mathlib.Core.Path.{◌∙◌, sym, ap, ap₂}
use Rattle.std.proofs.lemmas.Result.{err_from_is_err_and}
use Rattle.netlist.specs.Netlist.{inputs_of, gates_of, output_at}
use Rattle.netlist.specs.Formed.{Formed}
use Rattle.changes.specs.Changes.{layout_in, input_class_at, sources_of}
use Rattle.changes.specs.Formed.{ListFormed}
use Rattle.changes.specs.Lent.{Accepts, signals_of}
use Rattle.changes.specs.Refusals.{list_checked}
use Rattle.changes.proofs.Accepted.{laid}
use Rattle.changes.proofs.Rooms.{in_room, accepts}
use Rattle.wanted.specs.Wanted.{wanted_at}
use Rattle.search.specs.Search as search
use Rattle.visit.specs.Found.{found_of}
use Rattle.visit.specs.Lent.{inputs_known}
use Rattle.outputs.proofs.Ready.{output_is, output_below, rows_long}
use Rattle.core_search.specs.Core.{search_of}
use Rattle.core_search.proofs.Entry.{list_formed, card_formed, known_is, known_all, searchable, search_is}
use Rattle.core_search.proofs.Entry.{refused_list, refused_change, refused_output, answers}
use Rattle.core_search.proofs.core_in.Goals.{In_ok-task, After-fill_inputs, After-output_of-s, After-find}
use Rattle.core_search.proofs.core_in.Goals as goal

-- `core_search::core_in` meets its contract, case by case: the inputs are known, the gates are searched. Assumes nothing.
-- the list is accepted, with what the match binds
module _ (c : In_ok-task) where
  accepted : list_checked c.args.netlist.now c.args.list.now ≡ Ok c.in_ok-task.task
  accepted = sym c.in_ok-task.ensures.value

  given : Accepts false c.args.netlist.now c.args.list.now c.decode.new.rows c.in_ok-task.task
  given =
      let p = c.requires.netlist_in_bounds in
      accepts c.args.netlist.now c.args.list.now accepted p.0 c.args.rows.now p.1 false c.decode.new.rows c.decode.ensures.rows_after

  room : signals_of c.in_ok-task.task.shape ≤ length c.args.known.now
  room = in_room c.args.netlist.now c.args.list.now accepted c.requires.netlist_in_bounds.0

  list_is : ListFormed c.args.netlist.now c.args.list.now c.in_ok-task.task
  list_is = list_formed _ _ _ _ given c.args.change

  card_is : Formed c.args.netlist.now c.in_ok-task.task.shape
  card_is = card_formed _ _ _ _ given c.args.change

-- what is lent as known
module _ (c : After-fill_inputs) where
  abbrev lent : List ℕ
  lent = take (signals_of c.in_ok-task.task.shape) c.fill_inputs.new.buffer

  known : lent
      ≡ inputs_known (inputs_of c.args.netlist.now) (gates_of c.args.netlist.now)
      (input_class_at c.args.list.now (layout_in c.args.netlist.now c.args.list.now) c.args.change)
  known =
      let k = (goal.at.After-fill_inputs c).In_ok-task in
      known_is _ _ _ _ (given k) c.args.change _ _ (ap (drop c.in_ok-task.task.shape.inputs) c.requires.known_value) (room k) c.fill_inputs.ensures

  all_known : length lent ≡ signals_of c.in_ok-task.task.shape
  all_known = ap length known ∙ known_all _ _ _ _ (given (goal.at.After-fill_inputs c).In_ok-task) c.args.change

-- the signal of the output
module _ (c : After-output_of-s) where
  signal : c.output_of-s.result ≡ output_at c.args.netlist.now c.args.output
  signal = c.output_of-s.ensures ∙ output_is _ _ _ _ (given (goal.at.After-output_of-s c).In_ok-task) c.args.output c.if-shape-output.false

  below : c.output_of-s.result < signals_of c.in_ok-task.task.shape
  below =
      let b = output_below _ _ _ _ (given (goal.at.After-output_of-s c).In_ok-task) c.args.output c.if-shape-output.false in
      omega (arith, c.output_of-s.ensures, b)

pub returns-then-task-change : goal.returns-then-task-change
returns-then-task-change c = refused_change _ _ _ _ (accepted (goal.at.returns-then-task-change c).In_ok-task) c.if-task-change.true

pub returns-then-shape-output : goal.returns-then-shape-output
returns-then-shape-output c = refused_output _ _ _ _ (accepted (goal.at.returns-then-shape-output c).In_ok-task) c.if-task-change.false c.if-shape-output.true

pub fill_inputs-requires : goal.fill_inputs-requires
fill_inputs-requires c =
    let k = (goal.at.fill_inputs-requires c).In_ok-task in
    let f = list_is k in
    (f.width_high, f.row_high, omega (arith, f.changes_high, c.if-task-change.false), omega (arith, room k))

pub overflow_add-signals : goal.overflow_add-signals
overflow_add-signals c = let f = card_is (goal.at.overflow_add-signals c).In_ok-task in omega (arith, f.inputs_high, f.gates_high)

pub output_of-s-requires : goal.output_of-s-requires
output_of-s-requires c = omega (arith, rows_long _ _ _ _ (given (goal.at.output_of-s-requires c).In_ok-task), c.if-shape-output.false)

pub wanted_set-wanted-requires : goal.wanted_set-wanted-requires
wanted_set-wanted-requires c =
    let k = (goal.at.wanted_set-wanted-requires c).In_ok-task in
    let f = list_is k in
    (f.width_high, f.row_high, omega (arith, f.changes_high, c.if-task-change.false), omega (arith, c.if-shape-output.false, (card_is k).outputs_high))

pub slice_bounds-find-end : goal.slice_bounds-find-end
slice_bounds-find-end c = omega (arith, room (goal.at.slice_bounds-find-end c).In_ok-task, c.fill_inputs.auto.buffer)

pub slice_bounds-find-end-2 : goal.slice_bounds-find-end-2
slice_bounds-find-end-2 c = sym (all_known (goal.at.slice_bounds-find-end-2 c).After-fill_inputs)

pub find-requires : goal.find-requires
find-requires c =
    let f = (goal.at.find-requires c).After-fill_inputs in
    let k = (goal.at.find-requires c).In_ok-task in
    let r = searchable _ _ _ _ (given k) c.args.change _ (known f) c.in_ok-task.task.shape.outputs (omega arith) in
    (r.ready, r.given, omega (arith, below (goal.at.find-requires c).After-output_of-s, all_known f))

pub returns-in_err-task : goal.returns-in_err-task
returns-in_err-task c =
    let p = err_from_is_err_and c.from_residual.result c.from_residual.ensures.1 in
    rw (p.1, p.2) (refused_list _ _ _ _ _ (sym c.in_err-task.ensures.value))

-- the search is that of the definition
found : (c : After-find) → c.find.result ≡ found_of (search_of c.args.netlist.now c.args.list.now c.args.change c.args.output)
unfolding search_of
found c =
    let k = (goal.at.After-find c).In_ok-task in
    let f = (goal.at.After-find c).After-fill_inputs in
    let o = (goal.at.After-find c).After-output_of-s in
    let n = c.args.netlist.now in
    let l = c.args.list.now in
    let t = c.args.change in
    c.find.ensures.found
    ∙ ap found_of
    (search_is n l _ _ (given k) t _ (known f) _ _
    ∙ ap₂ (search.search (sources_of n l t))
    (c.wanted_set-wanted.ensures ∙ ap (λ layout. wanted_at l layout t c.args.output) (laid n l (accepted k))) (signal o))

pub returns : goal.returns
returns c =
    ap Ok (found (goal.at.returns c).After-find) ∙ answers _ _ _ _ (accepted (goal.at.returns c).In_ok-task) c.if-task-change.false c.if-shape-output.false
