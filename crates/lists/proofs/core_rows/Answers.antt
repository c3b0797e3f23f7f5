use Rattle.std.proofs.Common.{◌≡◌, ℕ, ◌+◌, ◌*◌, ◌≤◌, List, ◌++◌, length, take, drop, sym, refl, ap, ◌∙◌, arith}
use Rattle.changes.specs.Lent.{signals_of}
use Rattle.core_search.proofs.Entry.{part_back, none_again, known_is, known_all, searchable}
use Rattle.lists.specs.Methods.{core_sum}
use Rattle.lists.proofs.Rows as loop
use Rattle.lists.proofs.Turns.{signals_high, turn_high, readable, fillable}
use Rattle.lists.proofs.Changes.{inputs_for, Counted, counted_none, counted_next, core_regular_for, searched_high, sums_are, bytes_are}
use Rattle.lists.proofs.Left.{after_none, after_next}
use Rattle.lists.proofs.core_rows.Goals.{After-fill_inputs, After-search_outputs-searched, At-loop-change, In-loop-change}
use Rattle.lists.proofs.core_rows.Goals as goal

pub overflow_add-signals : goal.overflow_add-signals
overflow_add-signals c = omega (arith, signals_high c.args.job.accepts)

pub loop-change-init : goal.loop-change-init
loop-change-init c = record {
  rows = loop.begun_none (core_regular_for c.args.job) _ _;
  visited = counted_none _;
  taken = counted_none _;
  none_known = c.requires.shape_in_bounds.1;
  known_kept = refl;
  known = after_none _ _;
}

-- a byte for each signal, and room for the next row
told : (c : At-loop-change) → signals_of c.args.job.task.shape ≤ length c.loop-change.known
told c = omega (arith, c.requires.shape_in_bounds.0, c.loop-change.invariant.known_kept)

room : (c : In-loop-change) → let w = c.args.job.task.shape.outputs in
    (length c.loop-change.buffer ≡ length c.args.buffer.now) × (c.loop-change.change * w + w ≤ length c.loop-change.buffer)
room c =
    let r = core_regular_for c.args.job in
    let rows = c.loop-change.invariant.rows in
    (loop.kept r c.requires.buffer_in_bounds rows, loop.room r c.requires.buffer_in_bounds rows c.loop-change-test.true)

-- what is lent as known
module _ (c : After-fill_inputs) where
  abbrev lent : List ℕ
  lent = take (signals_of c.args.job.task.shape) c.fill_inputs.new.buffer

  known : lent ≡ inputs_for c.args.job c.loop-change.change
  known =
      known_is _ _ _ _ c.args.job.accepts c.loop-change.change _ _ c.loop-change.invariant.none_known (told (goal.at.After-fill_inputs c).At-loop-change)
      c.fill_inputs.ensures

-- the counts with this change's
module _ (c : After-search_outputs-searched) where
  visited : Counted (core_sum (λ a. a.gates) c.args.job.netlist.now c.args.job.list.now) (c.loop-change.change + 1) (c.loop-change.visited + c.search_outputs-searched.result.gates)
  visited =
      counted_next c.loop-change.invariant.visited _
      (c.search_outputs-searched.ensures.gates
      ∙ sums_are c.args.job c.loop-change.change _ (known (goal.at.After-search_outputs-searched c).After-fill_inputs) _ c.wanted_sets-wanted.ensures (λ a. a.gates))
      (searched_high _ _ c.args.job.accepts.accepted c.loop-change.change).0

  taken : Counted (core_sum (λ a. a.pins) c.args.job.netlist.now c.args.job.list.now) (c.loop-change.change + 1) (c.loop-change.taken + c.search_outputs-searched.result.pins)
  taken =
      counted_next c.loop-change.invariant.taken _
      (c.search_outputs-searched.ensures.pins
      ∙ sums_are c.args.job c.loop-change.change _ (known (goal.at.After-search_outputs-searched c).After-fill_inputs) _ c.wanted_sets-wanted.ensures (λ a. a.pins))
      (searched_high _ _ c.args.job.accepts.accepted c.loop-change.change).1

  -- a search leaves what is known
  again : c.search_outputs-searched.new.known ++ drop (signals_of c.args.job.task.shape) c.fill_inputs.new.buffer ≡ c.fill_inputs.new.buffer
  again = part_back (signals_of c.args.job.task.shape) _ _ c.search_outputs-searched.ensures.known

pub overflow_mul-at : goal.overflow_mul-at
overflow_mul-at c = omega (arith, room (goal.at.overflow_mul-at c).In-loop-change)

pub fill_inputs-requires : goal.fill_inputs-requires
fill_inputs-requires c = fillable c.args.job.accepts c.loop-change-test.true (told (goal.at.fill_inputs-requires c).At-loop-change)

pub wanted_sets-wanted-requires : goal.wanted_sets-wanted-requires
wanted_sets-wanted-requires c = readable c.args.job.accepts c.loop-change-test.true

pub slice_bounds-search_outputs-end : goal.slice_bounds-search_outputs-end
slice_bounds-search_outputs-end c = omega (arith, told (goal.at.slice_bounds-search_outputs-end c).At-loop-change, c.fill_inputs.auto.buffer)

pub slice_bounds-search_outputs-end-in-loop-change : goal.slice_bounds-search_outputs-end-in-loop-change
slice_bounds-search_outputs-end-in-loop-change c =
    sym (ap length (known (goal.at.slice_bounds-search_outputs-end-in-loop-change c).After-fill_inputs) ∙ known_all _ _ _ _ c.args.job.accepts c.loop-change.change)

pub slice_bounds-search_outputs-count : goal.slice_bounds-search_outputs-count
slice_bounds-search_outputs-count c = omega (arith, room (goal.at.slice_bounds-search_outputs-count c).In-loop-change)

pub slice_bounds-search_outputs-start : goal.slice_bounds-search_outputs-start
slice_bounds-search_outputs-start c = omega (arith, room (goal.at.slice_bounds-search_outputs-start c).In-loop-change)

pub search_outputs-searched-requires : goal.search_outputs-searched-requires
search_outputs-searched-requires c =
    let a = c.args.job.accepts in
    searchable _ _ _ _ a c.loop-change.change _ (known (goal.at.search_outputs-searched-requires c).After-fill_inputs) _
    (loop.row_room (core_regular_for c.args.job) c.requires.buffer_in_bounds c.loop-change.invariant.rows c.loop-change-test.true)

pub overflow_add-visited : goal.overflow_add-visited
overflow_add-visited c =
    omega (arith, (visited (goal.at.overflow_add-visited c).After-search_outputs-searched).high, turn_high c.args.job.accepts c.loop-change-test.true)

pub overflow_add-taken : goal.overflow_add-taken
overflow_add-taken c =
    omega (arith, (taken (goal.at.overflow_add-taken c).After-search_outputs-searched).high, turn_high c.args.job.accepts c.loop-change-test.true)

pub loop-change-preserved : goal.loop-change-preserved
loop-change-preserved c =
    let a = c.args.job.accepts in
    let i = c.loop-change.invariant in
    let s = (goal.at.loop-change-preserved c).After-search_outputs-searched in
    record {
      rows =
          loop.begun_next (core_regular_for c.args.job) c.requires.buffer_in_bounds i.rows c.loop-change-test.true _
          (c.search_outputs-searched.ensures.bytes
          ∙ bytes_are c.args.job c.loop-change.change _ (known (goal.at.loop-change-preserved c).After-fill_inputs) _ c.wanted_sets-wanted.ensures _);
      visited = visited s;
      taken = taken s;
      none_known =
          none_again c.args.job.list.now c.args.job.task.layout c.loop-change.change c.args.job.task.shape.inputs c.loop-change.known _ _ i.none_known c.fill_inputs.ensures
          c.fill_inputs.auto.buffer (again s);
      known_kept = ap length (again s) ∙ c.fill_inputs.auto.buffer ∙ i.known_kept;
      known = after_next _ _ c.loop-change.change _ _ i.known (again s ∙ c.fill_inputs.ensures);
    }

pub shape_of-buffer : goal.shape_of-buffer
shape_of-buffer c = loop.kept (core_regular_for c.args.job) c.requires.buffer_in_bounds c.loop-change.invariant.rows

pub returns : goal.returns
returns c =
    let i = c.loop-change.invariant in
    let few = i.rows.few in
    let e : c.loop-change.change ≡ c.args.job.task.changes = omega arith in
    record {
      judges = loop.judges (core_regular_for c.args.job) c.requires.buffer_in_bounds i.rows (omega arith) _ _ i.visited.is i.taken.is;
      known = rw e at i.known;
    }
