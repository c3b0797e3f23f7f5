use Rattle.std.proofs.Common.{◌≡◌, ℕ, ◌+◌, ◌*◌, ◌≤◌, List, ◌++◌, length, take, drop, sym, refl, ap, ◌∙◌, arith}
use Rattle.changes.specs.Lent.{signals_of}
use Rattle.simulate.proofs.Laws.{filled_passable}
use Rattle.core_search.proofs.Entry.{part_back}
use Rattle.constants.specs.Change.{touched_in}
use Rattle.forward.specs.Forward.{visited_in}
use Rattle.forward.proofs.Changes as changes
use Rattle.lists.proofs.Rows as loop
use Rattle.lists.proofs.Turns.{signals_high, turn_high, readable, fillable}
use Rattle.lists.proofs.Changes.{Counted, counted_none, counted_next, forward_regular_for, touched_high, visited_high}
use Rattle.lists.proofs.Left.{after_none, after_next, heated_by, known_constants_by}
use Rattle.lists.proofs.forward_rows.Goals.{After-search_outputs-searched, After-spread-touched, At-loop-change, In-loop-change}
use Rattle.lists.proofs.forward_rows.Goals as goal

pub overflow_add-signals : goal.overflow_add-signals
overflow_add-signals c = omega (arith, signals_high c.args.job.accepts)

pub loop-change-init : goal.loop-change-init
loop-change-init c = record {
  rows = loop.begun_none (forward_regular_for c.args.job) _ _;
  touched = counted_none _;
  visited = counted_none _;
  known_kept = refl;
  hot_kept = refl;
  known = after_none _ _;
  hot = after_none _ _;
}

-- a byte for each signal, and room for the next row
told : (c : At-loop-change) → signals_of c.args.job.task.shape ≤ length c.loop-change.known
told c = omega (arith, c.requires.shape_in_bounds.0, c.loop-change.invariant.known_kept)

room : (c : In-loop-change) → let w = c.args.job.task.shape.outputs in
    (length c.loop-change.buffer ≡ length c.args.buffer.now) × (c.loop-change.change * w + w ≤ length c.loop-change.buffer)
room c =
    let r = forward_regular_for c.args.job in
    let rows = c.loop-change.invariant.rows in
    (loop.kept r c.requires.buffer_in_bounds rows, loop.room r c.requires.buffer_in_bounds rows c.loop-change-test.true)

-- what is lent as known
module _ (c : After-spread-touched) where
  abbrev lent : List ℕ
  lent = take (signals_of c.args.job.task.shape) c.spread-touched.new.known

  known : lent ≡ changes.known _ _ _ _ c.args.job.accepts c.loop-change.change c.loop-change.known (told (goal.at.After-spread-touched c).At-loop-change)
  known =
      changes.known_by _ _ _ _ c.args.job.accepts c.loop-change.change _ (told (goal.at.After-spread-touched c).At-loop-change) _ c.fill_inputs.ensures _
      c.spread-touched.ensures.known

  -- the touched count with this change's
  touched : Counted (touched_in c.args.job.netlist.now c.args.job.list.now) (c.loop-change.change + 1) (c.loop-change.touched + c.spread-touched.result)
  touched =
      counted_next c.loop-change.invariant.touched _
      (changes.touched_by_lem _ _ _ _ c.args.job.accepts c.loop-change.change _ (told (goal.at.After-spread-touched c).At-loop-change) _ c.fill_inputs.ensures _
      c.spread-touched.ensures.touched)
      (touched_high _ _ c.args.job.accepts.accepted c.loop-change.change)

module _ (c : After-search_outputs-searched) where
  -- the gates visited with this change's
  visited : Counted (visited_in c.args.job.netlist.now c.args.job.list.now) (c.loop-change.change + 1) (c.loop-change.visited + c.search_outputs-searched.result.gates)
  visited =
      counted_next c.loop-change.invariant.visited _
      (changes.visited_by _ _ _ _ c.args.job.accepts c.loop-change.change _ (told (goal.at.After-search_outputs-searched c).At-loop-change) _
      c.wanted_sets-wanted.ensures _ (known (goal.at.After-search_outputs-searched c).After-spread-touched) _ c.search_outputs-searched.ensures.gates)
      (visited_high _ _ c.args.job.accepts.accepted c.loop-change.change)

  -- a search leaves what is known
  again : c.search_outputs-searched.new.known ++ drop (signals_of c.args.job.task.shape) c.spread-touched.new.known ≡ c.spread-touched.new.known
  again = part_back (signals_of c.args.job.task.shape) _ _ c.search_outputs-searched.ensures.known

pub overflow_mul-at : goal.overflow_mul-at
overflow_mul-at c = omega (arith, room (goal.at.overflow_mul-at c).In-loop-change)

pub fill_inputs-requires : goal.fill_inputs-requires
fill_inputs-requires c = fillable c.args.job.accepts c.loop-change-test.true (told (goal.at.fill_inputs-requires c).At-loop-change)

pub spread-touched-requires : goal.spread-touched-requires
spread-touched-requires c =
    let i = c.loop-change.invariant in
    let t = told (goal.at.spread-touched-requires c).At-loop-change in
    filled_passable _ _ _ _ c.args.job.accepts _ _ _ c.fill_inputs.ensures _ t (omega (arith, t, c.requires.shape_in_bounds.1, i.known_kept, i.hot_kept))

pub overflow_add-touched : goal.overflow_add-touched
overflow_add-touched c =
    omega (arith, (touched (goal.at.overflow_add-touched c).After-spread-touched).high, turn_high c.args.job.accepts c.loop-change-test.true)

pub wanted_sets-wanted-requires : goal.wanted_sets-wanted-requires
wanted_sets-wanted-requires c = readable c.args.job.accepts c.loop-change-test.true

pub slice_bounds-search_outputs-end : goal.slice_bounds-search_outputs-end
slice_bounds-search_outputs-end c =
    omega (arith, told (goal.at.slice_bounds-search_outputs-end c).At-loop-change, c.spread-touched.auto.known, c.fill_inputs.auto.buffer)

pub slice_bounds-search_outputs-end-in-loop-change : goal.slice_bounds-search_outputs-end-in-loop-change
slice_bounds-search_outputs-end-in-loop-change c =
    let k = goal.at.slice_bounds-search_outputs-end-in-loop-change c in
    sym (ap length (known k.After-spread-touched) ∙ changes.known_length _ _ _ _ c.args.job.accepts c.loop-change.change _ (told k.At-loop-change))

pub slice_bounds-search_outputs-count : goal.slice_bounds-search_outputs-count
slice_bounds-search_outputs-count c = omega (arith, room (goal.at.slice_bounds-search_outputs-count c).In-loop-change)

pub slice_bounds-search_outputs-start : goal.slice_bounds-search_outputs-start
slice_bounds-search_outputs-start c = omega (arith, room (goal.at.slice_bounds-search_outputs-start c).In-loop-change)

pub search_outputs-searched-requires : goal.search_outputs-searched-requires
search_outputs-searched-requires c =
    let a = c.args.job.accepts in
    let k = goal.at.search_outputs-searched-requires c in
    changes.searchable _ _ _ _ a c.loop-change.change _ (told k.At-loop-change) _ (known k.After-spread-touched) _
    (loop.row_room (forward_regular_for c.args.job) c.requires.buffer_in_bounds c.loop-change.invariant.rows c.loop-change-test.true)

pub overflow_add-visited : goal.overflow_add-visited
overflow_add-visited c =
    omega (arith, (visited (goal.at.overflow_add-visited c).After-search_outputs-searched).high, turn_high c.args.job.accepts c.loop-change-test.true)

pub loop-change-preserved : goal.loop-change-preserved
loop-change-preserved c =
    let a = c.args.job.accepts in
    let i = c.loop-change.invariant in
    let k = goal.at.loop-change-preserved c in
    let s = k.After-search_outputs-searched in
    record {
      rows =
          loop.begun_next (forward_regular_for c.args.job) c.requires.buffer_in_bounds i.rows c.loop-change-test.true _
          (changes.bytes_by _ _ _ _ a c.loop-change.change _ (told k.At-loop-change) _ c.wanted_sets-wanted.ensures _ (known k.After-spread-touched) _ _
          c.search_outputs-searched.ensures.bytes);
      touched = touched k.After-spread-touched;
      visited = visited s;
      known_kept = ap length (again s) ∙ c.spread-touched.auto.known ∙ c.fill_inputs.auto.buffer ∙ i.known_kept;
      hot_kept = c.spread-touched.auto.hot ∙ i.hot_kept;
      known =
          after_next _ _ c.loop-change.change _ _ i.known
          (again s ∙ known_constants_by c.args.job _ _ _ c.fill_inputs.ensures _ c.spread-touched.ensures.known);
      hot = after_next _ _ c.loop-change.change _ _ i.hot (heated_by c.args.job _ _ _ c.fill_inputs.ensures _ _ c.spread-touched.ensures.hot);
    }

pub shape_of-buffer : goal.shape_of-buffer
shape_of-buffer c = loop.kept (forward_regular_for c.args.job) c.requires.buffer_in_bounds c.loop-change.invariant.rows

pub returns : goal.returns
returns c =
    let i = c.loop-change.invariant in
    let few = i.rows.few in
    let e : c.loop-change.change ≡ c.args.job.task.changes = omega arith in
    record {
      judges = loop.judges (forward_regular_for c.args.job) c.requires.buffer_in_bounds i.rows (omega arith) _ _ i.touched.is i.visited.is;
      known = rw e at i.known;
      hot = rw e at i.hot;
    }
