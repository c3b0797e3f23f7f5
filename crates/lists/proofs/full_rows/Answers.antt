use Rattle.std.proofs.Common.{◌≡◌, ◌+◌, ◌*◌, ◌≤◌, length, refl, ◌∙◌, arith}
use Rattle.changes.specs.Lent.{signals_of}
use Rattle.simulate.proofs.Laws.{filled_passable, swept}
use Rattle.lists.proofs.Rows as loop
use Rattle.lists.proofs.Turns.{signals_high, fillable}
use Rattle.lists.proofs.Changes.{full_regular_for}
use Rattle.lists.proofs.Left.{after_none, after_next, heated_by}
use Rattle.lists.proofs.full_rows.Goals.{In-loop-change}
use Rattle.lists.proofs.full_rows.Goals as goal

pub overflow_add-signals : goal.overflow_add-signals
overflow_add-signals c = omega (arith, signals_high c.args.job.accepts)

pub loop-change-init : goal.loop-change-init
loop-change-init c = record {
  rows = loop.begun_none (full_regular_for c.args.job) _ _;
  hot_kept = refl;
  hot = after_none _ _;
}

-- room for the next row
room : (c : In-loop-change) → let w = signals_of c.args.job.task.shape in
    (length c.loop-change.buffer ≡ length c.args.buffer.now) × (c.loop-change.change * w + w ≤ length c.loop-change.buffer)
room c =
    let r = full_regular_for c.args.job in
    let rows = c.loop-change.invariant.rows in
    (loop.kept r c.requires.buffer_in_bounds rows, loop.room r c.requires.buffer_in_bounds rows c.loop-change-test.true)

pub overflow_mul-at : goal.overflow_mul-at
overflow_mul-at c = omega (arith, room (goal.at.overflow_mul-at c).In-loop-change)

pub slice_bounds-row-count : goal.slice_bounds-row-count
slice_bounds-row-count c = omega (arith, room (goal.at.slice_bounds-row-count c).In-loop-change)

pub slice_bounds-row-start : goal.slice_bounds-row-start
slice_bounds-row-start c = omega (arith, room (goal.at.slice_bounds-row-start c).In-loop-change)

pub fill_inputs-requires : goal.fill_inputs-requires
fill_inputs-requires c =
    fillable c.args.job.accepts c.loop-change-test.true
    (loop.row_room (full_regular_for c.args.job) c.requires.buffer_in_bounds c.loop-change.invariant.rows c.loop-change-test.true)

pub pass-requires : goal.pass-requires
pass-requires c =
    filled_passable _ _ _ _ c.args.job.accepts _ _ _ c.fill_inputs.ensures _
    (loop.row_room (full_regular_for c.args.job) c.requires.buffer_in_bounds c.loop-change.invariant.rows c.loop-change-test.true)
    (omega (arith, c.requires.shape_in_bounds, c.loop-change.invariant.hot_kept))

pub loop-change-preserved : goal.loop-change-preserved
loop-change-preserved c =
    let a = c.args.job.accepts in
    let i = c.loop-change.invariant in
    record {
      rows =
          loop.begun_next (full_regular_for c.args.job) c.requires.buffer_in_bounds i.rows c.loop-change-test.true _
          (swept _ _ _ _ a _ _ _ c.fill_inputs.ensures _ c.pass.ensures.codes);
      hot_kept = c.pass.auto.hot ∙ i.hot_kept;
      hot = after_next _ _ c.loop-change.change _ _ i.hot (heated_by c.args.job _ _ _ c.fill_inputs.ensures _ _ c.pass.ensures.hots);
    }

pub shape_of-buffer : goal.shape_of-buffer
shape_of-buffer c = loop.kept (full_regular_for c.args.job) c.requires.buffer_in_bounds c.loop-change.invariant.rows

pub returns : goal.returns
returns c =
    let i = c.loop-change.invariant in
    let few = i.rows.few in
    let e : c.loop-change.change ≡ c.args.job.task.changes = omega arith in
    record {
      judges = loop.judges (full_regular_for c.args.job) c.requires.buffer_in_bounds i.rows (omega arith) 0 0 refl refl;
      hot = rw e at i.hot;
    }
