use Rattle.std.proofs.Common.{◌≡◌, ℕ, ◌+◌, ◌≤◌, true, List, ◌++◌, length, take, drop, replicate, sym, refl, ap, ◌∙◌, subst, arith, rules}
use lib.ListN.{length-replicate}
use Rattle.netlist.specs.Netlist.{inputs_of, gates_of}
use Rattle.netlist.specs.Formed.{Formed}
use Rattle.changes.specs.declared.Task.{Task}
use Rattle.changes.specs.Changes.{layout_in, input_class_at}
use Rattle.changes.specs.Formed.{ListFormed}
use Rattle.changes.specs.Lent.{Accepts, signals_of}
use Rattle.changes.specs.Refusals.{list_checked}
use Rattle.simulate.specs.Full.{codes}
use Rattle.simulate.proofs.Laws.{swept}
use Rattle.visit.specs.Lent.{inputs_known}
use Rattle.core_search.proofs.Entry as entry
use Rattle.report.specs.Appended.{Fits, Appended}
use Rattle.report.proofs.Appending.{kept}
use Rattle.lines.specs.Texts.{texts}
use Rattle.lines.specs.Lent.{text_from}
use Rattle.text.specs.Listing.{change_lines, printed_changes}
use Rattle.text.proofs.Laws.{changes_are}
use Rattle.listing.proofs.Pages.{page_full, page_none, grown_none, grown_more, grown_all}
use Rattle.listing.proofs.Prepared.{lines_same, lines_high}
use Rattle.listing.proofs.put_page.Goals.{After-classify, After-wanted_sets-wanted, After-put_outputs, At-loop-change}
use Rattle.listing.proofs.put_page.Goals as goal

-- what the page is made from
module _ (k : At-loop-change) where
  abbrev netlist : List ℕ
  netlist = k.args.job.netlist.now

  abbrev list : List ℕ
  list = k.args.job.list.now

  abbrev rows : List ℕ
  rows = k.args.job.rows.now

  abbrev task : Task
  task = k.args.job.task

  abbrev change : ℕ
  change = k.loop-change.change

  abbrev signals : ℕ
  signals = signals_of task.shape

  abbrev given : Accepts true netlist list rows task
  given = k.args.job.accepts

  card : Formed netlist task.shape
  card = entry.card_formed netlist list rows task given change

  of_list : ListFormed netlist list task
  of_list = entry.list_formed netlist list rows task given change

  few : signals ≤ 2304
  few = omega (arith, card.inputs_high, card.gates_high)

  -- the changes to print are the list's
  changes : printed_changes (list_checked netlist list) ≡ task.changes
  changes = changes_are given.accepted

-- the classes of the change
module _ (c : After-classify) where
  abbrev inside : At-loop-change
  inside = (goal.at.After-classify c).At-loop-change

  abbrev classes : List ℕ
  classes = c.classify.new.classes

  classified : classes ≡ codes (netlist inside) (list inside) (change inside) ++ drop (signals inside) inside.loop-change.classes
  classified = swept (netlist inside) (list inside) (rows inside) (task inside) (given inside) (change inside) inside.loop-change.classes _ refl classes c.classify.ensures

-- what is lent as known, and the lines of the change
module _ (c : After-wanted_sets-wanted) where
  abbrev k : At-loop-change
  k = (goal.at.After-wanted_sets-wanted c).At-loop-change

  abbrev lent : List ℕ
  lent = take (signals k) c.fill_inputs.new.buffer

  known : lent ≡ inputs_known (inputs_of (netlist k)) (gates_of (netlist k)) (input_class_at (list k) (layout_in (netlist k) (list k)) (change k))
  known =
      entry.known_is (netlist k) (list k) (rows k) (task k) (given k) (change k) k.loop-change.known _
      k.loop-change.invariant.none_known (omega (arith, few k, k.loop-change.invariant.known_room)) c.fill_inputs.ensures

  all_known : length lent ≡ signals k
  all_known = ap length known ∙ entry.known_all (netlist k) (list k) (rows k) (task k) (given k) (change k)

  abbrev made : ℕ → List ℕ
  made = text_from (rows k) lent c.wanted_sets-wanted.result (classes (goal.at.After-wanted_sets-wanted c).After-classify) (signals k) (change k)

  same : texts made 0 (task k).shape.outputs ≡ change_lines (netlist k) (list k) (change k)
  same =
      lines_same (netlist k) (list k) (rows k) (task k) (given k) (change k) c.loop-change-test.true lent (classes (goal.at.After-wanted_sets-wanted c).After-classify) _
      c.wanted_sets-wanted.result known (classified (goal.at.After-wanted_sets-wanted c).After-classify) c.wanted_sets-wanted.ensures

pub overflow_add-signals : goal.overflow_add-signals
overflow_add-signals c = let f = entry.card_formed _ _ _ _ c.args.job.accepts 0 in omega (arith, f.inputs_high, f.gates_high)

pub loop-change-init : goal.loop-change-init
loop-change-init c =
    let i = c.args.job.task.shape.inputs in
    record {
      grown = grown_none c.args.job.netlist.now c.args.job.list.now c.new-text.result c.args.from c.new-text.ensures.1;
      none_known = ap (λ m. drop i (replicate m 8)) (sym (length-replicate {A = ℕ} 2304 8));
      known_room = search rules;
      classes_room = search rules;
    }

pub returns-then-room-lt-ROOM : goal.returns-then-room-lt-ROOM
returns-then-room-lt-ROOM c =
    let g = c.loop-change.invariant.grown in
    grown_all c.args.job.netlist.now c.args.job.list.now
    (record { starts = search rules; none = c.new-text.ensures.1; ends = search rules; all = c.len.ensures }) g
    (page_full _ _ _ _ (omega (arith, c.if-room-lt-ROOM.true, c.room.ensures, kept g.there)))

pub classify-requires : goal.classify-requires
classify-requires c =
    let k = (goal.at.classify-requires c).At-loop-change in
    record { classes_in_bounds = omega (arith, few k, c.loop-change.invariant.classes_room); change_in_bounds = c.loop-change-test.true }

pub fill_inputs-requires : goal.fill_inputs-requires
fill_inputs-requires c =
    let k = (goal.at.fill_inputs-requires c).At-loop-change in
    let f = of_list k in
    (f.width_high, f.row_high, omega (arith, f.changes_high, c.loop-change-test.true), omega (arith, few k, c.loop-change.invariant.known_room))

pub wanted_sets-wanted-requires : goal.wanted_sets-wanted-requires
wanted_sets-wanted-requires c =
    let f = of_list (goal.at.wanted_sets-wanted-requires c).At-loop-change in
    (f.width_high, f.row_high, omega (arith, f.changes_high, c.loop-change-test.true))

pub slice_bounds-known-end : goal.slice_bounds-known-end
slice_bounds-known-end c =
    omega (arith, few (goal.at.slice_bounds-known-end c).At-loop-change, c.fill_inputs.auto.buffer, c.loop-change.invariant.known_room)

pub slice_bounds-put_outputs-end : goal.slice_bounds-put_outputs-end
slice_bounds-put_outputs-end c = sym (all_known (goal.at.slice_bounds-put_outputs-end c).After-wanted_sets-wanted)

pub put_outputs-requires : goal.put_outputs-requires
put_outputs-requires c =
    let f = (goal.at.put_outputs-requires c).After-wanted_sets-wanted in
    let k = k f in
    record {
      outputs_ready = entry.searchable (netlist k) (list k) (rows k) (task k) (given k) (change k) (lent f) (known f) 64 (card k).outputs_high;
      known_in_bounds = omega (arith, all_known f, few k, c.loop-change.invariant.classes_room, c.classify.auto.classes);
      fits =
          subst (Fits c.loop-change.text) (sym (same f))
          (record {
            room =
                omega (
                  arith,
                  lines_high (netlist k) (list k) (rows k) (task k) (given k) (change k) c.loop-change-test.true,
                  c.if-room-lt-ROOM.false,
                  c.room.ensures,
                );
          });
    }

-- the searches leave what is known
again : (c : After-put_outputs) → c.put_outputs.new.known ++ drop (c.args.job.task.shape.inputs + c.args.job.task.shape.gates) c.fill_inputs.new.buffer ≡ c.fill_inputs.new.buffer
again c = entry.part_back (c.args.job.task.shape.inputs + c.args.job.task.shape.gates) _ _ c.put_outputs.ensures.known

pub loop-change-preserved : goal.loop-change-preserved
loop-change-preserved c =
    let k = (goal.at.loop-change-preserved c).At-loop-change in
    let p = (goal.at.loop-change-preserved c).After-put_outputs in
    let g = c.loop-change.invariant.grown in
    record {
      grown =
          grown_more (netlist k) (list k) g (omega (arith, changes k, c.loop-change-test.true)) (omega (arith, c.if-room-lt-ROOM.false, c.room.ensures, kept g.there))
          (subst (Appended c.loop-change.text c.put_outputs.new.text) (same (goal.at.loop-change-preserved c).After-wanted_sets-wanted) c.put_outputs.ensures.lines);
      none_known =
          entry.none_again (list k) (task k).layout (change k) (task k).shape.inputs k.loop-change.known _ _ c.loop-change.invariant.none_known
          c.fill_inputs.ensures c.fill_inputs.auto.buffer (again p);
      known_room = ap length (again p) ∙ c.fill_inputs.auto.buffer ∙ c.loop-change.invariant.known_room;
      classes_room = omega (arith, c.loop-change.invariant.classes_room, c.classify.auto.classes);
    }

pub returns : goal.returns
returns c =
    let k = (goal.at.returns c).At-loop-change in
    let g = c.loop-change.invariant.grown in
    let end : c.loop-change.change ≡ c.args.job.task.changes = search rules in
    rw (← end)
    (grown_all c.args.job.netlist.now c.args.job.list.now
    (record { starts = search rules; none = c.new-text.ensures.1; ends = search rules; all = c.len-2.ensures }) g
    (page_none _ _ _ _ (omega (arith, changes k, c.loop-change-test.false))))
