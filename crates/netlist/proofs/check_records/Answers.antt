use native.Mathlib.Omega.{arith}
use mathlib.Core.Path.{◌∙◌, sym, ap}
use Rattle.std.specs.Prelude.{Err}
use Rattle.std.proofs.lemmas.Result.{err_from_is_err_and}
use Rattle.netlist.proofs.Reached.{reached_first, reached_last, head_refused, pin_refused, pins_first, pins_more, pins_passed, passed_together}
use Rattle.netlist.proofs.check_records.Goals as goal

-- `check_records`: each record in turn, its pins together or one after the other. Assumes nothing.
pub records-init : goal.records-init
records-init c = reached_first _ _ _ c.word_at-inputs.ensures

pub records-preserved-then-are_below : goal.records-preserved-then-are_below
records-preserved-then-are_below c =
    passed_together c.records.invariant (omega arith)
    (sym c.fit_at.ensures ∙ c.in-Some.is)
    c.own_in-own.ensures
    c.are_below.ensures
    c.if-are_below.true
    c.row_in-row.ensures
    c.keep_row.ensures

pub pins-init : goal.pins-init
pins-init c = pins_first _ (sym c.head_at.ensures ∙ c.in_ok-head.was)

pub pins-preserved : goal.pins-preserved
pins-preserved c = pins_more c.pins.invariant c.pins-test.true c.word_in.ensures c.if-signal-word_in.false

pub records-preserved : goal.records-preserved
records-preserved c =
    pins_passed c.records.invariant (omega arith)
    (sym c.head_at.ensures ∙ c.in_ok-head.was)
    c.pins.invariant
    c.pins-test.false
    c.row_short-row.ensures
    c.keep_row-in-records.ensures

pub returns-then-signal-signals : goal.returns-then-signal-signals
returns-then-signal-signals c =
    let last = reached_last c.records.invariant (omega arith) in
    record { value = c.check_outputs.ensures.value ∙ sym last.1; rows_after = rw (last.1, last.2) c.check_outputs.ensures.rows_after }

pub returns-in_err-head : goal.returns-in_err-head
returns-in_err-head c =
    let given = err_from_is_err_and c.from_residual.result c.from_residual.ensures.1 in
    let r = head_refused c.records.invariant (omega arith) (sym c.head_at.ensures ∙ c.in_err-head.was) in
    record { value = given.1 ∙ ap Err given.2 ∙ r.0; rows_after = r.1 }

pub returns-then-signal-word_in : goal.returns-then-signal-word_in
returns-then-signal-word_in c =
    let r = pin_refused c.records.invariant (omega arith) c.pins.invariant c.pins-test.true c.word_in.ensures c.if-signal-word_in.true in
    record { value = r.0; rows_after = r.1 }
