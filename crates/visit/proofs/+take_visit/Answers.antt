-- The goals of the cycle of calls {take, visit}. Assumes nothing.
use Prim.Native.Nat.{ℕ, ◌+◌, ◌-◌, ◌/◌, ◌%◌, ◌≤◌, ◌<◌}
use native.Mathlib.Omega.{arith}
use mathlib.Core.Path.{◌≡◌, sym, ◌∙◌, ap, subst}
use mathlib.Core.Bool.{Bool, true, false, cond}
use mathlib.Core.List.{List}
use mathlib.Core.Option.{Option}
use lib.Dec.{eqb, ltb}
use lib.ListN.{get_or, set}
use borrow.Author.Tests.{lt-ltb, le-ltb, ltb-true, ltb-false}
use Rattle.kung.specs.Class.{code, of_code}
use Rattle.kung.specs.Operation.{op_of, op_at, inverts, invert_if}
use Rattle.kung.specs.Sets.{has, possible, wanted_for}
use Rattle.kung.specs.Members.{swap_if}
use Rattle.kung.specs.Tables.{preimage, reach}
use Rattle.kung.specs.Lookup.{joined_by, stop_set}
use Rattle.kung.proofs.Finite.{of_code_code}
use Rattle.kung.proofs.SetLaws.{code_lt}
use Rattle.kung.proofs.Unions.{swap_small, preimage_small, reach_small, possible_small}
use Rattle.rows.specs.Rows.{count_in, gate_in, inverts_in, word_in, row_kind, row_pins}
use Rattle.rows.specs.Lent.{GateRow}
use Rattle.search.specs.Search.{Cell, kept, put, only, Outcome, checks, waits}
use Rattle.checks.specs.Codes.{waiting_of, code_or, check_of}
use Rattle.cells.specs.declared.Counts.{Counts}
use Rattle.cells.specs.Codes.{begun_from, known_mark, mark_of}
use Rattle.cells.specs.Cells.{cell_in, known_in, told_in}
use Rattle.checks.proofs.Codes.{only_code_lem}
use Rattle.checks.proofs.Checks.{ended, over, wants, last_class, last_ends, last_is}
use Rattle.cells.proofs.Cells.{open_cell, told_small, untold_searched, begun_next}
use Rattle.visit.specs.Cells.{cells_in}
use Rattle.visit.specs.Lent.{SearchReady}
use Rattle.visit.specs.Visits.{Lends, Takes}
use Rattle.rows.proofs.Gates.{gate_operation, inverts_is, pin_is}
use Rattle.visit.proofs.Sources.{falling}
use Rattle.visit.proofs.Totals.{gates_few}
use Rattle.visit.proofs.Cells.{cells_length}
use Rattle.visit.proofs.Visits.{Rest, takes_told, rest_first, rest_ends, rest_next, rest_stopped, Ends, ends_small, ends_put}
use Rattle.visit.proofs.Turns.{Held, Begun, begins, pins_counted, put_put, held_pins, held_after, marks_after, marked_cell, marked_told, marked_large, leaves}
use Rattle.visit.proofs.+take_visit.Goals.{visit-Start, visit-After-arrive-begun, visit-At-loop-next, visit-After-has_class, visit-After-waiter_of, visit-After-take-ending}
use Rattle.visit.proofs.+take_visit.Goals as goal

pub take-returns-then-is_told : goal.take-returns-then-is_told
take-returns-then-is_told t c =
    let a = c.args in
    takes_told a.rows.now a.x _ a.waiter a.cells.now a.tally.now c.joined_by.result c.requires.lends.0
    (ltb-true (told_in (get_or a.cells.now a.x 0)) 8 (sym c.is_told.ensures ∙ c.if-is_told.true)) c.joined_by.ensures

pub take-visit-requires : goal.take-visit-requires
take-visit-requires t c =
    let a = c.args in
    let b = get_or a.cells.now a.x 0 in
    let nothing : told_in b ≡ 8 = omega (arith, told_small b, ltb-false (told_in b) 8 (sym c.is_told.ensures ∙ c.if-is_told.false)) in
    let row = c.requires.search_ready.gates_only a.x (untold_searched a.cells.now a.x nothing) in
    let few = preimage_small (op_at (a.waiter / 8)) (of_code a.waiter) a.goal in (
      omega (arith, c.decreases, row.count_eight),
      (
        c.requires.search_ready,
        (c.requires.lends.0, nothing, omega (arith, c.requires.lends.1), omega (arith, few, c.preimage_of-wanted.ensures)),
      ),
    )

-- the gate that is visited
visit_row : (t : ℕ) (c : visit-Start t) → GateRow c.args.rows.now c.args.s
visit_row t c = c.requires.search_ready.gates_only c.args.s (untold_searched c.args.cells.now c.args.s c.requires.lends.1)

pub visit-arrive-begun-requires : goal.visit-arrive-begun-requires
visit-arrive-begun-requires t c =
    let a = c.args in
    let l = c.requires.lends.0 in
    let cells = cells_in a.rows.now a.cells.now in (
      l.there,
      omega (arith, ap (λ t. t.gates) l.tallied, gates_few cells, cells_length a.rows.now a.cells.now, l.few),
      pins_counted a.rows.now a.s a.cells.now a.tally.now l c.requires.lends.1,
    )

pub visit-reach_of-reach-requires : goal.visit-reach_of-reach-requires
visit-reach_of-reach-requires t c = rw c.swapped-want.ensures (swap_small _ _)

pub visit-stop_bits-stop-requires : goal.visit-stop_bits-stop-requires
visit-stop_bits-stop-requires t c =
    (c.requires.lends.2, omega arith, rw c.reach_of-reach.ensures (reach_small _ _))

-- on arrival
module _ (t : ℕ) (c : visit-After-arrive-begun t) where
  gate_is : c.word_of-word.result % 4 ≡ gate_in (word_in c.args.rows.now c.args.s)
  gate_is = ap gate_in c.word_of-word.ensures

  -- its byte in the definition
  abbrev Byte : ℕ
  Byte = begun_from (gate_in (word_in c.args.rows.now c.args.s)) (get_or c.args.cells.now c.args.s 0)

  p_is : c.arrive-begun.result.p ≡ Byte % 8
  p_is = c.arrive-begun.ensures.p ∙ ap (λ g. begun_from g (get_or c.args.cells.now c.args.s 0) % 8) gate_is

  next_is : c.arrive-begun.result.next ≡ Byte / 8 - 2
  next_is = c.arrive-begun.ensures.next ∙ ap (λ g. begun_from g (get_or c.args.cells.now c.args.s 0) / 8 - 2) gate_is

  begun_at : Begun c.args.rows.now c.args.s c.args.wanted c.args.waiter c.args.cells.now c.arrive-begun.result.p c.arrive-begun.result.next
      c.arrive-begun.new.cells c.arrive-begun.new.tally
  begun_at =
      let a = c.args in
      begins a.rows.now a.s a.wanted a.waiter a.cells.now a.tally.now c.requires.lends.0 c.requires.lends.1
      c.arrive-begun.result.p c.arrive-begun.result.next p_is next_is c.arrive-begun.new.cells c.arrive-begun.new.tally
      c.arrive-begun.ensures.cells c.arrive-begun.ensures.tally

pub visit-loop-next-init : goal.visit-loop-next-init
visit-loop-next-init t c =
    let at = begun_at t (goal.at.visit-loop-next-init t c).After-arrive-begun in
    let b = c.arrive-begun in (
      at.held,
      at.marked,
      omega arith,
      omega (arith, at.within, ap count_in c.word_of-word.ensures),
      at.small,
      rest_first c.args.rows.now (known_in b.new.cells) c.args.s c.args.wanted c.args.waiter b.result.p b.result.next _,
    )

goal_small : {reach want : ℕ} (left : Bool) → reach < 256 → want < 256 → cond left reach want < 256
goal_small true r w = r
goal_small false r w = w

-- in the loop
module _ (t : ℕ) (c : visit-At-loop-next t) where
  abbrev Rows : List ℕ
  Rows = c.args.rows.now

  abbrev Signal : ℕ
  Signal = c.args.s

  abbrev Entry : List ℕ
  Entry = c.args.cells.now

  -- where the visit began
  abbrev P₀ : ℕ
  P₀ = c.arrive-begun.result.p

  abbrev Next₀ : ℕ
  Next₀ = c.arrive-begun.result.next

  abbrev Gate : ℕ
  Gate = c.word_of-word.result % 4

  -- the definition's cells on arrival
  abbrev Began : List ℕ
  Began = put (cells_in Rows c.arrive-begun.new.cells) Signal (kept (of_code P₀) Next₀)

  row : GateRow Rows Signal
  row = visit_row t (goal.at.visit-At-loop-next t c).Start

  begun : Begun Rows Signal c.args.wanted c.args.waiter Entry P₀ Next₀ c.arrive-begun.new.cells c.arrive-begun.new.tally
  begun = begun_at t (goal.at.visit-At-loop-next t c).After-arrive-begun

  gate_at_is : Gate ≡ gate_in (word_in Rows Signal)
  gate_at_is = gate_is t (goal.at.visit-At-loop-next t c).After-arrive-begun

  count_is : c.word_of-word.result / 4 ≡ count_in (word_in Rows Signal)
  count_is = ap count_in c.word_of-word.ensures

  few_pins : c.loop-next.next ≤ 13
  few_pins = omega (arith, c.loop-next.invariant.3, count_is, row.count_eight)

  operation : op_at Gate ≡ op_of (row_kind Rows Signal)
  operation = ap op_at gate_at_is ∙ gate_operation (word_in Rows Signal)

  inversion : eqb (Gate / 2) 1 ≡ inverts (row_kind Rows Signal)
  inversion = ap (λ g. eqb (g / 2) 1) gate_at_is ∙ inverts_is (word_in Rows Signal)

  want_is : c.swapped-want.result ≡ swap_if (eqb (Gate / 2) 1) c.args.wanted
  want_is = c.swapped-want.ensures

  reach_is : c.reach_of-reach.result ≡ reach (op_at Gate) (swap_if (eqb (Gate / 2) 1) c.args.wanted)
  reach_is = c.reach_of-reach.ensures ∙ ap (reach (op_at Gate)) want_is

  want_few : c.swapped-want.result < 256
  want_few = omega (arith, want_is, swap_small (eqb (Gate / 2) 1) c.args.wanted)

  reach_few : c.reach_of-reach.result < 256
  reach_few = omega (arith, reach_is, reach_small (op_at Gate) (swap_if (eqb (Gate / 2) 1) c.args.wanted))

  stop_is : c.stop_bits-stop.result ≡ stop_set c.args.waiter Gate (reach (op_at Gate) (swap_if (eqb (Gate / 2) 1) c.args.wanted))
  stop_is = c.stop_bits-stop.ensures ∙ ap (stop_set c.args.waiter Gate) reach_is

  -- the possible set and the checks, by the row's kind
  abbrev Set : ℕ
  Set =
      possible (op_of (row_kind Rows Signal)) (inverts (row_kind Rows Signal)) (of_code c.loop-next.p)
      (ltb c.loop-next.next (count_in (word_in Rows Signal)))

  abbrev Checked : Option Outcome
  Checked = checks Set c.args.wanted (waiting_of c.args.waiter)

  rest_is : Rest Rows (known_in Entry) Signal c.args.wanted c.args.waiter P₀ Next₀ Began
      c.loop-next.p c.loop-next.next (put (cells_in Rows c.loop-next.cells) Signal (kept (of_code c.loop-next.p) c.loop-next.next))
  rest_is =
      subst
      (λ k.
      Rest Rows k Signal c.args.wanted c.args.waiter P₀ Next₀ Began c.loop-next.p
      c.loop-next.next (put (cells_in Rows c.loop-next.cells) Signal (kept (of_code c.loop-next.p) c.loop-next.next)))
      begun.known c.loop-next.invariant.5

  room : c.loop-next.tally.pins ≤ 36864
  room = held_pins Rows Signal c.arrive-begun.new.cells c.loop-next.cells c.loop-next.tally c.loop-next.invariant.0

  -- the checks end the visit, and the gate's byte is written
  checked : (class mark r : ℕ) (exit : List ℕ) (tally : Counts) → class ≡ code_or (only Set) → mark ≡ mark_of class c.loop-next.p c.loop-next.next → mark < 256
      → exit ≡ set c.loop-next.cells Signal mark
      → tally ≡ record c.loop-next.tally { pins = c.loop-next.tally.pins + c.loop-next.next } → ended Checked ≡ true
      → r ≡ check_of (waiting_of c.args.waiter) Checked
      → Takes Rows Signal c.args.wanted c.args.waiter Entry exit tally r
  checked class mark r exit tally found is-mark fits left counted over h =
      let a = c.args in
      let l = c.loop-next in
      leaves Rows Signal a.wanted a.waiter P₀ Next₀ Entry c.arrive-begun.new.cells c.arrive-begun.new.tally l.cells l.tally begun
      l.invariant.0 l.p l.next mark (marked_cell Rows Signal l.p l.next class mark found few_pins is-mark)
      (marked_large Rows Signal l.p l.next class mark found few_pins is-mark) fits exit tally left counted r
      (rest_ends Rows (known_in Entry) Signal a.wanted a.waiter P₀ Next₀ Began l.p l.next
      (put (cells_in Rows l.cells) Signal (kept (of_code l.p) l.next)) rest_is (cells_in Rows Entry) begun.starts over r h)
      (λ small. (l.invariant.1, marked_told Rows Signal l.p l.next class mark found few_pins is-mark))

-- a pin is left, and the stop bits were looked at
module _ (t : ℕ) (c : visit-After-has_class t) where
  abbrev turn : visit-At-loop-next t
  turn = (goal.at.visit-After-has_class t c).At-loop-next

  more_pins : c.loop-next.next < count_in (word_in c.args.rows.now c.args.s)
  more_pins = omega (arith, count_is t turn, c.loop-next-test.true)

  more : ltb c.loop-next.next (count_in (word_in c.args.rows.now c.args.s)) ≡ true
  more = lt-ltb c.loop-next.next (count_in (word_in c.args.rows.now c.args.s)) more_pins

  over_is : c.has_class.result ≡ ended (Checked t turn)
  over_is =
      let a = c.args in
      let p = of_code c.loop-next.p in
      c.has_class.ensures ∙ ap (λ m. has m p) (stop_is t turn) ∙ over (Gate t turn) a.waiter a.wanted p
      ∙ (λ i. ended (checks (possible (operation t turn i) (inversion t turn i) p (sym more i)) a.wanted (waiting_of a.waiter)))

pub visit-only_class-class-requires : goal.visit-only_class-class-requires
visit-only_class-class-requires t c = rw c.possible_set-set.ensures (possible_small _ _ _ true)

pub visit-check_set-answer-requires : goal.visit-check_set-answer-requires
visit-check_set-answer-requires t c =
    let few : c.possible_set-set.result < 256 = rw c.possible_set-set.ensures (possible_small _ _ _ true) in
    (few, c.requires.lends.2, c.only_class-class.ensures ∙ only_code_lem c.possible_set-set.result few)

pub visit-leave-requires : goal.visit-leave-requires
visit-leave-requires t c =
    let l = c.loop-next.invariant in
    let o = (goal.at.visit-leave-requires t c).At-loop-next in
    (l.0.there, room t o, few_pins t o)

pub visit-returns-then-has_class : goal.visit-returns-then-has_class
visit-returns-then-has_class t c =
    let a = c.args in
    let p = of_code c.loop-next.p in
    let h = (goal.at.visit-returns-then-has_class t c).After-has_class in
    let l = (goal.at.visit-returns-then-has_class t c).At-loop-next in
    let set_is : c.possible_set-set.result ≡ Set t l =
    c.possible_set-set.ensures ∙ (λ i. possible (operation t l i) (inversion t l i) p (sym (more t h) i))
    in
    checked t l c.only_class-class.result c.mark_of.result c.check_set-answer.result c.leave.new.cells c.leave.new.tally
    (c.only_class-class.ensures ∙ only_code_lem c.possible_set-set.result (rw c.possible_set-set.ensures (possible_small _ _ _ true))
    ∙ ap (λ m. code_or (only m)) set_is) c.mark_of.ensures (omega arith)
    c.leave.ensures.cells c.leave.ensures.tally (sym (over_is t h) ∙ c.if-has_class.true)
    (c.check_set-answer.ensures ∙ ap (λ m. check_of (waiting_of a.waiter) (checks m a.wanted (waiting_of a.waiter))) set_is)

-- the pin is about to be taken
module _ (t : ℕ) (c : visit-After-waiter_of t) where
  abbrev tested : visit-After-has_class t
  tested = (goal.at.visit-After-waiter_of t c).After-has_class

  abbrev loops : visit-At-loop-next t
  loops = (goal.at.visit-After-waiter_of t c).At-loop-next

  eight : count_in (word_in c.args.rows.now c.args.s) ≤ 8
  eight = (row t loops).count_eight

  left : c.loop-next.next < count_in (word_in c.args.rows.now c.args.s)
  left = more_pins t tested

  below : c.pin_of-x.result < c.args.s
  below = omega (arith, c.pin_of-x.ensures, (row t loops).below c.loop-next.next (omega (arith, left, eight)))

  on_pin : c.pin_of-x.result ≡ get_or (row_pins c.args.rows.now c.args.s) c.loop-next.next 0
  on_pin = c.pin_of-x.ensures ∙ pin_is c.args.rows.now c.args.s c.loop-next.next left

  -- what is known is as on arrival
  known_is : known_in c.loop-next.cells ≡ known_in c.args.cells.now
  known_is = c.loop-next.invariant.0.known ∙ (begun t loops).known

  -- its driver's wanted set
  abbrev Wanted : ℕ
  Wanted = preimage (op_at (c.waiter_of.result / 8)) (of_code c.waiter_of.result) c.goal_of-goal.result

  wanted_is : Wanted
      ≡ wanted_for (op_of (row_kind c.args.rows.now c.args.s)) (inverts (row_kind c.args.rows.now c.args.s)) (of_code c.loop-next.p)
      (ltb (c.loop-next.next + 1) (count_in (word_in c.args.rows.now c.args.s))) c.args.wanted
  wanted_is =
      wants (row_kind c.args.rows.now c.args.s) (Gate t loops) c.args.wanted c.waiter_of.result (of_code c.loop-next.p)
      (ltb (c.loop-next.next + 1) (count_in (word_in c.args.rows.now c.args.s))) c.goal_of-goal.result (operation t loops) (inversion t loops)
      c.waiter_of.ensures.1 c.waiter_of.ensures.0
      (c.goal_of-goal.ensures ∙ (λ i. cond (ltb (c.loop-next.next + 1) (count_is t loops i)) (reach_is t loops i) (want_is t loops i)))

pub visit-take-ending-requires : goal.visit-take-ending-requires
visit-take-ending-requires t c =
    let k = (goal.at.visit-take-ending-requires t c).After-waiter_of in
    let l = (goal.at.visit-take-ending-requires t c).At-loop-next in
    let held = c.loop-next.invariant.0 in
    let lends : Lends c.args.rows.now c.pin_of-x.result c.loop-next.cells c.loop-next.tally =
    record {
      there = omega (arith, below t k, held.there);
      few = held.few;
      small = held.small;
      tallied = held.tallied;
      marked = λ u h. c.loop-next.invariant.1 u (omega (arith, below t k));
    }
    in
    let pins : c.arrive-begun.result.next ≡ get_or c.args.cells.now c.args.s 0 / 8 - 2 =
    c.arrive-begun.ensures.next ∙ begun_next (c.word_of-word.result % 4) (get_or c.args.cells.now c.args.s 0)
    in (
      omega (arith, c.decreases, below t k, left t k, c.loop-next.invariant.2, pins),
      (
        subst (SearchReady c.args.rows.now) (sym (known_is t k)) c.requires.search_ready,
        (
          lends,
          c.waiter_of.ensures.1,
          rw c.goal_of-goal.ensures (goal_small (ltb (c.loop-next.next + 1) (c.word_of-word.result / 4)) (reach_few t l) (want_few t l)),
        ),
      ),
    )

-- the pin was taken
module _ (t : ℕ) (c : visit-After-take-ending t) where
  abbrev at_pin : visit-After-waiter_of t
  at_pin = (goal.at.visit-After-take-ending t c).After-waiter_of

  abbrev looped : visit-At-loop-next t
  looped = (goal.at.visit-After-take-ending t c).At-loop-next

  abbrev After : List ℕ
  After = c.take-ending.new.cells

  abbrev Tally : Counts
  Tally = c.take-ending.new.tally

  -- the gate's cell in the definition
  abbrev Held-cell : Cell
  Held-cell = kept (of_code c.loop-next.p) (c.loop-next.next + 1)

  held : Held c.args.rows.now c.args.s c.arrive-begun.new.cells After Tally
  held =
      held_after c.args.rows.now c.args.s c.arrive-begun.new.cells c.loop-next.cells c.loop-next.tally
      c.pin_of-x.result (Wanted t at_pin) c.waiter_of.result After Tally c.take-ending.result (below t at_pin) c.take-ending.ensures
      c.loop-next.invariant.0

  taking : Ends c.args.rows.now (known_in c.args.cells.now) c.pin_of-x.result (Wanted t at_pin) c.waiter_of.result
      (put (cells_in c.args.rows.now c.loop-next.cells) c.args.s Held-cell) (put (cells_in c.args.rows.now After) c.args.s Held-cell)
      c.take-ending.result
  taking =
      let rows = c.args.rows.now in
      let entry = known_in c.args.cells.now in
      let x = c.pin_of-x.result in
      let l = c.loop-next in
      ends_put rows entry x (Wanted t at_pin) c.waiter_of.result (cells_in rows l.cells)
      (cells_in rows After) c.take-ending.result c.args.s Held-cell (falling rows entry c.requires.search_ready.gates_only)
      (below t at_pin) (rw (cells_length rows l.cells) l.invariant.0.there)
      (subst
      (λ k.
      Ends rows k x (Wanted t at_pin) c.waiter_of.result (cells_in rows l.cells) (cells_in rows After) c.take-ending.result)
      (known_is t at_pin) c.take-ending.ensures.is)

  going_on : ended (Checked t looped) ≡ false
  going_on = sym (over_is t (goal.at.visit-After-take-ending t c).After-has_class) ∙ c.if-has_class.false

  waiting_is : waiting_of c.waiter_of.result ≡ waits (op_of (row_kind c.args.rows.now c.args.s)) (of_code c.loop-next.p)
  waiting_is = c.waiter_of.ensures.0 ∙ ap (λ o. waits o (of_code c.loop-next.p)) (operation t looped)

  small : c.take-ending.result ≤ 8
  small = ends_small c.args.rows.now (known_in c.args.cells.now) c.pin_of-x.result (Wanted t at_pin) c.waiter_of.result _ _ c.take-ending.result taking

  stopped_by : c.take-ending.result ≡ 8
      → Ends c.args.rows.now (known_in c.args.cells.now) c.args.s c.args.wanted c.args.waiter
      (cells_in c.args.rows.now c.args.cells.now) (put (cells_in c.args.rows.now After) c.args.s Held-cell) 8
  stopped_by stop =
      let l = c.loop-next in
      let a = c.args in
      let rows = a.rows.now in
      rest_stopped rows (known_in a.cells.now) a.s a.wanted a.waiter _ _ (Began t looped) l.p
      l.next _ (rest_is t looped) going_on (left t at_pin) c.pin_of-x.result (Wanted t at_pin) c.waiter_of.result
      _ _ c.take-ending.result (on_pin t at_pin) (below t at_pin) (wanted_is t at_pin) waiting_is
      (sym (put_put (cells_in rows l.cells) a.s (of_code l.p) (of_code l.p) l.next (l.next + 1)))
      taking stop (cells_in rows a.cells.now) (begun t looped).starts

  next_by : c.take-ending.result < 8
      → Rest c.args.rows.now (known_in c.args.cells.now) c.args.s c.args.wanted c.args.waiter c.arrive-begun.result.p
      c.arrive-begun.result.next (Began t looped) c.take-ending.result (c.loop-next.next + 1)
      (put (put (cells_in c.args.rows.now After) c.args.s Held-cell) c.args.s (kept (of_code c.take-ending.result) (c.loop-next.next + 1)))
  next_by =
      let l = c.loop-next in
      let a = c.args in
      let rows = a.rows.now in
      rest_next rows (known_in a.cells.now) a.s a.wanted a.waiter _ _ (Began t looped) l.p
      l.next _ (rest_is t looped) going_on (left t at_pin) c.pin_of-x.result (Wanted t at_pin) c.waiter_of.result
      _ _ c.take-ending.result (on_pin t at_pin) (below t at_pin) (wanted_is t at_pin) waiting_is
      (sym (put_put (cells_in rows l.cells) a.s (of_code l.p) (of_code l.p) l.next (l.next + 1)))
      taking

pub visit-leave-requires-then-ending-ge-STOPPED : goal.visit-leave-requires-then-ending-ge-STOPPED
visit-leave-requires-then-ending-ge-STOPPED t c =
    let k = (goal.at.visit-leave-requires-then-ending-ge-STOPPED t c).After-take-ending in
    let w = (goal.at.visit-leave-requires-then-ending-ge-STOPPED t c).After-waiter_of in (
      (held t k).there,
      held_pins c.args.rows.now c.args.s c.arrive-begun.new.cells (After t k) (Tally t k) (held t k),
      omega (arith, left t w, eight t w),
    )

pub visit-returns-then-ending-ge-STOPPED : goal.visit-returns-then-ending-ge-STOPPED
visit-returns-then-ending-ge-STOPPED t c =
    let k = (goal.at.visit-returns-then-ending-ge-STOPPED t c).After-take-ending in
    let w = (goal.at.visit-returns-then-ending-ge-STOPPED t c).After-waiter_of in
    let at = begun t (goal.at.visit-returns-then-ending-ge-STOPPED t c).At-loop-next in
    let l = c.loop-next in
    let a = c.args in
    let rows = a.rows.now in
    let v = c.leave-then-ending-ge-STOPPED in
    let few : l.next + 1 ≤ 13 = omega (arith, left t w, eight t w) in
    leaves rows a.s a.wanted a.waiter c.arrive-begun.result.p c.arrive-begun.result.next a.cells.now c.arrive-begun.new.cells c.arrive-begun.new.tally
    (After t k) (Tally t k) at (held t k) l.p (l.next + 1) c.open_mark.result
    (ap (cell_in (inverts_in (word_in rows a.s))) c.open_mark.ensures ∙ open_cell (inverts_in (word_in rows a.s)) l.p (l.next + 1) few)
    (omega (arith, c.open_mark.ensures)) (omega arith) v.new.cells v.new.tally v.ensures.cells
    v.ensures.tally 8 (stopped_by t k (omega (arith, small t k, c.if-ending-ge-STOPPED.true))) (λ h. absurd (omega arith))

pub visit-loop-next-preserved : goal.visit-loop-next-preserved
visit-loop-next-preserved t c =
    let k = (goal.at.visit-loop-next-preserved t c).After-take-ending in
    let w = (goal.at.visit-loop-next-preserved t c).After-waiter_of in
    let o = (goal.at.visit-loop-next-preserved t c).At-loop-next in
    let l = c.loop-next in
    let a = c.args in
    let rows = a.rows.now in
    let r = c.take-ending.result in
    let less : r < 8 = omega (arith, small t k, c.if-ending-ge-STOPPED.false) in (
      held t k,
      marks_after rows a.s c.arrive-begun.new.cells l.cells l.tally c.pin_of-x.result (Wanted t w)
          c.waiter_of.result (After t k) (Tally t k) r (below t w) c.take-ending.ensures less l.invariant.1,
      omega (arith, l.invariant.2),
      omega (arith, c.loop-next-test.true),
      less,
      subst
          (λ known.
          Rest rows known a.s a.wanted a.waiter c.arrive-begun.result.p c.arrive-begun.result.next (Began t o)
          r (l.next + 1) (put (cells_in rows (After t k)) a.s (kept (of_code r) (l.next + 1))))
          (sym (begun t o).known)
          (subst
          (Rest rows (known_in a.cells.now) a.s a.wanted a.waiter c.arrive-begun.result.p c.arrive-begun.result.next (Began t o) r (l.next + 1))
          (put_put (cells_in rows (After t k)) a.s (of_code l.p) (of_code r) (l.next + 1) (l.next + 1))
          (next_by t k less)),
    )

-- no pin is left
pub visit-leave-requires-2 : goal.visit-leave-requires-2
visit-leave-requires-2 t c =
    let l = c.loop-next.invariant in
    let o = (goal.at.visit-leave-requires-2 t c).At-loop-next in
    (l.0.there, room t o, omega (arith, count_is t o, (row t o).count_eight))

pub visit-returns : goal.visit-returns
visit-returns t c =
    let o = (goal.at.visit-returns t c).At-loop-next in
    let l = c.loop-next in
    let a = c.args in
    let d = row_kind a.rows.now a.s in
    let class = c.class_of-class.result in
    let all : c.word_of-word.result / 4 ≡ l.next = omega (arith, l.invariant.3, c.loop-next-test.false) in
    let none : ltb l.next (count_in (word_in a.rows.now a.s)) ≡ false =
    le-ltb l.next (count_in (word_in a.rows.now a.s)) (omega (arith, count_is t o, c.loop-next-test.false))
    in
    let last : class ≡ code (invert_if (inverts d) (of_code l.p)) =
    c.class_of-class.ensures ∙ ap (λ v. code (invert_if v (of_code l.p))) (inversion t o)
    in
    let own : of_code class ≡ invert_if (inverts d) (of_code l.p) = ap of_code last ∙ of_code_code (invert_if (inverts d) (of_code l.p)) in
    let small : class < 8 = omega (arith, last, code_lt (invert_if (inverts d) (of_code l.p))) in
    checked t o class c.known_mark.result c.check_known-answer.result c.leave-2.new.cells c.leave-2.new.tally
    (rw none (last ∙ sym (last_class d (of_code l.p) a.wanted a.waiter)))
    (rw (lt-ltb class 8 small) (c.known_mark.ensures ∙ ap (known_mark class) all)) (omega arith) c.leave-2.ensures.cells
    (c.leave-2.ensures.tally ∙ ap (λ n. record l.tally { pins = l.tally.pins + n }) all)
    (rw none (last_ends d (of_code l.p) a.wanted a.waiter))
    (rw none
    (c.check_known-answer.ensures ∙ ap (λ k. cond (has a.wanted k) (code (joined_by a.waiter k)) 8) own ∙ last_is d (of_code l.p) a.wanted a.waiter))
