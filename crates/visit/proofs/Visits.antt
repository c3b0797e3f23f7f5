-- The steps of a visit, as the code makes them. Assumes nothing.
use Prim.Native.Nat.{ℕ, zero, suc, ◌+◌, ◌-◌, ◌/◌, ◌%◌, ◌≤◌, ◌<◌}
use native.Mathlib.Omega.{arith}
use native.Mathlib.Decide.{dec_lt}
use native.Mathlib.Numerals.{add-one}
use mathlib.Core.Path.{◌≡◌, refl, sym, ◌∙◌, ap}
use mathlib.Core.Bool.{Bool, true, false, cond}
use mathlib.Core.List.{List}
use mathlib.Core.Option.{Option, none, some}
use lib.Dec.{ltb}
use lib.ListN.{length, get_or, drop}
use borrow.Author.Tests.{lt-ltb, le-ltb, ltb-true, ltb-false}
use Rattle.kung.specs.Class.{Class, code, of_code}
use Rattle.kung.specs.Operation.{Op, op_of, op_at, inverts, invert_if, join, unit}
use Rattle.kung.specs.Sets.{possible, wanted_for}
use Rattle.kung.specs.Lookup.{joined_by}
use Rattle.kung.proofs.Finite.{of_code_code}
use Rattle.kung.proofs.SetLaws.{code_lt}
use Rattle.circuit.specs.Circuit.{gate, Falling}
use Rattle.rows.specs.Rows.{count_in, gate_in, inverts_in, word_in, row_kind, row_pins}
use Rattle.search.specs.Search.{Cell, kept, cell_at, put, possible_of, pins_left, only, Waiting, nobody, waits, Outcome, stopped, known, unfinished, checks, Driver, told, behind, told_or, driver_of, Ended, fetch, react, take_pin, take_pins, visit}
use Rattle.search.proofs.Steps.{left_is, visit_gate, pins_end, pins_step}
use Rattle.search.proofs.Same.{take_put}
use Rattle.checks.specs.Codes.{waiting_of, code_or, ending_of, check_of}
use Rattle.cells.specs.Codes.{begun_from}
use Rattle.cells.specs.Cells.{cell_in, known_in, told_in}
use Rattle.checks.proofs.Checks.{joins, ended, ended_by, goes_on, stops, last_class}
use Rattle.cells.proofs.Cells.{cell_new, cell_open, known_small, same_code, told_class, untold_between, untold_searched}
use Rattle.cells.specs.declared.Counts.{Counts}
use Rattle.visit.specs.Source.{signal_of, source_from}
use Rattle.visit.specs.Codes.{told_of}
use Rattle.visit.specs.Visits.{ended_of, Lends, Takes}
use Rattle.visit.specs.Cells.{cells_in, Marked}
use Rattle.rows.proofs.Gates.{gate_operation, pins_length}
use Rattle.visit.proofs.Sources.{source_gate}
use Rattle.visit.proofs.Cells.{driver_at, told_or_lem}

-- the waiting gate goes on with the number of a visit behind it, unless that is 8
reacts : (e : Outcome) (after : List ℕ) (o : Op) (p : Class) (go_on : Class → List ℕ → Ended)
    → react e after o p go_on ≡ cond (ltb (ending_of (waits o p) e) 8) (go_on (of_code (ending_of (waits o p) e)) after) (stopped, after)
reacts stopped after o p go_on = refl
reacts (known k) after o p go_on =
    rw (lt-ltb (code (join o p k)) 8 (code_lt (join o p k))) (ap (λ q. go_on q after) (sym (of_code_code (join o p k))))
reacts (unfinished r) after o p go_on = rw (lt-ltb (code r) 8 (code_lt r)) (ap (λ q. go_on q after) (sym (of_code_code r)))

ending_small : (wt : Waiting) (e : Outcome) → ending_of wt e ≤ 8
ending_small nobody stopped = omega arith
ending_small nobody (known k) = omega (arith, code_lt k)
ending_small nobody (unfinished r) = omega arith
ending_small (waits o p) stopped = omega arith
ending_small (waits o p) (known k) = omega (arith, code_lt (join o p k))
ending_small (waits o p) (unfinished r) = omega (arith, code_lt r)

-- how the taking of a pin on signal x ends, over the definition's cells
abbrev pub Ends : (rows known : List ℕ) (x wanted waiter : ℕ) (entry exit : List ℕ) (r : ℕ) → Type 0
Ends rows codes x w waiter entry exit r =
    (n : ℕ) → x < n
    → (r, exit) ≡ ended_of (waiting_of waiter) (take_pin (source_from rows codes) (visit (source_from rows codes) n) x w (waiting_of waiter) entry)

pub ends_small : (rows known : List ℕ) (x w waiter : ℕ) (entry exit : List ℕ) (r : ℕ) → Ends rows known x w waiter entry exit r → r ≤ 8
ends_small rows codes x w waiter entry exit r is =
    omega (arith, ap (λ e. e.0) (is (suc x) (omega arith)), ending_small (waiting_of waiter) (take_pin (source_from rows codes) (visit (source_from rows codes) (suc x)) x w (waiting_of waiter) entry).0)

-- also where a cell above x is another
pub ends_put : (rows known : List ℕ) (x w waiter : ℕ) (entry exit : List ℕ) (r s : ℕ) (c : Cell) → Falling (source_from rows known) → x < s → s < length entry
    → Ends rows known x w waiter entry exit r → Ends rows known x w waiter (put entry s c) (put exit s c) r
ends_put rows codes x w waiter entry exit r s c falling less there is n below =
    ap (λ (e : ℕ × List ℕ). (e.0, put e.1 s c)) (is n below)
    ∙ ap (ended_of (waiting_of waiter)) (sym (take_put (source_from rows codes) falling n x w (waiting_of waiter) entry s c below less there))

-- a class that is told
told_ends : (rows known : List ℕ) (x w waiter : ℕ) (cells : List ℕ) (class r : ℕ)
    → class ≡ told_of (driver_of (source_from rows known x) (cell_at cells x)) → class < 8 → r ≡ code (joined_by waiter (of_code class))
    → Ends rows known x w waiter cells cells r
unfolding take_pin
told_ends rows codes x w waiter cells class r told_is h joined n less = go (driver_of (source_from rows codes x) (cell_at cells x)) told_is
  where
    go : (d : Driver) → class ≡ told_of d
        → (r, cells) ≡ ended_of (waiting_of waiter) (fetch (visit (source_from rows codes) n) x d w (waiting_of waiter) cells)
    go (told k) e = ap (λ (r : ℕ). (r, cells)) (joined ∙ ap (λ k. code (joined_by waiter k)) (ap of_code e ∙ of_code_code k) ∙ joins waiter k)
    go (behind p next) e = absurd (omega arith)

-- the byte says it
pub takes_told : (rows : List ℕ) (x w waiter : ℕ) (bytes : List ℕ) (tally : Counts) (r : ℕ) → Lends rows x bytes tally → told_in (get_or bytes x 0) < 8
    → r ≡ code (joined_by waiter (of_code (get_or bytes x 0))) → Takes rows x w waiter bytes bytes tally r
takes_told rows x w waiter bytes tally r lends told_is joined =
    let b = get_or bytes x 0 in
    record {
      is =
          told_ends rows (known_in bytes) x w waiter (cells_in rows bytes) (told_in b) r
          (lends.marked x (omega arith) ∙ ap told_of (sym (driver_at rows bytes x)))
          told_is (joined ∙ ap (λ k. code (joined_by waiter k)) (told_class b told_is));
      tallied = lends.tallied;
      known = refl;
      small = lends.small;
      marked = λ h. lends.marked;
      above = λ t h. refl;
    }

-- What is left of a gate's pins, as the definition takes them.
module _ (rows known : List ℕ) (s w waiter : ℕ) where
  abbrev left_of : (n p next : ℕ) → List ℕ → Ended
  left_of n p next cells =
      take_pins (source_from rows known) (visit (source_from rows known) n) (row_kind rows s) s w (waiting_of waiter) (drop next (row_pins rows s))
      (of_code p) next cells

  abbrev whole_of : ℕ → List ℕ → Ended
  whole_of n entry = take_pin (source_from rows known) (visit (source_from rows known) n) s w (waiting_of waiter) entry

-- what is left of a visit is all that was left on arrival
pub record Rest (rows known : List ℕ) (s w waiter p₀ next₀ : ℕ) (cells₀ : List ℕ) (p next : ℕ) (cells : List ℕ) : Type 0 where
  is : (n : ℕ) → s ≤ n → left_of rows known s w waiter n p next cells ≡ left_of rows known s w waiter n p₀ next₀ cells₀

pub rest_first : (rows known : List ℕ) (s w waiter p next : ℕ) (cells : List ℕ) → Rest rows known s w waiter p next cells p next cells
rest_first rows codes s w waiter p next cells = record { is = λ n h. refl }

-- which is the whole visit
pub record Arrived (rows known : List ℕ) (s w waiter : ℕ) (entry : List ℕ) (p₀ next₀ : ℕ) (cells₀ : List ℕ) : Type 0 where
  is : (n : ℕ) → s ≤ n → left_of rows known s w waiter n p₀ next₀ cells₀ ≡ whole_of rows known s w waiter (suc n) entry

-- the possible set of a gate whose pins are counted
pub counted_set : (rows : List ℕ) (s : ℕ) (p : Class) (next : ℕ)
    → possible_of (row_kind rows s) p (drop next (row_pins rows s))
    ≡ possible (op_of (row_kind rows s)) (inverts (row_kind rows s)) p (ltb next (count_in (word_in rows s)))
unfolding possible_of
counted_set rows s p next = rw (left_is next (row_pins rows s), pins_length rows s)

-- on arrival
module _ (rows : List ℕ) (s w waiter : ℕ) (bytes : List ℕ) (untold : told_in (get_or bytes s 0) ≡ 8) (marked : Marked rows s (get_or bytes s 0)) where
  abbrev Byte : ℕ
  Byte = get_or bytes s 0

  abbrev Begun : ℕ
  Begun = begun_from (gate_in (word_in rows s)) Byte

  searched : 8 ≤ get_or (known_in bytes) s 0
  searched = untold_searched bytes s untold

  begun_untold : 16 ≤ Byte → told_of (driver_of (gate (row_kind rows s) (row_pins rows s)) (kept (of_code Byte) (Byte / 8 - 2))) ≡ 8
  unfolding signal_of driver_of
  begun_untold old =
      let cell = cell_open (inverts_in (word_in rows s)) Byte old (untold_between Byte untold).1 in
      sym (λ i. told_of (driver_of (signal_of rows s (known_small Byte (untold_between Byte untold).0 i)) (cell i))) ∙ sym marked ∙ untold

  -- no gate is left unfinished that has taken all its pins
  pub within : Byte / 8 - 2 ≤ count_in (word_in rows s)
  unfolding driver_of
  within = go (dec_lt Byte 16) (dec_lt (count_in (word_in rows s)) (Byte / 8 - 2))
    where
      go : Dec (Byte < 16) → Dec (count_in (word_in rows s) < Byte / 8 - 2) → Byte / 8 - 2 ≤ count_in (word_in rows s)
      go (yes new) d = omega arith
      go (no old) (no inside) = omega arith
      go (no old) (yes past) =
          let d = row_kind rows s in
          let p = of_code Byte in
          let none : ltb (Byte / 8 - 2) (count_in (word_in rows s)) ≡ false = le-ltb (Byte / 8 - 2) (count_in (word_in rows s)) (omega arith) in
          let known = counted_set rows s p (Byte / 8 - 2) ∙ ap (possible (op_of d) (inverts d) p) none in
          absurd (omega (
            arith,
            sym (told_or_lem (only (possible_of d p (drop (Byte / 8 - 2) (row_pins rows s)))) p (Byte / 8 - 2)) ∙ begun_untold (omega arith),
            ap (λ m. code_or (only m)) known ∙ last_class d p 0 0,
            code_lt (invert_if (inverts d) p),
          ))

  driver_is : driver_of (source_from rows (known_in bytes) s) (cell_at (cells_in rows bytes) s) ≡ behind (of_code Begun) (Begun / 8 - 2)
  unfolding begun_from signal_of driver_of
  driver_is =
      driver_at rows bytes s
      ∙ ap (λ k. driver_of (signal_of rows s k) (cell_in Inverts₁ Byte)) (known_small Byte (untold_between Byte untold).0)
      ∙ go (ltb Byte 16) refl
    where
      seen : (one : Option Class) (p : Class) (next : ℕ) → told_of (told_or one p next) ≡ 8 → told_or one p next ≡ behind p next
      seen (some k) p next e = absurd (omega (arith, code_lt k))
      seen none p next e = refl

      Inverts₁ : Bool
      Inverts₁ = inverts_in (word_in rows s)

      go : (t : Bool) → ltb Byte 16 ≡ t
          → driver_of (gate (row_kind rows s) (row_pins rows s)) (cell_in Inverts₁ Byte)
          ≡ behind (of_code (cond t (16 + code (unit (op_at (gate_in (word_in rows s))))) Byte)) (cond t (16 + code (unit (op_at (gate_in (word_in rows s))))) Byte / 8 - 2)
      go true e =
          let u = unit (op_at (gate_in (word_in rows s))) in
          let small : code u < 8 = code_lt u in
          let pin : (16 + code u) / 8 - 2 ≡ 0 = omega arith in
          ap (driver_of (gate (row_kind rows s) (row_pins rows s))) (cell_new Inverts₁ Byte (ltb-true Byte 16 e))
          ∙ ap (λ o. behind (unit o) 0) (sym (gate_operation (word_in rows s)))
          ∙ (λ i. behind (sym (same_code (16 + code u) u (omega arith)) i) (sym pin i))
      go false e =
          let cell = cell_open Inverts₁ Byte (ltb-false Byte 16 e) (untold_between Byte untold).1 in
          ap (driver_of (gate (row_kind rows s) (row_pins rows s))) cell ∙ seen (only _) _ _ (begun_untold (ltb-false Byte 16 e))

  pub arrived : (p next : ℕ) → p ≡ Begun % 8 → next ≡ Begun / 8 - 2 → (cells : List ℕ) → cells ≡ put (cells_in rows bytes) s (kept (of_code p) next)
      → Arrived rows (known_in bytes) s w waiter (cells_in rows bytes) p next cells
  unfolding take_pin of_code
  arrived p next p_is next_is cells written =
      record {
        is = λ n h.
            let e : p % 8 ≡ Begun % 8 = omega (arith, p_is) in
            rw (written, e, next_is)
            (sym
            (ap (λ d. fetch (visit (source_from rows (known_in bytes)) (suc n)) s d w (waiting_of waiter) (cells_in rows bytes)) driver_is
            ∙ visit_gate (source_from rows (known_in bytes)) n s (row_kind rows s) (row_pins rows s) (of_code Begun) (Begun / 8 - 2) w (waiting_of waiter)
            (cells_in rows bytes) (source_gate rows (known_in bytes) s searched)));
      }

module _ (rows known : List ℕ) (s w waiter p₀ next₀ : ℕ) (cells₀ : List ℕ) (p next : ℕ) (cells : List ℕ)
    (rest : Rest rows known s w waiter p₀ next₀ cells₀ p next cells) where
  -- the gate's checks
  abbrev Found : Option Outcome
  Found = checks (possible (op_of (row_kind rows s)) (inverts (row_kind rows s)) (of_code p) (ltb next (count_in (word_in rows s)))) w (waiting_of waiter)

  -- what ends the rest ends the visit
  ends : (entry : List ℕ) → Arrived rows known s w waiter entry p₀ next₀ cells₀ → (after : List ℕ) (r : ℕ)
      → ((n : ℕ) → s ≤ n → (r, after) ≡ ended_of (waiting_of waiter) (left_of rows known s w waiter n p next cells)) → Ends rows known s w waiter entry after r
  ends entry begun after r e = is
    where
      is : (n : ℕ) → s < n → (r, after) ≡ ended_of (waiting_of waiter) (whole_of rows known s w waiter n entry)
      is zero less = absurd (omega arith)
      is (suc n) less = e n (omega arith) ∙ ap (ended_of (waiting_of waiter)) (rest.is n (omega arith) ∙ begun.is n (omega arith))

  pub rest_ends : (entry : List ℕ) → Arrived rows known s w waiter entry p₀ next₀ cells₀ → ended Found ≡ true → (r : ℕ) → r ≡ check_of (waiting_of waiter) Found
      → Ends rows known s w waiter entry cells r
  rest_ends entry begun over r h =
      let found = ended_by Found over in
      ends entry begun cells r
      (λ n less.
      ap (λ r. (r, cells)) (h ∙ ap (check_of (waiting_of waiter)) found.1)
      ∙ ap (ended_of (waiting_of waiter))
      (sym
      (pins_end (source_from rows known) (visit (source_from rows known) n) (row_kind rows s) s w (waiting_of waiter)
      (drop next (row_pins rows s)) (of_code p) next cells found.0 (rw (counted_set rows s (of_code p) next) found.1))))

  -- the next pin is on signal x, and is taken
  module _ (on : ended Found ≡ false) (less : next < count_in (word_in rows s)) (x wanted waits-as : ℕ) (counted after : List ℕ) (r : ℕ)
      (pin : x ≡ get_or (row_pins rows s) next 0) (below : x < s)
      (wants : wanted ≡ wanted_for (op_of (row_kind rows s)) (inverts (row_kind rows s)) (of_code p) (ltb (next + 1) (count_in (word_in rows s))) w)
      (waiting : waiting_of waits-as ≡ waits (op_of (row_kind rows s)) (of_code p)) (writes : counted ≡ put cells s (kept (of_code p) (next + 1)))
      (taking : Ends rows known x wanted waits-as counted after r) where
    abbrev Behind : ℕ → Ended
    Behind n =
        take_pin (source_from rows known) (visit (source_from rows known) n) (get_or (row_pins rows s) next 0)
        (wanted_for (op_of (row_kind rows s)) (inverts (row_kind rows s)) (of_code p) (pins_left (drop (suc next) (row_pins rows s))) w)
        (waits (op_of (row_kind rows s)) (of_code p)) (put cells s (kept (of_code p) (suc next)))

    behind_is : (n : ℕ) → s ≤ n → (r, after) ≡ ended_of (waits (op_of (row_kind rows s)) (of_code p)) (Behind n)
    behind_is n h =
        taking n (omega arith)
        ∙ rw (waiting, pin, wants, writes, left_is (suc next) (row_pins rows s), pins_length rows s, add-one next)

    -- the rest, by the number of the visit behind the pin
    turn_goes_on : ℕ → ℕ → List ℕ → Ended
    turn_goes_on n q c =
        cond (ltb q 8)
        (take_pins (source_from rows known) (visit (source_from rows known) n) (row_kind rows s) s w (waiting_of waiter) (drop (suc next) (row_pins rows s))
        (of_code q) (suc next) (put c s (kept (of_code q) (suc next))))
        (stopped, c)

    taken : (n : ℕ) → s ≤ n → left_of rows known s w waiter n p next cells ≡ turn_goes_on n r after
    unfolding turn_goes_on
    taken n h =
        pins_step (source_from rows known) (visit (source_from rows known) n) (row_kind rows s) s w (waiting_of waiter) (row_pins rows s) (of_code p) next cells
        (Behind n).0 (Behind n).1 (rw pins_length less) (rw (counted_set rows s (of_code p) next) (goes_on Found on)) refl
        ∙ reacts (Behind n).0 (Behind n).1 (op_of (row_kind rows s)) (of_code p) _
        ∙ sym (ap (λ e. turn_goes_on n e.0 e.1) (behind_is n h))

    pub rest_next : r < 8 → Rest rows known s w waiter p₀ next₀ cells₀ r (next + 1) (put after s (kept (of_code r) (next + 1)))
    unfolding turn_goes_on
    rest_next small = record { is = λ n h. rw (add-one next) (sym (rw (lt-ltb r 8 small) at (taken n h)) ∙ rest.is n h) }

    pub rest_stopped : r ≡ 8 → (entry : List ℕ) → Arrived rows known s w waiter entry p₀ next₀ cells₀ → Ends rows known s w waiter entry after 8
    unfolding turn_goes_on
    rest_stopped stop entry begun =
        ends entry begun after 8
        (λ n h. ap (λ r. (r, after)) (sym (stops (waiting_of waiter))) ∙ ap (ended_of (waiting_of waiter)) (sym (rw stop at (taken n h))))
