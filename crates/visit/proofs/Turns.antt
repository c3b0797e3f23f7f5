-- A visit's bytes from arrival to its end: the gate's own byte stays as on arrival until the end, with no pin counted. Assumes nothing.
use Prim.Native.Nat.{ℕ, zero, suc, ◌+◌, ◌-◌, ◌/◌, ◌%◌, ◌≤◌, ◌<◌}
use native.Mathlib.Omega.{arith}
use mathlib.Core.Path.{◌≡◌, refl, sym, ◌∙◌, ap, subst}
use mathlib.Core.Bool.{Bool, true, false, cond}
use mathlib.Core.List.{List, [], ◌∷◌}
use mathlib.Core.Option.{Option, some}
use lib.Dec.{ltb, eqb}
use lib.ListN.{length, get_or, set, drop, length-set, length-map}
use lib.Seq.{get_or-set_same, get_or-set_other, set-set}
use borrow.Author.Tests.{ltb-true, ltb-false, eqb-true, eqb-false}
use Rattle.kung.specs.Class.{Class, c0, of_code}
use Rattle.kung.specs.Operation.{op_of, inverts, invert_if}
use Rattle.kung.specs.Sets.{possible}
use Rattle.rows.specs.Rows.{count_in, gate_in, inverts_in, word_in, row_kind, row_pins}
use Rattle.search.specs.Search.{kept, byte_of, next_of, visited_of, put, possible_of, only, gates_visited}
use Rattle.search.proofs.Laws.{next_of_byte_of}
use Rattle.search.proofs.Counts.{total_put, visited_kept}
use Rattle.checks.specs.Codes.{code_or}
use Rattle.cells.specs.declared.Counts.{Counts}
use Rattle.cells.specs.Codes.{begun_from, arrived_tally, mark_of}
use Rattle.cells.specs.Cells.{cell_in, known_of, known_in, told_in}
use Rattle.checks.proofs.Checks.{only_own}
use Rattle.cells.proofs.Cells.{cell_new, cell_open, known_set, mark_cell, mark_large, untold_between, begun_next}
use Rattle.visit.specs.Cells.{cells_in, Marked, Marks}
use Rattle.visit.specs.Visits.{tally_of, Lends, Takes}
use Rattle.rows.proofs.Gates.{inverts_is}
use Rattle.visit.proofs.Totals.{pins_few, tally_put}
use Rattle.visit.proofs.Cells.{cells_length, cells_at, cells_small, cells_set, mark_marked}
use Rattle.visit.proofs.Visits.{Ends, Arrived, within, arrived, counted_set}

set_small : (bytes : List ℕ) (s b t : ℕ) → b < 256 → get_or bytes t 0 < 256 → get_or (set bytes s b) t 0 < 256
set_small [] s b t h small = small
set_small (a ∷ bytes) zero b zero h small = h
set_small (a ∷ bytes) zero b (suc t) h small = small
set_small (a ∷ bytes) (suc s) b zero h small = small
set_small (a ∷ bytes) (suc s) b (suc t) h small = set_small bytes s b t h small

-- the bytes in a visit of signal s, against those on arrival
pub record Held (rows : List ℕ) (s : ℕ) (begun bytes : List ℕ) (tally : Counts) : Type 0 where
  pub there : s < length bytes
  pub few : length bytes ≤ 2304
  pub small : (t : ℕ) → get_or bytes t 0 < 256
  pub tallied : tally ≡ tally_of (cells_in rows bytes)
  pub own : get_or bytes s 0 / 8 ≡ 2
  pub known : known_in bytes ≡ known_in begun
  pub above : (t : ℕ) → s < t → get_or bytes t 0 ≡ get_or begun t 0

-- the gate counts as visited on arrival, from its next pin
arrival_counts : (v : Bool) (byte : ℕ) → byte < 128
    → (cond (ltb byte 16) 1 0 + visited_of (byte_of (cell_in v byte)) ≡ 1) × (next_of (byte_of (cell_in v byte)) ≡ byte / 8 - 2)
arrival_counts v byte less = go (ltb byte 16) refl
  where
    go : (t : Bool) → ltb byte 16 ≡ t
        → (cond t 1 0 + visited_of (byte_of (cell_in v byte)) ≡ 1)
        × (next_of (byte_of (cell_in v byte)) ≡ byte / 8 - 2)
    go true e =
        let small : byte < 16 = ltb-true byte 16 e in
        rw (cell_new v byte small) (refl, omega arith)
    go false e =
        rw (cell_open v byte (ltb-false byte 16 e) less)
        (omega (arith, visited_kept (of_code byte) (byte / 8 - 2)), next_of_byte_of (of_code byte) (byte / 8 - 2))

pub put_put : (cells : List ℕ) (s : ℕ) (p q : Class) (i j : ℕ) → put (put cells s (kept p i)) s (kept q j) ≡ put cells s (kept q j)
unfolding put
put_put cells s p q i j = set-set cells s (byte_of (kept p i)) (byte_of (kept q j))

-- an unfinished gate's pins are counted
pub pins_counted : (rows : List ℕ) (s : ℕ) (entry : List ℕ) (tally : Counts) → Lends rows s entry tally → told_in (get_or entry s 0) ≡ 8
    → get_or entry s 0 / 8 - 2 ≤ tally.pins
pins_counted rows s entry tally lends untold =
    let counts = arrival_counts (inverts_in (word_in rows s)) (get_or entry s 0) (untold_between (get_or entry s 0) untold).1 in
    omega (
      arith,
      counts.1,
      ap next_of (cells_at rows entry s),
      ap (λ t. t.pins) lends.tallied,
      total_put next_of (cells_in rows entry) s (kept c0 0)
          (rw (cells_length rows entry) lends.there),
    )

-- what holds on arrival
pub record Begun (rows : List ℕ) (s w waiter : ℕ) (entry : List ℕ) (p next : ℕ) (begun : List ℕ) (tally : Counts) : Type 0 where
  pub small : p < 8
  pub within : next ≤ count_in (word_in rows s)
  pub held : Held rows s begun begun tally
  pub marked : Marks rows begun s
  pub known : known_in begun ≡ known_in entry
  pub above : (t : ℕ) → s < t → get_or begun t 0 ≡ get_or entry t 0
  pub starts : Arrived rows (known_in entry) s w waiter (cells_in rows entry) p next (put (cells_in rows begun) s (kept (of_code p) next))

module _ (rows : List ℕ) (s w waiter : ℕ) (entry : List ℕ) (tally : Counts) (lends : Lends rows s entry tally) (untold : told_in (get_or entry s 0) ≡ 8) (p next : ℕ)
    (p_is : p ≡ begun_from (gate_in (word_in rows s)) (get_or entry s 0) % 8) (next_is : next ≡ begun_from (gate_in (word_in rows s)) (get_or entry s 0) / 8 - 2)
    (begun : List ℕ) (tally₁ : Counts) (written : begun ≡ set entry s (16 + p)) (counted : tally₁ ≡ arrived_tally tally (get_or entry s 0)) where
  abbrev Inverted : Bool
  Inverted = inverts_in (word_in rows s)

  p_small : p < 8
  p_small = omega (arith, p_is)

  -- as of a gate that has taken no pin
  cells_begun : cells_in rows begun ≡ put (cells_in rows entry) s (kept (of_code (16 + p)) ((16 + p) / 8 - 2))
  cells_begun =
      ap (cells_in rows) written ∙ cells_set rows entry s (16 + p)
      ∙ ap (put (cells_in rows entry) s) (cell_open Inverted (16 + p) (omega arith) (omega (arith, p_small)))

  begun_known : known_in begun ≡ known_in entry
  begun_known = ap known_in written ∙ known_set entry s (16 + p) (untold_between (get_or entry s 0) untold).0 (omega arith)

  begun_above : (t : ℕ) → s < t → get_or begun t 0 ≡ get_or entry t 0
  begun_above t less = ap (λ l. get_or l t 0) written ∙ get_or-set_other entry s t (16 + p) 0 (λ same. omega arith)

  begun_marks : Marks rows begun s
  begun_marks t less = subst (Marked rows t) (sym (ap (λ l. get_or l t 0) written ∙ get_or-set_other entry s t (16 + p) 0 (λ same. omega arith))) (lends.marked t (omega arith))

  begun_held : Held rows s begun begun tally₁
  begun_held =
      record {
        there = rw (written, length-set) lends.there;
        few = rw (written, length-set) lends.few;
        small = λ t. rw written (set_small entry s (16 + p) t (omega (arith, p_small)) (lends.small t));
        tallied =
            counted ∙ ap (λ t. arrived_tally t (get_or entry s 0)) lends.tallied
            ∙ tally_put (cells_in rows entry) s (of_code (16 + p)) ((16 + p) / 8 - 2) _ _ (rw (cells_length rows entry) lends.there)
            (rw (cells_at rows entry s) (omega (arith, counts.0)))
            (rw (cells_at rows entry s) (omega (arith, counts.1, pins_counted rows s entry tally lends untold, ap (λ t. t.pins) lends.tallied)))
            ∙ ap tally_of (sym cells_begun);
        own = omega (arith, ap (λ l. get_or l s 0) written ∙ get_or-set_same entry s (16 + p) 0 lends.there, p_small);
        known = refl;
        above = λ t h. refl;
      }
    where
      counts : (cond (ltb (get_or entry s 0) 16) 1 0 + visited_of (byte_of (cell_in Inverted (get_or entry s 0))) ≡ 1)
          × (next_of (byte_of (cell_in Inverted (get_or entry s 0))) ≡ get_or entry s 0 / 8 - 2)
      counts = arrival_counts Inverted (get_or entry s 0) (untold_between (get_or entry s 0) untold).1

  pub begins : Begun rows s w waiter entry p next begun tally₁
  begins =
      record {
        small = p_small;
        within = omega (arith, next_is, begun_next (gate_in (word_in rows s)) (get_or entry s 0), within rows s w waiter entry untold (lends.marked s (omega arith)));
        held = begun_held;
        marked = begun_marks;
        known = begun_known;
        above = begun_above;
        starts =
            arrived rows s w waiter entry untold (lends.marked s (omega arith)) p next p_is next_is _
            (ap (λ cells. put cells s (kept (of_code p) next)) cells_begun
            ∙ put_put (cells_in rows entry) s (of_code (16 + p)) (of_code p) ((16 + p) / 8 - 2) next);
      }

-- the gate's own cell is as of one that has taken no pin
own_cell : (rows : List ℕ) (s : ℕ) (bytes : List ℕ) → get_or bytes s 0 / 8 ≡ 2
    → get_or (cells_in rows bytes) s 0 ≡ byte_of (kept (of_code (get_or bytes s 0)) 0)
own_cell rows s bytes own =
    let byte = get_or bytes s 0 in
    let none : byte / 8 - 2 ≡ 0 = omega arith in
    cells_at rows bytes s
    ∙ ap byte_of (cell_open (inverts_in (word_in rows s)) byte (omega arith) (omega arith) ∙ ap (kept (of_code byte)) none)

pub held_length : (rows : List ℕ) (s : ℕ) (begun bytes : List ℕ) (tally : Counts) → Held rows s begun bytes tally → length bytes ≡ length begun
held_length rows s begun bytes tally held = sym (length-map bytes known_of) ∙ ap length held.known ∙ length-map begun known_of

-- so few pins were taken that they have room
pub held_pins : (rows : List ℕ) (s : ℕ) (begun bytes : List ℕ) (tally : Counts) → Held rows s begun bytes tally → tally.pins ≤ 36864
held_pins rows s begun bytes tally held =
    omega (arith, ap (λ t. t.pins) held.tallied, pins_few (cells_in rows bytes) (λ t. cells_small rows bytes t (held.small t)), cells_length rows bytes, held.few)

-- a pin below was taken
module _ (rows : List ℕ) (s : ℕ) (begun bytes : List ℕ) (tally : Counts) (x wanted waiter : ℕ) (bytes₁ : List ℕ) (tally₁ : Counts) (r : ℕ) (below : x < s)
    (takes : Takes rows x wanted waiter bytes bytes₁ tally₁ r) where
  pub held_after : Held rows s begun bytes tally → Held rows s begun bytes₁ tally₁
  held_after held =
      let same : length bytes₁ ≡ length bytes = sym (length-map bytes₁ known_of) ∙ ap length takes.known ∙ length-map bytes known_of in
      record {
        there = omega (arith, held.there);
        few = omega (arith, held.few);
        small = takes.small;
        tallied = takes.tallied;
        own = ap (λ b. b / 8) (takes.above s below) ∙ held.own;
        known = takes.known ∙ held.known;
        above = λ t h. takes.above t (omega arith) ∙ held.above t h;
      }

  pub marks_after : r < 8 → Marks rows bytes s → Marks rows bytes₁ s
  marks_after small marked t less = go (ltb x t) refl
    where
      go : (l : Bool) → ltb x t ≡ l → Marked rows t (get_or bytes₁ t 0)
      go true e = subst (Marked rows t) (sym (takes.above t (ltb-true x t e))) (marked t less)
      go false e = let le = ltb-false x t e in takes.marked small t (omega arith)

-- a mark by the only class of the gate's possible set, if there is one
module _ (rows : List ℕ) (s p next class mark : ℕ)
    (found : class
    ≡ code_or (only (possible (op_of (row_kind rows s)) (inverts (row_kind rows s)) (of_code p) (ltb next (count_in (word_in rows s)))))) (few : next ≤ 13)
    (is-mark : mark ≡ mark_of class p next) where
  abbrev Only : Option Class
  Only = only (possible_of (row_kind rows s) (of_code p) (drop next (row_pins rows s)))

  mark_is : mark ≡ mark_of (code_or Only) p next
  mark_is = is-mark ∙ ap (λ c. mark_of c p next) (found ∙ ap (λ m. code_or (only m)) (sym (counted_set rows s (of_code p) next)))

  pub marked_cell : cell_in (inverts_in (word_in rows s)) mark ≡ kept (of_code p) next
  marked_cell = ap (cell_in (inverts_in (word_in rows s))) mark_is ∙ mark_cell (inverts_in (word_in rows s)) p next Only few own
    where
      own : (k : Class) → Only ≡ some k → k ≡ invert_if (inverts_in (word_in rows s)) (of_code p)
      own k e =
          only_own (row_kind rows s) (of_code p) (drop next (row_pins rows s)) k e
          ∙ ap (λ v. invert_if v (of_code p)) (sym (inverts_is (word_in rows s)))

  pub marked_told : Marked rows s mark
  marked_told = subst (Marked rows s) (sym mark_is) (mark_marked rows s p next few)

  pub marked_large : 8 ≤ mark
  marked_large = omega (arith, mark_is, mark_large (code_or Only) p next)

-- at the end the gate's byte is written
module _ (rows : List ℕ) (s w waiter p₀ next₀ : ℕ) (entry begun : List ℕ) (tally₀ : Counts) (bytes : List ℕ) (tally : Counts) (at : Begun rows s w waiter entry p₀ next₀ begun tally₀) (held : Held rows s begun bytes tally)
    (p next mark : ℕ) (cell : cell_in (inverts_in (word_in rows s)) mark ≡ kept (of_code p) next) (written : 8 ≤ mark) (fits : mark < 256)
    (exit : List ℕ) (tally₁ : Counts) (left : exit ≡ set bytes s mark) (counted : tally₁ ≡ record tally { pins = tally.pins + next }) (r : ℕ) where
  cells_left : cells_in rows exit ≡ put (cells_in rows bytes) s (kept (of_code p) next)
  cells_left = ap (cells_in rows) left ∙ cells_set rows bytes s mark ∙ ap (put (cells_in rows bytes) s) cell

  pub leaves : Ends rows (known_in entry) s w waiter (cells_in rows entry) (put (cells_in rows bytes) s (kept (of_code p) next)) r
      → (r < 8 → Marks rows bytes s × Marked rows s mark) → Takes rows s w waiter entry exit tally₁ r
  leaves is marked =
      record {
        is = subst (λ cells. Ends rows (known_in entry) s w waiter (cells_in rows entry) cells r) (sym cells_left) is;
        tallied =
            counted ∙ ap (λ (t : Counts). record t { pins = t.pins + next }) held.tallied
            ∙ tally_put (cells_in rows bytes) s (of_code p) next (gates_visited (cells_in rows bytes)) _ (rw (cells_length rows bytes) held.there)
            (rw (own_cell rows s bytes held.own) (omega (arith, visited_kept (of_code (get_or bytes s 0)) 0)))
            (rw (own_cell rows s bytes held.own) (omega (arith, next_of_byte_of (of_code (get_or bytes s 0)) 0)))
            ∙ ap tally_of (sym cells_left);
        known = ap known_in left ∙ known_set bytes s mark (omega (arith, held.own)) written ∙ held.known ∙ at.known;
        small = λ t. rw left (set_small bytes s mark t fits (held.small t));
        marked = λ small t h. go (marked small) t h (eqb t s) refl;
        above = λ t h. ap (λ l. get_or l t 0) left ∙ get_or-set_other bytes s t mark 0 (λ same. omega arith) ∙ held.above t h ∙ at.above t h;
      }
    where
      go : Marks rows bytes s × Marked rows s mark → (t : ℕ) → t < suc s → (e : Bool) → eqb t s ≡ e → Marked rows t (get_or exit t 0)
      go m t h true same =
          rw (eqb-true t s same) (subst (Marked rows s) (sym (ap (λ l. get_or l s 0) left ∙ get_or-set_same bytes s mark 0 held.there)) m.1)
      go m t h false other =
          let apart : (t ≡ s → ⊥) = eqb-false t s other in
          subst (Marked rows t) (sym (ap (λ l. get_or l t 0) left ∙ get_or-set_other bytes s t mark 0 apart)) (m.0 t (omega arith))
