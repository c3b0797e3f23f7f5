-- The answers of a search, as the code makes them. Assumes nothing.
use Prim.Native.Nat.{ℕ, suc, ◌+◌, ◌-◌, ◌≤◌, ◌<◌}
use native.Mathlib.Omega.{arith}
use native.Mathlib.Decide.{dec_lt}
use mathlib.Core.Path.{◌≡◌, refl, sym, ◌∙◌, ap, ap₂}
use mathlib.Core.List.{List, [], ◌++◌}
use lib.ListN.{length, get_or, take, drop, length-map, length-drop, length-replicate, get_or-map}
use lib.Seq.{ext_get_or, get_or-drop, get_or-take, length-take-le}
use borrow.Author.Tests.{lt-ltb}
use borrow.Rule.Slice.PartMut.{mid_of, post_of, put_mid, Post-is, mid_len, put_same}
use Rattle.kung.specs.Class.{Class, code, of_code}
use Rattle.kung.specs.Operation.{op_of, unit}
use Rattle.kung.proofs.SetLaws.{code_lt}
use Rattle.circuit.specs.Circuit.{Source, Falling}
use Rattle.rows.specs.Rows.{row_kind, inverts_in, word_in}
use Rattle.search.specs.Search.{byte_of, fresh, total, visited_of, next_of, cell_at, cell_of, nobody, Outcome, stopped, known, unfinished, driver_of, Ended, take_pin, visit, judged, verdict_of, visited, answer_of, end_from, search}
use Rattle.search.proofs.Laws.{fresh_at, total_fresh}
use Rattle.search.proofs.Same.{search_any}
use Rattle.checks.specs.Codes.{waiting_of, ending_of}
use Rattle.cells.specs.declared.Counts.{Counts}
use Rattle.cells.specs.Cells.{known_of, known_in}
use Rattle.cells.proofs.Cells.{cell_new, known_small, fresh_known_of}
use Rattle.visit.specs.declared.Verdict.{Verdict}
use Rattle.visit.specs.declared.Found.{Found}
use Rattle.visit.specs.Source.{source_from}
use Rattle.visit.specs.Found.{verdict_code, found_of}
use Rattle.visit.specs.Codes.{verdict_from}
use Rattle.visit.specs.Cells.{cells_in, Marks, Afresh}
use Rattle.visit.specs.Lent.{InputsGiven}
use Rattle.visit.specs.Visits.{ended_of, tally_of, Takes}
use Rattle.visit.proofs.Sources.{source_given, source_gate}
use Rattle.visit.proofs.Cells.{cells_at, cells_length, fresh_marked}

-- an answer without a visit
pub search_given : (rows known : List ℕ) (w s : ℕ) → get_or known s 0 < 8 → (verdict : Verdict) → verdict ≡ verdict_code (judged w (of_code (get_or known s 0)))
    → ◌≡◌ {A = Found} record { verdict = verdict; gates = 0; pins = 0 } (found_of (search (source_from rows known) w s))
unfolding search
search_given rows codes w s given verdict e = rw (source_given rows codes s given) (λ i. record { verdict = e i; gates = 0; pins = 0 })

verdict_ended : (e : Outcome) → verdict_from (ending_of nobody e) ≡ verdict_code (verdict_of e)
verdict_ended stopped = refl
verdict_ended (known k) = rw (lt-ltb (code k) 8 (code_lt k))
verdict_ended (unfinished r) = refl

-- bytes of which none is visited
module _ (rows bytes : List ℕ) (afresh : Afresh bytes) where
  pub fresh_known : known_in bytes ≡ bytes
  fresh_known = ext_get_or 0 (known_in bytes) bytes (length-map bytes known_of) (λ t less. get_or-map known_of bytes t 0 ∙ fresh_known_of (get_or bytes t 0) (afresh t))

  fresh_cells : cells_in rows bytes ≡ fresh (length bytes)
  fresh_cells =
      ext_get_or 0 (cells_in rows bytes) (fresh (length bytes)) (cells_length rows bytes ∙ sym (length-replicate (length bytes) 0))
      (λ t less.
      cells_at rows bytes t ∙ ap byte_of (cell_new (inverts_in (word_in rows t)) (get_or bytes t 0) (omega (arith, afresh t))) ∙ sym (fresh_at (length bytes) t))

  pub fresh_tally : ◌≡◌ {A = Counts} record { gates = 0; pins = 0 } (tally_of (cells_in rows bytes))
  unfolding total
  fresh_tally =
      sym (ap tally_of fresh_cells ∙ ap₂ (λ (x y : ℕ). record { gates = x; pins = y }) (total_fresh visited_of refl [] (length bytes)) (total_fresh next_of refl [] (length bytes)))

  pub fresh_marks : (n : ℕ) → Marks rows bytes n
  fresh_marks n s less = fresh_marked rows s (get_or bytes s 0) (afresh s)

  module _ (w s : ℕ) (falling : Falling (source_from rows bytes)) (there : s < length bytes) (searched : 8 ≤ get_or bytes s 0) (r : ℕ)
      (exit : List ℕ) (tally : Counts) (takes : Takes rows s w 16 bytes exit tally r) where
    abbrev Src : ℕ → Source Class
    Src = source_from rows bytes

    -- the visit of the definition
    abbrev Visited : Ended
    Visited = visit Src (suc s) s (unit (op_of (row_kind rows s))) 0 w nobody (fresh (length bytes))

    taken : take_pin Src (visit Src (suc s)) s w nobody (fresh (length bytes)) ≡ Visited
    unfolding take_pin driver_of cell_at cell_of
    taken = rw (source_gate rows bytes s searched, fresh_at (length bytes) s)

    ended : (r, cells_in rows exit) ≡ ended_of nobody Visited
    unfolding waiting_of
    ended =
        takes.is (suc s) (omega arith)
        ∙ (λ i. ended_of nobody (take_pin (source_from rows (fresh_known i)) (visit (source_from rows (fresh_known i)) (suc s)) s w nobody (fresh_cells i)))
        ∙ ap (ended_of nobody) taken

    pub search_visited : (found : Found) → found.verdict ≡ verdict_from r → found.gates ≡ tally.gates → found.pins ≡ tally.pins
        → found ≡ found_of (search Src w s)
    search_visited found v g p =
        go Visited ended ∙ ap (λ d. found_of (answer_of w (end_from Src (suc s) d w s (fresh (length bytes))))) (sym (source_gate rows bytes s searched))
        ∙ ap found_of (search_any Src falling (suc s) (length bytes) w s (omega arith) there)
      where
        go : (e : Ended) → (r, cells_in rows exit) ≡ ended_of nobody e → found ≡ found_of (answer_of w (visited e))
        go e h =
            let o : r ≡ ending_of nobody e.0 = ap (λ x. x.0) h in
            let c : tally ≡ tally_of e.1 = takes.tallied ∙ ap (λ x. tally_of x.1) h in
            λ i.
            record {
              verdict = (v ∙ ap verdict_from o ∙ verdict_ended e.0) i;
              gates = (g ∙ ap (λ t. t.gates) c) i;
              pins = (p ∙ ap (λ t. t.pins) c) i;
            }

    -- what was known is left, as far as the search went: below the first gate and above signal s nothing is written
    pub known_left : (first : ℕ) → InputsGiven first bytes → first ≤ s + 1
        → put_mid first (s + 1 - first) exit (known_in (mid_of first (s + 1 - first) exit)) ≡ bytes
    known_left first given inside = (λ i. below i ++ (middle i ++ above i)) ∙ put_same first (s + 1 - first) bytes
      where
        long : length exit ≡ length bytes
        long = sym (length-map exit known_of) ∙ ap length takes.known ∙ length-map bytes known_of

        known_at : (t : ℕ) → known_of (get_or exit t 0) ≡ get_or bytes t 0
        known_at t = sym (get_or-map known_of exit t 0) ∙ ap (λ l. get_or l t 0) (takes.known ∙ fresh_known)

        given_at : (t : ℕ) → t < first → get_or exit t 0 ≡ get_or bytes t 0
        given_at t less = go (dec_lt (get_or exit t 0) 8)
          where
            go : Dec (get_or exit t 0 < 8) → get_or exit t 0 ≡ get_or bytes t 0
            go (yes class) = sym (fresh_known_of (get_or exit t 0) (omega arith)) ∙ known_at t
            go (no none) = absurd (omega (arith, known_small (get_or exit t 0) (omega arith), known_at t, given t less))

        below : take first exit ≡ take first bytes
        below =
            let all : length (take first exit) ≡ first = length-take-le first exit (omega (arith, long)) in
            ext_get_or 0 (take first exit) (take first bytes) (all ∙ sym (length-take-le first bytes (omega arith)))
            (λ t less.
            let low : t < first = omega (arith, all) in
            get_or-take first exit t 0 low ∙ given_at t low ∙ sym (get_or-take first bytes t 0 low))

        middle : known_in (mid_of first (s + 1 - first) exit) ≡ mid_of first (s + 1 - first) bytes
        middle =
            let k = s + 1 - first in
            let all : length (known_in (mid_of first k exit)) ≡ k = length-map (mid_of first k exit) known_of ∙ mid_len first (s + 1) exit (omega (arith, long)) in
            ext_get_or 0 (known_in (mid_of first k exit)) (mid_of first k bytes) (all ∙ sym (mid_len first (s + 1) bytes (omega arith)))
            (λ t less.
            let low : t < k = omega (arith, all) in
            get_or-map known_of (mid_of first k exit) t 0
            ∙ ap known_of (get_or-take k (drop first exit) t 0 low ∙ get_or-drop first exit t 0)
            ∙ known_at (first + t)
            ∙ sym (get_or-take k (drop first bytes) t 0 low ∙ get_or-drop first bytes t 0))

        upper : drop (s + 1) exit ≡ drop (s + 1) bytes
        upper =
            ext_get_or 0 (drop (s + 1) exit) (drop (s + 1) bytes) (length-drop (s + 1) exit ∙ ap (λ n. n - (s + 1)) long ∙ sym (length-drop (s + 1) bytes))
            (λ t less. get_or-drop (s + 1) exit t 0 ∙ takes.above (s + 1 + t) (omega arith) ∙ sym (get_or-drop (s + 1) bytes t 0))

        above : post_of first (s + 1 - first) exit ≡ post_of first (s + 1 - first) bytes
        above = Post-is first (s + 1) exit inside ∙ upper ∙ sym (Post-is first (s + 1) bytes inside)
