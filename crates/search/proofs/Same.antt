-- A search depends on the sources of its cone alone: not on sources outside a set of signals that is closed under pins, not on the number that bounds the
-- signals, not on cells above the signal. Assumes nothing.
use Prim.Native.Nat.{ℕ, zero, suc, ◌+◌, ◌-◌, ◌<◌, ◌≤◌}
use native.Mathlib.Omega.{arith}
use mathlib.Core.Path.{◌≡◌, refl, sym, ◌∙◌, ap}
use mathlib.Core.Bool.{Bool, true}
use mathlib.Core.List.{List, [], ◌∷◌, ◌++◌}
use mathlib.Core.Option.{Option, none, some}
use lib.ListN.{length, get_or, take, drop, length-replicate, replicate-append-replicate, get_or-append, set}
use lib.Seq.{length-take-le, set-append_left, set_at, set_split, split_at}
use Rattle.kung.specs.Class.{Class}
use Rattle.kung.specs.Rule.{Kind}
use Rattle.kung.specs.Operation.{Op, op_of, inverts, join, unit}
use Rattle.kung.specs.Sets.{wanted_for}
use Rattle.circuit.specs.Circuit.{Source, given, gate, Each, Falling}
use Rattle.search.specs.Search.{Cell, kept, byte_of, next_of, visited_of, cell_of, cell_at, put, fresh, possible_of, pins_left, Waiting, nobody, waits, Outcome, stopped, known, unfinished, checks, Driver, told, behind, driver_of, Ended, Visit, fetch, react, end_or, take_pin, take_pins, arrive, visit, verdict_of, visited, answer_of, end_from, search}
use Rattle.search.specs.Pins.{Closed}
use Rattle.search.proofs.Laws.{each_drop, length_put, total_fresh}
use Rattle.search.proofs.Writes.{closed_all, visit_length}

-- a visit, and so a taken pin, leaves the number of cells
abbrev Lengths : Visit → Type 0
Lengths v = (s : ℕ) (p : Class) (next w : ℕ) (wt : Waiting) (cells : List ℕ) → length (v s p next w wt cells).1 ≡ length cells

fetch_length : (v : Visit) → Lengths v → (x : ℕ) (d : Driver) (w : ℕ) (wt : Waiting) (cells : List ℕ) → length (fetch v x d w wt cells).1 ≡ length cells
fetch_length v h x (told k) w wt cells = refl
fetch_length v h x (behind p next) w wt cells = h x p next w wt cells

take-length : (v : Visit) → Lengths v → (src : ℕ → Source Class) (x w : ℕ) (wt : Waiting) (cells : List ℕ)
    → length (take_pin src v x w wt cells).1 ≡ length cells
unfolding take_pin
take-length v h src x w wt cells = fetch_length v h x (driver_of (src x) (cell_at cells x)) w wt cells

module _ (more : List ℕ) where
  -- the same end, with more cells
  abbrev onto : Ended → Ended
  onto ended = (ended.0, ended.1 ++ more)

  end_same : (e : Option Outcome) (cells : List ℕ) (go_on goOn' : List ℕ → Ended) → go_on (cells ++ more) ≡ onto (goOn' cells)
      → end_or e (cells ++ more) go_on ≡ onto (end_or e cells goOn')
  end_same (some e) cells go_on goOn' h = refl
  end_same none cells go_on goOn' h = h

  react_same : (e : Outcome) (cells : List ℕ) (o : Op) (p : Class) (go_on goOn' : Class → List ℕ → Ended)
      → ((p : Class) → go_on p (cells ++ more) ≡ onto (goOn' p cells)) → react e (cells ++ more) o p go_on ≡ onto (react e cells o p goOn')
  react_same stopped cells o p go_on goOn' h = refl
  react_same (known k) cells o p go_on goOn' h = h (join o p k)
  react_same (unfinished r) cells o p go_on goOn' h = h r

  fetch_same : (v v' : Visit) (x : ℕ) (w : ℕ) (wt : Waiting) (cells : List ℕ)
      → ((p : Class) (next : ℕ) → v x p next w wt (cells ++ more) ≡ onto (v' x p next w wt cells))
      → (d : Driver) → fetch v x d w wt (cells ++ more) ≡ onto (fetch v' x d w wt cells)
  fetch_same v v' x w wt cells h (told k) = refl
  fetch_same v v' x w wt cells h (behind p next) = h p next

  put_more : (cells : List ℕ) (s : ℕ) (c : Cell) → s < length cells → put (cells ++ more) s c ≡ put cells s c ++ more
  unfolding put
  put_more cells s c h = set-append_left cells more s (byte_of c) h

  cell_at_more : (cells : List ℕ) (s : ℕ) → s < length cells → cell_at (cells ++ more) s ≡ cell_at cells s
  unfolding cell_at
  cell_at_more cells s h = ap cell_of (get_or-append cells more 0 s h)

  module _ (src src' : ℕ → Source Class) (c : ℕ → Bool) (agree : (s : ℕ) → c s ≡ true → src s ≡ src' s) where
    abbrev SameVisit : ℕ → Visit → Visit → Type 0
    SameVisit n v v' = (s : ℕ) (p : Class) (next w : ℕ) (wt : Waiting) (cells : List ℕ) → s < n → c s ≡ true → s < length cells
        → v s p next w wt (cells ++ more) ≡ onto (v' s p next w wt cells)

    take_same : (n : ℕ) (v v' : Visit) → SameVisit n v v' → (x w : ℕ) (wt : Waiting) (cells : List ℕ) → x < n → c x ≡ true → x < length cells
        → take_pin src v x w wt (cells ++ more) ≡ onto (take_pin src' v' x w wt cells)
    unfolding take_pin
    take_same n v v' ih x w wt cells below here fits =
        rw (agree x here, cell_at_more cells x fits) (fetch_same v v' x w wt cells (λ p next. ih x p next w wt cells below here fits) (driver_of (src' x) (cell_at cells x)))

    module _ (n : ℕ) (v v' : Visit) (ih : SameVisit n v v') (lengths : Lengths v') (s : ℕ) (d : Kind) (w : ℕ) (wt : Waiting) (below : s ≤ n) where
      pins_same : (left : List ℕ) (p : Class) (next : ℕ) (cells : List ℕ) → Each (λ x. x < s) left → Each (λ x. c x ≡ true) left → s < length cells
          → take_pins src v d s w wt left p next (cells ++ more) ≡ onto (take_pins src' v' d s w wt left p next cells)
      unfolding take_pins
      pins_same [] p next cells fall inside fits = end_same (checks (possible_of d p []) w wt) cells _ _ refl
      pins_same (x ∷ left) p next cells fall inside fits =
          end_same (checks (possible_of d p (x ∷ left)) w wt) cells _ _
          (ap (λ e. react e.0 e.1 (op_of d) p (go_on src v)) ended_same ∙ react_same ended.0 ended.1 (op_of d) p (go_on src v) (go_on src' v')
          (later (λ cells q. pins_same left q (suc next) cells fall.1 inside.1)))
        where
          go_on : (ℕ → Source Class) → Visit → Class → List ℕ → Ended
          go_on src v q cells = take_pins src v d s w wt left q (suc next) (put cells s (kept q (suc next)))

          wanted : ℕ
          wanted = wanted_for (op_of d) (inverts d) p (pins_left left) w

          cells₁ : List ℕ
          cells₁ = put cells s (kept p (suc next))

          ended : Ended
          ended = take_pin src' v' x wanted (waits (op_of d) p) cells₁

          ended_same : take_pin src v x wanted (waits (op_of d) p) (put (cells ++ more) s (kept p (suc next))) ≡ onto ended
          ended_same =
              rw (put_more cells s (kept p (suc next)) fits)
              (take_same n v v' ih x wanted (waits (op_of d) p) cells₁ (let less : x < s = fall.0 in omega arith) inside.0
              (rw length_put (let less : x < s = fall.0 in omega arith)))

          still : s < length ended.1
          still =
              rw (take-length v' lengths src' x wanted (waits (op_of d) p) cells₁, length_put cells s (kept p (suc next))) fits

          later : ((cells : List ℕ) (q : Class) → s < length cells
              → take_pins src v d s w wt left q (suc next) (cells ++ more) ≡ onto (take_pins src' v' d s w wt left q (suc next) cells))
              → (q : Class) → go_on src v q (ended.1 ++ more) ≡ onto (go_on src' v' q ended.1)
          later rest q = rw (put_more ended.1 s (kept q (suc next)) still) (rest (put ended.1 s (kept q (suc next))) q (rw length_put still))

    visit_same : Closed src c → Falling src → (n n' : ℕ) (s : ℕ) (p : Class) (next w : ℕ) (wt : Waiting) (cells : List ℕ) → s < n → s < n' → c s ≡ true
        → s < length cells → visit src n s p next w wt (cells ++ more) ≡ onto (visit src' n' s p next w wt cells)
    unfolding visit
    visit_same closed falling zero n' s p next w wt cells below below' here fits = absurd (omega arith)
    visit_same closed falling (suc n) zero s p next w wt cells below below' here fits = absurd (omega arith)
    visit_same closed falling (suc n) (suc n') s p next w wt cells below below' here fits =
        rw (agree s here)
        (go (λ s p next w wt cells less. visit_same closed falling n n' s p next w wt cells (omega arith) (omega arith)) (src' s) (agree s here))
      where
        go : SameVisit s (visit src n) (visit src' n') → (d : Source Class) → src s ≡ d
            → arrive src (visit src n) d s p next w wt (cells ++ more) ≡ onto (arrive src' (visit src' n') d s p next w wt cells)
        go ih (given k) e = refl
        go ih (gate d ps) e =
            rw (put_more cells s (kept p next) fits)
            (pins_same s (visit src n) (visit src' n') ih (visit_length src' n') s d w wt (omega arith) (drop next ps) p next (put cells s (kept p next))
            (each_drop (λ x. x < s) next ps (rw e at (falling s))) (each_drop (λ x. c x ≡ true) next ps (rw e at (closed s here))) (rw length_put fits))

answer_fresh : (w : ℕ) (ended : Ended) (n : ℕ) → answer_of w (visited (onto (fresh n) ended)) ≡ answer_of w (visited ended)
answer_fresh w ended n =
    λ i.
    record {
      verdict = verdict_of ended.0;
      gates = total_fresh visited_of refl ended.1 n i;
      pins = total_fresh next_of refl ended.1 n i;
    }

module _ (src src' : ℕ → Source Class) (c : ℕ → Bool) (closed : Closed src c) (agree : (s : ℕ) → c s ≡ true → src s ≡ src' s) (falling : Falling src) where
  -- Two sources that agree on a closed set give equal searches of its signals, with any number n above the signal, and any number of cells above it.
  pub search_same : (n m w s : ℕ) → s < n → s < m → c s ≡ true → answer_of w (end_from src n (src s) w s (fresh m)) ≡ search src' w s
  unfolding search
  search_same n m w s below fits here = rw (agree s here) (go (src' s))
    where
      split : fresh m ≡ fresh (suc s) ++ fresh (m - suc s)
      split = sym (replicate-append-replicate (suc s) (m - suc s) 0 ∙ ap fresh (let sum : suc s + (m - suc s) ≡ m = omega arith in sum))

      go : (d : Source Class) → answer_of w (end_from src n d w s (fresh m)) ≡ answer_of w (end_from src' (suc s) d w s (fresh (suc s)))
      go (given k) = refl
      go (gate d ps) =
          ap (λ cells. answer_of w (visited (visit src n s (unit (op_of d)) 0 w nobody cells))) split
          ∙ ap (λ ended. answer_of w (visited ended))
          (visit_same (fresh (m - suc s)) src src' c agree closed falling n (suc s) s (unit (op_of d)) 0 w nobody (fresh (suc s)) below (omega arith) here
          (rw length-replicate (omega arith)))
          ∙ answer_fresh w (visit src' (suc s) s (unit (op_of d)) 0 w nobody (fresh (suc s))) (m - suc s)

-- so the search may be run with any number of cells, and any bound, above the signal
pub search_any : (src : ℕ → Source Class) → Falling src → (n m w s : ℕ) → s < n → s < m → answer_of w (end_from src n (src s) w s (fresh m)) ≡ search src w s
search_any src falling n m w s below fits = search_same src src (λ s. true) (closed_all src) (λ s h. refl) falling n m w s below fits refl

-- a taken pin neither sees nor changes a cell above its signal
module _ (src : ℕ → Source Class) (falling : Falling src) (n x w : ℕ) (wt : Waiting) (cells : List ℕ) (s : ℕ) (c : Cell) (below : x < n) (less : x < s)
    (there : s < length cells) where
  abbrev taken : List ℕ → Ended
  taken cells = take_pin src (visit src n) x w wt cells

  -- the cells below s
  abbrev lower : List ℕ
  lower = take s cells

  lower_length : length lower ≡ s
  lower_length = length-take-le s cells (omega arith)

  with_more : (more : List ℕ) → taken (lower ++ more) ≡ onto more (taken lower)
  with_more more =
      take_same more src src (λ s. true) (λ s h. refl) n (visit src n) (visit src n)
      (λ s p next w wt cells below. visit_same more src src (λ s. true) (λ s h. refl) (closed_all src) falling n n s p next w wt cells below below) x w wt lower below refl
      (rw lower_length less)

  pub take_put : taken (put cells s c) ≡ ((taken cells).0, put (taken cells).1 s c)
  unfolding put
  take_put =
      let rest = drop (suc s) cells in
      let e = taken lower in
      let long : length e.1 ≡ s = take-length (visit src n) (visit_length src n) src x w wt lower ∙ lower_length in
      ap taken (set_split cells s (byte_of c) there) ∙ with_more (byte_of c ∷ rest)
      ∙ sym
      (ap (λ cells. ((taken cells).0, set (taken cells).1 s (byte_of c))) (split_at cells s 0 there)
      ∙ ap (λ (e : Ended). (e.0, set e.1 s (byte_of c))) (with_more (get_or cells s 0 ∷ rest))
      ∙ ap (λ l. (e.0, l)) (set_at e.1 (get_or cells s 0) rest (byte_of c) s long))
