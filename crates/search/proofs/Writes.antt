-- What each write of a cell keeps, a visit keeps. Assumes nothing.
use Prim.Native.Nat.{ℕ, zero, suc, ◌<◌}
use native.Mathlib.Omega.{arith}
use mathlib.Core.Path.{◌≡◌, refl, ◌∙◌}
use mathlib.Core.Bool.{Bool, true}
use mathlib.Core.List.{List, [], ◌∷◌}
use mathlib.Core.Option.{Option, none, some}
use lib.Dec.{ltb}
use lib.ListN.{length, drop, get_or}
use borrow.Author.Tests.{lt-ltb, ltb-true}
use Rattle.kung.specs.Class.{Class}
use Rattle.kung.specs.Rule.{Kind}
use Rattle.kung.specs.Operation.{Op, op_of, inverts, join, unit}
use Rattle.kung.specs.Sets.{wanted_for}
use Rattle.circuit.specs.Circuit.{Source, given, gate, pins_of, Each, Falling}
use Rattle.circuit.proofs.Laws.{each_map}
use Rattle.search.specs.Search.{Cell, new, kept, cell_at, put, possible_of, pins_left, only, Waiting, waits, Outcome, stopped, known, unfinished, checks, told_or, driver_of, Ended, Visit, fetch, react, end_or, take_pin, take_pins, arrive, visit}
use Rattle.search.specs.Pins.{Closed}
use Rattle.search.proofs.Laws.{drop_next, each_drop, length_put, put_other}

module _ (Q : List ℕ → Type 0) where
  pub end_keeps : (e : Option Outcome) (cells : List ℕ) (go_on : List ℕ → Ended) → Q cells → Q (go_on cells).1 → Q (end_or e cells go_on).1
  end_keeps (some e) cells go_on q later = q
  end_keeps none cells go_on q later = later

  pub react_keeps : (e : Outcome) (cells : List ℕ) (o : Op) (p : Class) (go_on : Class → List ℕ → Ended) → Q cells
      → ((p : Class) → Q (go_on p cells).1) → Q (react e cells o p go_on).1
  react_keeps stopped cells o p go_on q later = q
  react_keeps (known k) cells o p go_on q later = later (join o p k)
  react_keeps (unfinished r) cells o p go_on q later = later r

-- Q: the fact about the cells. B s next: what is known of the next pin of a gate. c: a closed set of signals, which the visit does not leave.
module _ (src : ℕ → Source Class) (c : ℕ → Bool) (closed : Closed src c) (Q : List ℕ → Type 0) (B : ℕ → ℕ → Type 0) (first : (s : ℕ) → B s 0)
    (step : (s next x : ℕ) (left : List ℕ) → drop next (pins_of (src s)) ≡ x ∷ left → B s (suc next))
    (stored : (cells : List ℕ) (s : ℕ) (p : Class) (next : ℕ) → Q cells → cell_at cells s ≡ kept p next → B s next)
    (write : (cells : List ℕ) (s : ℕ) (p : Class) (next : ℕ) → c s ≡ true → B s next → Q cells → Q (put cells s (kept p next))) where
  abbrev Keeps : Visit → Type 0
  Keeps v = (s : ℕ) (p : Class) (next w : ℕ) (wt : Waiting) (cells : List ℕ) → c s ≡ true → B s next → Q cells → Q (v s p next w wt cells).1

  take_keeps : (v : Visit) → Keeps v → (x w : ℕ) (wt : Waiting) (cells : List ℕ) → c x ≡ true → Q cells → Q (take_pin src v x w wt cells).1
  unfolding take_pin driver_of
  take_keeps v ih x w wt cells here q = go (src x) (cell_at cells x) refl
    where
      told_or_keeps : (one : Option Class) (p : Class) (next : ℕ) → B x next → Q (fetch v x (told_or one p next) w wt cells).1
      told_or_keeps (some k) p next b = q
      told_or_keeps none p next b = ih x p next w wt cells here b q

      go : (d : Source Class) (cell : Cell) → cell_at cells x ≡ cell → Q (fetch v x (driver_of d cell) w wt cells).1
      go (given k) cell e = q
      go (gate d ps) new e = ih x (unit (op_of d)) 0 w wt cells here (first x) q
      go (gate d ps) (kept p next) e = told_or_keeps (only (possible_of d p (drop next ps))) p next (stored cells x p next q e)

  pins_keeps : (v : Visit) → Keeps v → (s : ℕ) (d : Kind) (w : ℕ) (wt : Waiting) → c s ≡ true → (left : List ℕ) (p : Class) (next : ℕ) (cells : List ℕ)
      → drop next (pins_of (src s)) ≡ left → Each (λ x. c x ≡ true) left → Q cells → Q (take_pins src v d s w wt left p next cells).1
  unfolding take_pins
  pins_keeps v ih s d w wt here [] p next cells rest inside q = end_keeps Q (checks (possible_of d p []) w wt) cells _ q q
  pins_keeps v ih s d w wt here (x ∷ left) p next cells rest inside q =
      let b = step s next x left rest in
      let wanted = wanted_for (op_of d) (inverts d) p (pins_left left) w in
      let ended = take_pin src v x wanted (waits (op_of d) p) (put cells s (kept p (suc next))) in
      let taken : Q ended.1 =
      take_keeps v ih x wanted (waits (op_of d) p) (put cells s (kept p (suc next))) inside.0 (write cells s p (suc next) here b q)
      in
      end_keeps Q (checks (possible_of d p (x ∷ left)) w wt) cells _ q
      (react_keeps Q ended.0 ended.1 (op_of d) p _ taken
      (λ p.
      pins_keeps v ih s d w wt here left p (suc next) (put ended.1 s (kept p (suc next))) (drop_next next (pins_of (src s)) x left rest) inside.1
      (write ended.1 s p (suc next) here b taken)))

  pub visit_keeps : (n : ℕ) → Keeps (visit src n)
  unfolding visit
  visit_keeps zero s p next w wt cells here b q = q
  visit_keeps (suc n) s p next w wt cells here b q = go (visit_keeps n) (src s) refl
    where
      go : Keeps (visit src n) → (d : Source Class) → src s ≡ d → Q (arrive src (visit src n) d s p next w wt cells).1
      go ih (given k) e = q
      go ih (gate d ps) e =
          pins_keeps (visit src n) ih s d w wt here (drop next ps) p next (put cells s (kept p next)) (rw e)
          (each_drop (λ x. c x ≡ true) next ps (rw e at (closed s here))) (write cells s p next here b q)

-- all signals
pub closed_all : (src : ℕ → Source Class) → Closed src (λ s. true)
closed_all src s h = all (pins_of (src s))
  where
    all : (xs : List ℕ) → Each (λ x. true ≡ true) xs
    all [] = tt
    all (x ∷ xs) = (refl, all xs)

-- a visit leaves the number of cells, and the cells above its signal
module _ (src : ℕ → Source Class) (n s : ℕ) (p : Class) (next w : ℕ) (wt : Waiting) (cells : List ℕ) where
  pub visit_length : length (visit src n s p next w wt cells).1 ≡ length cells
  visit_length =
      visit_keeps src (λ t. true) (closed_all src) (λ after. length after ≡ length cells) (λ t i. Unit {0}) (λ t. tt) (λ t i x left e. tt)
      (λ after t q i h e. tt) (λ after t q i h b e. length_put after t (kept q i) ∙ e) n s p next w wt cells refl tt refl

  pub visit_above : Falling src → (t : ℕ) → s < t → get_or (visit src n s p next w wt cells).1 t 0 ≡ get_or cells t 0
  visit_above falling =
      visit_keeps src (λ t. ltb t (suc s)) below (λ after. (t : ℕ) → s < t → get_or after t 0 ≡ get_or cells t 0) (λ t i. Unit {0}) (λ t. tt)
      (λ t i x left e. tt) (λ after t q i h e. tt)
      (λ after t q i h b e u less. put_other after t u (kept q i) (λ same. let le = ltb-true t (suc s) h in omega arith) ∙ e u less) n s p next w wt
      cells (lt-ltb s (suc s) (omega arith)) tt (λ t h. refl)
    where
      below : (t : ℕ) → ltb t (suc s) ≡ true → Each (λ x. ltb x (suc s) ≡ true) (pins_of (src t))
      below t h =
          let le = ltb-true t (suc s) h in
          each_map {P = λ x. x < t} (λ x less. lt-ltb x (suc s) (omega arith)) (pins_of (src t)) (falling t)
