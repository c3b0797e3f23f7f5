-- Document 01, "CORE": "Every pin is taken at most once." And different gates visited are at most pins taken and one. Assumes nothing.
use Prim.Native.Nat.{ℕ, zero, suc, ◌+◌, ◌-◌, ◌<◌, ◌≤◌}
use native.Mathlib.Omega.{arith}
use native.Mathlib.Nat.{le_refl, le_trans, add-zero, add-suc}
use mathlib.Core.Path.{◌≡◌, refl, ◌∙◌, ap}
use mathlib.Core.Bool.{Bool, true, false, cond}
use mathlib.Core.List.{List, [], ◌∷◌}
use mathlib.Core.Option.{Option, none, some}
use lib.ListN.{length, get_or, set, drop, length-drop, length-replicate}
use borrow.Author.Tests.{le-ltb}
use Rattle.kung.specs.Class.{Class}
use Rattle.kung.specs.Rule.{Kind}
use Rattle.kung.specs.Operation.{op_of, inverts, unit}
use Rattle.kung.specs.Sets.{wanted_for}
use Rattle.circuit.specs.Circuit.{Source, given, gate, pins_of, Each, Falling}
use Rattle.search.specs.Search.{Cell, new, kept, byte_of, next_of, visited_of, cell_of, cell_at, put, fresh, total, possible_of, pins_left, only, Waiting, nobody, waits, checks, told_or, driver_of, Visit, fetch, take_pin, take_pins, arrive, visit, answer_of, end_from, search}
use Rattle.search.specs.Pins.{Closed, pins_at, sum_below, pins_in}
use Rattle.search.proofs.Laws.{each_drop, length_put, put_same, at_put, next_of_byte_of, next_new, next_kept, fresh_at, total_fresh}
use Rattle.search.proofs.Writes.{end_keeps, react_keeps, visit_keeps, visit_length, visit_above}

-- the first number apart
sum_first : (g : ℕ → ℕ) (n : ℕ) → sum_below g (suc n) ≡ g 0 + sum_below (λ t. g (suc t)) n
unfolding sum_below
sum_first g zero = refl
sum_first g (suc n) = omega (arith, sum_first g n)

-- cells, each at most g of its signal, sum up to at most the sum of g
total_below : (f g : ℕ → ℕ) (cells : List ℕ) → ((t : ℕ) → f (get_or cells t 0) ≤ g t) → total f cells ≤ sum_below g (length cells)
unfolding total
total_below f g [] h = omega arith
total_below f g (b ∷ cells) h =
    rw (sum_first g (length cells))
    (let here : f b ≤ g 0 = h 0 in omega (arith, total_below f (λ t. g (suc t)) cells (λ t. h (suc t))))

sum_more : (g : ℕ → ℕ) (m k : ℕ) → sum_below g m ≤ sum_below g (m + k)
unfolding sum_below
sum_more g m zero = rw add-zero (le_refl _)
sum_more g m (suc k) = rw add-suc (omega (arith, sum_more g m k))

-- Every pin is taken at most once: a gate's next pin does not pass its last.
module _ (src : ℕ → Source Class) (c : ℕ → Bool) (closed : Closed src c) where
  abbrev Once : List ℕ → Type 0
  Once cells = (t : ℕ) → next_of (get_or cells t 0) ≤ pins_at src c t

  of_set : (t : ℕ) → pins_at src c t ≤ length (pins_of (src t))
  of_set t = go (c t)
    where
      go : (b : Bool) → cond b (length (pins_of (src t))) 0 ≤ length (pins_of (src t))
      go true = le_refl _
      go false = omega arith

  pub visit_once : (n s : ℕ) (p : Class) (next w : ℕ) (wt : Waiting) (cells : List ℕ) → c s ≡ true → next ≤ length (pins_of (src s)) → Once cells
      → Once (visit src n s p next w wt cells).1
  unfolding cell_at
  visit_once =
      visit_keeps src c closed Once (λ t i. i ≤ length (pins_of (src t))) (λ t. omega arith)
      (λ t i x left e. omega (arith, ap length e, length-drop i (pins_of (src t))))
      (λ cells t p i once e. omega (arith, next_kept (get_or cells t 0) p i e, once t, of_set t))
      (λ cells t p i here fits once.
      at_put (λ t b. next_of b ≤ pins_at src c t) cells t (kept p i) (rw (here, next_of_byte_of p i) fits) (omega arith) (λ t other. once t))

  -- pins taken are at most the pins of any set that is closed under pins; of all signals they are at most P
  pub search_pins : (w s n : ℕ) → c s ≡ true → s < n → (search src w s).pins ≤ pins_in src c n
  unfolding search
  search_pins w s n here below = go (src s)
    where
      go : (d : Source Class) → (answer_of w (end_from src (suc s) d w s (fresh (suc s)))).pins ≤ pins_in src c n
      go (given k) = omega arith
      go (gate d ps) =
          let cells = (visit src (suc s) s (unit (op_of d)) 0 w nobody (fresh (suc s))).1 in
          let many : length cells ≡ suc s = visit_length src (suc s) s (unit (op_of d)) 0 w nobody (fresh (suc s)) ∙ length-replicate (suc s) 0 in
          let rest : suc s + (n - suc s) ≡ n = omega arith in
          le_trans
          (total_below next_of (pins_at src c) cells
          (visit_once (suc s) s (unit (op_of d)) 0 w nobody (fresh (suc s)) here (omega arith) (λ t. rw (fresh_at (suc s) t) (omega arith))))
          (rw many (rw rest at (sum_more (pins_at src c) (suc s) (n - suc s))))

-- one cell written: the totals before and after
pub total_set : (f : ℕ → ℕ) (cells : List ℕ) (s b : ℕ) → s < length cells → total f (set cells s b) + f (get_or cells s 0) ≡ total f cells + f b
unfolding total
total_set f [] s b h = absurd (omega arith)
total_set f (x ∷ cells) zero b h = omega arith
total_set f (x ∷ cells) (suc s) b h = omega (arith, total_set f cells s b (omega arith))

pub total_put : (f : ℕ → ℕ) (cells : List ℕ) (s : ℕ) (c : Cell) → s < length cells
    → total f (put cells s c) + f (get_or cells s 0) ≡ total f cells + f (byte_of c)
unfolding put
total_put f cells s c = total_set f cells s (byte_of c)

pub visited_kept : (p : Class) (next : ℕ) → visited_of (byte_of (kept p next)) ≡ 1
visited_kept p next = rw (le-ltb (byte_of (kept p next)) 128 (omega arith))

-- Gates visited are at most the pins taken and one: each but the first is visited after a pin was taken.
abbrev Counts : ℕ → List ℕ → Type 0
Counts more cells = total visited_of cells ≤ total next_of cells + more

-- while gate s takes its pins
record Taking (more s next : ℕ) (cells : List ℕ) : Type 0 where
  counts : Counts more cells
  there : s < length cells
  seen : visited_of (get_or cells s 0) ≡ 1
  at : next_of (get_or cells s 0) ≡ next

-- a write of its cell, where the totals allow it
write : (more s next : ℕ) (cells : List ℕ) (p : Class) → s < length cells
    → total visited_of cells + 1 + next_of (get_or cells s 0) ≤ total next_of cells + next + more + visited_of (get_or cells s 0)
    → Taking more s next (put cells s (kept p next))
write more s next cells p there allowed =
    record {
      counts =
          omega (arith, total_put visited_of cells s (kept p next) there, total_put next_of cells s (kept p next) there, visited_kept p next, next_of_byte_of p next);
      there = rw length_put there;
      seen = rw (put_same cells s (kept p next) there) (visited_kept p next);
      at = rw (put_same cells s (kept p next) there) (next_of_byte_of p next);
    }

-- what a visit of s leaves
record Leaves (s : ℕ) (cells after : List ℕ) : Type 0 where
  size : length after ≡ length cells
  above : (t : ℕ) → s < t → get_or after t 0 ≡ get_or cells t 0
  count : Counts 1 after

module _ (src : ℕ → Source Class) where
  abbrev VisitCounts : ℕ → Visit → Type 0
  VisitCounts n v = (s : ℕ) (p : Class) (next w : ℕ) (wt : Waiting) (cells : List ℕ) → s < n → s < length cells → next_of (get_or cells s 0) ≡ next
      → Counts 0 cells → Leaves s cells (v s p next w wt cells).1

  take_counts : (n : ℕ) (v : Visit) → VisitCounts n v → (x w : ℕ) (wt : Waiting) (cells : List ℕ) → x < n → x < length cells → Counts 0 cells
      → Leaves x cells (take_pin src v x w wt cells).1
  unfolding take_pin driver_of cell_at
  take_counts n v ih x w wt cells below there counts = go (src x) (cell_of (get_or cells x 0)) refl
    where
      same : Leaves x cells cells
      same = record { size = refl; above = λ t h. refl; count = omega arith }

      again : (one : Option Class) (p : Class) (next : ℕ) → next_of (get_or cells x 0) ≡ next → Leaves x cells (fetch v x (told_or one p next) w wt cells).1
      again (some k) p next e = same
      again none p next e = ih x p next w wt cells below there e counts

      go : (d : Source Class) (cell : Cell) → cell_of (get_or cells x 0) ≡ cell → Leaves x cells (fetch v x (driver_of d cell) w wt cells).1
      go (given k) cell e = same
      go (gate d ps) new e = ih x (unit (op_of d)) 0 w wt cells below there (next_new (get_or cells x 0) e) counts
      go (gate d ps) (kept p next) e = again (only (possible_of d p (drop next ps))) p next (next_kept (get_or cells x 0) p next e)

  pins_count : (n : ℕ) (v : Visit) → VisitCounts n v → (s : ℕ) (d : Kind) (w : ℕ) (wt : Waiting) → s ≤ n → (left : List ℕ) (p : Class) (next : ℕ)
      (cells : List ℕ) → Each (λ x. x < s) left → Taking 1 s next cells → Counts 1 (take_pins src v d s w wt left p next cells).1
  unfolding take_pins
  pins_count n v ih s d w wt below [] p next cells fall h =
      end_keeps (Counts 1) (checks (possible_of d p []) w wt) cells _ h.counts h.counts
  pins_count n v ih s d w wt below (x ∷ left) p next cells fall h =
      let wanted = wanted_for (op_of d) (inverts d) p (pins_left left) w in
      let cells₁ = put cells s (kept p (suc next)) in
      let first : Taking 0 s (suc next) cells₁ = write 0 s (suc next) cells p h.there (omega arith) in
      let ended = take_pin src v x wanted (waits (op_of d) p) cells₁ in
      let less : x < s = fall.0 in
      let leaves : Leaves x cells₁ ended.1 = take_counts n v ih x wanted (waits (op_of d) p) cells₁ (omega arith) (omega arith) first.counts in
      let same = leaves.above s less in
      end_keeps (Counts 1) (checks (possible_of d p (x ∷ left)) w wt) cells _ h.counts
      (react_keeps (Counts 1) ended.0 ended.1 (op_of d) p _ leaves.count
      (λ q.
      pins_count n v ih s d w wt below left q (suc next) (put ended.1 s (kept q (suc next))) fall.1
      (write 1 s (suc next) ended.1 q (omega arith) (rw same (omega arith)))))

  visit_counts : Falling src → (n : ℕ) → VisitCounts n (visit src n)
  unfolding visit
  visit_counts falling zero s p next w wt cells below there at counts = absurd (omega arith)
  visit_counts falling (suc n) s p next w wt cells below there at counts =
      record {
        size = visit_length src (suc n) s p next w wt cells;
        above = visit_above src (suc n) s p next w wt cells falling;
        count = go (visit_counts falling n) (src s) refl;
      }
    where
      go : VisitCounts n (visit src n) → (d : Source Class) → src s ≡ d → Counts 1 (arrive src (visit src n) d s p next w wt cells).1
      go ih (given k) e = omega arith
      go ih (gate d ps) e =
          pins_count n (visit src n) ih s d w wt (omega arith) (drop next ps) p next (put cells s (kept p next))
          (each_drop (λ x. x < s) next ps (rw e at (falling s))) (write 1 s next cells p there (omega arith))

  pub search_gates : Falling src → (w s : ℕ) → (search src w s).gates ≤ (search src w s).pins + 1
  unfolding search total
  search_gates falling w s = go (src s)
    where
      go : (d : Source Class) → (answer_of w (end_from src (suc s) d w s (fresh (suc s)))).gates ≤ (answer_of w (end_from src (suc s) d w s (fresh (suc s)))).pins + 1
      go (given k) = omega arith
      go (gate d ps) =
          let none_yet = total_fresh visited_of refl [] (suc s) in
          (visit_counts falling (suc s) s (unit (op_of d)) 0 w nobody (fresh (suc s)) (omega arith) (rw length-replicate (omega arith)) (rw (fresh_at (suc s) s))
          (rw none_yet (omega arith))).count
