-- Document 01, "CORE": the search of one output, step by step.
use Rattle.std.specs.Prelude.{ℕ, zero, suc, ◌+◌, ◌-◌, ◌*◌, ◌/◌, ◌^◌, Bool, true, false, cond, List, [], ◌∷◌, eqb, ltb, get_or, set, drop, replicate}
use Rattle.std.proofs.Math.Option.{Option, none, some}
use Rattle.kung.specs.Class.{Class, classes, code, of_code}
use Rattle.kung.specs.Rule.{Kind}
use Rattle.kung.specs.Operation.{Op, op_of, inverts, invert_if, join, unit}
use Rattle.kung.specs.Sets.{has, meets, image, possible, wanted_for}
use Rattle.circuit.specs.Circuit.{Source, given, gate}

-- "Each gate keeps p, the AND (or OR) of the pins taken so far"; "An unfinished gate keeps p and its next pin". A gate not visited yet is new.
pub data Cell : Type 0 where
  new : Cell
  kept : (p : Class) (next : ℕ) → Cell

-- a cell as a byte, 0 or from 128 up; and back
abbrev pub byte_of : Cell → ℕ
byte_of new = 0
byte_of (kept p next) = 128 + 8 * next + code p

abbrev pub next_of : ℕ → ℕ
next_of b = b / 8 - 16

unfoldable pub cell_of : ℕ → Cell
cell_of b = cond (ltb b 128) new (kept (of_code b) (next_of b))

-- the state of a search: such a byte for each signal
unfoldable pub cell_at : List ℕ → ℕ → Cell
cell_at cells s = cell_of (get_or cells s 0)

unfoldable pub put : List ℕ → ℕ → Cell → List ℕ
put cells s c = set cells s (byte_of c)

-- n new cells
abbrev pub fresh : ℕ → List ℕ
fresh n = replicate n 0

-- "Its possible set is what the gate can still give: p joined with each of the eight classes if pins are left, p alone if none"
abbrev pub pins_left : List ℕ → Bool
pins_left [] = false
pins_left (x ∷ xs) = true

unfoldable pub possible_of : Kind → Class → (left : List ℕ) → ℕ
possible_of d p left = possible (op_of d) (inverts d) p (pins_left left)

-- the class of a set that has one class
unfoldable pub only_of : ℕ → List Class → Option Class
only_of m [] = none
only_of m (k ∷ ks) = cond (eqb m (2 ^ code k)) (some k) (only_of m ks)

unfoldable pub only : ℕ → Option Class
only m = only_of m classes

-- "A gate waits for it": that gate's operation and p. None waits for the output's gate.
pub data Waiting : Type 0 where
  nobody : Waiting
  waits : (o : Op) (p : Class) → Waiting

-- How a visit ends: "the whole search ends, hazardous"; "the gate is known"; "the visit ends unfinished, and the waiting gate takes that result".
pub data Outcome : Type 0 where
  stopped : Outcome
  known : Class → Outcome
  unfinished : (result : Class) → Outcome

-- "(c) A gate waits for it, and that gate's p joined with each possible class gives one same result"
unfoldable pub same_result : Waiting → (possible : ℕ) → Option Class
same_result nobody m = none
same_result (waits o p) m = only (image o p m)

-- "(b) The possible set has one class: the gate is known.", then (c)
abbrev pub known_or : Option Class → Option Class → Option Outcome
known_or (some k) result = some (known k)
known_or none (some r) = some (unfinished r)
known_or none none = none

-- "a gate makes these checks in order. (a) Possible set and wanted set share nothing: the whole search ends, hazardous.", then (b) and (c).
-- None: the visit goes on.
unfoldable pub checks : (possible wanted : ℕ) → Waiting → Option Outcome
checks m w wt = cond (meets m w) (known_or (only m) (same_result wt m)) (some stopped)

-- What stands behind a pin: "An input or a known gate gives its class without a visit"; another gate is visited, and an unfinished one "is carried
-- on if visited again", from its p and its next pin.
pub data Driver : Type 0 where
  told : Class → Driver
  behind : (p : Class) (next : ℕ) → Driver

abbrev pub told_or : Option Class → Class → ℕ → Driver
told_or (some k) p next = told k
told_or none p next = behind p next

-- "`1` for AND-like kinds at first and `0` for OR and NOR"
unfoldable pub driver_of : Source Class → Cell → Driver
driver_of (given k) c = told k
driver_of (gate d ps) new = behind (unit (op_of d)) 0
driver_of (gate d ps) (kept p next) = told_or (only (possible_of d p (drop next ps))) p next

-- how a visit ends, and the cells that it leaves
abbrev pub Ended : Type 0
Ended = Outcome × List ℕ

-- a visit of signal s, whose gate has p and takes its pin `next` next
abbrev pub Visit : Type 0
Visit = (s : ℕ) (p : Class) (next : ℕ) (wanted : ℕ) → Waiting → List ℕ → Ended

abbrev pub fetch : Visit → ℕ → Driver → (wanted : ℕ) → Waiting → List ℕ → Ended
fetch visit x (told k) w wt cells = (known k, cells)
fetch visit x (behind p next) w wt cells = visit x p next w wt cells

-- the waiting gate goes on with its new p: the known class joined to its p, or the result of (c) itself
abbrev pub react : Outcome → List ℕ → Op → Class → (Class → List ℕ → Ended) → Ended
react stopped cells o p go_on = (stopped, cells)
react (known k) cells o p go_on = go_on (join o p k) cells
react (unfinished r) cells o p go_on = go_on r cells

-- a visit that the checks do not end goes on
abbrev pub end_or : Option Outcome → List ℕ → (List ℕ → Ended) → Ended
end_or (some e) cells go_on = (e, cells)
end_or none cells go_on = go_on cells

module _ (src : ℕ → Source Class) where
  -- "taking a pin visits the gate behind it"
  unfoldable pub take_pin : Visit → ℕ → (wanted : ℕ) → Waiting → List ℕ → Ended
  take_pin visit x w wt cells = fetch visit x (driver_of (src x) (cell_at cells x)) w wt cells

  -- The gate of signal s, of kind d, with the pins left to take: "On arrival and after each pin a gate makes these checks [...]. Otherwise the next pin
  -- is taken". The gate behind the pin is visited with the wanted set of `wanted_for`, and this gate waits for it. A pin counts as taken before that
  -- visit. Where no pin is left the possible set has one class, so that the checks end the visit.
  unfoldable pub take_pins : Visit → Kind → (s wanted : ℕ) → Waiting → (left : List ℕ) → Class → (next : ℕ) → List ℕ → Ended
  take_pins visit d s w wt [] p next cells =
      end_or (checks (possible_of d p []) w wt) cells λ cells. (known (invert_if (inverts d) p), cells)
  take_pins visit d s w wt (x ∷ left) p next cells =
      end_or (checks (possible_of d p (x ∷ left)) w wt) cells λ cells.
      let ended = take_pin visit x (wanted_for (op_of d) (inverts d) p (pins_left left) w) (waits (op_of d) p) (put cells s (kept p (suc next))) in
      react ended.0 ended.1 (op_of d) p λ p cells.
      take_pins visit d s w wt left p (suc next) (put cells s (kept p (suc next)))

  -- the gate counts as visited on arrival
  abbrev pub arrive : Visit → Source Class → Visit
  arrive visit (given k) s p next w wt cells = (known k, cells)
  arrive visit (gate d ps) s p next w wt cells = take_pins visit d s w wt (drop next ps) p next (put cells s (kept p next))

  -- Visits of signals below n: a pin names a signal below its own gate's, so the visit of a signal below n + 1 makes visits of signals below n.
  unfoldable pub visit : ℕ → Visit
  visit zero s p next w wt cells = (stopped, cells)
  visit (suc n) s p next w wt cells = arrive (visit n) (src s) s p next w wt cells

-- "The answer is clean with its class, or hazardous"
pub data Verdict : Type 0 where
  clean : Class → Verdict
  hazardous : Verdict

-- "with the number of different gates visited and of pins taken": cells that are not new, and their next pins, summed up
unfoldable pub total : (ℕ → ℕ) → List ℕ → ℕ
total f [] = 0
total f (b ∷ bs) = f b + total f bs

abbrev pub visited_of : ℕ → ℕ
visited_of b = cond (ltb b 128) 0 1

abbrev pub gates_visited : List ℕ → ℕ
gates_visited = total visited_of

abbrev pub pins_taken : List ℕ → ℕ
pins_taken = total next_of

pub record Answer : Type 0 where
  pub verdict : Verdict
  pub gates : ℕ
  pub pins : ℕ

-- a class that is known without a visit, judged against the wanted set
unfoldable pub judged : (wanted : ℕ) → Class → Verdict
judged w k = cond (has w k) (clean k) hazardous

-- "If the output's gate becomes known, it is clean." Nobody waits for it, so it does not end unfinished.
abbrev pub verdict_of : Outcome → Verdict
verdict_of stopped = hazardous
verdict_of (known k) = clean k
verdict_of (unfinished r) = hazardous

-- How a search ends: with a class that is known without a visit, or as the visit of its gate ends.
pub data SearchEnd : Type 0 where
  unvisited : Class → SearchEnd
  visited : Ended → SearchEnd

-- "An output that is an input is clean, 0 gates, 0 pins."
abbrev pub answer_of : (wanted : ℕ) → SearchEnd → Answer
answer_of w (unvisited k) = record { verdict = judged w k; gates = 0; pins = 0 }
answer_of w (visited ended) = record { verdict = verdict_of ended.0; gates = gates_visited ended.1; pins = pins_taken ended.1 }

module _ (src : ℕ → Source Class) where
  -- "The output's gate is visited"
  abbrev pub end_from : (n : ℕ) → Source Class → (wanted s : ℕ) → List ℕ → SearchEnd
  end_from n (given k) w s cells = unvisited k
  end_from n (gate d ps) w s cells = visited (visit src n s (unit (op_of d)) 0 w nobody cells)

  -- "Each call starts afresh": all cells are new. Signals above s are not reached.
  abbrev pub search_end : (wanted s : ℕ) → SearchEnd
  search_end w s = end_from (suc s) (src s) w s (fresh (suc s))

  unfoldable pub search : (wanted s : ℕ) → Answer
  search w s = answer_of w (search_end w s)
