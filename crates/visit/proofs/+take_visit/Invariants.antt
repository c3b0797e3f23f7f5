-- The measure of the cycle of calls {take, visit} is document 01's: "the signal number falls, with pins left as second part". A visit has the pins
-- left of its gate on arrival, at most eight, and a pin about to be taken has nine.
-- The invariant of the visit's loop: what is left of the visit is all that was left on arrival. Assumes nothing.
use Prim.Native.Nat.{◌+◌, ◌*◌, ◌-◌, ◌/◌, ◌≤◌, ◌<◌}
use lib.ListN.{get_or}
use Rattle.kung.specs.Class.{of_code}
use Rattle.rows.specs.Rows.{count_in, word_in}
use Rattle.search.specs.Search.{kept, put}
use Rattle.cells.specs.Cells.{known_in}
use Rattle.visit.specs.Cells.{cells_in, Marks}
use Rattle.visit.proofs.Visits.{Rest}
use Rattle.visit.proofs.Turns.{Held}
use Rattle.visit.proofs.+take_visit.Given as goal

abbrev pub decreases-take : goal.decreases-take
decreases-take l = 9 * l.x + 9

abbrev pub decreases-visit : goal.decreases-visit
decreases-visit l = 9 * l.s + (count_in (word_in l.rows.now l.s) - (get_or l.cells.now l.s 0 / 8 - 2))

abbrev pub invariant-visit-loop-next : goal.invariant-visit-loop-next
invariant-visit-loop-next l =
    Held l.rows l.s l.initial.cells l.cells l.tally × Marks l.rows l.cells l.s × (l.initial.next ≤ l.next) × (l.next ≤ l.count) × (l.p < 8)
    × Rest l.rows (known_in l.initial.cells) l.s l.wanted l.waiter l.initial.p l.initial.next
    (put (cells_in l.rows l.initial.cells) l.s (kept (of_code l.initial.p) l.initial.next)) l.p l.next
    (put (cells_in l.rows l.cells) l.s (kept (of_code l.p) l.next))
