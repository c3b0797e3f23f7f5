-- Document 01, "Gate walk and program": the gate walk. Assumes nothing.
use Rattle.std.specs.Prelude.{ℕ, zero, suc, ◌+◌, ◌-◌, ◌<◌, ◌≡◌, Bool, cond, not, ◌&&◌, ◌||◌, List, leb, length, take, drop, Option, Some, None, Result, Ok, Err}
use Rattle.std.specs.Borrow.{Bor}
use Rattle.records.specs.Records.{kind_at, count_at, past_record, unfit}
use Rattle.refusals.specs.declared.Refusal.{Refusal}
use Rattle.netlist.specs.Netlist.{Checked, gates_of, place_of, checked}
use Rattle.netlist.specs.declared.Shape.{Shape}
use Rattle.walk.specs.declared.Walk.{Walk}
use Rattle.walk.specs.declared.Opened.{Opened}
use Rattle.walk.specs.declared.Stepped.{Stepped}
use Rattle.walk.specs.declared.Start.{Start}

-- "A whole record is a kind and a pin count that the netlist's rules permit and that many pins, all inside the netlist."
abbrev pub whole : List ℕ → (place : ℕ) → Bool
whole n place = not (unfit (kind_at n place) (count_at n place)) && leb (past_record n place) (length n)

-- "It gives none exactly when all G records are handed back or no whole record can be read at its place."
abbrev pub gives_none : List ℕ → (number place count : ℕ) → Bool
gives_none n number place count = leb count number || not (whole n place)

-- what a step finds: the place past the record, or none
abbrev pub found_at : List ℕ → (number place count : ℕ) → Option ℕ
found_at n number place count = cond (gives_none n number place count) None (Some (past_record n place))

-- the part of a netlist from one place to another
abbrev pub part : List ℕ → (from to : ℕ) → List ℕ
part n from to = take (to - from) (drop from n)

-- "each step hands back the part that is the next record", or none
abbrev pub part_of : List ℕ → (place : ℕ) → Option ℕ → Option (List ℕ)
part_of n place (Some past) = Some (part n place past)
part_of n place None = None

-- "A gate walk carries the lent netlist and the record it has reached, by number and place, with G."
abbrev pub found : Walk → Option ℕ
found w = found_at w.netlist.now w.number w.place w.count

abbrev pub handed : Walk → Option (List ℕ)
handed w = part_of w.netlist.now w.place (found w)

-- "A step that hands back a record moves the number on by one and the place past the record; a step that gives none leaves the walk
-- unchanged."
abbrev pub moved_of : Walk → Option ℕ → Walk
moved_of w (Some past) = record { netlist = w.netlist; number = w.number + 1; place = past; count = w.count }
moved_of w None = w

abbrev pub stepped : Walk → Walk
stepped w = moved_of w (found w)

-- a walk that stands at any number and place
abbrev pub walk_at : Bor (List ℕ) → (number place count : ℕ) → Walk
walk_at s number place count = record { netlist = s; number = number; place = place; count = count }

-- a walk of all the records of an accepted netlist
abbrev pub walk_of : Bor (List ℕ) → Walk
walk_of s = walk_at s 0 11 (gates_of s.now)

-- "Opening checks the netlist": a walk of an accepted one's records, and none of a refused one
abbrev pub opened_by : Bor (List ℕ) → Checked → Result Opened Refusal
opened_by s (Ok shape) = Ok (record { walk = walk_at s 0 11 shape.gates; shape = shape })
opened_by s (Err refusal) = Err refusal

abbrev pub opened : Bor (List ℕ) → Result Opened Refusal
opened s = opened_by s (checked s.now)

-- a step in numbers: how many bytes it hands back, 0 where it gives none, and the number and place it reaches
abbrev pub size_of : Option (List ℕ) → ℕ
size_of (Some part) = length part
size_of None = 0

abbrev pub step_of : Walk → Stepped
step_of w = record { length = size_of (handed w); number = (stepped w).number; place = (stepped w).place }

-- opening in numbers: where the walk starts
abbrev pub start_of : Result Opened Refusal → Result Start Refusal
start_of (Ok o) = Ok (record { shape = o.shape; number = o.walk.number; place = o.walk.place; count = o.walk.count })
start_of (Err refusal) = Err refusal

-- a walk after some steps
unfoldable pub after : (steps : ℕ) → Walk → Walk
after zero w = w
after (suc k) w = stepped (after k w)

-- gate g's record: the part of the netlist from its place to the next one's
abbrev pub record_of : List ℕ → (g : ℕ) → List ℕ
record_of n g = part n (place_of n g) (place_of n (suc g))

-- "each step hands back the part that is the next record": of a netlist that is accepted, gate 0's to gate G - 1's, and then none
pub record HandsBack (s : Bor (List ℕ)) : Type 0 where
  pub opens : (shape : Shape) → checked s.now ≡ Ok shape → opened s ≡ Ok (record { walk = walk_of s; shape = shape })
  pub in_order : (g : ℕ) → g < gates_of s.now → handed (after g (walk_of s)) ≡ Some (record_of s.now g)
  pub then_none : handed (after (gates_of s.now) (walk_of s)) ≡ None
  pub then_unchanged : stepped (after (gates_of s.now) (walk_of s)) ≡ after (gates_of s.now) (walk_of s)
