-- What the table of the search has beside images, by its rule: what a waiting gate makes of a class, the stop bits and the wanted sets.
use Rattle.std.specs.Prelude.{ℕ, ◌-◌, ◌/◌, ◌%◌, Bool, cond, not, true, ◌&&◌, ◌||◌, List, ◌++◌, eqb, ltb}
use Rattle.kung.specs.Class.{Class, code, of_code}
use Rattle.kung.specs.Operation.{join, op_at}
use Rattle.kung.specs.Sets.{set_of, has, image, possible}
use Rattle.kung.specs.Members.{only_code}
use Rattle.kung.specs.Tables.{tab, image_table, wanted_rule}

-- A waiting gate is a number: 8 times its operation, and its p; 16 where nobody waits. What it makes of a class: the join with its p, or the class itself.
unfoldable pub joined_by : (waiter : ℕ) → Class → Class
joined_by w k = cond (ltb w 16) (join (op_at (w / 8)) (of_code w) k) k

-- a set has one class
abbrev pub has_one : ℕ → Bool
has_one m = ltb (only_code m) 8

-- check (c): the waiting gate gets one same result of the set's classes
abbrev pub gives_one : (waiter set : ℕ) → Bool
gives_one w m = ltb w 16 && has_one (image (op_at (w / 8)) (of_code w) m)

-- A visited gate is a number too: its operation, and 2 more where it inverts. With pins left, check (b) or (c) ends its visit where it has this p.
unfoldable pub ends_with : (waiter gate : ℕ) → Class → Bool
ends_with w g p = let m = possible (op_at g) (eqb (g / 2) 1) p true in has_one m || gives_one w m

-- the stop bits: check (a), (b) or (c) ends it, of which (a) where no further class takes p into the wanted set
unfoldable pub stop_set : (waiter gate reach : ℕ) → ℕ
stop_set w g reach = set_of (λ p. not (has reach p) || ends_with w g p)

-- 136 joins (17 waiting gates, eight classes), 80 stop bytes (20 waiting gates, of which those above 16 are never asked for, four gates), 576 wanted
-- sets: 4,888 entries with the images.
unfoldable pub lookup_rule : ℕ → ℕ
lookup_rule i =
    cond (ltb i 136) (code (joined_by (i / 8) (of_code i)))
    (cond (ltb i 216) (set_of (ends_with ((i - 136) / 4) ((i - 136) % 4))) (wanted_rule (i - 216)))

unfoldable pub lookup_table : List ℕ
lookup_table = tab lookup_rule 0 792

-- The search reads images and these others in one table.
unfoldable pub search_table : List ℕ
search_table = image_table ++ lookup_table
