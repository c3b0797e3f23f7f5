-- Document 01, "Turned back, by operation", and document 02, "Job 1": when a change list is refused.
use Rattle.std.specs.Prelude.{ℕ, ◌+◌, ◌*◌, not, List, eqb, ltb, length, Option, Some, None, Result, Ok, Err}
use Rattle.words.specs.Words.{long_at, marked, outside}
use Rattle.refusals.specs.Refusal.{refuse}
use Rattle.refusals.specs.declared.Refusal.{Refusal}
use Rattle.refusals.specs.declared.Refusal.TheVariants.{ListShort, ListMark, ListVersion, Tie, Changes, ListLength, SpareBit}
use Rattle.tie.specs.Tie.{tie_of}
use Rattle.spares.specs.Spares.{width_of, size_of, first_spare}
use Rattle.netlist.specs.Netlist.{Checked, checked}
use Rattle.netlist.specs.declared.Shape.{Shape}
use Rattle.changes.specs.declared.Task.{Task}
use Rattle.changes.specs.Changes.{version_of, changes_of, most_changes, declared_of, layout_of}

-- the answer of a check
abbrev pub Listed : Type 0
Listed = Result Task Refusal

-- "first byte with a spare bit 17 (it)"
unfoldable pub refuse_spare : {A : Type 0} → (spare : Option ℕ) → Result A Refusal → Result A Refusal
refuse_spare (Some at) next = Err (SpareBit at)
refuse_spare None next = next

-- "List: the netlist's, then under 11 bytes 11 (length); mark 12 (0); version 13 (3); tie 14 (5); T 15 (9); length not 11 + 2 × T × V 16
-- (length); first byte with a spare bit 17 (it)."; in version 2 "Spare bits fall under 17, the length under 16, a count above 800 under 15."
unfoldable pub after_netlist : (inputs outputs tie : ℕ) → List ℕ → Listed → Listed
after_netlist inputs outputs tie l next =
    refuse (ltb (length l) 11) (ListShort (length l))
    (refuse (not (marked l 0x4C 0x43 0x54)) ListMark
    (refuse (outside 1 2 (version_of l)) ListVersion
    (refuse (not (eqb (long_at l 5) tie)) Tie
    (refuse (outside 0 (most_changes (version_of l)) (changes_of l)) Changes
    (refuse (not (eqb (length l) (11 + changes_of l * size_of (width_of inputs) (width_of (declared_of (version_of l) outputs))))) (ListLength (length l))
    (refuse_spare (first_spare (changes_of l) inputs (declared_of (version_of l) outputs) l 11)
    next))))))

-- what an accepted netlist and list give together
abbrev pub task_of : Shape → (list : List ℕ) → Task
task_of shape l = record { shape = shape; changes = changes_of l; layout = layout_of (version_of l) shape.inputs shape.outputs }

-- the list against what the check of its netlist answered
unfoldable pub against : (netlist list : List ℕ) → Checked → Listed
against n l (Err refusal) = Err refusal
against n l (Ok shape) = after_netlist shape.inputs shape.outputs (tie_of n) l (Ok (task_of shape l))

-- the check of document 01, with the version that document 02 adds
unfoldable pub list_checked : (netlist list : List ℕ) → Listed
list_checked n l = against n l (checked n)
