-- Every change of a list in one call: full simulation, the forward method and CORE for all changes, one after the other.
use Rattle.std.specs.Prelude.{◌≡◌, ℕ, ◌*◌, List, ◌++◌, length, drop, nat_lt, Result, Ok, Err}
use Rattle.refusals.specs.Refusal.{refuse}
use Rattle.refusals.specs.declared.Refusal.{Refusal}
use Rattle.refusals.specs.declared.Refusal.TheVariants.{BufferShort}
use Rattle.changes.specs.Changes.{changes_of}
use Rattle.changes.specs.Refusals.{Listed, list_checked}
use Rattle.lists.specs.declared.Judged.{Judged}
use Rattle.lists.specs.Methods.{rows, Method, done_for}

-- the answer of a call
abbrev pub AllAnswer : Type 0
AllAnswer = Result Judged Refusal

-- The list's refusals, then 20 where the buffer has fewer bytes than the rows.
unfoldable pub all_from : Method → Listed → (room : ℕ) → AllAnswer
all_from m (Err refusal) room = Err refusal
all_from m (Ok task) room = refuse (nat_lt room (task.changes * m.width)) BufferShort (Ok (done_for m task.changes))

unfoldable pub all_answer : Method → (netlist list buffer : List ℕ) → AllAnswer
all_answer m n l buffer = all_from m (list_checked n l) (length buffer)

-- the rows at the buffer's start, later bytes stay; a refused call leaves the buffer as it was
abbrev pub left : AllAnswer → (written buffer : List ℕ) → List ℕ
left (Ok judged) written buffer = written ++ drop (length written) buffer
left (Err refusal) written buffer = buffer

unfoldable pub all_buffer : Method → (netlist list buffer : List ℕ) → List ℕ
all_buffer m n l buffer = left (all_answer m n l buffer) (rows m.row (changes_of l)) buffer

-- a call's answer, and what it leaves in the buffer
pub record Answers (m : Method) (netlist list entry exit : List ℕ) (r : AllAnswer) : Type 0 where
  pub answer : r ≡ all_answer m netlist list entry
  pub bytes : exit ≡ all_buffer m netlist list entry
