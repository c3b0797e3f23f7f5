-- Document 01, "The forward method" and "Turned back, by operation": the forward method on a change.
use Rattle.std.specs.Prelude.{ℕ, ◌+◌, List, ◌++◌, length, drop, nat_le, nat_lt, Result, Ok, Err}
use Rattle.kung.specs.Tables.{tab}
use Rattle.refusals.specs.Refusal.{refuse}
use Rattle.refusals.specs.declared.Refusal.{Refusal}
use Rattle.refusals.specs.declared.Refusal.TheVariants.{NoChange, BufferShort}
use Rattle.netlist.specs.Netlist.{inputs_of, gates_of, outputs_of, output_at}
use Rattle.changes.specs.Changes.{sources_of}
use Rattle.changes.specs.Refusals.{Listed, list_checked}
use Rattle.wanted.specs.Wanted.{wanted_in}
use Rattle.search.specs.Search.{Answer, search}
use Rattle.search.specs.Pins.{sum_below}
use Rattle.outputs.specs.Outputs.{verdict_byte}
use Rattle.constants.specs.Constants.{known_sources}
use Rattle.constants.specs.Change.{touched_in}
use Rattle.forward.specs.declared.Forwarded.{Forwarded}

-- the answer of the forward method
abbrev pub ForwardAnswer : Type 0
ForwardAnswer = Result Forwarded Refusal

abbrev pub counted : (touched visited : ℕ) → ForwardAnswer
counted touched visited = Ok (record { touched = touched; visited = visited })

-- "Each output is then searched as in CORE, afresh, constant gates being known; one on a constant signal is clean with 0 gates visited." In version 2
-- such a one "is compared with the declared ends without a search".
unfoldable pub output_search : (netlist list : List ℕ) → (t output : ℕ) → Answer
output_search n l t o = search (known_sources (sources_of n l t) (inputs_of n + gates_of n)) (wanted_in n l t o) (output_at n o)

-- "The first O bytes of a lent buffer get 0 (clean) or 1 (hazardous)"
unfoldable pub forward_bytes : (netlist list : List ℕ) → (t : ℕ) → List ℕ
forward_bytes n l t = tab (λ o. verdict_byte (output_search n l t o).verdict) 0 (outputs_of n)

-- "the sum of gates visited over all outputs"
unfoldable pub visited_in : (netlist list : List ℕ) → (t : ℕ) → ℕ
visited_in n l t = sum_below (λ o. (output_search n l t o).gates) (outputs_of n)

-- "Forward: the list's, 18, buffer under O 20."; "Places from 18 up are 0 unless given otherwise."
unfoldable pub forward_from : Listed → (change room : ℕ) → ForwardAnswer → ForwardAnswer
forward_from (Err refusal) change room next = Err refusal
forward_from (Ok task) change room next =
    refuse (nat_le task.changes change) NoChange
    (refuse (nat_lt room task.shape.outputs) BufferShort
    next)

-- "returned are the touched count and the sum of gates visited over all outputs"
unfoldable pub forward_answer : (netlist list : List ℕ) → (change : ℕ) → (buffer : List ℕ) → ForwardAnswer
forward_answer n l change buffer = forward_from (list_checked n l) change (length buffer) (counted (touched_in n l change) (visited_in n l change))

-- "later bytes stay"; a refused call leaves the buffer as it was
abbrev pub left : ForwardAnswer → (written buffer : List ℕ) → List ℕ
left (Ok counts) written buffer = written ++ drop (length written) buffer
left (Err refusal) written buffer = buffer

unfoldable pub forward_buffer : (netlist list : List ℕ) → (change : ℕ) → (buffer : List ℕ) → List ℕ
forward_buffer n l change buffer = left (forward_answer n l change buffer) (forward_bytes n l change) buffer
