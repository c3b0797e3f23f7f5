-- Document 01, "CORE" and "Turned back, by operation": CORE for an output of a change.
use Rattle.std.specs.Prelude.{ℕ, List, nat_le, Result, Ok, Err}
use Rattle.refusals.specs.Refusal.{refuse}
use Rattle.refusals.specs.declared.Refusal.{Refusal}
use Rattle.refusals.specs.declared.Refusal.TheVariants.{NoChange, NoOutput}
use Rattle.netlist.specs.Netlist.{output_at}
use Rattle.changes.specs.Changes.{sources_of}
use Rattle.changes.specs.Refusals.{Listed, list_checked}
use Rattle.wanted.specs.Wanted.{wanted_in}
use Rattle.search.specs.Search.{Answer, search}
use Rattle.visit.specs.declared.Found.{Found}
use Rattle.visit.specs.Found.{found_of}

-- the answer of CORE
abbrev pub Cored : Type 0
Cored = Result Found Refusal

-- the search of an output in a change, whose gate is visited with the output's wanted set
unfoldable pub search_of : (netlist list : List ℕ) → (change output : ℕ) → Answer
search_of n l change output = search (sources_of n l change) (wanted_in n l change output) (output_at n output)

-- "The answer is clean with its class, or hazardous; with the number of different gates visited and of pins taken."
abbrev pub answered_with : Answer → Cored
answered_with answer = Ok (found_of answer)

-- "CORE: the list's, 18, output not below O 19"; "Places from 18 up are 0 unless given otherwise." Document 02, "Job 8", took the last refusal away.
unfoldable pub core_from : Listed → (change output : ℕ) → Answer → Cored
core_from (Err refusal) change output answer = Err refusal
core_from (Ok task) change output answer =
    refuse (nat_le task.changes change) NoChange
    (refuse (nat_le task.shape.outputs output) NoOutput
    (answered_with answer))

unfoldable pub core_answer : (netlist list : List ℕ) → (change output : ℕ) → Cored
core_answer n l change output = core_from (list_checked n l) change output (search_of n l change output)
