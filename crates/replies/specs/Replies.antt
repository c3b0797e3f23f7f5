-- The answers as the exported functions give them: the refusal's number, or 0, and five words.
use Rattle.std.specs.Prelude.{◌≡◌, ℕ, List, [], ◌∷◌, Result, Ok, Err, ⊤}
use Rattle.refusals.specs.declared.Refusal.{Refusal}
use Rattle.refusals.specs.Refusal.{number_of, place_of}
use Rattle.netlist.specs.declared.Shape.{Shape}
use Rattle.netlist.specs.Netlist.{Checked}
use Rattle.changes.specs.declared.Task.{Task}
use Rattle.changes.specs.Refusals.{Listed}
use Rattle.walk.specs.declared.Start.{Start}
use Rattle.walk.specs.declared.Stepped.{Stepped}
use Rattle.visit.specs.declared.Verdict.TheVariants.{Clean, Hazardous}
use Rattle.visit.specs.declared.Verdict.{Verdict}
use Rattle.visit.specs.declared.Found.{Found}
use Rattle.simulate.specs.Full.{Simulated}
use Rattle.core_search.specs.Core.{Cored}
use Rattle.forward.specs.declared.Forwarded.{Forwarded}
use Rattle.forward.specs.Forward.{ForwardAnswer}
use Rattle.lists.specs.declared.Judged.{Judged}

-- number and words together: a refusal's first word is its place
pub record Answer : Type 0 where
  pub number : ℕ
  pub words : List ℕ

-- what a function returned and what it left in the lent words are the answer
pub record Answered (answer : Answer) (number : ℕ) (words : List ℕ) : Type 0 where
  pub number_is : number ≡ answer.number
  pub words_are : words ≡ answer.words

abbrev pub five : (a b c d e : ℕ) → List ℕ
five a b c d e = a ∷ b ∷ c ∷ d ∷ e ∷ []

abbrev pub answer_of : {A : Type 0} → (words : A → List ℕ) → Result A Refusal → Answer
answer_of words (Ok value) = record { number = 0; words = words value }
answer_of words (Err refusal) = record { number = number_of refusal; words = five (place_of refusal) 0 0 0 0 }

abbrev pub shape_words : Shape → List ℕ
shape_words shape = five shape.inputs shape.gates shape.outputs shape.pins shape.entries

-- the changes, the bytes of a vector, and those of a row of declared ends, 0 in version 1
abbrev pub task_words : Task → List ℕ
task_words task = five task.changes task.layout.width task.layout.row 0 0

-- opening a walk: where it starts, by number and place, and how many records it has to hand back
abbrev pub start_words : Start → List ℕ
start_words o = five o.number o.place o.count 0 0

-- a step of a walk, which nothing refuses: how many bytes it hands back, 0 for none, and the number and place it reaches
abbrev pub step_words : Stepped → List ℕ
step_words t = five t.length t.number t.place 0 0

-- full simulation: nothing but that the classes are written
abbrev pub unit_words : ⊤ → List ℕ
unit_words tt = five 0 0 0 0 0

-- clean: 0 and the class; hazardous: 1; then gates and pins
abbrev pub verdict_words : Verdict → (gates pins : ℕ) → List ℕ
verdict_words (Clean class) gates pins = five 0 class gates pins 0
verdict_words Hazardous gates pins = five 1 0 gates pins 0

abbrev pub found_words : Found → List ℕ
found_words found = verdict_words found.verdict found.gates found.pins

-- the touched count and the gates visited
abbrev pub forwarded_words : Forwarded → List ℕ
forwarded_words counts = five counts.touched counts.visited 0 0 0

-- the changes, the bytes of each, and a method's two counts over all changes
abbrev pub judged_words : Judged → List ℕ
judged_words judged = five judged.changes judged.width judged.first judged.second 0

-- the answers of the operations
abbrev pub netlist_answer : Checked → Answer
netlist_answer = answer_of shape_words

abbrev pub list_answer : Listed → Answer
list_answer = answer_of task_words

abbrev pub start_answer : Result Start Refusal → Answer
start_answer = answer_of start_words

abbrev pub step_answer : Stepped → Answer
step_answer t = answer_of step_words (Ok t)

abbrev pub simulated_answer : Simulated → Answer
simulated_answer = answer_of unit_words

abbrev pub cored_answer : Cored → Answer
cored_answer = answer_of found_words

abbrev pub forwarded_answer : ForwardAnswer → Answer
forwarded_answer = answer_of forwarded_words

abbrev pub judged_answer : Result Judged Refusal → Answer
judged_answer = answer_of judged_words
