-- Document 01, "Gate walk and program": what the program prints.
use Rattle.std.specs.Prelude.{ℕ, Bool, true, false, List, ◌++◌, Ok, Err}
use Rattle.netlist.specs.Netlist.{outputs_of, output_at}
use Rattle.changes.specs.Refusals.{Listed, list_checked}
use Rattle.simulate.specs.Full.{class_in}
use Rattle.search.specs.Search.{Verdict, clean, hazardous}
use Rattle.core_search.specs.Core.{search_of}
use Rattle.report.specs.Text.{verdict_line}
use Rattle.lines.specs.Texts.{texts, first_line}

-- a verdict's word is `clean` or `hazard`
abbrev pub is_clean : Verdict → Bool
is_clean (clean k) = true
is_clean hazardous = false

-- "change number, output's position from 0, class, verdict, CORE's gates, pins": the class is full simulation's, the verdict CORE's
unfoldable pub output_line : (netlist list : List ℕ) → (change output : ℕ) → List ℕ
output_line n l change output =
    let answer = search_of n l change output in
    verdict_line change output (class_in n l change (output_at n output)) (is_clean answer.verdict) answer.gates answer.pins

-- "then a line for each change and output, changes first"
unfoldable pub change_lines : (netlist list : List ℕ) → (change : ℕ) → List ℕ
change_lines n l change = texts (output_line n l change) 0 (outputs_of n)

-- the changes to print: none on a refusal
unfoldable pub printed_changes : Listed → ℕ
printed_changes (Err refusal) = 0
printed_changes (Ok task) = task.changes

-- all that is printed
unfoldable pub printed : (netlist list : List ℕ) → List ℕ
printed n l = first_line (list_checked n l) ++ texts (change_lines n l) 0 (printed_changes (list_checked n l))
