-- Document 01, "Gate walk and program": the first line that the program prints, and texts in a row.
use Rattle.std.specs.Prelude.{ℕ, zero, suc, ◌+◌, List, [], ◌++◌, Ok, Err}
use Rattle.refusals.specs.Refusal.{number_of, place_of}
use Rattle.changes.specs.Refusals.{Listed}
use Rattle.report.specs.Text.{counts_line, refusal_line}

-- the texts f i, f (i + 1), .., n of them, one after the other
unfoldable pub texts : (f : ℕ → List ℕ) → (i n : ℕ) → List ℕ
texts f i zero = []
texts f i (suc n) = texts f i n ++ f (i + n)

-- "prints a line with the counts I, G, O, T"; "On a refusal it prints only the line `refused N at P`, N the number and P the place."
unfoldable pub first_line : Listed → List ℕ
first_line (Err refusal) = refusal_line (number_of refusal) (place_of refusal)
first_line (Ok task) = counts_line task.shape.inputs task.shape.gates task.shape.outputs task.changes
