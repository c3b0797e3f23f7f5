use mathlib.Core.List.{[], ◌∷◌, append_assoc}
use Rattle.report.specs.Text.{ascii, decimal, line, counts_line}
use Rattle.report.proofs.Appending.{◌then◌, FitsLine, next_word, ◌past◌, last_word}
use Rattle.report.proofs.Text.put_counts.Goals.{Start}
use Rattle.report.proofs.Text.put_counts.Goals as goal

-- the line fits at the entry
fits : (c : Start) → FitsLine c.args.self.now (decimal c.args.inputs) (ascii "inputs" ∷ decimal c.args.gates ∷ ascii "gates" ∷ decimal c.args.outputs ∷ ascii "outputs" ∷ decimal c.args.changes ∷ ascii "changes" ∷ [])
unfolding counts_line
fits c = record { whole = c.requires }

pub put_number-requires : goal.put_number-requires
put_number-requires c = next_word (fits (goal.at.put_number-requires c).Start)

pub put_word-requires : goal.put_word-requires
put_word-requires c = next_word (fits (goal.at.put_word-requires c).Start past c.put_number.ensures)

pub put_number-requires-2 : goal.put_number-requires-2
put_number-requires-2 c = next_word (fits (goal.at.put_number-requires-2 c).Start past c.put_number.ensures past c.put_word.ensures)

pub put_word-requires-2 : goal.put_word-requires-2
put_word-requires-2 c = next_word (fits (goal.at.put_word-requires-2 c).Start past c.put_number.ensures past c.put_word.ensures past c.put_number-2.ensures)

pub put_number-requires-3 : goal.put_number-requires-3
put_number-requires-3 c = next_word (fits (goal.at.put_number-requires-3 c).Start past c.put_number.ensures past c.put_word.ensures past c.put_number-2.ensures past c.put_word-2.ensures)

pub put_word-requires-3 : goal.put_word-requires-3
put_word-requires-3 c = next_word (fits (goal.at.put_word-requires-3 c).Start past c.put_number.ensures past c.put_word.ensures past c.put_number-2.ensures past c.put_word-2.ensures past c.put_number-3.ensures)

pub put_number-requires-4 : goal.put_number-requires-4
put_number-requires-4 c = next_word (fits (goal.at.put_number-requires-4 c).Start past c.put_number.ensures past c.put_word.ensures past c.put_number-2.ensures past c.put_word-2.ensures past c.put_number-3.ensures past c.put_word-3.ensures)

pub put_word-requires-4 : goal.put_word-requires-4
put_word-requires-4 c = last_word (fits (goal.at.put_word-requires-4 c).Start past c.put_number.ensures past c.put_word.ensures past c.put_number-2.ensures past c.put_word-2.ensures past c.put_number-3.ensures past c.put_word-3.ensures past c.put_number-4.ensures)

pub returns : goal.returns
unfolding line counts_line
returns c = simp append_assoc at (c.put_number.ensures then c.put_word.ensures then c.put_number-2.ensures then c.put_word-2.ensures then c.put_number-3.ensures then c.put_word-3.ensures then c.put_number-4.ensures then c.put_word-4.ensures)
