use mathlib.Core.List.{[], ◌∷◌, append_assoc}
use Rattle.kung.specs.Class.{of_code, name_of}
use Rattle.report.specs.Text.{decimal, line, verdict_word, verdict_line}
use Rattle.report.proofs.Appending.{◌then◌, FitsLine, next_word, ◌past◌, last_word}
use Rattle.report.proofs.Text.put_verdict.Goals.{Start}
use Rattle.report.proofs.Text.put_verdict.Goals as goal

-- the line fits at the entry
fits : (c : Start) → FitsLine c.args.self.now (decimal c.args.line.change) (decimal c.args.line.output ∷ name_of (of_code c.args.line.class) ∷ verdict_word c.args.line.clean ∷ decimal c.args.line.gates ∷ decimal c.args.line.pins ∷ [])
unfolding verdict_line
fits c = record { whole = c.requires }

pub put_number-requires : goal.put_number-requires
put_number-requires c = next_word (fits (goal.at.put_number-requires c).Start)

pub put_number-requires-2 : goal.put_number-requires-2
put_number-requires-2 c = next_word (fits (goal.at.put_number-requires-2 c).Start past c.put_number.ensures)

pub put_word-requires : goal.put_word-requires
put_word-requires c = rw c.name.ensures (next_word (fits (goal.at.put_word-requires c).Start past c.put_number.ensures past c.put_number-2.ensures))

pub put_judgement-requires : goal.put_judgement-requires
put_judgement-requires c = next_word (fits (goal.at.put_judgement-requires c).Start past c.put_number.ensures past c.put_number-2.ensures past (rw c.name.ensures at c.put_word.ensures))

pub put_number-requires-3 : goal.put_number-requires-3
put_number-requires-3 c = next_word (fits (goal.at.put_number-requires-3 c).Start past c.put_number.ensures past c.put_number-2.ensures past (rw c.name.ensures at c.put_word.ensures) past c.put_judgement.ensures)

pub put_number-requires-4 : goal.put_number-requires-4
put_number-requires-4 c = last_word (fits (goal.at.put_number-requires-4 c).Start past c.put_number.ensures past c.put_number-2.ensures past (rw c.name.ensures at c.put_word.ensures) past c.put_judgement.ensures past c.put_number-3.ensures)

pub returns : goal.returns
unfolding line verdict_line
returns c = simp append_assoc at (c.put_number.ensures then c.put_number-2.ensures then (rw c.name.ensures at c.put_word.ensures) then c.put_judgement.ensures then c.put_number-3.ensures then c.put_number-4.ensures)
