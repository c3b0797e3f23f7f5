use Rattle.std.proofs.Common.{◌≡◌}
use Rattle.changes.specs.Lent.{signals_of}
use Rattle.report.specs.Appended.{Appended}
use Rattle.lines.specs.Texts.{texts}
use Rattle.lines.specs.Lent.{text_from}
use Rattle.lines.proofs.put_outputs.Given as goal

-- The loop's invariant: the lines of the outputs so far are there, and what is known stays.
abbrev pub invariant-loop-output : goal.invariant-loop-output
invariant-loop-output l = record {
  lines : Appended l.initial.text l.text (texts (text_from l.rows l.initial.known l.wanted l.classes (signals_of l.shape) l.change) 0 l.output);
  known : l.known ≡ l.initial.known;
}
