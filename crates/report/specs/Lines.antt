-- A line as the code hands it on.
use Rattle.std.specs.Prelude.{List, ℕ}
use Rattle.kung.specs.Class.{of_code}
use Rattle.report.specs.declared.Line.{Line}
use Rattle.report.specs.Text.{verdict_line}

-- its text
abbrev pub text_of : Line → List ℕ
text_of line = verdict_line line.change line.output (of_code line.class) line.clean line.gates line.pins
