-- What only the code and its proofs need: what the functions behind the lines are lent and write.
use Rattle.std.specs.Prelude.{ℕ, List, ◌++◌, drop, ◌==◌, slice_index}
use Rattle.rows.specs.Rows.{output_in}
use Rattle.jobs.specs.declared.Job.{Job}
use Rattle.changes.specs.Lent.{signals_of}
use Rattle.inputs.specs.Written.{input_codes}
use Rattle.sweep.specs.Sweep.{codes_of}
use Rattle.outputs.specs.Outputs.{search_from, byte_from}
use Rattle.report.specs.declared.Line.{Line}
use Rattle.report.specs.Lines.{text_of}

-- the line of output o of a card of n signals: its class, and what its search finds
abbrev pub line_from : (rows known wanted classes : List ℕ) → (n change o : ℕ) → Line
line_from rows known wanted classes n change o =
    record {
      change = change;
      output = o;
      class = slice_index classes (output_in rows n o);
      clean = (byte_from rows known wanted n o == 0);
      gates = (search_from rows known wanted n o).gates;
      pins = (search_from rows known wanted n o).pins;
    }

unfoldable pub text_from : (rows known wanted classes : List ℕ) → (n change o : ℕ) → List ℕ
text_from rows known wanted classes n change o = text_of (line_from rows known wanted classes n change o)

-- the classes of a change at the start of a buffer
abbrev pub classes_from : Job → (change : ℕ) → (buffer : List ℕ) → List ℕ
classes_from job change buffer =
    let task = job.task in
    let filled = input_codes job.list.now task.layout change task.shape.inputs ++ drop task.shape.inputs buffer in
    codes_of job.rows.now filled task.shape.inputs task.shape.gates (signals_of task.shape) ++ drop (signals_of task.shape) filled
