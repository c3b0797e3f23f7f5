-- A call for every change gives what the calls for one change give: their bytes, row by row, and the sums of their counts.
use Rattle.std.specs.Prelude.{◌≡◌, ℕ, ◌+◌, ◌*◌, ◌<◌, ◌≤◌, List, length, take, drop, slice_index_or, Ok}
use Rattle.netlist.specs.Netlist.{inputs_of, gates_of, outputs_of}
use Rattle.simulate.specs.Full.{done, full_answer, full_buffer}
use Rattle.search.specs.Pins.{sum_below}
use Rattle.visit.specs.declared.Verdict.TheVariants as verdict
use Rattle.core_search.specs.Core.{Cored, core_answer}
use Rattle.forward.specs.Forward.{counted, forward_answer, forward_buffer}
use Rattle.lists.specs.Methods.{Method, full_of, forward_of, core_of}
use Rattle.batch.specs.Batch.{all_answer, all_buffer}

-- What the calls for one change give, each method its own: a row of bytes and two counts.

-- full simulation, lent any buffer with room: the codes at its start; nothing is counted
pub record FullAlone (n l : List ℕ) (change : ℕ) (row : List ℕ) (first second : ℕ) : Type 0 where
  pub answer : (buffer : List ℕ) → inputs_of n + gates_of n ≤ length buffer → full_answer n l change buffer ≡ done
  pub bytes : (buffer : List ℕ) → inputs_of n + gates_of n ≤ length buffer → take (inputs_of n + gates_of n) (full_buffer n l change buffer) ≡ row
  pub first_none : first ≡ 0
  pub second_none : second ≡ 0

-- the forward method, lent any buffer with room: the verdicts at its start, gates touched and gates visited
pub record ForwardAlone (n l : List ℕ) (change : ℕ) (row : List ℕ) (first second : ℕ) : Type 0 where
  pub answer : (buffer : List ℕ) → outputs_of n ≤ length buffer → forward_answer n l change buffer ≡ counted first second
  pub bytes : (buffer : List ℕ) → outputs_of n ≤ length buffer → take (outputs_of n) (forward_buffer n l change buffer) ≡ row

-- CORE on an output: the byte 0 where it answers clean, 1 where hazardous
pub data Says (byte gates pins : ℕ) (answer : Cored) : Type 0 where
  clean : (class : ℕ) → byte ≡ 0 → answer ≡ Ok (record { verdict = verdict.Clean class; gates = gates; pins = pins }) → Says byte gates pins answer
  hazardous : byte ≡ 1 → answer ≡ Ok (record { verdict = verdict.Hazardous; gates = gates; pins = pins }) → Says byte gates pins answer

-- CORE on each output: gates visited and pins taken are summed over the outputs
pub record CoreAlone (n l : List ℕ) (change : ℕ) (row : List ℕ) (first second : ℕ) : Type 0 where
  pub gates : ℕ → ℕ
  pub pins : ℕ → ℕ
  pub each : (output : ℕ) → output < outputs_of n → Says (slice_index_or row output 2) (gates output) (pins output) (core_answer n l change output)
  pub long : length row ≡ outputs_of n
  pub first_sum : first ≡ sum_below gates (outputs_of n)
  pub second_sum : second ≡ sum_below pins (outputs_of n)

-- A method's call for T changes of `width` bytes: the row of each change, at its place, is that of the calls for the change alone, and the two counts
-- are the sums of theirs.
pub record RowByRow (m : Method) (Alone : (change : ℕ) → (row : List ℕ) → (first second : ℕ) → Type 0)
    (n l buffer : List ℕ) (T width first second : ℕ) : Type 0 where
  pub firsts : ℕ → ℕ
  pub seconds : ℕ → ℕ
  pub each : (t : ℕ) → t < T → Alone t (take width (drop (t * width) (all_buffer m n l buffer))) (firsts t) (seconds t)
  pub first_sum : first ≡ sum_below firsts T
  pub second_sum : second ≡ sum_below seconds T

-- so for every method, of whatever netlist, list and buffer it does not refuse
pub record SingleCalls (n l buffer : List ℕ) (T width first second : ℕ) : Type 0 where
  pub full : all_answer (full_of n l) n l buffer ≡ Ok (record { changes = T; width = width; first = first; second = second }) → RowByRow (full_of n l) (FullAlone n l) n l buffer T width first second
  pub forward : all_answer (forward_of n l) n l buffer ≡ Ok (record { changes = T; width = width; first = first; second = second })
      → RowByRow (forward_of n l) (ForwardAlone n l) n l buffer T width first second
  pub core : all_answer (core_of n l) n l buffer ≡ Ok (record { changes = T; width = width; first = first; second = second }) → RowByRow (core_of n l) (CoreAlone n l) n l buffer T width first second
