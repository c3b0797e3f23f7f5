-- What the loops leave in the bytes that they are lent beside the buffer.
use Rattle.std.specs.Prelude.{ℕ, zero, suc, List, ◌++◌, drop}
use Rattle.jobs.specs.declared.Job.{Job}
use Rattle.changes.specs.Lent.{signals_of}
use Rattle.inputs.specs.Written.{input_codes}
use Rattle.sweep.specs.Sweep.{hots_of}
use Rattle.simulate.specs.Full.{codes}
use Rattle.forward.specs.Known.{known_codes}

-- bytes after n changes, where change t makes `step t` of those before it
unfoldable pub after : (step : ℕ → List ℕ → List ℕ) → (n : ℕ) → (lent : List ℕ) → List ℕ
after step zero lent = lent
after step (suc n) lent = step n (after step n lent)

-- the sets of the signals' classes alone
abbrev pub heated : Job → (t : ℕ) → (hot : List ℕ) → List ℕ
heated job t hot = hots_of (codes job.netlist.now job.list.now t) ++ drop (signals_of job.task.shape) hot

-- the inputs' codes and those of the constant gates, 8 for each other gate
abbrev pub known_constants : Job → (t : ℕ) → (known : List ℕ) → List ℕ
known_constants job t known =
    known_codes (codes job.netlist.now job.list.now t ++ drop (signals_of job.task.shape) known) job.task.shape.inputs job.task.shape.gates

-- the inputs' codes alone
abbrev pub filled : Job → (t : ℕ) → (known : List ℕ) → List ℕ
filled job t known = input_codes job.list.now job.task.layout t job.task.shape.inputs ++ drop job.task.shape.inputs known
