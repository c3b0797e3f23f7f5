-- What the loops hand back.
use Rattle.std.specs.Prelude.{◌≡◌, ℕ, ◌*◌, List, ◌++◌, drop}
use Rattle.lists.specs.declared.Judged.{Judged}
use Rattle.lists.specs.Methods.{rows, Method, full_of, forward_of, core_of, done_for}
use Rattle.jobs.specs.declared.Job.{Job}

-- the methods on an accepted netlist and list
abbrev pub full_for : Job → Method
full_for job = full_of job.netlist.now job.list.now

abbrev pub forward_for : Job → Method
forward_for job = forward_of job.netlist.now job.list.now

abbrev pub core_for : Job → Method
core_for job = core_of job.netlist.now job.list.now

-- a buffer with the first T rows at its start
abbrev pub rowed : Method → (T : ℕ) → (buffer : List ℕ) → List ℕ
rowed m T buffer = rows m.row T ++ drop (T * m.width) buffer

-- a method's answer for the changes of an accepted list, and its rows
pub record Judges (m : Method) (changes : ℕ) (entry exit : List ℕ) (r : Judged) : Type 0 where
  pub answer : r ≡ done_for m changes
  pub bytes : exit ≡ rowed m changes entry
