-- Full simulation, the forward method and CORE for the changes of a list, one after the other: what each gives.
use Rattle.std.specs.Prelude.{ℕ, zero, suc, ◌+◌, List, [], ◌++◌}
use Rattle.kung.specs.Tables.{tab}
use Rattle.netlist.specs.Netlist.{inputs_of, gates_of, outputs_of}
use Rattle.simulate.specs.Full.{codes}
use Rattle.search.specs.Search.{Answer}
use Rattle.search.specs.Pins.{sum_below}
use Rattle.core_search.specs.Core.{search_of}
use Rattle.outputs.specs.Outputs.{verdict_byte}
use Rattle.constants.specs.Change.{touched_in}
use Rattle.forward.specs.Forward.{visited_in, forward_bytes}
use Rattle.lists.specs.declared.Judged.{Judged}

-- row 0, row 1 and so on, n rows, one after the other
unfoldable pub rows : (ℕ → List ℕ) → ℕ → List ℕ
rows f zero = []
rows f (suc n) = rows f n ++ f n

-- CORE for all outputs of a change: "0 (clean) or 1 (hazardous)" for each, and the gates visited, or the pins taken, in all
unfoldable pub core_bytes : (netlist list : List ℕ) → (t : ℕ) → List ℕ
core_bytes n l t = tab (λ o. verdict_byte (search_of n l t o).verdict) 0 (outputs_of n)

unfoldable pub core_sum : (Answer → ℕ) → (netlist list : List ℕ) → (t : ℕ) → ℕ
core_sum count n l t = sum_below (λ o. count (search_of n l t o)) (outputs_of n)

-- a method: the number of its bytes for a change, these bytes, and its two counts for T changes
pub record Method : Type 0 where
  pub width : ℕ
  pub row : (t : ℕ) → List ℕ
  pub first : (T : ℕ) → ℕ
  pub second : (T : ℕ) → ℕ

-- the class of each signal; nothing is counted
abbrev pub full_of : (netlist list : List ℕ) → Method
full_of n l = record { width = inputs_of n + gates_of n; row = codes n l; first = λ T. 0; second = λ T. 0 }

-- the verdict of each output; gates touched and gates visited, over all changes
abbrev pub forward_of : (netlist list : List ℕ) → Method
forward_of n l =
    record { width = outputs_of n; row = forward_bytes n l; first = sum_below (touched_in n l); second = sum_below (visited_in n l) }

-- the verdict of each output; gates visited and pins taken, over all changes and outputs
abbrev pub core_of : (netlist list : List ℕ) → Method
core_of n l =
    record {
      width = outputs_of n;
      row = core_bytes n l;
      first = sum_below (core_sum (λ a. a.gates) n l);
      second = sum_below (core_sum (λ a. a.pins) n l);
    }

-- what a method answers for T changes
abbrev pub done_for : Method → (T : ℕ) → Judged
done_for m T = record { changes = T; width = m.width; first = m.first T; second = m.second T }
