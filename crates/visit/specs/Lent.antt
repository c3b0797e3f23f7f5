-- What a search is lent.
use Rattle.std.specs.Prelude.{ℕ, ◌≤◌, ◌<◌, List, ◌++◌, length, get_or, replicate}
use Rattle.kung.specs.Class.{Class, code}
use Rattle.kung.specs.Tables.{tab}
use Rattle.rows.specs.Lent.{GateRow}
use Rattle.visit.specs.Cells.{Afresh}

-- only gates are to be searched
abbrev pub GatesOnly : (rows known : List ℕ) → Type 0
GatesOnly rows known = (s : ℕ) → 8 ≤ get_or known s 0 → GateRow rows s

-- in CORE the inputs are known, and no gate
abbrev pub inputs_known : (inputs gates : ℕ) → (ℕ → Class) → List ℕ
inputs_known inputs gates v = tab (λ i. code (v i)) 0 inputs ++ replicate gates 8

-- a decoded card, of which some signals' classes are known
pub record SearchReady (rows known : List ℕ) : Type 0 where
  pub gates_only : GatesOnly rows known
  pub few_signals : length known ≤ 2304
  pub afresh : Afresh known

-- the signals below `first`, the inputs, have their classes
abbrev pub InputsGiven : (first : ℕ) → (known : List ℕ) → Type 0
InputsGiven first known = (i : ℕ) → i < first → get_or known i 0 < 8
