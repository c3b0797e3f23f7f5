-- Documents 01, "CORE", and 02, "Job 1": the wanted set of an output in a change.
use Rattle.std.specs.Prelude.{ℕ, cond, List, eqb}
use Rattle.kung.specs.Class.{same}
use Rattle.kung.specs.Sets.{set_of, clean_set}
use Rattle.changes.specs.declared.Layout.{Layout}
use Rattle.changes.specs.Changes.{layout_in, declared_class_at}

-- "The output's gate is visited with wanted set {0, 1, R, F}."; "In version 2, clean means that the class is the clean one with the declared ends, and
-- the wanted set holds only that class."
unfoldable pub wanted_at : List ℕ → Layout → (t output : ℕ) → ℕ
wanted_at l layout t o = cond (eqb layout.version 2) (set_of (same (declared_class_at l layout t o))) clean_set

-- of a netlist and its list
abbrev pub wanted_in : (netlist list : List ℕ) → (t output : ℕ) → ℕ
wanted_in n l = wanted_at l (layout_in n l)
