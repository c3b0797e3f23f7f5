-- How the code makes the wanted sets of all outputs of a change: those of the outputs in the rows' bytes, and {0, 1, R, F} past them.
use Rattle.std.specs.Prelude.{ℕ, ◌*◌, cond, List, ltb}
use Rattle.kung.specs.Class.{same}
use Rattle.kung.specs.Sets.{set_of, clean_set}
use Rattle.kung.specs.Tables.{tab}
use Rattle.changes.specs.declared.Layout.{Layout}
use Rattle.changes.specs.Changes.{declared_class_at}

-- version 1 has no rows
abbrev pub set_at : List ℕ → Layout → (t output : ℕ) → ℕ
set_at l layout t o = cond (ltb o (8 * layout.row)) (set_of (same (declared_class_at l layout t o))) clean_set

unfoldable pub sets_at : List ℕ → Layout → (t : ℕ) → List ℕ
sets_at l layout t = tab (set_at l layout t) 0 64
