-- A gate by its operation, its inversion and the set of its pins' classes, and the table of that.
use Rattle.std.specs.Prelude.{ℕ, ◌/◌, ◌%◌, ◌||◌, List, eqb}
use Rattle.kung.specs.Class.{Class}
use Rattle.kung.specs.Operation.{op_at, invert_if, join_all}
use Rattle.kung.specs.Sets.{set_of, has}
use Rattle.kung.specs.Members.{members, insert}
use Rattle.kung.specs.Tables.{tab}

-- a gate as a number: its operation, and 2 more where it inverts; a larger one is read by its last two bits
unfoldable pub gate_at : (gate : ℕ) → List Class → Class
gate_at gate ps = invert_if (eqb (gate / 2 % 2) 1) (join_all (op_at gate) ps)

-- the set of its class alone by the set of its pins' classes: gates 0 to 3, 256 sets
unfoldable pub gate_rule : ℕ → ℕ
gate_rule i = insert 0 (gate_at (i / 256) (members (i % 256)))

unfoldable pub gate_table : List ℕ
gate_table = tab gate_rule 0 1024

-- the classes of one set or the other
unfoldable pub unite : (a b : ℕ) → ℕ
unite a b = set_of (λ c. has a c || has b c)
