use mathlib.Core.Path.{◌≡◌, refl, sym, ◌∙◌, ap}
use mathlib.Core.Bool.{Bool, true, false, ◌||◌}
use Prim.Native.Nat.{ℕ, ◌+◌, ◌*◌, ◌/◌, ◌%◌, ◌^◌, ◌<◌}
use native.Mathlib.Omega.{arith}
use lib.Bits.{or_shifted_r}
use lib.Count.{count_trailing_zeros}
use lib.Dec.{eqb}
use lib.ListN.{get_or}
use Rattle.kung.specs.Class.{Class, c0, classes, of_code, same}
use Rattle.kung.specs.Rule.{each, some, and_all, or_all}
use Rattle.kung.specs.Operation.{op_at, invert_if, join, join_all}
use Rattle.kung.specs.Sets.{set_of, has}
use Rattle.kung.specs.Members.{keep, members, insert}
use Rattle.kung.specs.Gates.{gate_at, gate_rule, gate_table}
use Rattle.kung.proofs.Finite.{of_code_code}
use Rattle.kung.proofs.Laws.{invert_if_twice}
use Rattle.kung.proofs.SetLaws.{has_set_of, join_more, lowest_one}
use Rattle.kung.proofs.Unions.{has_or, one_class}
use Rattle.tables.proofs.Doubled.{Doubles, doubled, rows, tab_rows}
use Rattle.tables.proofs.gate_table.Goals as goal

-- `tables::gate_table` meets its contract: antt computes a gate's row by joining in one class after the other. Assumes nothing.
-- bit j joins in the class of code j
has_more : (j m : ℕ) → j < 8 → m < 2 ^ j → (x : Class) → has (2 ^ j + m) x ≡ (has m x || same (get_or classes j c0) x)
has_more j m low h x =
    let e : 2 ^ j + m ≡ 1 * 2 ^ j + m = omega arith in
    ap (λ (n : ℕ). has n x) (e ∙ sym (or_shifted_r 1 j m h)) ∙ has_or m (1 * 2 ^ j) x
    ∙ ap (λ b. has m x || b) (ap (λ (n : ℕ). has n x) (omega arith ∙ one_class j low) ∙ has_set_of (same (get_or classes j c0)) x)

row_rule : ℕ → ℕ → ℕ
row_rule g m = insert 0 (gate_at g (members m))

abbrev turn : ℕ → Class → Class
turn g = invert_if (eqb (g / 2 % 2) 1)

step : ℕ → ℕ → ℕ → ℕ
step g j c = insert 0 (turn g (join (op_at g) (get_or classes j c0) (turn g (of_code (count_trailing_zeros 8 c)))))

steps : (g : ℕ) → Doubles 8 (step g) (row_rule g)
unfolding row_rule step gate_at
steps g j m low h =
    ap (λ k. insert 0 (turn g k)) (join_more (op_at g) m (2 ^ j + m) (get_or classes j c0) (has_more j m low h))
    ∙ ap (λ k. insert 0 (turn g (join (op_at g) (get_or classes j c0) k))) (sym back)
  where
    back : turn g (of_code (count_trailing_zeros 8 (insert 0 (turn g (join_all (op_at g) (members m)))))) ≡ join_all (op_at g) (members m)
    back = ap (λ (c : ℕ). turn g (of_code c)) (lowest_one (turn g (join_all (op_at g) (members m)))) ∙ ap (turn g) (of_code_code (turn g (join_all (op_at g) (members m)))) ∙ invert_if_twice (eqb (g / 2 % 2) 1) (join_all (op_at g) (members m))

in_row : (r m : ℕ) → m < 256 → gate_rule (r * 256 + m) ≡ row_rule r m
unfolding gate_rule row_rule
in_row r m h =
    let a : (r * 256 + m) / 256 ≡ r = omega arith in
    let b : (r * 256 + m) % 256 ≡ m = omega arith in
    λ i. insert 0 (gate_at (a i) (members (b i)))

by_rows : gate_table ≡ rows (λ r. doubled (step r) (row_rule r 0) 8) 0 4
unfolding gate_table
by_rows = tab_rows 8 gate_rule row_rule step in_row steps 4 0

pub returns : goal.returns
unfolding rows doubled step row_rule insert set_of count_trailing_zeros gate_at join join_all and_all or_all each some has keep of_code
returns c = refl ∙ sym by_rows
