use mathlib.Core.Path.{◌≡◌, refl, sym, ◌∙◌, ap}
use mathlib.Core.Bool.{cond}
use mathlib.Core.List.{List, ◌++◌}
use Prim.Native.Nat.{ℕ, ◌+◌, ◌*◌, ◌/◌, ◌%◌, ◌^◌, ◌<◌}
use native.Mathlib.Omega.{arith}
use lib.Bits.{bit_or}
use lib.Dec.{eqb}
use lib.ListN.{get_or}
use Rattle.kung.specs.Class.{c0, classes, of_code}
use Rattle.kung.specs.Rule.{each, some, and_all, or_all}
use Rattle.kung.specs.Operation.{and, or, op_at, join_all, join}
use Rattle.kung.specs.Sets.{set_of, has, image, possible}
use Rattle.kung.specs.Members.{keep, only_code}
use Rattle.kung.specs.Tables.{tab, image_rule, image_table, block_rule, half_set, wanted_rule, preimage, reach}
use Rattle.kung.specs.Lookup.{joined_by, ends_with, lookup_rule, lookup_table, search_table}
use Rattle.kung.proofs.Unions.{image_or}
use Rattle.tables.proofs.Doubled.{doubled, rows, tab_rows, by_unions}
use Rattle.tables.proofs.search.Goals as goal

-- `tables::search` meets its contract. A row of images has a rule that takes unions to unions, so antt computes it by doubling; of the others it computes the
-- rule at each entry. Assumes nothing.
-- row r has an operation and a class
row_rule : ℕ → ℕ → ℕ
row_rule r = image (op_at (r / 8)) (of_code r)

in_row : (r k : ℕ) → k < 256 → image_rule (r * 256 + k) ≡ row_rule r k
unfolding image_rule of_code row_rule
in_row r k h =
    let a : (r * 256 + k) / 2048 % 2 ≡ r / 8 % 2 = omega arith in
    let b : (r * 256 + k) / 256 % 8 ≡ r % 8 = omega arith in
    let d : (r * 256 + k) % 256 ≡ k = omega arith in
    λ i. image (cond (eqb (a i) 0) and or) (get_or classes (b i) c0) (d i)

image_rows : List ℕ
image_rows = rows (λ r. doubled (λ j. bit_or (row_rule r (2 ^ j))) (row_rule r 0) 8) 0 16

by_rows : image_table ≡ image_rows
unfolding image_table image_rows row_rule
by_rows =
    tab_rows 8 image_rule row_rule (λ r j. bit_or (row_rule r (2 ^ j))) in_row (λ r. by_unions (row_rule r) (image_or (op_at (r / 8)) (of_code r)) 8) 16 0

in_parts : search_table ≡ image_rows ++ lookup_table
unfolding search_table
in_parts = ap (λ l. l ++ lookup_table) by_rows

pub returns : goal.returns
unfolding image_rows rows doubled row_rule lookup_table tab lookup_rule joined_by ends_with wanted_rule block_rule half_set preimage reach possible image only_code keep set_of has some each join join_all and_all or_all of_code
returns c = refl ∙ sym in_parts
