-- What stands at a place of the gates' table. Assumes nothing.
use mathlib.Core.Path.{◌≡◌, ◌∙◌, ap}
use mathlib.Core.Bool.{cond}
use mathlib.Core.List.{List}
use Prim.Native.Nat.{ℕ, ◌+◌, ◌*◌, ◌/◌, ◌%◌, ◌<◌}
use native.Mathlib.Omega.{arith}
use lib.Dec.{eqb}
use lib.ListN.{get_or}
use Rattle.kung.specs.Class.{Class}
use Rattle.kung.specs.Operation.{and, or, invert_if, join_all}
use Rattle.kung.specs.Members.{members, insert}
use Rattle.kung.specs.Gates.{gate_at, gate_rule, gate_table}
use Rattle.kung.proofs.Listed.{get_d_tab}

-- a gate is read by its last two bits
pub gate_at_bits : (g h : ℕ) → g % 4 ≡ h % 4 → (ps : List Class) → gate_at g ps ≡ gate_at h ps
unfolding gate_at
gate_at_bits g h e ps =
    let a : g / 2 % 2 ≡ h / 2 % 2 = omega arith in
    let b : g % 2 ≡ h % 2 = omega arith in
    λ i. invert_if (eqb (a i) 1) (join_all (cond (eqb (b i) 0) and or) ps)

-- what stands at a place of the table
pub gate_at_lem : (g m : ℕ) → m < 256 → get_or gate_table (g % 4 * 256 + m) 0 ≡ insert 0 (gate_at g (members m))
unfolding gate_table gate_rule
gate_at_lem g m h =
    let a : (g % 4 * 256 + m) / 256 % 4 ≡ g % 4 = omega arith in
    let b : (g % 4 * 256 + m) % 256 ≡ m = omega arith in
    get_d_tab gate_rule 1024 (g % 4 * 256 + m) (omega arith) ∙ ap (insert 0) (gate_at_bits _ g a _ ∙ ap (λ n. gate_at g (members n)) b)
