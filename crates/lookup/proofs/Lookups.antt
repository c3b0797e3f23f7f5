-- What stands behind the images in the search's table. Assumes nothing.
use mathlib.Core.Path.{◌≡◌, refl, sym, ◌∙◌, ap, ap₂}
use mathlib.Core.Bool.{cond, not}
use Prim.Native.Nat.{ℕ, ◌+◌, ◌-◌, ◌*◌, ◌/◌, ◌%◌, ◌<◌}
use native.Mathlib.Omega.{arith}
use lib.Bits.{bit_or}
use lib.Dec.{eqb, ltb}
use lib.ListN.{get_or}
use borrow.Author.Tests.{lt-ltb, le-ltb}
use Rattle.kung.specs.Class.{code, of_code}
use Rattle.kung.specs.Operation.{and, or, op_at}
use Rattle.kung.specs.Sets.{set_of, has}
use Rattle.kung.specs.Tables.{tab, preimage, reach, block_rule, half_set, wanted_rule}
use Rattle.kung.specs.Lookup.{joined_by, ends_with, stop_set, lookup_rule, lookup_table, search_table}
use Rattle.kung.proofs.Listed.{get_d_tab, agree}
use Rattle.kung.proofs.Places.{search_other}
use Rattle.kung.proofs.Unions.{set_of_or, block_or, halves}

-- place x has the rule's entry i
rule_at : (x i : ℕ) → x ≡ 4096 + i → i < 792 → get_or search_table x 0 ≡ lookup_rule i
unfolding lookup_table
rule_at x i e h = ap (λ (x : ℕ). get_or search_table x 0) e ∙ search_other i ∙ get_d_tab lookup_rule 792 i h

-- what a waiting gate makes of a class
pub join_at : (w k : ℕ) → w < 17 → get_or search_table (4096 + w * 8 + k % 8) 0 ≡ code (joined_by w (of_code k))
unfolding lookup_rule of_code
join_at w k low =
    let a : (w * 8 + k % 8) / 8 ≡ w = omega arith in
    let b : (w * 8 + k % 8) % 8 ≡ k % 8 = omega arith in
    rule_at (4096 + w * 8 + k % 8) (w * 8 + k % 8) (omega arith) (omega arith) ∙ rw (lt-ltb (w * 8 + k % 8) 136 (omega arith), a, b)

-- the stop bits of checks (b) and (c), and all of them
ends_at : (w g : ℕ) → w < 17 → g < 4 → get_or search_table (4096 + 136 + w * 4 + g) 0 ≡ set_of (ends_with w g)
unfolding lookup_rule
ends_at w g low four =
    let a : (136 + w * 4 + g - 136) / 4 ≡ w = omega arith in
    let b : (136 + w * 4 + g - 136) % 4 ≡ g = omega arith in
    rule_at (4096 + 136 + w * 4 + g) (136 + w * 4 + g) (omega arith) (omega arith)
    ∙ rw (le-ltb (136 + w * 4 + g) 136 (omega arith), lt-ltb (136 + w * 4 + g) 216 (omega arith)) (λ i. set_of (ends_with (a i) (b i)))

pub stop_at : (w g m : ℕ) → w < 17 → g < 4 → m < 256 → bit_or (255 - m) (get_or search_table (4096 + 136 + w * 4 + g) 0) ≡ stop_set w g m
unfolding stop_set set_of has tab
stop_at w g m low four byte =
    ap₂ bit_or (agree (λ m. 255 - m) (λ m. set_of (λ p. not (has m p))) 256 refl m byte) (ends_at w g low four)
    ∙ sym (set_of_or (λ p. not (has m p)) (ends_with w g))

-- entry k of a block
entry : (b k m : ℕ) → b < 18 → k < 32 → cond (ltb k 16) (k % 16) (k % 16 * 16) ≡ m → get_or search_table (4096 + 216 + b * 32 + k) 0 ≡ block_rule b m
unfolding lookup_rule wanted_rule half_set
entry b k m low less e =
    let c : (216 + b * 32 + k - 216) / 32 ≡ b = omega arith in
    let d : (216 + b * 32 + k - 216) % 32 ≡ k = omega arith in
    let f : (216 + b * 32 + k - 216) % 16 ≡ k % 16 = omega arith in
    rule_at (4096 + 216 + b * 32 + k) (216 + b * 32 + k) (omega arith) (omega arith)
    ∙ rw (le-ltb (216 + b * 32 + k) 136 (omega arith), le-ltb (216 + b * 32 + k) 216 (omega arith))
    (λ i. block_rule (c i) (cond (ltb (d i) 16) (f i) (f i * 16)))
    ∙ ap (block_rule b) e

pub block_at : (b m : ℕ) → b < 18 → m < 256
    → bit_or (get_or search_table (4096 + 216 + b * 32 + m % 16) 0) (get_or search_table (4096 + 216 + b * 32 + (16 + m / 16)) 0) ≡ block_rule b m
block_at b m low byte =
    ap₂ bit_or (entry b (m % 16) (m % 16) low (omega arith) lower) (entry b (16 + m / 16) (m / 16 * 16) low (omega arith) upper)
    ∙ sym (block_or b (m % 16) (m / 16 * 16)) ∙ ap (block_rule b) (halves m)
  where
    lower : cond (ltb (m % 16) 16) (m % 16 % 16) (m % 16 % 16 * 16) ≡ m % 16
    lower = rw (lt-ltb (m % 16) 16 (omega arith)) omega arith

    upper : cond (ltb (16 + m / 16) 16) ((16 + m / 16) % 16) ((16 + m / 16) % 16 * 16) ≡ m / 16 * 16
    upper = rw (le-ltb (16 + m / 16) 16 (omega arith)) omega arith

-- a waiting gate's block is its own number
pub preimage_block : (w m : ℕ) → w < 16 → block_rule w m ≡ preimage (op_at (w / 8)) (of_code w) m
unfolding block_rule
preimage_block w m low = rw (lt-ltb w 16 low)

pub reach_block : (o m : ℕ) → block_rule (16 + o % 2) m ≡ reach (op_at o) m
unfolding block_rule
reach_block o m =
    let a : (16 + o % 2) % 2 ≡ o % 2 = omega arith in
    rw (le-ltb (16 + o % 2) 16 (omega arith)) (λ i. reach (cond (eqb (a i) 0) and or) m)
