-- What a gate's word tells. Assumes nothing.
use Prim.Native.Nat.{ℕ, ◌/◌, ◌%◌, ◌≤◌}
use native.Mathlib.Omega.{arith}
use mathlib.Core.Path.{◌≡◌, refl}
use mathlib.Core.Bool.{cond}
use borrow.Author.Tests.{ne_eqb}
use lib.Dec.{eqb}
use Rattle.kung.specs.Rule.{Kind, NOT, BUFFER, AND, OR, NAND, NOR}
use Rattle.kung.specs.Operation.{Op, and, or, op_of, op_code, inverts}
use Rattle.kung.specs.Sets.{bit}
use Rattle.kung.proofs.Unions.{eqb_bit, bit_lt}
use Rattle.rows.specs.Rows.{word_for, count_in, inverts_in, kind_in}

op_low : (o : Op) → op_code o ≤ 1
op_low and = omega arith
op_low or = omega arith

-- its three parts
module _ (d : Kind) (count : ℕ) where
  pub word_count : count_in (word_for d count) ≡ count
  unfolding word_for
  word_count = omega (arith, op_low (op_of d), bit_lt (inverts d))

  pub word_operation : word_for d count % 2 ≡ op_code (op_of d)
  unfolding word_for
  word_operation = omega (arith, op_low (op_of d), bit_lt (inverts d))

  word_bit : word_for d count % 4 / 2 ≡ bit (inverts d)
  unfolding word_for
  word_bit = omega (arith, op_low (op_of d), bit_lt (inverts d))

  pub word_inverts : inverts_in (word_for d count) ≡ inverts d
  word_inverts = rw word_bit (eqb_bit (inverts d))

-- "Kinds 1 and 2 take one pin, 3 to 6 take two to eight.": so the kind can be told
abbrev pub Takes : Kind → (count : ℕ) → Type 0
Takes NOT count = count ≡ 1
Takes BUFFER count = count ≡ 1
Takes AND count = 2 ≤ count
Takes OR count = 2 ≤ count
Takes NAND count = 2 ≤ count
Takes NOR count = 2 ≤ count

one_pin : (d : Kind) (count : ℕ) → op_code (op_of d) ≡ 0 → count ≡ 1 → kind_in (word_for d count) ≡ cond (inverts d) NOT BUFFER
unfolding kind_in
one_pin d count o h = rw (word_count d count, word_inverts d count, word_operation d count, o, h)

more_pins : (d : Kind) (count : ℕ) → 2 ≤ count
    → kind_in (word_for d count) ≡ cond (eqb (op_code (op_of d)) 0) (cond (inverts d) NAND AND) (cond (inverts d) NOR OR)
unfolding kind_in
more_pins d count h = rw (word_count d count, word_inverts d count, word_operation d count, ne_eqb count 1 (λ e. omega arith))

pub word_kind : (d : Kind) (count : ℕ) → Takes d count → kind_in (word_for d count) ≡ d
word_kind NOT count h = one_pin NOT count refl h
word_kind BUFFER count h = one_pin BUFFER count refl h
word_kind AND count h = more_pins AND count h
word_kind OR count h = more_pins OR count h
word_kind NAND count h = more_pins NAND count h
word_kind NOR count h = more_pins NOR count h
