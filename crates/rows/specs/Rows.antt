-- A decoded card: nine numbers for each signal, of which a gate's are its eight pins, past the last that one again or 0, and its word; then the
-- outputs' signals.
use Rattle.std.specs.Prelude.{ℕ, ◌+◌, ◌*◌, ◌/◌, ◌%◌, Bool, cond, List, eqb, get_or}
use Rattle.kung.specs.Rule.{Kind, NOT, BUFFER, AND, OR, NAND, NOR}
use Rattle.kung.specs.Operation.{op_of, op_code, inverts}
use Rattle.kung.specs.Sets.{bit}
use Rattle.kung.specs.Tables.{tab}
use Rattle.circuit.specs.Circuit.{Card}

-- a gate's word: its operation as a number (0 AND, 1 OR), 2 more where it inverts, and four times its number of pins
unfoldable pub word_for : Kind → (count : ℕ) → ℕ
word_for d count = op_code (op_of d) + 2 * bit (inverts d) + 4 * count

-- the number of pins, the operation with the inversion, and the inversion, that a word says
abbrev pub count_in : (word : ℕ) → ℕ
count_in word = word / 4

abbrev pub gate_in : (word : ℕ) → ℕ
gate_in word = word % 4

abbrev pub inverts_in : (word : ℕ) → Bool
inverts_in word = eqb (gate_in word / 2) 1

-- the kind: of one pin NOT or BUFFER, of more another, as document 01 has it
unfoldable pub kind_in : (word : ℕ) → Kind
kind_in word =
    cond (eqb (word % 2) 0) (cond (eqb (count_in word) 1) (cond (inverts_in word) NOT BUFFER) (cond (inverts_in word) NAND AND))
    (cond (inverts_in word) NOR OR)

-- of signal s's nine numbers: number k, which is a pin below 8, and the word
abbrev pub pin_in : (rows : List ℕ) → (s k : ℕ) → ℕ
pin_in rows s k = get_or rows (9 * s + k) 0

abbrev pub word_in : (rows : List ℕ) → (s : ℕ) → ℕ
word_in rows s = get_or rows (9 * s + 8) 0

-- its gate's kind and pins
abbrev pub row_kind : (rows : List ℕ) → (s : ℕ) → Kind
row_kind rows s = kind_in (word_in rows s)

unfoldable pub row_pins : (rows : List ℕ) → (s : ℕ) → List ℕ
row_pins rows s = tab (pin_in rows s) 0 (count_in (word_in rows s))

-- the card of so many inputs and gates
unfoldable pub card_in : (rows : List ℕ) → (inputs gates : ℕ) → Card
card_in rows inputs gates =
    record { inputs = inputs; gates = gates; kind = λ g. row_kind rows (inputs + g); pins = λ g. row_pins rows (inputs + g) }

-- the signal of output o, where the rows of n signals stand before it
abbrev pub output_in : (rows : List ℕ) → (n o : ℕ) → ℕ
output_in rows n o = get_or rows (9 * n + o) 0
