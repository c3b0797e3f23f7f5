-- What the code reads off a kind byte, once for the check and the walk.
use Rattle.std.specs.Prelude.{ℕ, ◌+◌, ◌*◌, cond, List}
use Rattle.kung.specs.Rule.{kind_of}
use Rattle.kung.specs.Operation.{op_of, inverts, op_code}
use Rattle.kung.specs.Sets.{bit}
use Rattle.kung.specs.Tables.{tab}
use Rattle.records.specs.Records.{no_kind, least_pins, most_pins}
use Rattle.records.specs.declared.Meaning.{Meaning}

-- the pin limits, which no count meets where the byte is no kind; the operation as a number and the inversion, where another byte is read
-- as BUFFER
unfoldable pub meaning_of : (kind : ℕ) → Meaning
meaning_of kind = record {
  least = cond (no_kind kind) 1 (least_pins kind);
  most = cond (no_kind kind) 0 (most_pins kind);
  operation = op_code (op_of (kind_of kind));
  inverts = inverts (kind_of kind);
}

-- a meaning in one word: the operation, 2 more where it inverts, 16 times the least and 256 times the most pins
unfoldable pub meaning_word : Meaning → ℕ
meaning_word m = m.operation + 2 * bit m.inverts + 16 * m.least + 256 * m.most

-- the words of the bytes 0 to 7
unfoldable pub meaning_table : List ℕ
meaning_table = tab (λ kind. meaning_word (meaning_of kind)) 0 8
