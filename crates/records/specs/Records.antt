-- Document 01, "The card netlist": what the bytes of one record say, and which pin counts a kind takes.
use Rattle.std.specs.Prelude.{ℕ, ◌+◌, ◌*◌, Bool, cond, ◌||◌, List, leb}
use Rattle.words.specs.Words.{byte_at, word_at, outside}

-- "A record is a kind byte, a pin-count byte and a 16-bit signal number for each pin."
abbrev pub kind_at : List ℕ → ℕ → ℕ
kind_at s at = byte_at s at

abbrev pub count_at : List ℕ → ℕ → ℕ
count_at s at = byte_at s (at + 1)

abbrev pub pin_at : List ℕ → ℕ → (k : ℕ) → ℕ
pin_at s at k = word_at s (at + 2 + 2 * k)

-- the place after the record at a place
abbrev pub past_record : List ℕ → ℕ → ℕ
past_record s at = at + 2 + 2 * count_at s at

-- "Kinds 1 and 2 take one pin, 3 to 6 take two to eight."
unfoldable pub no_kind : (kind : ℕ) → Bool
no_kind kind = outside 1 6 kind

unfoldable pub least_pins : (kind : ℕ) → ℕ
least_pins kind = cond (leb kind 2) 1 2

unfoldable pub most_pins : (kind : ℕ) → ℕ
most_pins kind = cond (leb kind 2) 1 8

-- no kind, or one that does not take so many pins
unfoldable pub unfit : (kind count : ℕ) → Bool
unfit kind count = no_kind kind || outside (least_pins kind) (most_pins kind) count
