-- What the check's code reads of a record, up to its pins.
use Rattle.std.specs.Prelude.{ℕ, ◌+◌, cond, List, ltb, length, Option, Some, None, Result, Ok}
use Rattle.kung.specs.Rule.{kind_of}
use Rattle.words.specs.Words.{outside}
use Rattle.refusals.specs.Refusal.{refuse}
use Rattle.refusals.specs.declared.Refusal.{Refusal}
use Rattle.refusals.specs.declared.Refusal.TheVariants.{CutOff, Kind, PinCount}
use Rattle.rows.specs.Rows.{word_for}
use Rattle.records.specs.Records.{kind_at, count_at, past_record, no_kind, least_pins, most_pins, unfit}
use Rattle.records.specs.declared.Head.{Head}

-- the word of the gate whose record stands at a place
unfoldable pub word_of : List ℕ → (at : ℕ) → ℕ
word_of s at = word_for (kind_of (kind_at s at)) (count_at s at)

-- the number of its pins, and its gate's word
abbrev pub head_of : List ℕ → (at : ℕ) → Head
head_of s at = record { count = count_at s at; word = word_of s at }

-- a record up to its pins: `record_at` of `netlist` without them
unfoldable pub head_at : List ℕ → (at : ℕ) → Result Head Refusal
head_at s at =
    refuse (ltb (length s) (at + 2)) (CutOff at)
    (refuse (no_kind (kind_at s at)) (Kind at)
    (refuse (outside (least_pins (kind_at s at)) (most_pins (kind_at s at)) (count_at s at)) (PinCount (at + 1))
    (refuse (ltb (length s) (past_record s at)) (CutOff at)
    (Ok (head_of s at)))))

-- the same, told only where nothing of it is refused and eight pins have room
unfoldable pub fit_at : List ℕ → (at : ℕ) → Option Head
fit_at s at =
    cond (ltb (length s) (at + 18)) None
    (cond (unfit (kind_at s at) (count_at s at)) None
    (Some (head_of s at)))
