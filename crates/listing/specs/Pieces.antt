-- What is printed, a piece at a time: from where the last piece ended on, as much as a buffer of `room` bytes takes.
use Rattle.std.specs.Prelude.{◌≡◌, ℕ, zero, suc, ◌-◌, ◌≤◌, cond, ◌↔◌, List, [], ◌++◌, length, drop, ◌≢◌, nat_lt}
use Rattle.changes.specs.Refusals.{list_checked}
use Rattle.lines.specs.Texts.{first_line}
use Rattle.listing.specs.declared.Progress.{Progress}
use Rattle.listing.specs.declared.Progress.TheVariants.{Start, Change}
use Rattle.listing.specs.declared.Piece.{Piece}
use Rattle.text.specs.Listing.{change_lines, printed_changes, printed}

-- a piece's text, and where the next piece begins
pub record Portion : Type 0 where
  pub text : List ℕ
  pub next : Progress

-- no text: the next piece begins where this one does
abbrev pub empty : Progress → Portion
empty p = record { text = []; next = p }

infixr 20 ◌before◌
abbrev pub ◌before◌ : List ℕ → Portion → Portion
text before later = record { text = text ++ later.text; next = later.next }

-- The lines of change t, and of those after it, `left` changes at most: a change is added while the most bytes of a change (64 lines of at most 48
-- bytes) have room behind those that are there.
unfoldable pub page : (lines : ℕ → List ℕ) → (left t room : ℕ) → Portion
page lines zero t room = empty (Change t)
page lines (suc left) t room = cond (nat_lt room 3072) (empty (Change t)) (lines t before page lines left (suc t) (room - length (lines t)))

-- The first line, which takes at most 64 bytes; then the changes. After the last change, and after a refusal, there is nothing.
unfoldable pub piece_of : (netlist list : List ℕ) → (room : ℕ) → Progress → Portion
piece_of n l room Start = cond (nat_lt room 64) (empty Start) (record { text = first_line (list_checked n l); next = Change 0 })
piece_of n l room (Change t) = page (change_lines n l) (printed_changes (list_checked n l) - t) t room

-- The piece is at the buffer's start, later bytes stay.
pub record Written (piece : Portion) (entry exit : List ℕ) (r : Piece) : Type 0 where
  pub length_is : r.length ≡ length piece.text
  pub next_is : r.next ≡ piece.next
  pub bytes : exit ≡ piece.text ++ drop (length piece.text) entry

-- The pieces from p on, up to the first empty one, make a text.
pub data Pieces (n l : List ℕ) (room : ℕ) : Progress → List ℕ → Type 0 where
  last : {p : Progress} → (piece_of n l room p).text ≡ [] → Pieces n l room p []
  more : {p : Progress} {rest : List ℕ} → ((piece_of n l room p).text ≢ []) → Pieces n l room (piece_of n l room p).next rest
      → Pieces n l room p ((piece_of n l room p).text ++ rest)

-- In a buffer with room for a change the pieces from the first line on make what is printed, and no other text.
abbrev pub AllPrinted : (netlist list : List ℕ) → (room : ℕ) → Type 0
AllPrinted n l room = 3072 ≤ room → (text : List ℕ) → Pieces n l room Start text ↔ (text ≡ printed n l)
