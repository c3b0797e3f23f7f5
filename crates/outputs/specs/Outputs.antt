-- The searches of all outputs of a decoded card, where a byte for each signal says what is known.
use Rattle.std.specs.Prelude.{ℕ, List, get_or}
use Rattle.rows.specs.Rows.{output_in}
use Rattle.search.specs.Search as search
use Rattle.search.specs.Search.{Answer, search}
use Rattle.search.specs.Pins.{sum_below}
use Rattle.visit.specs.Source.{source_from}

-- "The first O bytes of a lent buffer get 0 (clean) or 1 (hazardous)": an output's byte
abbrev pub verdict_byte : search.Verdict → ℕ
verdict_byte (search.clean k) = 0
verdict_byte search.hazardous = 1

-- the search of output o of a card of n signals, with its wanted set of those given
unfoldable pub search_from : (rows known wanted : List ℕ) → (n o : ℕ) → Answer
search_from rows known wanted n o = search (source_from rows known) (get_or wanted o 0) (output_in rows n o)

abbrev pub byte_from : (rows known wanted : List ℕ) → (n o : ℕ) → ℕ
byte_from rows known wanted n o = verdict_byte (search_from rows known wanted n o).verdict

-- the gates visited, or the pins taken, for the outputs below o
abbrev pub sum_from : (Answer → ℕ) → (rows known wanted : List ℕ) → (n o : ℕ) → ℕ
sum_from count rows known wanted n o = sum_below (λ o. count (search_from rows known wanted n o)) o
