-- What the gate pass does: given input classes spread over a decoded card, gate 0 first.
use Rattle.std.specs.Prelude.{ℕ, ◌+◌, Bool, List, map, ltb, get_or}
use Rattle.kung.specs.Class.{Class, c0, code, of_code}
use Rattle.kung.specs.Rule.{some, gate_class}
use Rattle.kung.specs.Sets.{bit, set_of, has}
use Rattle.kung.specs.Members.{insert}
use Rattle.circuit.specs.Circuit.{Source, sources, values}
use Rattle.search.specs.Pins.{sum_below}
use Rattle.rows.specs.Rows.{row_pins, card_in}

-- the sources of a card's signals where the first bytes of a buffer have the inputs' classes
unfoldable pub sources_in : (rows buffer : List ℕ) → (inputs gates : ℕ) → ℕ → Source Class
sources_in rows buffer inputs gates = sources (card_in rows inputs gates) c0 (λ i. of_code (get_or buffer i 0))

-- the codes of the classes that these give to the signals below n
unfoldable pub codes_of : (rows buffer : List ℕ) → (inputs gates n : ℕ) → List ℕ
codes_of rows buffer inputs gates n = map code (values gate_class c0 (sources_in rows buffer inputs gates) n)

-- for each code the set of its class alone
unfoldable pub hots_of : (codes : List ℕ) → List ℕ
hots_of codes = map (λ c. insert 0 (of_code c)) codes

-- the union of the pins' sets
unfoldable pub pin_set : (hot pins : List ℕ) → ℕ
pin_set hot pins = set_of (λ c. some (λ x. has (get_or hot x 0) c) pins)

-- the codes of `0` and `1`
abbrev pub is_constant_code : ℕ → Bool
is_constant_code code = ltb code 2

-- of these pins' drivers one is constant
unfoldable pub any_constant : (codes pins : List ℕ) → Bool
any_constant codes pins = some (λ x. is_constant_code (get_or codes x 0)) pins

-- the number of gates below n with such a pin
unfoldable pub touched_by : (rows codes : List ℕ) → (inputs n : ℕ) → ℕ
touched_by rows codes inputs n = sum_below (λ g. bit (any_constant codes (row_pins rows (inputs + g)))) n
