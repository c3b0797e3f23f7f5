-- Searches by computing the definition: document 01's Mux, Mux with the added AND, an output that is an input, a gate that is carried on. And cones.
use Prim.Native.Nat.{ℕ}
use mathlib.Core.Path.{◌≡◌, refl}
use mathlib.Core.List.{List, [], ◌∷◌, map}
use lib.ListN.{get_or}
use Rattle.kung.specs.Class.{Class, c0, c1, F, of_code}
use Rattle.kung.specs.Rule.{AND, OR, NOT, NAND, NOR, each, some, and_all, or_all}
use Rattle.kung.specs.Operation.{join, join_all}
use Rattle.kung.specs.Sets.{clean_set, set_of, has, meets, image, possible, wanted_for}
use Rattle.circuit.specs.Circuit.{Source, given, gate, Card}
use Rattle.search.specs.Search.{Answer, hazardous, clean, search, visit, take_pins, take_pin, driver_of, checks, same_result, only, only_of, possible_of, total, put, cell_at, cell_of, judged}
use Rattle.search.specs.Pins.{sum_below}
use Rattle.search.specs.Cone.{pins_behind, reaches_by, reaches, cone_pins}

-- the search of signal s over listed sources
pub found : List (Source Class) → ℕ → Answer
unfolding search visit take_pins take_pin driver_of checks same_result only only_of possible_of total put cell_at cell_of judged of_code set_of has meets image possible wanted_for join join_all and_all or_all each some
found sources s = search (λ t. get_or sources t (given c0)) clean_set s

-- Mux's three inputs on its change, and its gates
abbrev mux : List (Source Class)
mux =
    given c1 ∷ given c1 ∷ given F ∷ gate NOT (2 ∷ []) ∷ gate AND (0 ∷ 2 ∷ []) ∷ gate AND (1 ∷ 3 ∷ []) ∷ gate OR (4 ∷ 5 ∷ []) ∷ []

pub mux_search : found mux 6 ≡ record { verdict = hazardous; gates = 4; pins = 7 }
unfolding found
mux_search = refl

-- Mux with an added AND of signals 0 and 1 on a three-pin OR
abbrev mended : List (Source Class)
mended =
    given c1 ∷ given c1 ∷ given F ∷ gate NOT (2 ∷ []) ∷ gate AND (0 ∷ 2 ∷ []) ∷ gate AND (1 ∷ 3 ∷ []) ∷ gate AND (0 ∷ 1 ∷ [])
    ∷ gate OR (4 ∷ 5 ∷ 6 ∷ []) ∷ []

pub mended_search : found mended 7 ≡ record { verdict = clean c1; gates = 5; pins = 10 }
unfolding found
mended_search = refl

-- an output that is an input
pub input_search : found mux 2 ≡ record { verdict = clean F; gates = 0; pins = 0 }
unfolding found
input_search = refl

-- signal 3's gate is left unfinished behind signal 4's, and is carried on behind signal 5's
abbrev shared : List (Source Class)
shared =
    given F ∷ gate NAND (0 ∷ 0 ∷ []) ∷ gate NAND (0 ∷ 1 ∷ []) ∷ gate NOR (2 ∷ 0 ∷ []) ∷ gate OR (2 ∷ 3 ∷ []) ∷ gate OR (4 ∷ 3 ∷ []) ∷ []

pub shared_search : found shared 5 ≡ record { verdict = hazardous; gates = 5; pins = 9 }
unfolding found
shared_search = refl

-- Mux with one gate more, which its output does not read: the cones of an input, of the first gate, of the output (the search above takes all its
-- pins) and of the gate beside it
abbrev mux_card : Card
mux_card =
    record {
      inputs = 3;
      gates = 5;
      kind = λ g. get_or (NOT ∷ AND ∷ AND ∷ OR ∷ []) g AND;
      pins = λ g. get_or ((2 ∷ []) ∷ (0 ∷ 2 ∷ []) ∷ (1 ∷ 3 ∷ []) ∷ (4 ∷ 5 ∷ []) ∷ (3 ∷ 0 ∷ 0 ∷ []) ∷ []) g [];
    }

pub mux_cones : map (cone_pins mux_card) (2 ∷ 3 ∷ 6 ∷ 7 ∷ []) ≡ 0 ∷ 1 ∷ 7 ∷ 4 ∷ []
unfolding cone_pins sum_below reaches reaches_by pins_behind some
mux_cones = refl
