-- The forward method by computing the definition, from bytes: document 01's Mux, and Mux with the added AND. Assumes nothing.
use Rattle.std.proofs.Common.{◌≡◌, ℕ, List, [], ◌∷◌, refl}
use Rattle.kung.specs.Class.{of_code}
use Rattle.kung.specs.Rule as rule
use Rattle.kung.specs.Operation.{join, join_all}
use Rattle.kung.specs.Sets.{set_of, has, meets, image, possible, wanted_for}
use Rattle.kung.specs.Tables.{tab}
use Rattle.circuit.specs.Circuit.{sources}
use Rattle.words.specs.Words.{word_at, long_at, words_at, marked, outside}
use Rattle.refusals.specs.Refusal.{refuse}
use Rattle.tie.specs.Tie.{tie_from, tie_of}
use Rattle.records.specs.Records as records
use Rattle.spares.specs.Spares as spares
use Rattle.netlist.specs.Netlist as netlist
use Rattle.changes.specs.Changes.{bit_at, class_at, sources_of}
use Rattle.changes.specs.Refusals as list
use Rattle.search.specs.Search.{search, visit, take_pins, take_pin, driver_of, checks, same_result, only, only_of, possible_of, total, put, cell_at, cell_of}
use Rattle.search.specs.Search as search
use Rattle.wanted.specs.Wanted.{wanted_at}
use Rattle.search.specs.Pins.{sum_below}
use Rattle.simulate.proofs.Cases.{mux_netlist, mux_list}
use Rattle.constants.specs.Constants.{all_known, follows, spread, known_sources, touched}
use Rattle.constants.specs.Change.{touched_in}
use Rattle.forward.specs.Forward.{ForwardAnswer, counted, output_search, forward_bytes, visited_in, forward_from, forward_answer, forward_buffer}

-- the answer, and the buffer of two bytes after it
called : (netlist list : List ℕ) → ForwardAnswer × List ℕ
unfolding forward_answer forward_buffer forward_from touched_in output_search wanted_at forward_bytes visited_in touched all_known follows spread known_sources sum_below tab
    search visit take_pins take_pin driver_of checks same_result only only_of possible_of total put cell_at cell_of search.judged
    of_code set_of has meets image possible wanted_for join join_all rule.and_all rule.or_all rule.each rule.some rule.gate_class rule.kind_of
    sources sources_of class_at bit_at word_at long_at words_at marked outside tie_of tie_from
    list.list_checked list.against list.after_netlist list.refuse_spare spares.first_spare spares.spare_pair spares.spare_at spares.spare_bits
    netlist.checked netlist.checked_within netlist.body_within netlist.body netlist.accepted netlist.outputs netlist.counts netlist.opening
    netlist.records_from netlist.record_at records.most_pins records.least_pins records.no_kind netlist.words_below
    refuse netlist.pins_below netlist.place_of netlist.card_of
called n l = (forward_answer n l 0 (7 ∷ 9 ∷ []), forward_buffer n l 0 (7 ∷ 9 ∷ []))

mux_called : called mux_netlist mux_list ≡ (counted 2 4, 1 ∷ 9 ∷ [])
unfolding called netlist.shape_of
mux_called = refl

-- Mux with an added AND of signals 0 and 1 on a three-pin OR
abbrev mended_netlist : List ℕ
mended_netlist =
    0x4C ∷ 0x43 ∷ 0x4E ∷ 0x01 ∷ 0x00 ∷ 0x03 ∷ 0x00 ∷ 0x05 ∷ 0x00 ∷ 0x01 ∷ 0x00 ∷ 0x01 ∷ 0x01 ∷ 0x02 ∷ 0x00 ∷ 0x03 ∷ 0x02 ∷ 0x00 ∷ 0x00 ∷ 0x02
    ∷ 0x00 ∷ 0x03 ∷ 0x02 ∷ 0x01 ∷ 0x00 ∷ 0x03 ∷ 0x00 ∷ 0x03 ∷ 0x02 ∷ 0x00 ∷ 0x00 ∷ 0x01 ∷ 0x00 ∷ 0x04 ∷ 0x03 ∷ 0x04 ∷ 0x00 ∷ 0x05 ∷ 0x00 ∷ 0x06
    ∷ 0x00 ∷ 0x07 ∷ 0x00 ∷ []

abbrev mended_list : List ℕ
mended_list = 0x4C ∷ 0x43 ∷ 0x54 ∷ 0x01 ∷ 0x00 ∷ 0x9C ∷ 0x28 ∷ 0x00 ∷ 0x00 ∷ 0x01 ∷ 0x00 ∷ 0x07 ∷ 0x03 ∷ []

mended_called : called mended_netlist mended_list ≡ (counted 4 0, 0 ∷ 9 ∷ [])
unfolding called netlist.shape_of
mended_called = refl
