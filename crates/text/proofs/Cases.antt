-- Case Mux of document 01, "Printed whole", and the same card with declared ends. Assumes nothing.
use Rattle.std.proofs.Common.{◌≡◌, ℕ, List, [], ◌∷◌, refl}
use Rattle.kung.specs.Class.{of_code}
use Rattle.kung.specs.Rule.{each, some, and_all, or_all, kind_of, gate_class}
use Rattle.kung.specs.Operation.{join, join_all}
use Rattle.kung.specs.Sets.{set_of, has, meets, image, possible, wanted_for}
use Rattle.circuit.specs.Circuit.{sources, values, value}
use Rattle.circuit.specs.Settled.{class_of}
use Rattle.words.specs.Words.{word_at, long_at, words_at, marked, outside}
use Rattle.refusals.specs.Refusal.{refuse}
use Rattle.tie.specs.Tie.{tie_from, tie_of}
use Rattle.records.specs.Records as records
use Rattle.spares.specs.Spares as spares
use Rattle.netlist.specs.Netlist as netlist
use Rattle.changes.specs.Changes.{bit_at, class_at, sources_of}
use Rattle.changes.specs.Refusals as list
use Rattle.simulate.specs.Full.{class_in}
use Rattle.simulate.proofs.Cases.{mux_netlist, mux_list}
use Rattle.wanted.specs.Wanted.{wanted_at}
use Rattle.search.specs.Search.{search, visit, take_pins, take_pin, driver_of, checks, same_result, only, only_of, possible_of, total, put, cell_at, cell_of, judged}
use Rattle.core_search.specs.Core.{search_of}
use Rattle.report.specs.Text.{ascii, digits, decimal, line, counts_line, verdict_word, verdict_line}
use Rattle.lines.specs.Texts.{texts, first_line}
use Rattle.text.specs.Listing.{output_line, change_lines, printed_changes, printed}

-- a version 2 list for Mux: twice no input moves and the output stays `1`, as is declared first, where then a rise is declared
abbrev declared_list : List ℕ
declared_list =
    0x4C ∷ 0x43 ∷ 0x54 ∷ 0x02 ∷ 0x00 ∷ 0x0D ∷ 0x20 ∷ 0x00 ∷ 0x00 ∷ 0x02 ∷ 0x00 ∷ 0x07 ∷ 0x07 ∷ 0x01 ∷ 0x01 ∷ 0x07 ∷ 0x07 ∷ 0x00 ∷ 0x01 ∷ []

cases : (printed mux_netlist mux_list ≡ ascii "3 inputs 4 gates 1 outputs 1 changes\n0 0 S1 hazard 4 7\n")
    × (printed mux_netlist declared_list ≡ ascii "3 inputs 4 gates 1 outputs 2 changes\n0 0 1 clean 2 3\n1 0 1 hazard 2 3\n")
unfolding printed printed_changes first_line change_lines output_line texts verdict_line verdict_word counts_line line decimal digits class_in class_of search_of wanted_at search visit take_pins take_pin driver_of checks same_result only only_of possible_of total put cell_at cell_of judged of_code set_of has meets image possible wanted_for join join_all and_all or_all each some kind_of gate_class values value sources sources_of class_at bit_at list.list_checked list.against list.after_netlist list.refuse_spare spares.first_spare spares.spare_pair spares.spare_at spares.spare_bits netlist.checked netlist.checked_within netlist.body_within netlist.body netlist.accepted netlist.outputs netlist.counts netlist.opening netlist.records_from netlist.record_at records.most_pins records.least_pins records.no_kind netlist.words_below refuse netlist.pins_below netlist.place_of netlist.card_of netlist.shape_of words_at word_at long_at marked outside tie_of tie_from
cases = (refl, refl)
