-- Document 01, "Table cases": the cases to prove, one table and one proof over the definitions. Assumes nothing.
use Prim.Native.Nat.{ℕ}
use mathlib.Core.Path.{◌≡◌, refl}
use mathlib.Core.List.{List, [], ◌∷◌, map}
use Rattle.std.specs.Prelude.{Ok}
use Rattle.kung.specs.Class.{Class, c0, c1, R, F, S0, S1, D+, D-, code}
use Rattle.kung.specs.Rule.{each, some, and_all, or_all, Kind, AND, OR, NAND, NOR, kind_of, gate_class}
use Rattle.circuit.specs.Circuit.{sources, values}
use Rattle.words.specs.Words.{word_at, long_at, words_at, marked, outside}
use Rattle.refusals.specs.Refusal.{refuse}
use Rattle.tie.specs.Tie.{tie_from, tie_of}
use Rattle.records.specs.Records as records
use Rattle.netlist.specs.Netlist as netlist
use Rattle.spares.specs.Spares as spares
use Rattle.changes.specs.Changes.{bit_at, class_at, sources_of}
use Rattle.changes.specs.Refusals as list
use Rattle.simulate.specs.Full.{codes}

-- Case Mux, byte for byte
abbrev pub mux_netlist : List ℕ
mux_netlist =
    0x4C ∷ 0x43 ∷ 0x4E ∷ 0x01 ∷ 0x00 ∷ 0x03 ∷ 0x00 ∷ 0x04 ∷ 0x00 ∷ 0x01 ∷ 0x00 ∷ 0x01 ∷ 0x01 ∷ 0x02 ∷ 0x00 ∷ 0x03 ∷ 0x02 ∷ 0x00 ∷ 0x00 ∷ 0x02
    ∷ 0x00 ∷ 0x03 ∷ 0x02 ∷ 0x01 ∷ 0x00 ∷ 0x03 ∷ 0x00 ∷ 0x04 ∷ 0x02 ∷ 0x04 ∷ 0x00 ∷ 0x05 ∷ 0x00 ∷ 0x06 ∷ 0x00 ∷ []

abbrev pub mux_list : List ℕ
mux_list = 0x4C ∷ 0x43 ∷ 0x54 ∷ 0x01 ∷ 0x00 ∷ 0x0D ∷ 0x20 ∷ 0x00 ∷ 0x00 ∷ 0x01 ∷ 0x00 ∷ 0x07 ∷ 0x03 ∷ []

-- codes found, and codes due
record Case : Type 0 where
  found : List ℕ
  due : List ℕ

gives : Kind → Class → Class → Class → Case
gives d a b k = record { found = code (gate_class d (a ∷ b ∷ [])) ∷ []; due = code k ∷ [] }

cases : List Case
cases =
    gives AND R F S0 ∷ gives OR R F S1 ∷ gives AND R S1 D+ ∷ gives OR F F F ∷ gives AND c0 D- c0 ∷ gives OR c1 S0 c1 ∷ gives NAND R R F
    ∷ gives NOR R F S0 ∷ gives AND S0 S0 S0 ∷ gives AND D+ D- S0
    ∷ record { found = codes mux_netlist mux_list 0; due = 1 ∷ 1 ∷ 3 ∷ 2 ∷ 3 ∷ 2 ∷ 5 ∷ [] } ∷ []

cases_hold : map (λ x. x.found) cases ≡ map (λ x. x.due) cases
unfolding cases gives gate_class and_all or_all each some codes values sources sources_of class_at bit_at netlist.card_of netlist.place_of words_at word_at kind_of
cases_hold = refl

-- the whole way: the tie, the netlist's and the list's acceptance
mux_tie : tie_of mux_netlist ≡ 8205
unfolding tie_of tie_from
mux_tie = refl

mux_accepted : list.list_checked mux_netlist mux_list
    ≡ Ok (record { shape = record { inputs = 3; gates = 4; outputs = 1; pins = 7; entries = 33 }; changes = 1; layout = record { version = 1; width = 1; row = 0 } })
unfolding list.list_checked list.against list.after_netlist list.refuse_spare spares.first_spare spares.spare_pair spares.spare_at spares.spare_bits netlist.checked netlist.checked_within netlist.body_within netlist.body netlist.accepted netlist.shape_of netlist.outputs netlist.counts netlist.opening netlist.records_from netlist.record_at records.most_pins records.least_pins records.no_kind netlist.words_below refuse netlist.pins_below netlist.place_of word_at long_at marked outside tie_of tie_from
mux_accepted = refl
