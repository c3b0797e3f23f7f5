-- What is promised, in one file: the three demands and what requests added, over the very definitions that the entry points' contracts cite.
use Rattle.std.specs.Prelude.{◌≡◌, ℕ, ◌+◌, ◌<◌, ◌≤◌, Bool, true, false, ◌⊎◌, ◌↔◌, List, ◌++◌, map, length, ◌==◌, slice_index, Ok, Err, Some, None}
use Rattle.std.proofs.Math.Option.{Option, none, some}
use Rattle.std.specs.Borrow.{Bor}
use Rattle.kung.specs.Class.{Class, code, of_code, start, end, clean, input_class}
use Rattle.kung.specs.Rule.{gate_class}
use Rattle.kung.specs.Sets.{has}
use Rattle.circuit.specs.Settled.{settled}
use Rattle.records.specs.Records.{kind_at, count_at, past_record, least_pins, most_pins}
use Rattle.netlist.specs.Netlist.{inputs_of, gates_of, outputs_of, output_at, gate_kind, gate_pins, pin_total, card_of, shape_of, accepted, checked}
use Rattle.netlist.specs.Proper.{Proper, conditions, first_met}
use Rattle.refusals.specs.declared.Refusal.{Refusal}
use Rattle.refusals.specs.declared.Refusal.TheVariants.{NetlistShort, NetlistMark, NetlistVersion, Count, CutOff, Kind, PinCount, Pin, Entry, BytesLeft}
use Rattle.refusals.specs.declared.Refusal.TheVariants.{ListShort, ListMark, ListVersion, Tie, Changes, ListLength, SpareBit, NoChange, NoOutput, BufferShort}
use Rattle.refusals.specs.Refusal.{number_of, place_of}
use Rattle.changes.specs.Changes.{version_of, layout_in, first, second, starts, ends, bit_of}
use Rattle.changes.specs.Refusals.{list_checked}
use Rattle.changes.specs.Proper.{ProperList, list_conditions, list_accepted}
use Rattle.changes.specs.declared.Task.{Task}
use Rattle.simulate.specs.Full.{class_in, done, full_answer, full_buffer}
use Rattle.wanted.specs.Wanted.{wanted_in}
use Rattle.search.specs.Search.{Answer, judged}
use Rattle.search.specs.Cone.{in_cone, cone_pins, PinPath}
use Rattle.visit.specs.declared.Verdict.{Verdict}
use Rattle.visit.specs.declared.Verdict.TheVariants.{Clean, Hazardous}
use Rattle.core_search.specs.Core.{Cored, answered_with, search_of, core_answer}
use Rattle.constants.specs.Change.{constants_in, touched_in}
use Rattle.forward.specs.Forward.{counted, output_search, visited_in, forward_answer, forward_buffer}
use Rattle.walk.specs.declared.Walk.{Walk}
use Rattle.walk.specs.Walk.{part, handed, stepped, step_of, walk_of, opened, opened_by, HandsBack}
use Rattle.bench.specs.Bench.{Event, signal_value, after, AllowedFrom, Order, Complete, GateAfterGate, needs}

-- an accepted netlist and list
pub record ListAccepted (n l : List ℕ) : Type 0 where
  pub task : Task
  pub list_accepted_lem : list_checked n l ≡ Ok task

-- and a change of theirs
pub record Accepted (n l : List ℕ) (change : ℕ) : Type 0 where
  pub on : ListAccepted n l
  pub in_range : change < on.task.changes

-- the two vectors of a change, input by input
abbrev pub first_vector : (n l : List ℕ) → (change : ℕ) → ℕ → Bool
first_vector n l change = bit_of l (layout_in n l) change first

abbrev pub second_vector : (n l : List ℕ) → (change : ℕ) → ℕ → Bool
second_vector n l change = bit_of l (layout_in n l) change second

-- the declared start and end of an output in a change of a version 2 list
abbrev pub declared_start : (n l : List ℕ) → (change output : ℕ) → Bool
declared_start n l change = bit_of l (layout_in n l) change starts

abbrev pub declared_end : (n l : List ℕ) → (change output : ℕ) → Bool
declared_end n l change = bit_of l (layout_in n l) change ends

-- The methods' verdicts

pub data Method : Type 0 where
  full forward core : Method

-- CORE's answer as a verdict: clean or not, or none where it is a refusal
abbrev pub is_clean : Verdict → Bool
is_clean (Clean class) = true
is_clean Hazardous = false

abbrev pub clean_by : Cored → Option Bool
clean_by (Ok found) = some (is_clean found.verdict)
clean_by (Err refusal) = none

-- "Full simulation calls an output clean when its signal's code is a clean class, the forward method by the byte 0, CORE by its answer; otherwise
-- they call it hazardous. A refused call gives no verdict."; "For a version 2 list full simulation calls an output clean when its signal's code is the
-- clean class with the declared ends": in both versions a class of the wanted set. A call, with the buffer lent to it, and whether it calls the output
-- clean.
abbrev pub Calls : Method → (n l : List ℕ) → (change output : ℕ) → Bool → Type 0
Calls full n l change output called =
    (buffer : List ℕ) × (full_answer n l change buffer ≡ done)
    × (has (wanted_in n l change output) (of_code (slice_index (full_buffer n l change buffer) (output_at n output))) ≡ called)
Calls forward n l change output called =
    (buffer : List ℕ) × (touched : ℕ) × (visited : ℕ) × (forward_answer n l change buffer ≡ counted touched visited)
    × ((slice_index (forward_buffer n l change buffer) output == 0) ≡ called)
Calls core n l change output called = clean_by (core_answer n l change output) ≡ some called

-- Demand 1. "Whoever hands in a netlist, a list, a number or a buffer of whatever content or length gets a verdict or one of document 01's refusals,
-- in its order; the work ends; a refusal leaves the caller's buffers untouched."
-- "the work ends" is no field: the proof of every function includes it, by measures that fall with each turn of a loop and each call of the cycle of
-- visits; and definitions are total, so that there is an answer for the call to equal.

-- "A refusal is a number and a byte place."
abbrev pub Given : Refusal → (number place : ℕ) → Type 0
Given refusal number place = (number_of refusal ≡ number) × (place_of refusal ≡ place)

-- The numbers and places of all refusals: "Netlist: under 11 bytes 1 (place: the length); mark 2 (0); version 3 (3); I, G, O out of range 4 (5, 7, 9). Per
-- record: under two bytes left 5 (record start); kind 6 (its byte); pin count 7 (its byte); pins cut off 5 (record start); pin not below its gate 8 (that
-- pin). Then output entries cut off 5 (their start); entry not below I + G 9 (it); bytes left 10 (the first)."; "List: .. under 11 bytes 11 (length); mark
-- 12 (0); version 13 (3); tie 14 (5); T 15 (9); length .. 16 (length); first byte with a spare bit 17 (it)."; "Places from 18 up are 0 unless given otherwise."
pub record Numbers : Type 0 where
  pub netlist_short : (at : ℕ) → Given (NetlistShort at) 1 at
  pub netlist_mark : Given NetlistMark 2 0
  pub netlist_version : Given NetlistVersion 3 3
  pub count : (at : ℕ) → Given (Count at) 4 at
  pub cut_off : (at : ℕ) → Given (CutOff at) 5 at
  pub kind : (at : ℕ) → Given (Kind at) 6 at
  pub pin_count : (at : ℕ) → Given (PinCount at) 7 at
  pub pin : (at : ℕ) → Given (Pin at) 8 at
  pub entry : (at : ℕ) → Given (Entry at) 9 at
  pub bytes_left : (at : ℕ) → Given (BytesLeft at) 10 at
  pub list_short : (at : ℕ) → Given (ListShort at) 11 at
  pub list_mark : Given ListMark 12 0
  pub list_version : Given ListVersion 13 3
  pub tie : Given Tie 14 5
  pub changes : Given Changes 15 9
  pub list_length : (at : ℕ) → Given (ListLength at) 16 at
  pub spare_bit : (at : ℕ) → Given (SpareBit at) 17 at
  pub no_change : Given NoChange 18 0
  pub no_output : Given NoOutput 19 0
  pub buffer_short : Given BufferShort 20 0

-- Netlists and lists
pub record Reading (n l : List ℕ) : Type 0 where
  -- "In the order below, the first condition met is the refusal; where none is met there is none."
  pub netlist_first : checked n ≡ first_met (conditions n) (accepted n)
  pub list_first : list_checked n l ≡ first_met (list_conditions n l) (list_accepted n l)
  -- a netlist, and a list, is accepted exactly where it is as document 01 says
  pub netlist_proper : (checked n ≡ accepted n) ↔ Proper n
  pub list_proper : (list_checked n l ≡ list_accepted n l) ↔ ProperList n l

-- A refusal of an operation is the first condition met: "the list's, then change not below T 18", then one condition more.
pub data FirstMet (n l : List ℕ) (change : ℕ) (last : Type 0) (lastly refusal : Refusal) : Type 0 where
  by_list : list_checked n l ≡ Err refusal → FirstMet n l change last lastly refusal
  by_change : (on : ListAccepted n l) → on.task.changes ≤ change → refusal ≡ NoChange → FirstMet n l change last lastly refusal
  by_last : Accepted n l change → last → refusal ≡ lastly → FirstMet n l change last lastly refusal

-- The operations: the verdict exactly where no condition is met, a refusal exactly where it is the first
pub record Operations (n l : List ℕ) (change output : ℕ) (buffer : List ℕ) : Type 0 where
  -- "Full: the list's, then change not below T 18; buffer under I + G 20."
  pub full_done : (full_answer n l change buffer ≡ done) ↔ (Accepted n l change × (inputs_of n + gates_of n ≤ length buffer))
  pub full_refused : (refusal : Refusal)
      → (full_answer n l change buffer ≡ Err refusal) ↔ FirstMet n l change (length buffer < inputs_of n + gates_of n) BufferShort refusal
  pub full_untouched : (refusal : Refusal) → full_answer n l change buffer ≡ Err refusal → full_buffer n l change buffer ≡ buffer
  -- "Forward: the list's, 18, buffer under O 20."
  pub forward_done : (forward_answer n l change buffer ≡ counted (touched_in n l change) (visited_in n l change))
      ↔ (Accepted n l change × (outputs_of n ≤ length buffer))
  pub forward_refused : (refusal : Refusal)
      → (forward_answer n l change buffer ≡ Err refusal) ↔ FirstMet n l change (length buffer < outputs_of n) BufferShort refusal
  pub forward_untouched : (refusal : Refusal) → forward_answer n l change buffer ≡ Err refusal → forward_buffer n l change buffer ≡ buffer
  -- "CORE: the list's, 18, output not below O 19", and nothing after it since document 02's Job 8: "Orders ending in 21 end one place earlier."
  pub core_done : (core_answer n l change output ≡ answered_with (search_of n l change output)) ↔ (Accepted n l change × (output < outputs_of n))
  pub core_refused : (refusal : Refusal) → (core_answer n l change output ≡ Err refusal) ↔ FirstMet n l change (outputs_of n ≤ output) NoOutput refusal

-- The gate walk: a step gives none, or a record
abbrev pub GivesNone : Walk → Type 0
GivesNone w = handed w ≡ None

abbrev pub GivesRecord : Walk → Type 0
GivesRecord w = GivesNone w → ⊥

-- "Walk: the netlist's." A netlist of whatever bytes is lent to a walk.
pub record Opening (s : Bor (List ℕ)) : Type 0 where
  -- "Opening checks the netlist": accepted, or the first condition met
  pub checks : opened s ≡ opened_by s (first_met (conditions s.now) (accepted s.now))
  -- "A gate walk carries the lent netlist and the record it has reached, by number and place, with G."
  pub carries : checked s.now ≡ accepted s.now
      → opened s ≡ Ok (record { walk = record { netlist = s; number = 0; place = 11; count = gates_of s.now }; shape = shape_of s.now })
  -- a refused netlist has no walk
  pub refused : (refusal : Refusal) → checked s.now ≡ Err refusal → opened s ≡ Err refusal
  -- "each step hands back the part that is the next record": gate 0's to gate G - 1's, in order, and then none
  pub hands_back : checked s.now ≡ accepted s.now → HandsBack s
  -- turned down: "a walk giving none on its first step though G is not 0"
  pub first_step : checked s.now ≡ accepted s.now → 0 < gates_of s.now → GivesRecord (walk_of s)

-- "A whole record is a kind and a pin count that the netlist's rules permit and that many pins, all inside the netlist."
pub record WholeRecord (n : List ℕ) (place : ℕ) : Type 0 where
  pub kind_low : 1 ≤ kind_at n place
  pub kind_high : kind_at n place ≤ 6
  pub count_low : least_pins (kind_at n place) ≤ count_at n place
  pub count_high : count_at n place ≤ most_pins (kind_at n place)
  pub inside : past_record n place ≤ length n

-- A step of a walk, whatever its netlist, number, place and G
pub record Step (w : Walk) : Type 0 where
  -- "It gives none exactly when all G records are handed back or no whole record can be read at its place."
  pub gives_none : GivesNone w ↔ ((w.count ≤ w.number) ⊎ (WholeRecord w.netlist.now w.place → ⊥))
  -- "each step hands back the part that is the next record": kind, pin count and pins
  pub gives_record : GivesRecord w → handed w ≡ Some (part w.netlist.now w.place (past_record w.netlist.now w.place))
  -- "A step that hands back a record moves the number on by one and the place past the record"
  pub moves_on : GivesRecord w
      → stepped w ≡ record { netlist = w.netlist; number = w.number + 1; place = past_record w.netlist.now w.place; count = w.count }
  -- "a step that gives none leaves the walk unchanged"
  pub stays : GivesNone w → stepped w ≡ w
  -- include/lane.h, of the length that a step answers: "0 for none"; and 0 for nothing else
  pub none_by_length : GivesNone w ↔ ((step_of w).length ≡ 0)

pub record Demand1 : Type 0 where
  pub numbers : Numbers
  pub reading : (n l : List ℕ) → Reading n l
  pub operations : (n l : List ℕ) (change output : ℕ) (buffer : List ℕ) → Operations n l change output buffer
  pub opening : (s : Bor (List ℕ)) → Opening s
  pub step : (w : Walk) → Step w

-- Demand 2. "Every signal's class is the one that Kung's eight-valued tables give; the forward method and CORE call an output clean exactly when its
-- class is 0, 1, R or F, and their counts are those of document 01's searches." Document 02, "Job 1": "In version 2, clean means that the class is the
-- clean one with the declared ends".
pub record CleanWith (class : Class) (declared-start declared-end : Bool) : Type 0 where
  pub is_clean_lem : clean class ≡ true
  pub starts_so : start class ≡ declared-start
  pub ends_so : end class ≡ declared-end

-- a class that is judged "without a search, at 0 gates and 0 pins"
abbrev pub compared : (n l : List ℕ) → (change output : ℕ) → Answer
compared n l change output =
    record { verdict = judged (wanted_in n l change output) (class_in n l change (output_at n output)); gates = 0; pins = 0 }

pub record Demand2 (n l : List ℕ) (change : ℕ) : Type 0 where
  -- an input's class is by its two bits, a gate's by the rule over all its pins
  pub input_class_lem : (i : ℕ) → i < inputs_of n → class_in n l change i ≡ input_class (first_vector n l change i) (second_vector n l change i)
  pub gate_class_lem : (g : ℕ) → g < gates_of n
      → class_in n l change (inputs_of n + g) ≡ gate_class (gate_kind n g) (map (class_in n l change) (gate_pins n g))
  -- full simulation writes these classes' codes
  pub full_codes : (buffer : List ℕ) → full_answer n l change buffer ≡ done → (s : ℕ) → s < inputs_of n + gates_of n
      → slice_index (full_buffer n l change buffer) s ≡ code (class_in n l change s)
  -- the wanted set of an output holds the clean classes in version 1; in version 2 it "holds only that class"
  pub wanted_one : version_of l ≡ 1 → (output : ℕ) (k : Class) → has (wanted_in n l change output) k ≡ clean k
  pub wanted_two : version_of l ≡ 2 → (output : ℕ) (k : Class)
      → (has (wanted_in n l change output) k ≡ true) ↔ CleanWith k (declared_start n l change output) (declared_end n l change output)
  -- every method calls an output clean exactly when its class is in the wanted set
  pub verdicts : (m : Method) (output : ℕ) → output < outputs_of n → (called : Bool) → Calls m n l change output called
      → called ≡ has (wanted_in n l change output) (class_in n l change (output_at n output))
  -- so in version 1 "exactly when its class is 0, 1, R or F"
  pub verdicts_one : version_of l ≡ 1 → (m : Method) (output : ℕ) → output < outputs_of n → (called : Bool) → Calls m n l change output called
      → called ≡ clean (class_in n l change (output_at n output))
  -- and in version 2 exactly when "the class is the clean one with the declared ends"
  pub verdicts_two : version_of l ≡ 2 → (m : Method) (output : ℕ) → output < outputs_of n → (called : Bool) → Calls m n l change output called
      → (called ≡ true) ↔ CleanWith (class_in n l change (output_at n output)) (declared_start n l change output) (declared_end n l change output)
  -- "An output on an input, or on a constant signal in the forward method, is compared with the declared ends without a search, at 0 gates and 0 pins."
  pub core_input : (output : ℕ) → output_at n output < inputs_of n → search_of n l change output ≡ compared n l change output
  pub forward_input : (output : ℕ) → output_at n output < inputs_of n → output_search n l change output ≡ compared n l change output
  pub forward_constant : (output : ℕ) → output < outputs_of n → (k : Class) → constants_in n l change (output_at n output) ≡ some k
      → output_search n l change output ≡ compared n l change output
  -- CORE's class is the signal's, its counts are the search's
  pub core_clean : (output class gates pins : ℕ) → output < outputs_of n → core_answer n l change output ≡ Ok (record { verdict = Clean class; gates = gates; pins = pins })
      → (class ≡ code (class_in n l change (output_at n output))) × (gates ≡ (search_of n l change output).gates) × (pins ≡ (search_of n l change output).pins)
  pub core_hazardous : (output gates pins : ℕ) → output < outputs_of n → core_answer n l change output ≡ Ok (record { verdict = Hazardous; gates = gates; pins = pins })
      → (gates ≡ (search_of n l change output).gates) × (pins ≡ (search_of n l change output).pins)
  -- the forward method's counts are those of its definition
  pub forward_counts : (buffer : List ℕ) (touched visited : ℕ) → forward_answer n l change buffer ≡ counted touched visited
      → (touched ≡ touched_in n l change) × (visited ≡ visited_in n l change)

-- Demand 3: "a single claim about the whole list of events, and not one for each event".
-- "at least two changes more than its ends need", after a list of events
abbrev pub TwiceMore : (n l : List ℕ) → (change output : ℕ) → List Event → Type 0
TwiceMore n l change output es =
    needs (card_of n) (first_vector n l change) (second_vector n l change) (output_at n output) + 2
    ≤ (after (card_of n) (first_vector n l change) (second_vector n l change) es).changes (output_at n output)

-- "no change more than its ends need", after a list of events
abbrev pub NoMore : (n l : List ℕ) → (change output : ℕ) → List Event → Type 0
NoMore n l change output es =
    (after (card_of n) (first_vector n l change) (second_vector n l change) es).changes (output_at n output)
    ≤ needs (card_of n) (first_vector n l change) (second_vector n l change) (output_at n output)

-- the output's values before and after a list of events are the declared ones
abbrev pub StartsAsDeclared : (n l : List ℕ) → (change output : ℕ) → Type 0
StartsAsDeclared n l change output = settled (card_of n) (first_vector n l change) (output_at n output) ≡ declared_start n l change output

abbrev pub EndsAsDeclared : (n l : List ℕ) → (change output : ℕ) → List Event → Type 0
EndsAsDeclared n l change output es =
    signal_value (card_of n) (first_vector n l change) (after (card_of n) (first_vector n l change) (second_vector n l change) es) (output_at n output)
    ≡ declared_end n l change output

-- Version 2: "the output starts and ends as declared and makes no change more than its ends need"
pub record AsDeclared (n l : List ℕ) (change output : ℕ) (es : List Event) : Type 0 where
  pub starts_so : StartsAsDeclared n l change output
  pub ends_so : EndsAsDeclared n l change output es
  pub no_more : NoMore n l change output es

-- and what "shows otherwise": its start, its end, or at least two changes more
pub data Otherwise (n l : List ℕ) (change output : ℕ) (es : List Event) : Type 0 where
  other_start : (StartsAsDeclared n l change output → ⊥) → Otherwise n l change output es
  other_end : (EndsAsDeclared n l change output es → ⊥) → Otherwise n l change output es
  twice_more : TwiceMore n l change output es → Otherwise n l change output es

-- An order that shows every hazard, "gate after gate and the same for every output and method"
pub record ShowsAll (n l : List ℕ) (change : ℕ) (order : List Event) : Type 0 where
  pub is_order : Order (card_of n) (first_vector n l change) (second_vector n l change) order
  pub gate_after_gate : GateAfterGate order
  pub complete : Complete (card_of n) (first_vector n l change) (second_vector n l change) order
  -- version 1: "gives each output called hazardous at least two changes more than its ends need"
  pub all_twice_more : version_of l ≡ 1 → (m : Method) (output : ℕ) → output < outputs_of n → Calls m n l change output false
      → TwiceMore n l change output order
  -- version 2: "shows otherwise" of each output called hazardous
  pub all_otherwise : version_of l ≡ 2 → (m : Method) (output : ℕ) → output < outputs_of n → Calls m n l change output false
      → Otherwise n l change output order

pub record Demand3 (n l : List ℕ) (change : ℕ) : Type 0 where
  -- "every list of events can be carried on to a complete one"
  pub carried_on : (es : List Event) → (rest : List Event)
      × AllowedFrom (card_of n) (first_vector n l change) (second_vector n l change)
      (after (card_of n) (first_vector n l change) (second_vector n l change) es) rest
      × Complete (card_of n) (first_vector n l change) (second_vector n l change) (es ++ rest)
  -- "after every complete list all signals are settled at the second vector"
  pub settles : (es : List Event) → Complete (card_of n) (first_vector n l change) (second_vector n l change) es → (s : ℕ)
      → s < inputs_of n + gates_of n
      → signal_value (card_of n) (first_vector n l change) (after (card_of n) (first_vector n l change) (second_vector n l change) es) s
      ≡ settled (card_of n) (second_vector n l change) s
  -- "after any list an output called clean has changed at most once, and not at all when its ends agree": at most as often as its ends need
  pub stays_clean : (es : List Event) (m : Method) (output : ℕ) → output < outputs_of n → Calls m n l change output true → NoMore n l change output es
  -- version 2, clean: "in every complete order the output starts and ends as declared and makes no change more than its ends need"; in every complete
  -- list, order or not
  pub as_declared : version_of l ≡ 2 → (es : List Event) → Complete (card_of n) (first_vector n l change) (second_vector n l change) es
      → (m : Method) (output : ℕ) → output < outputs_of n → Calls m n l change output true → AsDeclared n l change output es
  -- "one complete order"
  pub hazard : (order : List Event) × ShowsAll n l change order

-- Document 02, "Job 8". "CORE never takes more pins than the output's cone has".
-- the pins of CORE's answer, or none where it is a refusal
abbrev pub pins_by : Cored → Option ℕ
pins_by (Ok found) = some found.pins
pins_by (Err refusal) = none

pub record CorePins (n l : List ℕ) (change : ℕ) : Type 0 where
  -- "the cone being the output's own gate and every gate that reaches it through pins"
  pub cone : (output g : ℕ) → (in_cone (card_of n) (output_at n output) g ≡ true) ↔ PinPath (card_of n) (inputs_of n + g) (output_at n output)
  -- "an output that is an input has an empty cone"
  pub empty : (output g : ℕ) → output_at n output < inputs_of n → in_cone (card_of n) (output_at n output) g ≡ false
  -- "never [...] more pins than the output's cone has"
  pub in_cone_lem : (output pins : ℕ) → output < outputs_of n → pins_by (core_answer n l change output) ≡ some pins
      → pins ≤ cone_pins (card_of n) (output_at n output)
  -- so that no pin is taken for such an output
  pub input_none : (output pins : ℕ) → output < outputs_of n → pins_by (core_answer n l change output) ≡ some pins
      → output_at n output < inputs_of n → pins ≡ 0
  -- and never more than P, which is what the guard asked
  pub within : (output pins : ℕ) → output < outputs_of n → pins_by (core_answer n l change output) ≡ some pins → pins ≤ pin_total n

-- All that is promised: Demand 1 of whatever is handed in; of each change of an accepted list Demands 2 and 3, and the bound on CORE's pins
pub record Demands : Type 0 where
  pub demand1 : Demand1
  pub demand2 : (n l : List ℕ) (change : ℕ) → Accepted n l change → Demand2 n l change
  pub demand3 : (n l : List ℕ) (change : ℕ) → Accepted n l change → Demand3 n l change
  pub core_pins : (n l : List ℕ) (change : ℕ) → Accepted n l change → CorePins n l change
