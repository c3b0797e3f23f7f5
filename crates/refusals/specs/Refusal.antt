-- Document 01, "Turned back, by operation": a refusal's number and place, and a step of a check.
use Rattle.std.specs.Prelude.{ℕ, Bool, cond, Result, Err}
use Rattle.refusals.specs.declared.Refusal.{Refusal}
use Rattle.refusals.specs.declared.Refusal.TheVariants.{NetlistShort, NetlistMark, NetlistVersion, Count, CutOff, Kind, PinCount, Pin, Entry, BytesLeft}
use Rattle.refusals.specs.declared.Refusal.TheVariants.{ListShort, ListMark, ListVersion, Tie, Changes, ListLength, SpareBit}
use Rattle.refusals.specs.declared.Refusal.TheVariants.{NoChange, NoOutput, BufferShort, Signals}

-- "A refusal is a number and a byte place."
-- "Netlist: under 11 bytes 1 (place: the length); mark 2 (0); version 3 (3); I, G, O out of range 4 (5, 7, 9). Per record: under two bytes left 5 (record
-- start); kind 6 (its byte); pin count 7 (its byte); pins cut off 5 (record start); pin not below its gate 8 (that pin). Then output entries cut off 5
-- (their start); entry not below I + G 9 (it); bytes left 10 (the first)."; "List: the netlist's, then under 11 bytes 11 (length); mark 12 (0); version
-- 13 (3); tie 14 (5); T 15 (9); length not 11 + 2 × T × V 16 (length); first byte with a spare bit 17 (it)."; "change not below T 18", "output not
-- below O 19", "buffer under I + G 20"; and more signals than a caller keeps 23 (5)
abbrev pub number_of : Refusal → ℕ
number_of (NetlistShort at) = 1
number_of NetlistMark = 2
number_of NetlistVersion = 3
number_of (Count at) = 4
number_of (CutOff at) = 5
number_of (Kind at) = 6
number_of (PinCount at) = 7
number_of (Pin at) = 8
number_of (Entry at) = 9
number_of (BytesLeft at) = 10
number_of (ListShort at) = 11
number_of ListMark = 12
number_of ListVersion = 13
number_of Tie = 14
number_of Changes = 15
number_of (ListLength at) = 16
number_of (SpareBit at) = 17
number_of NoChange = 18
number_of NoOutput = 19
number_of BufferShort = 20
number_of Signals = 23

-- "The place of a two-byte field is its first byte."; "Places from 18 up are 0 unless given otherwise."
abbrev pub place_of : Refusal → ℕ
place_of (NetlistShort at) = at
place_of NetlistMark = 0
place_of NetlistVersion = 3
place_of (Count at) = at
place_of (CutOff at) = at
place_of (Kind at) = at
place_of (PinCount at) = at
place_of (Pin at) = at
place_of (Entry at) = at
place_of (BytesLeft at) = at
place_of (ListShort at) = at
place_of ListMark = 0
place_of ListVersion = 3
place_of Tie = 5
place_of Changes = 9
place_of (ListLength at) = at
place_of (SpareBit at) = at
place_of NoChange = 0
place_of NoOutput = 0
place_of BufferShort = 0
place_of Signals = 5

-- "In the order below, the first condition met is the refusal; where none is met there is none."
unfoldable pub refuse : {A : Type 0} → (met : Bool) → Refusal → (next : Result A Refusal) → Result A Refusal
refuse met refusal next = cond met (Err refusal) next
