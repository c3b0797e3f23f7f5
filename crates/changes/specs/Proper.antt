-- Documents 01 and 02: what is asked of a change list's bytes, from "The change list" and "Job 1", and the list's conditions of "Turned back, by
-- operation" one after the other. `list_checked` accepts exactly the proper lists and refuses the others by the first condition met
-- (proofs/Proper.antt).
use Rattle.std.specs.Prelude.{ℕ, zero, suc, ◌+◌, ◌*◌, ◌≤◌, ◌<◌, ◌≡◌, true, not, List, [], ◌∷◌, ◌++◌, ◌⊎◌, eqb, ltb, length, Ok}
use Rattle.words.specs.Words.{long_at, marked, outside}
use Rattle.tie.specs.Tie.{tie_of}
use Rattle.netlist.specs.Netlist.{inputs_of, outputs_of, shape_of}
use Rattle.netlist.specs.Proper.{Proper, Condition, when, conditions}
use Rattle.refusals.specs.declared.Refusal.TheVariants.{ListShort, ListMark, ListVersion, Tie, Changes, ListLength, SpareBit}
use Rattle.spares.specs.Spares.{last_place, spares_at}
use Rattle.changes.specs.Changes.{version_of, changes_of, most_changes, declared_of, width_of, layout_in, size_of, Part, first, second, starts, ends, part_at}
use Rattle.changes.specs.Refusals.{Listed, task_of}

-- the bits of a change's part: a vector has one for each input, a row one for each output whose ends are declared
abbrev pub bits_of : (inputs declared : ℕ) → Part → ℕ
bits_of inputs declared first = inputs
bits_of inputs declared second = inputs
bits_of inputs declared starts = declared
bits_of inputs declared ends = declared

-- "`LCT`, a 16-bit version (1), the netlist's tie (32 bits), a 16-bit count T (0 to 1,000), then T changes, numbered from 0. A change is a
-- first and a second vector, each of V bytes, V being I / 8 rounded up. .. Spare bits are zero."; "Version 2 of the list keeps at most 800 changes and
-- adds to each change two bit rows over the outputs, each of O / 8 bytes rounded up"
pub record ProperList (n l : List ℕ) : Type 0 where
  pub netlist : Proper n
  pub long : 11 ≤ length l
  pub mark : marked l 0x4C 0x43 0x54 ≡ true
  pub version : (version_of l ≡ 1) ⊎ (version_of l ≡ 2)
  pub tied : long_at l 5 ≡ tie_of n
  pub changes_high : changes_of l ≤ most_changes (version_of l)
  pub whole : length l ≡ 11 + changes_of l * size_of (width_of (inputs_of n)) (width_of (declared_of (version_of l) (outputs_of n)))
  pub spare : (t : ℕ) → t < changes_of l → (part : Part)
      → spares_at (bits_of (inputs_of n) (declared_of (version_of l) (outputs_of n)) part) l (part_at (layout_in n l) t part) ≡ 0

unfoldable pub list_accepted : (netlist list : List ℕ) → Listed
list_accepted n l = Ok (task_of (shape_of n) l)

-- "first byte with a spare bit 17 (it)": of the vector or row at a place, and of the n changes from a place on
abbrev pub spare_condition : (bits : ℕ) → List ℕ → (at : ℕ) → Condition
spare_condition bits l at = when (ltb 0 (spares_at bits l at)) (SpareBit (last_place bits at))

unfoldable pub spare_conditions : (n inputs declared : ℕ) → List ℕ → (at : ℕ) → List Condition
spare_conditions zero inputs declared l at = []
spare_conditions (suc n) inputs declared l at =
    spare_condition inputs l at
    ∷ spare_condition inputs l (at + width_of inputs)
    ∷ spare_condition declared l (at + 2 * width_of inputs)
    ∷ spare_condition declared l (at + 2 * width_of inputs + width_of declared)
    ∷ spare_conditions n inputs declared l (at + size_of (width_of inputs) (width_of declared))

-- "under 11 bytes 11 (length); mark 12 (0); version 13 (3); tie 14 (5); T 15 (9); length not 11 + 2 × T × V 16 (length); first byte with a
-- spare bit 17 (it)."; in version 2 "Spare bits fall under 17, the length under 16, a count above 800 under 15."
unfoldable pub own_conditions : (inputs outputs tie : ℕ) → List ℕ → List Condition
own_conditions inputs outputs tie l =
    when (ltb (length l) 11) (ListShort (length l))
    ∷ when (not (marked l 0x4C 0x43 0x54)) ListMark
    ∷ when (outside 1 2 (version_of l)) ListVersion
    ∷ when (not (eqb (long_at l 5) tie)) Tie
    ∷ when (outside 0 (most_changes (version_of l)) (changes_of l)) Changes
    ∷ when (not (eqb (length l) (11 + changes_of l * size_of (width_of inputs) (width_of (declared_of (version_of l) outputs))))) (ListLength (length l))
    ∷ spare_conditions (changes_of l) inputs (declared_of (version_of l) outputs) l 11

-- "List: the netlist's, then .."
unfoldable pub list_conditions : (netlist list : List ℕ) → List Condition
list_conditions n l = conditions n ++ own_conditions (inputs_of n) (outputs_of n) (tie_of n) l
