-- Document 01, "The change list", and document 02, "Job 1": what the bytes say.
use Rattle.std.specs.Prelude.{ℕ, ◌+◌, ◌*◌, ◌/◌, ◌%◌, ◌^◌, Bool, cond, List, eqb}
use Rattle.kung.specs.Class.{Class, c0, input_class}
use Rattle.circuit.specs.Circuit.{Source, sources}
use Rattle.words.specs.Words.{byte_at, word_at}
pub use Rattle.spares.specs.Spares.{width_of, size_of}
use Rattle.netlist.specs.Netlist.{inputs_of, outputs_of, card_of}
use Rattle.changes.specs.declared.Layout.{Layout}

-- "`LCT`, a 16-bit version (1), the netlist's tie (32 bits), a 16-bit count T (0 to 1,000), then T changes, numbered from 0."
abbrev pub version_of : List ℕ → ℕ
version_of l = word_at l 3

abbrev pub changes_of : List ℕ → ℕ
changes_of l = word_at l 9

-- what version 1 has, or version 2
abbrev pub by_version : (version one two : ℕ) → ℕ
by_version version one two = cond (eqb version 2) two one

-- "Version 2 of the list keeps at most 800 changes"
abbrev pub most_changes : (version : ℕ) → ℕ
most_changes version = by_version version 1000 800

-- "and adds to each change two bit rows over the outputs": over how many outputs, none in version 1
abbrev pub declared_of : (version outputs : ℕ) → ℕ
declared_of version outputs = by_version version 0 outputs

-- the version of a list, the bytes of a vector, and those of a row of declared ends
abbrev pub layout_of : (version inputs outputs : ℕ) → Layout
layout_of version inputs outputs = record { version = version; width = width_of inputs; row = width_of (declared_of version outputs) }

abbrev pub layout_in : (netlist list : List ℕ) → Layout
layout_in n l = layout_of (version_of l) (inputs_of n) (outputs_of n)

-- "A change is a first and a second vector, each of V bytes"; in version 2 "for declared start and declared end [...] two rows follow the second
-- vector". The places of its parts.
pub data Part : Type 0 where
  first second starts ends : Part

abbrev pub change_at : Layout → (t : ℕ) → ℕ
change_at layout t = 11 + t * size_of layout.width layout.row

abbrev pub part_at : Layout → (t : ℕ) → Part → ℕ
part_at layout t first = change_at layout t
part_at layout t second = change_at layout t + layout.width
part_at layout t starts = change_at layout t + 2 * layout.width
part_at layout t ends = change_at layout t + 2 * layout.width + layout.row

-- "Input i is bit i mod 8 (weight 2^(i mod 8)) of byte i / 8, quotient rounded down."; "Bits lie as in the vectors."
abbrev pub bit_in : (byte k : ℕ) → Bool
bit_in byte k = eqb (byte / 2 ^ k % 2) 1

unfoldable pub bit_at : List ℕ → (at i : ℕ) → Bool
bit_at l at i = bit_in (byte_at l (at + i / 8)) (i % 8)

abbrev pub bit_of : List ℕ → Layout → (t : ℕ) → Part → (i : ℕ) → Bool
bit_of l layout t part i = bit_at l (part_at layout t part) i

-- the clean class whose ends are bit i of the parts at two places
unfoldable pub class_at : List ℕ → (start end i : ℕ) → Class
class_at l start end i = input_class (bit_at l start i) (bit_at l end i)

-- "An input is 0, 1, R or F by its two bits."
abbrev pub input_class_at : List ℕ → Layout → (t i : ℕ) → Class
input_class_at l layout t i = class_at l (part_at layout t first) (part_at layout t second) i

-- "the clean one with the declared ends"
abbrev pub declared_class_at : List ℕ → Layout → (t o : ℕ) → Class
declared_class_at l layout t o = class_at l (part_at layout t starts) (part_at layout t ends) o

-- the sources of a netlist's signals in change t: an input's class, or a gate
unfoldable pub sources_of : (netlist list : List ℕ) → (t : ℕ) → ℕ → Source Class
sources_of n l t = sources (card_of n) c0 (input_class_at l (layout_in n l) t)
