-- Documents 01, "The change list", and 02, "Job 1": the spare bits of a list's vectors and rows.
use Rattle.std.specs.Prelude.{ℕ, zero, suc, ◌+◌, ◌-◌, ◌*◌, ◌/◌, ◌^◌, cond, List, ltb, Option, Some, None}
use Rattle.std.specs.Option.{option_or}
use Rattle.words.specs.Words.{byte_at}

-- "V being I / 8 rounded up"; "each of O / 8 bytes rounded up": the bytes of so many bits
abbrev pub width_of : (bits : ℕ) → ℕ
width_of bits = (bits + 7) / 8

-- "A change is a first and a second vector, each of V bytes"; in version 2 "two rows follow the second vector": the bytes of a change
abbrev pub size_of : (width row : ℕ) → ℕ
size_of width row = 2 * width + 2 * row

-- "Spare bits are zero." They stand in the last byte of a vector or row, above the bits that it holds, which are eight, and leave none spare, where
-- the vector or row has a multiple of 8; so where it has none.
abbrev pub last_place : (bits at : ℕ) → ℕ
last_place bits at = at + width_of bits - 1

abbrev pub last_bits : (bits : ℕ) → ℕ
last_bits bits = bits + 8 - 8 * width_of bits

unfoldable pub spare_bits : (bits byte : ℕ) → ℕ
spare_bits bits byte = byte / 2 ^ last_bits bits

-- the bits that the vector or row at a place has beside its own
abbrev pub spares_at : (bits : ℕ) → List ℕ → (at : ℕ) → ℕ
spares_at bits l at = spare_bits bits (byte_at l (last_place bits at))

-- "first byte with a spare bit": of the vector or row at a place
unfoldable pub spare_at : (bits : ℕ) → List ℕ → (at : ℕ) → Option ℕ
spare_at bits l at = cond (ltb 0 (spares_at bits l at)) (Some (last_place bits at)) None

-- of two, one after the other
unfoldable pub spare_pair : (bits : ℕ) → List ℕ → (at : ℕ) → Option ℕ
spare_pair bits l at = option_or (spare_at bits l at) (spare_at bits l (at + width_of bits))

-- of the n changes from a place on: the vectors over the inputs, then the rows over the outputs whose ends are declared
unfoldable pub first_spare : (n inputs declared : ℕ) → List ℕ → (at : ℕ) → Option ℕ
first_spare zero inputs declared l at = None
first_spare (suc n) inputs declared l at =
    option_or (spare_pair inputs l at)
    (option_or (spare_pair declared l (at + 2 * width_of inputs))
    (first_spare n inputs declared l (at + size_of (width_of inputs) (width_of declared))))
