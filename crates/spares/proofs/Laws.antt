-- The first byte with a spare bit, step by step. Assumes nothing.
use Rattle.std.specs.Prelude.{true, false, leb, Option, Some, None, is_some}
use Rattle.std.specs.Bool.{then_some}
use Rattle.std.specs.Option.{option_or}
use Prim.Native.Nat.{ℕ, zero, suc, ◌+◌, ◌-◌, ◌*◌, ◌^◌, ◌≤◌, ◌<◌}
use native.Mathlib.Omega.{arith}
use native.Mathlib.Decide.{dec_lt}
use native.Mathlib.Nat.{add-zero, zero-mul, one-mul, add-mul, suc-mul, div-eq_of_lt, div-eq-sub-div}
use mathlib.Core.Path.{◌≡◌, refl, sym}
use mathlib.Core.List.{List}
use borrow.Author.Tests.{lt-ltb, le-leb, lt-leb}
use lib.Pow.{pow_pos}
use Rattle.words.specs.Words.{byte_at}
use Rattle.spares.specs.Spares.{width_of, size_of, last_place, last_bits, spare_bits, spares_at, spare_at, spare_pair, first_spare}
use Rattle.spares.specs.Looked.{PairClear}

-- a vector or row by its last byte: whether that reaches the least one with a spare bit
module _ (bits : ℕ) (l : List ℕ) (at : ℕ) where
  clear_at : spares_at bits l at ≡ 0 → spare_at bits l at ≡ None
  unfolding spare_at
  clear_at e = rw e

  module _ (least : ℕ) (e : least ≡ 2 ^ last_bits bits) where
    some_at : least ≤ byte_at l (last_place bits at) → spare_at bits l at ≡ Some (last_place bits at)
    unfolding spare_at spare_bits
    some_at h =
        rw (lt-ltb 0 (spares_at bits l at)
        (omega (arith, div-eq-sub-div {m = 2 ^ last_bits bits} {n = byte_at l (last_place bits at)} (pow_pos (last_bits bits)) (rw e at h))))

    pub clear_below : byte_at l (last_place bits at) < least → spares_at bits l at ≡ 0
    unfolding spare_bits
    clear_below h = div-eq_of_lt {n = byte_at l (last_place bits at)} {m = 2 ^ last_bits bits} (rw e at h)

    none_at : byte_at l (last_place bits at) < least → spare_at bits l at ≡ None
    none_at h = clear_at (clear_below h)

    -- by the byte that the code reads
    pub spare_by : then_some (leb least (byte_at l (last_place bits at))) (last_place bits at) ≡ spare_at bits l at
    spare_by = go (dec_lt (byte_at l (last_place bits at)) least)
      where
        go : Dec (byte_at l (last_place bits at) < least)
            → then_some (leb least (byte_at l (last_place bits at))) (last_place bits at) ≡ spare_at bits l at
        go (yes h) = rw (lt-leb least (byte_at l (last_place bits at)) h, none_at h)
        go (no h) = rw (le-leb least (byte_at l (last_place bits at)) (omega arith), some_at (omega arith))

-- two of them
module _ (bits : ℕ) (l : List ℕ) (at : ℕ) where
  pub pair_none : PairClear bits l at → spare_pair bits l at ≡ None
  unfolding spare_pair
  pair_none clear = rw (clear_at bits l at clear.0) (clear_at bits l (at + width_of bits) clear.1)

  -- by the bytes that the code reads
  module _ (least : ℕ) (e : least ≡ 2 ^ last_bits bits) where
    pub pair_first : least ≤ byte_at l (last_place bits at) → spare_pair bits l at ≡ Some (last_place bits at)
    unfolding spare_pair
    pair_first h = rw (some_at bits l at least e h)

    pub pair_second : byte_at l (last_place bits at) < least
        → spare_pair bits l at ≡ then_some (leb least (byte_at l (last_place bits (at + width_of bits)))) (last_place bits (at + width_of bits))
    unfolding spare_pair
    pair_second h = rw (none_at bits l at least e h) (sym (spare_by bits l (at + width_of bits) least e))

  -- where a last byte has eight bits of its own none is spare
  pub eight_clear : last_bits bits ≡ 8 → ((at : ℕ) → byte_at l at < 256) → PairClear bits l at
  eight_clear e low = (clear_below bits l at 256 (rw e) (low _), clear_below bits l (at + width_of bits) 256 (rw e) (low _))

-- a change further on
pub times_next : (t size : ℕ) → (t + 1) * size ≡ t * size + size
times_next t size = rw (add-mul, one-mul)

pub next_change : (at t size : ℕ) → at + suc t * size ≡ at + size + t * size
next_change at t size = rw suc-mul (omega arith)

-- the bytes of the changes from t on
pub changes_left : (n t size : ℕ) → t < n → (n - t) * size ≡ size + (n - (t + 1)) * size
changes_left n t size h = let e : n - t ≡ suc (n - (t + 1)) = omega arith in rw (e, suc-mul) (omega arith)

-- a place, or the next one
pub found : (place next : Option ℕ) → is_some place ≡ true → place ≡ option_or place next
found (Some at) next h = refl
found None next h = absurd (cc)

pub not_found : (place next : Option ℕ) → is_some place ≡ false → option_or place next ≡ next
not_found (Some at) next h = absurd (cc)
not_found None next h = refl

pub option_or_assoc : (a b c : Option ℕ) → option_or a (option_or b c) ≡ option_or (option_or a b) c
option_or_assoc (Some at) b c = refl
option_or_assoc None b c = refl

-- the changes from t on begin with two vectors and two rows
module _ (n inputs declared : ℕ) (l : List ℕ) (at t : ℕ) where
  pub changes_split : t < n
      → first_spare (n - t) inputs declared l at
      ≡ option_or (option_or (spare_pair inputs l at) (spare_pair declared l (at + 2 * width_of inputs)))
      (first_spare (n - (t + 1)) inputs declared l (at + size_of (width_of inputs) (width_of declared)))
  unfolding first_spare
  changes_split h = let e : n - t ≡ suc (n - (t + 1)) = omega arith in rw e (option_or_assoc (spare_pair inputs l at) (spare_pair declared l (at + 2 * width_of inputs)) _)

  pub changes_end : n ≤ t → first_spare (n - t) inputs declared l at ≡ None
  unfolding first_spare
  changes_end h = let e : n - t ≡ 0 = omega arith in rw e

-- the vectors and rows of the change at a place have no spare bit
abbrev pub NoSpare : (inputs declared : ℕ) → List ℕ → (at : ℕ) → Type 0
NoSpare inputs declared l at = PairClear inputs l at × PairClear declared l (at + 2 * width_of inputs)

pub none_first : (n inputs declared : ℕ) (l : List ℕ) (at : ℕ)
    → ((t : ℕ) → t < n → NoSpare inputs declared l (at + t * size_of (width_of inputs) (width_of declared))) → first_spare n inputs declared l at ≡ None
unfolding first_spare
none_first zero inputs declared l at h = refl
none_first (suc n) inputs declared l at h =
    let v : NoSpare inputs declared l at = rw (zero-mul, add-zero) at (h 0 (omega arith)) in
    rw (pair_none inputs l at v.0, pair_none declared l (at + 2 * width_of inputs) v.1)
    (none_first n inputs declared l _ (λ t j. rw (next_change at t (size_of (width_of inputs) (width_of declared))) at (h (suc t) (omega arith))))
