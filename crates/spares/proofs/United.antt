-- The last bytes of all changes, united: where they have no spare bit, none has. Assumes nothing.
use Prim.Native.Nat.{ℕ, ◌+◌, ◌*◌, ◌^◌, ◌≤◌, ◌<◌}
use native.Mathlib.Omega.{arith}
use native.Mathlib.Decide.{dec_lt}
use mathlib.Core.Path.{◌≡◌, sym, subst}
use mathlib.Core.List.{List}
use lib.Bits.{bit_or, or_add_and, and_le_l, and_le_r}
use Rattle.words.specs.Words.{byte_at}
use Rattle.spares.specs.Spares.{width_of, last_place, last_bits}
use Rattle.spares.specs.Looked.{PairClear}
use Rattle.spares.proofs.Laws.{clear_below}

left_most : (a b : ℕ) → a ≤ bit_or a b
left_most a b = omega (arith, or_add_and a b, and_le_r a b)

right_most : (a b : ℕ) → b ≤ bit_or a b
right_most a b = omega (arith, or_add_and a b, and_le_l a b)

module _ (bits : ℕ) (l : List ℕ) where
  -- the last bytes of the first n changes are at most a number
  abbrev pub Under : (at size n most : ℕ) → Type 0
  Under at size n most =
      (t : ℕ) → t < n → (byte_at l (last_place bits (at + t * size)) ≤ most) × (byte_at l (last_place bits (at + t * size + width_of bits)) ≤ most)

  pub under_none : (at size most : ℕ) → Under at size 0 most
  under_none at size most t h = absurd (omega arith)

  pub under_more : (at size n all one two : ℕ) → Under at size n all → one ≡ byte_at l (last_place bits (at + n * size))
      → two ≡ byte_at l (last_place bits (at + n * size + width_of bits)) → Under at size (n + 1) (bit_or all (bit_or one two))
  under_more at size n all one two under e d t h = go (dec_lt t n)
    where
      most : ℕ
      most = bit_or all (bit_or one two)

      go : Dec (t < n) → (byte_at l (last_place bits (at + t * size)) ≤ most) × (byte_at l (last_place bits (at + t * size + width_of bits)) ≤ most)
      go (yes early) =
          let old = under t early in
          let up : all ≤ most = left_most all (bit_or one two) in
          (omega (arith, old.0, up), omega (arith, old.1, up))
      go (no late) =
          let here : t ≡ n = omega arith in
          subst (λ t. (byte_at l (last_place bits (at + t * size)) ≤ most) × (byte_at l (last_place bits (at + t * size + width_of bits)) ≤ most)) (sym here) (
            omega (arith, e, left_most one two, right_most all (bit_or one two)),
            omega (arith, d, right_most one two, right_most all (bit_or one two)),
          )

  pub under_clear : (at size n all least : ℕ) → Under at size n all → least ≡ 2 ^ last_bits bits → all < least → (t : ℕ) → t < n
      → PairClear bits l (at + t * size)
  under_clear at size n all least under e h t less =
      let old = under t less in
      (clear_below bits l (at + t * size) least e (omega (arith, old.0)), clear_below bits l (at + t * size + width_of bits) least e (omega (arith, old.1)))
