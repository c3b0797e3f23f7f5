-- What a kind byte means, by its ranges, and what the limits tell of it. Assumes nothing.
use Prim.Native.Nat.{ℕ, zero, suc, ◌+◌, ◌-◌, ◌*◌, ◌/◌, ◌%◌, ◌≤◌, ◌<◌}
use native.Mathlib.Omega.{arith}
use mathlib.Core.Path.{◌≡◌, refl, sym, ◌∙◌, ap}
use mathlib.Core.Bool.{Bool, true, false, cond, ◌||◌}
use mathlib.Core.List.{List, ◌∷◌}
use borrow.Author.Tests.{lt-ltb, ltb-true, ltb-false}
use lib.Dec.{eqb, leb, ltb}
use lib.ListN.{length, get_or, get_or-eq_default}
use denote.Bor.{Bor}
use Rattle.std.specs.Prelude.{Option, Some, None}
use Rattle.std.proofs.Common.{ext_get_or}
use Rattle.std.specs.List.{slice_get}
use Rattle.std.specs.Option.{is_some, IfSome, option_copied}
use Rattle.std.proofs.lemmas.Option.{slice_get-get_or, get_or_from_slice_get, slice_get_read, slice_get_within, slice_get_past}
use Rattle.kung.specs.Rule.{kind_of, kinds, BUFFER}
use Rattle.kung.specs.Operation.{Op, and, or, op_of, inverts, op_code}
use Rattle.kung.specs.Sets.{bit}
use Rattle.kung.specs.Tables.{tab}
use Rattle.kung.proofs.Listed.{length_tab, get_d_tab, agree}
use Rattle.words.specs.Words.{outside}
use Rattle.words.proofs.Laws.{outside_below, outside_above}
use Rattle.rows.specs.Rows.{word_for}
use Rattle.records.specs.Records.{no_kind, least_pins, most_pins, unfit}
use Rattle.records.specs.Meaning.{meaning_of, meaning_word, meaning_table}

-- the ranges of the code's match
pub meaning_one : (kind : ℕ) → 1 ≤ kind → kind < 3 → record { least = 1; most = 1; operation = 0; inverts = eqb kind 1 } ≡ meaning_of kind
unfolding meaning_of no_kind least_pins most_pins outside kind_of
meaning_one zero l h = absurd (omega arith)
meaning_one (suc zero) l h = refl
meaning_one (suc (suc zero)) l h = refl
meaning_one (suc (suc (suc n))) l h = absurd (omega arith)

pub meaning_plain : (kind : ℕ) → 3 ≤ kind → kind < 5 → record { least = 2; most = 8; operation = kind - 3; inverts = false } ≡ meaning_of kind
unfolding meaning_of no_kind least_pins most_pins outside kind_of
meaning_plain zero l h = absurd (omega arith)
meaning_plain (suc zero) l h = absurd (omega arith)
meaning_plain (suc (suc zero)) l h = absurd (omega arith)
meaning_plain (suc (suc (suc zero))) l h = refl
meaning_plain (suc (suc (suc (suc zero)))) l h = refl
meaning_plain (suc (suc (suc (suc (suc n))))) l h = absurd (omega arith)

pub meaning_inverted : (kind : ℕ) → 5 ≤ kind → kind < 7 → record { least = 2; most = 8; operation = kind - 5; inverts = true } ≡ meaning_of kind
unfolding meaning_of no_kind least_pins most_pins outside kind_of
meaning_inverted zero l h = absurd (omega arith)
meaning_inverted (suc zero) l h = absurd (omega arith)
meaning_inverted (suc (suc zero)) l h = absurd (omega arith)
meaning_inverted (suc (suc (suc zero))) l h = absurd (omega arith)
meaning_inverted (suc (suc (suc (suc zero)))) l h = absurd (omega arith)
meaning_inverted (suc (suc (suc (suc (suc zero))))) l h = refl
meaning_inverted (suc (suc (suc (suc (suc (suc zero)))))) l h = refl
meaning_inverted (suc (suc (suc (suc (suc (suc (suc n))))))) l h = absurd (omega arith)

-- a byte that is no kind
meaning_none : (kind : ℕ) → no_kind kind ≡ true → kind_of kind ≡ BUFFER → record { least = 1; most = 0; operation = 0; inverts = false } ≡ meaning_of kind
unfolding meaning_of
meaning_none kind e d = rw (e, d)

pub meaning_zero : (kind : ℕ) → kind < 1 → record { least = 1; most = 0; operation = 0; inverts = false } ≡ meaning_of kind
unfolding no_kind kind_of
meaning_zero kind h = let e : kind ≡ 0 = omega arith in meaning_none kind (outside_below 1 6 kind h) (rw e)

pub meaning_above : (kind : ℕ) → 7 ≤ kind → record { least = 1; most = 0; operation = 0; inverts = false } ≡ meaning_of kind
unfolding no_kind kind_of
meaning_above kind h =
    meaning_none kind (outside_above 1 6 kind (omega arith) ∙ lt-ltb 6 kind (omega arith)) (get_or-eq_default (BUFFER ∷ kinds) BUFFER {n = kind} (omega arith))

pub kind_unfit : (kind count : ℕ) → no_kind kind ≡ true → unfit kind count ≡ true
unfolding unfit
kind_unfit kind count e = rw e

-- a kind takes one to eight pins
pub least_some : (kind : ℕ) → 1 ≤ least_pins kind
unfolding least_pins
least_some kind = go (leb kind 2)
  where
    go : (b : Bool) → 1 ≤ cond b 1 2
    go true = omega arith
    go false = omega arith

pub most_eight : (kind : ℕ) → most_pins kind ≤ 8
unfolding most_pins
most_eight kind = go (leb kind 2)
  where
    go : (b : Bool) → cond b 1 8 ≤ 8
    go true = omega arith
    go false = omega arith

-- the limits alone tell whether a pin count is fit
no_count : (count : ℕ) → outside 1 0 count ≡ true
no_count zero = outside_below 1 0 0 (omega arith)
no_count (suc n) = outside_above 1 0 (suc n) (omega arith) ∙ lt-ltb 0 (suc n) (omega arith)

pub meaning_unfit : (kind count : ℕ) → outside (meaning_of kind).least (meaning_of kind).most count ≡ unfit kind count
unfolding meaning_of unfit
meaning_unfit kind count = go (no_kind kind)
  where
    go : (b : Bool) → outside (cond b 1 (least_pins kind)) (cond b 0 (most_pins kind)) count ≡ b || outside (least_pins kind) (most_pins kind) count
    go true = no_count count
    go false = refl

-- a kind takes at least one pin, so the limits tell whether the byte is one
pub most_none : (kind : ℕ) → (meaning_of kind).most ≡ 0 → no_kind kind ≡ true
unfolding meaning_of most_pins
most_none kind = go (no_kind kind) (leb kind 2)
  where
    go : (b d : Bool) → ◌≡◌ {A = ℕ} (cond b 0 (cond d 1 8)) 0 → b ≡ true
    go true d e = refl
    go false true e = absurd (omega arith)
    go false false e = absurd (omega arith)

pub most_some : (kind : ℕ) → ((meaning_of kind).most ≡ 0 → ⊥) → no_kind kind ≡ false
unfolding meaning_of
most_some kind = go (no_kind kind)
  where
    go : (b : Bool) → (cond b 0 (most_pins kind) ≡ 0 → ⊥) → b ≡ false
    go true h = absurd (h refl)
    go false h = refl

-- a byte's limits are small
pub meaning_low : (kind : ℕ) → ((meaning_of kind).least ≤ 2) × ((meaning_of kind).most ≤ 8) × ((meaning_of kind).operation ≤ 1)
unfolding meaning_of least_pins most_pins
meaning_low kind = go (no_kind kind) (leb kind 2) (op_of (kind_of kind))
  where
    go : (b d : Bool) (o : Op) → (cond b 1 (cond d 1 2) ≤ 2) × (cond b 0 (cond d 1 8) ≤ 8) × (op_code o ≤ 1)
    go true d and = (omega arith, omega arith, omega arith)
    go true d or = (omega arith, omega arith, omega arith)
    go false true and = (omega arith, omega arith, omega arith)
    go false true or = (omega arith, omega arith, omega arith)
    go false false and = (omega arith, omega arith, omega arith)
    go false false or = (omega arith, omega arith, omega arith)

-- eight words, each of its byte, are the table
pub table_all : (words : List ℕ) → length words ≡ 8 → ((kind : ℕ) → kind < 8 → get_or words kind 0 ≡ meaning_word (meaning_of kind)) → words ≡ meaning_table
unfolding meaning_table
table_all words e all =
    ext_get_or 0 words _ (e ∙ sym (length_tab _ 0 8)) (λ k h. let l : k < 8 = omega arith in all k l ∙ sym (get_d_tab _ 8 k l))

-- what is read of a list, if there is so much of it
pub read_slot : (xs : List ℕ) (i : ℕ) (r : Option (Bor ℕ)) → is_some r ≡ ltb i (length xs) → IfSome r (λ x. x.now ≡ get_or xs i x.now)
    → option_copied r ≡ slice_get xs i
read_slot xs i None e h = sym (slice_get_past xs i (ltb-false i (length xs) (sym e)))
read_slot xs i (Some x) e h = sym (slice_get_read xs (length xs) i x.now refl (ltb-true i (length xs) (sym e)) h)

table_length : length meaning_table ≡ 8
unfolding meaning_table
table_length = length_tab _ 0 8

-- a byte above 7 has no word
pub word_past : (kind : ℕ) → slice_get meaning_table kind ≡ None → no_kind kind ≡ true
unfolding no_kind
word_past kind e = go (ltb kind 8) refl
  where
    go : (b : Bool) → ltb kind 8 ≡ b → outside 1 6 kind ≡ true
    go true d = cc (slice_get-get_or meaning_table kind 0 (omega (arith, table_length, ltb-true kind 8 d)))
    go false d = let h = ltb-false kind 8 d in outside_above 1 6 kind (omega arith) ∙ lt-ltb 6 kind (omega arith)

-- what the word of a byte up to 7 tells of it
module _ (kind : ℕ) {word : ℕ} (e : slice_get meaning_table kind ≡ Some word) where
  h : kind < 8
  h = omega (arith, table_length, slice_get_within meaning_table kind word e)

  word_is : word ≡ meaning_word (meaning_of kind)
  unfolding meaning_table
  word_is = sym (get_or_from_slice_get meaning_table kind word 0 e) ∙ get_d_tab _ 8 kind h

  pub word_least : word / 16 % 16 ≡ (meaning_of kind).least
  unfolding tab meaning_word meaning_of no_kind least_pins most_pins outside kind_of
  word_least = rw word_is (agree (λ k. meaning_word (meaning_of k) / 16 % 16) (λ k. (meaning_of k).least) 8 refl kind h)

  pub word_most : word / 256 ≡ (meaning_of kind).most
  unfolding tab meaning_word meaning_of no_kind least_pins most_pins outside kind_of
  word_most = rw word_is (agree (λ k. meaning_word (meaning_of k) / 256) (λ k. (meaning_of k).most) 8 refl kind h)

  pub word_none : word < 256 → no_kind kind ≡ true
  word_none l = most_none kind (omega (arith, word_most))

  pub word_unfit : (count : ℕ) → outside (word / 16 % 16) (word / 256) count ≡ unfit kind count
  word_unfit count = rw (word_least, word_most) (meaning_unfit kind count)

  pub word_some : (count : ℕ) → 256 ≤ word → (no_kind kind ≡ false) × (outside (word / 16 % 16) (word / 256) count ≡ outside (least_pins kind) (most_pins kind) count)
  unfolding unfit
  word_some count l =
      let known = most_some kind (λ e. omega (arith, word_most)) in
      (known, word_unfit count ∙ rw known)

  pub word_gate : (count : ℕ) → word % 4 + 4 * count ≡ word_for (kind_of kind) count
  unfolding tab meaning_word meaning_of no_kind least_pins most_pins outside kind_of word_for
  word_gate count =
      rw word_is
      (ap (λ (n : ℕ). n + 4 * count) (agree (λ k. meaning_word (meaning_of k) % 4) (λ k. op_code (op_of (kind_of k)) + 2 * bit (inverts (kind_of k))) 8 refl kind h))

-- what `meaning_of` asks
pub ruleset meant = (meaning_one, meaning_plain, meaning_inverted, meaning_zero, meaning_above)
