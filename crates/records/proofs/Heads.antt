-- A record up to its pins, test by test, and what it says where it is not refused. Assumes nothing.
use Prim.Native.Nat.{ℕ, ◌+◌, ◌*◌, ◌%◌, ◌≤◌}
use native.Mathlib.Omega.{arith}
use mathlib.Core.Path.{◌≡◌, refl, sym, ap}
use mathlib.Core.Bool.{Bool, true, false, cond, ◌||◌}
use mathlib.Core.List.{List}
use borrow.Author.Tests.{le-ltb, ltb-false}
use lib.Dec.{ltb}
use lib.ListN.{length}
use Rattle.std.specs.List.{slice_get}
use Rattle.std.specs.Prelude.{Some, None, Ok}
use Rattle.std.proofs.lemmas.Bool.Decides.{nat_tests}
use Rattle.words.specs.Words.{outside}
use Rattle.words.proofs.Laws.{within}
use Rattle.refusals.specs.Refusal.{refuse}
use Rattle.refusals.proofs.Laws.{passed}
use Rattle.records.specs.declared.Head.{Head}
use Rattle.records.specs.Records.{kind_at, count_at, past_record, no_kind, least_pins, most_pins, unfit}
use Rattle.records.specs.Meaning.{meaning_table}
use Rattle.records.specs.Reading.{word_of, head_of, head_at, fit_at}
use Rattle.records.proofs.Meanings.{least_some, most_eight, word_past, kind_unfit, word_none, word_unfit, word_gate}

-- the head by the word of its kind byte
pub head_read : (s : List ℕ) (at : ℕ) {word : ℕ} → slice_get meaning_table (kind_at s at) ≡ Some word
    → record { count = count_at s at; word = word % 4 + 4 * count_at s at } ≡ head_of s at
unfolding word_of
head_read s at e = rw (word_gate (kind_at s at) e (count_at s at))

-- a head that is not refused
pub record HeadTold (s : List ℕ) (at : ℕ) (head : Head) : Type 0 where
  pub count_is : head.count ≡ count_at s at
  pub word_is : head.word ≡ word_of s at
  pub count_some : 1 ≤ head.count
  pub count_eight : head.count ≤ 8
  pub room : at + 2 + 2 * head.count ≤ length s

pub head_told : {head : Head} (s : List ℕ) (at : ℕ) → head_at s at ≡ Ok head → HeadTold s at head
unfolding head_at
head_told {head} s at h =
    let two = passed _ _ _ _ h in
    let kind = passed _ _ _ _ two.1 in
    let fit = passed _ _ _ _ kind.1 in
    let room = passed _ _ _ _ fit.1 in
    let is : head_of s at ≡ head = cc room.1 in
    let count_is : head.count ≡ count_at s at = ap (λ (x : Head). x.count) (sym is) in
    let c = within (least_pins (kind_at s at)) (most_pins (kind_at s at)) (count_at s at) fit.0 in
    record {
      count_is = count_is;
      word_is = ap (λ (x : Head). x.word) (sym is);
      count_some = omega (arith, c.0, least_some (kind_at s at));
      count_eight = omega (arith, c.1, most_eight (kind_at s at));
      room = omega (arith, ltb-false (length s) (past_record s at) room.0);
    }

-- a head with room for eight pins is one that is not refused
pub fit_head : {head : Head} (s : List ℕ) (at : ℕ) → fit_at s at ≡ Some head → (at + 18 ≤ length s) × (head_at s at ≡ Ok head)
unfolding fit_at head_at refuse unfit
fit_head {head} s at h = go (ltb (length s) (at + 18)) (no_kind (kind_at s at)) (outside (least_pins (kind_at s at)) (most_pins (kind_at s at)) (count_at s at)) refl refl refl h
  where
    go : (short none out : Bool) → ltb (length s) (at + 18) ≡ short → no_kind (kind_at s at) ≡ none
        → outside (least_pins (kind_at s at)) (most_pins (kind_at s at)) (count_at s at) ≡ out
        → cond short None (cond (none || out) None (Some (head_of s at))) ≡ Some head
        → (at + 18 ≤ length s) × (head_at s at ≡ Ok head)
    go true none out a b d h = cc
    go false true out a b d h = cc
    go false false true a b d h = cc
    go false false false a b d h =
        let room = ltb-false (length s) (at + 18) a in
        let few = (within (least_pins (kind_at s at)) (most_pins (kind_at s at)) (count_at s at) d).1 in
        let two = le-ltb (length s) (at + 2) (omega arith) in
        let all = le-ltb (length s) (past_record s at) (omega (arith, most_eight (kind_at s at))) in
        (room, rw (two, b, d, all) (cc h))

-- what `head_at` asks, and `fit_at`
pub ruleset told = (nat_tests, word_past, word_none, head_read)

pub ruleset fits = (nat_tests, word_past, kind_unfit, word_unfit, head_read)
