-- How far the check has come: at each record, what is left of the check is the whole of what follows the counts. Assumes nothing.
use Prim.Native.Nat.{ℕ, suc, ◌+◌, ◌-◌, ◌*◌, ◌≤◌, ◌<◌}
use native.Mathlib.Omega.{arith}
use native.Mathlib.Nat.{sub-zero, add-zero}
use mathlib.Core.Path.{◌≡◌, sym, ◌∙◌, ap}
use mathlib.Core.Bool.{Bool, true}
use mathlib.Core.List.{List, [], ◌∷◌, ◌++◌}
use lib.Dec.{ltb}
use lib.ListN.{length}
use Rattle.std.specs.Prelude.{Some, Ok, Err}
use Rattle.kung.specs.Rule.{each}
use Rattle.words.specs.Words.{word_at}
use Rattle.refusals.specs.declared.Refusal.{Refusal}
use Rattle.refusals.specs.declared.Refusal.TheVariants.{Pin}
use Rattle.making.specs.Making.{own_at, row_at, put_at}
use Rattle.records.specs.declared.Head.{Head}
use Rattle.records.specs.Reading.{head_at, fit_at}
use Rattle.records.proofs.Heads.{HeadTold, head_told, fit_head}
use Rattle.netlist.specs.Netlist.{Checked, inputs_of, gates_of, place_of, entries_at, words_below, record_at, records_from, outputs, accepted, body}
use Rattle.netlist.specs.Decoded.{row_of, rows_from, with_outputs}
use Rattle.netlist.proofs.Laws.{place_next}
use Rattle.netlist.proofs.Refusals.{words_stop, words_more, words_end}
use Rattle.netlist.proofs.Heads.{record_refused, record_pins}
use Rattle.netlist.proofs.Passing.{Passes, fits, fits_not}
use Rattle.netlist.proofs.Keeping.{kept_refused}
use Rattle.netlist.proofs.Together.{all_passed}

-- a gate's signal is reached: its record's place, and what is left of the check and of the rows
pub record Reached (repeated : Bool) (s old : List ℕ) (signal at : ℕ) (rows : List ℕ) : Type 0 where
  pub low : inputs_of s ≤ signal
  pub high : signal ≤ inputs_of s + gates_of s
  pub place_is : at ≡ place_of s (signal - inputs_of s)
  pub place_high : at ≤ length s + 11
  pub left : body s ≡ records_from (inputs_of s + gates_of s - signal) (signal - inputs_of s) s (outputs s (accepted s))
  pub kept : rows_from repeated (gates_of s) 0 s old ≡ rows_from repeated (inputs_of s + gates_of s - signal) (signal - inputs_of s) s rows

pub reached_first : (repeated : Bool) (s old : List ℕ) {signal : ℕ} → signal ≡ inputs_of s → Reached repeated s old signal 11 old
unfolding place_of body
reached_first repeated s old {signal} e =
    let none : signal - inputs_of s ≡ 0 = omega arith in
    let all : inputs_of s + gates_of s - signal ≡ gates_of s = omega arith in
    record {
      low = omega arith;
      high = omega arith;
      place_is = rw none;
      place_high = omega arith;
      left = rw (all, none);
      kept = rw (all, none);
    }

-- of a record up to its pins the first k are passed
pub record PinsPassed (s : List ℕ) (signal at count k : ℕ) : Type 0 where
  pub left : (next : Checked) → record_at s signal at next ≡ words_below (count - k) s (at + 2 + 2 * k) signal Pin next

pub pins_first : {s : List ℕ} {at : ℕ} {head : Head} (signal : ℕ) → head_at s at ≡ Ok head → PinsPassed s signal at head.count 0
pins_first signal e = record { left = λ next. record_pins _ _ _ _ e ∙ rw (sub-zero, add-zero) }

pub pins_more : {s : List ℕ} {signal at count k word : ℕ} → PinsPassed s signal at count k → k < count → word ≡ word_at s (at + 2 + 2 * k)
    → word < signal → PinsPassed s signal at count (k + 1)
pins_more p more w h = record { left = λ next. p.left next ∙ words_more _ _ _ _ _ _ _ more w h }

module _ {repeated : Bool} {s old : List ℕ} {signal at : ℕ} {rows : List ℕ} (r : Reached repeated s old signal at rows) where
  pub reached_last : signal ≡ inputs_of s + gates_of s
      → (at ≡ entries_at s) × (body s ≡ outputs s (accepted s)) × (rows_from repeated (gates_of s) 0 s old ≡ rows)
  unfolding records_from rows_from
  reached_last e =
      let none : inputs_of s + gates_of s - signal ≡ 0 = omega arith in
      let all : signal - inputs_of s ≡ gates_of s = omega arith in
      (r.place_is ∙ ap (place_of s) all, rw none at r.left, rw none at r.kept)

  module _ (more : signal < inputs_of s + gates_of s) where
    -- what is left once the gate's record is passed
    abbrev pub after : Checked
    after = records_from (inputs_of s + gates_of s - (signal + 1)) (signal + 1 - inputs_of s) s (outputs s (accepted s))

    one_more : inputs_of s + gates_of s - signal ≡ suc (inputs_of s + gates_of s - (signal + 1))
    one_more = omega arith

    own : inputs_of s + (signal - inputs_of s) ≡ signal
    own = omega (arith, r.low)

    next_gate : suc (signal - inputs_of s) ≡ signal + 1 - inputs_of s
    next_gate = omega (arith, r.low)

    -- the gate's own record is the first of what is left
    pub reached_own : body s ≡ record_at s signal at after
    unfolding records_from
    reached_own = r.left ∙ rw (one_more, own, ← r.place_is, next_gate)

    -- where it is refused, whatever follows it, the check ends with that, and its row is not kept
    refused : {refusal : Refusal} → ((next : Checked) → record_at s signal at next ≡ Err refusal)
        → (Err refusal ≡ body s) × (rows ≡ with_outputs (body s) s (rows_from repeated (gates_of s) 0 s old))
    unfolding rows_from
    refused e =
        let ends = reached_own ∙ e after in
        (sym ends, sym (kept_refused s _ _ ends ∙ r.kept ∙ rw (one_more, own, ← r.place_is, fits_not s signal at e)))

    pub head_refused : {refusal : Refusal} → head_at s at ≡ Err refusal
        → (Err refusal ≡ body s) × (rows ≡ with_outputs (body s) s (rows_from repeated (gates_of s) 0 s old))
    head_refused e = refused (λ next. record_refused _ _ _ next e)

    pub pin_refused : {count k word : ℕ} → PinsPassed s signal at count k → k < count → word ≡ word_at s (at + 2 + 2 * k) → signal ≤ word
        → (Err (Pin (at + 2 + 2 * k)) ≡ body s) × (rows ≡ with_outputs (body s) s (rows_from repeated (gates_of s) 0 s old))
    pin_refused p l w h = refused (λ next. p.left next ∙ words_stop _ _ _ _ _ _ _ l w h)

    -- where it is passed, its row is kept
    passed : {head : Head} → HeadTold s at head → Passes (record_at s signal at) → {row new : List ℕ}
        → row ≡ row_at repeated s (at + 2) head.count → new ≡ put_at rows (9 * signal) (row ++ (head.word ∷ []))
        → Reached repeated s old (signal + 1) (at + 2 + 2 * head.count) new
    unfolding rows_from row_of
    passed t p e n =
        let next : signal - inputs_of s + 1 ≡ signal + 1 - inputs_of s = omega (arith, r.low) in
        record {
          low = omega (arith, r.low);
          high = omega arith;
          place_is = rw t.count_is (place_next _ _ _ r.place_is) ∙ ap (place_of s) next;
          place_high = omega (arith, t.room);
          left = reached_own ∙ p after;
          kept = r.kept ∙ rw (one_more, own, ← r.place_is, fits s signal at p, next_gate, ← t.count_is, ← t.word_is, ← e, ← n);
        }

    pub pins_passed : {head : Head} {k : ℕ} → head_at s at ≡ Ok head → PinsPassed s signal at head.count k → head.count ≤ k → {row new : List ℕ}
        → row ≡ row_at repeated s (at + 2) head.count → new ≡ put_at rows (9 * signal) (row ++ (head.word ∷ []))
        → Reached repeated s old (signal + 1) (at + 2 + 2 * head.count) new
    pins_passed e p l = passed (head_told _ _ e) (λ next. p.left next ∙ words_end _ _ _ _ _ _ _ l)

    -- its pins looked at together
    pub passed_together : {head : Head} {pins : List ℕ} {below : Bool} → fit_at s at ≡ Some head → pins ≡ own_at s (at + 2) head.count
        → below ≡ each (λ x. ltb x signal) pins → below ≡ true → {row new : List ℕ}
        → row ≡ row_at repeated s (at + 2) head.count → new ≡ put_at rows (9 * signal) (row ++ (head.word ∷ []))
        → Reached repeated s old (signal + 1) (at + 2 + 2 * head.count) new
    passed_together f o b h =
        let told = (fit_head _ _ f).1 in
        let t = head_told _ _ told in
        passed t (λ next. record_pins _ _ _ _ told ∙ all_passed _ _ _ _ t.count_eight (sym (b ∙ ap (each (λ x. ltb x signal)) o) ∙ h) Pin next)
