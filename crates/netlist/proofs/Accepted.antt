-- What acceptance of a netlist gives: `formed`, the one theorem of the check that later layers cite. Assumes nothing.
use Prim.Native.Nat.{ℕ, zero, suc, ◌+◌, ◌*◌, ◌≤◌, ◌<◌}
use native.Mathlib.Omega.{arith}
use native.Mathlib.Nat.{add-zero, zero-add}
use mathlib.Core.Path.{◌≡◌, sym, ap}
use mathlib.Core.List.{List}
use borrow.Author.Tests.{leb-false, ltb-false}
use lib.ListN.{length}
use Rattle.std.specs.Prelude.{Ok}
use Rattle.circuit.specs.Circuit.{Each}
use Rattle.words.specs.Words.{word_at, words_at}
use Rattle.words.proofs.Laws.{within}
use Rattle.refusals.specs.declared.Refusal.{Refusal}
use Rattle.refusals.proofs.Laws.{passed}
use Rattle.records.specs.Records.{kind_at, count_at, pin_at, no_kind, least_pins, most_pins}
use Rattle.records.proofs.Meanings.{least_some, most_eight}
use Rattle.netlist.specs.declared.Shape.{Shape}
use Rattle.netlist.specs.Netlist.{Checked, inputs_of, gates_of, outputs_of, place_of, pins_below, pin_total, entries_at, outputs_end, card_of}
use Rattle.netlist.specs.Netlist.{words_below, record_at, records_from}
use Rattle.netlist.specs.Netlist.{opening, counts, outputs, shape_of, accepted, body, body_within, checked_within, checked}
use Rattle.netlist.specs.Formed.{RecordFormed, Formed}
use Rattle.netlist.proofs.Laws.{place_pins}

-- words below a bound, one by one and as a list
each_word : (n : ℕ) (s : List ℕ) (at bound : ℕ) → ((k : ℕ) → k < n → word_at s (at + 2 * k) < bound) → Each (λ x. x < bound) (words_at n s at)
unfolding words_at
each_word zero s at bound h = tt
each_word (suc n) s at bound h = (
  rw add-zero at (h 0 (omega arith)),
  each_word n s (at + 2) bound (λ k l. let e : at + 2 * suc k ≡ at + 2 + 2 * k = omega arith in rw e at (h (suc k) (omega arith))),
)

-- a record's pins are below its gate's signal
abbrev PinsBelow : List ℕ → (signal at : ℕ) → Type 0
PinsBelow s signal at = (k : ℕ) → k < count_at s at → pin_at s at k < signal

abbrev GateFormed : List ℕ → (gate : ℕ) → Type 0
GateFormed s gate = RecordFormed s (place_of s gate) × PinsBelow s (inputs_of s + gate) (place_of s gate)

-- what holds of 0 and of each successor
first_then : (P : ℕ → Type 0) (n : ℕ) → P zero → ((k : ℕ) → k < n → P (suc k)) → (k : ℕ) → k < suc n → P k
first_then P n a r zero l = a
first_then P n a r (suc k) l = r k (omega arith)

pins_high : (s : List ℕ) (gates : ℕ) → ((g : ℕ) → g < gates → RecordFormed s (place_of s g)) → (g : ℕ) → g ≤ gates → pins_below s g ≤ 8 * g
unfolding pins_below
pins_high s gates r zero h = omega arith
pins_high s gates r (suc g) h = omega (arith, pins_high s gates r g (omega arith), (r g (omega arith)).count_eight)

-- a chain of refusals that ends in acceptance was passed at each step
module _ (shape : Shape) where
  abbrev Passed : Checked → Type 0
  Passed answer = answer ≡ Ok shape

  words_passed : (n : ℕ) (s : List ℕ) (at bound : ℕ) (refusal : (at : ℕ) → Refusal) (next : Checked) → Passed (words_below n s at bound refusal next)
      → ((k : ℕ) → k < n → word_at s (at + 2 * k) < bound) × Passed next
  unfolding words_below
  words_passed zero s at bound refusal next h = (λ k l. absurd (omega arith), h)
  words_passed (suc n) s at bound refusal next h =
      let first = passed _ _ _ _ h in
      let rest = words_passed n s (at + 2) bound refusal next first.1 in (
        first_then (λ k. word_at s (at + 2 * k) < bound) n (rw add-zero (leb-false bound (word_at s at) first.0))
            (λ k l. let d : at + 2 * suc k ≡ at + 2 + 2 * k = omega arith in rw d (rest.0 k l)),
        rest.1,
      )

  record_passed : (s : List ℕ) (signal at : ℕ) (next : Checked) → Passed (record_at s signal at next)
      → RecordFormed s at × PinsBelow s signal at × Passed next
  unfolding record_at no_kind
  record_passed s signal at next h =
      let two = passed _ _ _ _ h in
      let kind = passed _ _ _ _ two.1 in
      let count = passed _ _ _ _ kind.1 in
      let room = passed _ _ _ _ count.1 in
      let pins = words_passed _ _ _ _ _ _ room.1 in
      let k = within 1 6 _ kind.0 in
      let c = within (least_pins (kind_at s at)) (most_pins (kind_at s at)) _ count.0 in
      let form : RecordFormed s at = record {
        kind_low = k.0;
        kind_high = k.1;
        count_low = c.0;
        count_high = c.1;
        count_some = omega (arith, c.0, least_some (kind_at s at));
        count_eight = omega (arith, c.1, most_eight (kind_at s at));
        room = ltb-false _ _ room.0;
      } in
      (form, pins.0, pins.1)

  records_passed : (n g : ℕ) (s : List ℕ) (next : Checked) → Passed (records_from n g s next)
      → ((k : ℕ) → k < n → GateFormed s (g + k)) × Passed next
  unfolding records_from
  records_passed zero g s next h = (λ k l. absurd (omega arith), h)
  records_passed (suc n) g s next h =
      let first = record_passed s _ _ _ h in
      let rest = records_passed n (suc g) s next first.2 in (
        first_then (λ k. GateFormed s (g + k)) n (rw (add-zero g) (first.0, first.1))
            (λ k l. let d : g + suc k ≡ suc g + k = omega arith in rw d (rest.0 k l)),
        rest.1,
      )

  outputs_passed : (s : List ℕ) (next : Checked) → Passed (outputs s next)
      → ((k : ℕ) → k < outputs_of s → word_at s (entries_at s + 2 * k) < inputs_of s + gates_of s) × (length s ≡ outputs_end s) × Passed next
  unfolding outputs
  outputs_passed s next h =
      let cut = passed _ _ _ _ h in
      let below = words_passed _ _ _ _ _ _ cut.1 in
      let bytes = passed _ _ _ _ below.1 in
      (below.0, omega (arith, ltb-false (length s) (outputs_end s) cut.0, ltb-false (outputs_end s) (length s) bytes.0), bytes.1)

  -- what follows the counts is accepted
  pub body_accepted : (s : List ℕ) → Passed (checked s) → Passed (body s)
  unfolding checked checked_within opening counts body_within
  body_accepted s h =
      let mark = passed _ _ _ _ (passed _ _ _ _ (passed _ _ _ _ h).1).1 in
      (passed _ _ _ _ (passed _ _ _ _ (passed _ _ _ _ (passed _ _ _ _ mark.1).1).1).1).1

  formed_within : (limit version : ℕ) (s : List ℕ) → Passed (checked_within limit version s) → Formed s shape
  unfolding checked_within opening counts body_within body accepted shape_of card_of
  formed_within limit version s h =
      let long = passed _ _ _ _ h in
      let mark = passed _ _ _ _ long.1 in
      let field = passed _ _ _ _ mark.1 in
      let a = passed _ _ _ _ field.1 in
      let b = passed _ _ _ _ a.1 in
      let c = passed _ _ _ _ b.1 in
      let signals = passed _ _ _ _ c.1 in
      let r = records_passed _ _ _ _ signals.1 in
      let t = outputs_passed _ _ r.1 in
      let whole : shape_of s ≡ shape = cc t.2 in
      let is : shape.inputs ≡ inputs_of s = ap (λ (x : Shape). x.inputs) (sym whole) in
      let gs : shape.gates ≡ gates_of s = ap (λ (x : Shape). x.gates) (sym whole) in
      let os : shape.outputs ≡ outputs_of s = ap (λ (x : Shape). x.outputs) (sym whole) in
      let ps : shape.pins ≡ pin_total s = ap (λ (x : Shape). x.pins) (sym whole) in
      let es : shape.entries ≡ entries_at s = ap (λ (x : Shape). x.entries) (sym whole) in
      let gate : (n : ℕ) → n < shape.gates → GateFormed s n = λ n h. rw zero-add at (r.0 n (omega arith)) in
      record {
        inputs_are = is;
        gates_are = gs;
        outputs_are = os;
        pins_are = ps;
        entries_are = es;
        inputs_low = omega (arith, within 1 256 (inputs_of s) a.0);
        inputs_high = omega (arith, within 1 256 (inputs_of s) a.0);
        gates_high = omega (arith, within 0 2048 (gates_of s) b.0);
        outputs_low = omega (arith, within 1 64 (outputs_of s) c.0);
        outputs_high = omega (arith, within 1 64 (outputs_of s) c.0);
        records = λ n h. (gate n h).0;
        pin_below = λ n k h l. omega (arith, (gate n h).1 k l);
        well_formed = λ n h. each_word _ s _ _ (gate n (omega arith)).1;
        output_below = λ n h. omega (arith, t.0 n (omega arith));
        pins_high = rw (ps, gs) (pins_high s (gates_of s) (λ n h. (gate n (omega arith)).0) (gates_of s) (omega arith));
        place_high = λ n h. omega (arith, place_pins s n, pins_high s shape.gates (λ n h. (gate n h).0) n h);
        whole = omega (arith, t.1);
      }

pub formed : {shape : Shape} (s : List ℕ) → checked s ≡ Ok shape → Formed s shape
unfolding checked
formed {shape} s h = formed_within shape 2304 1 s h
