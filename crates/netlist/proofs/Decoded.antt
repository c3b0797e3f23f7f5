-- An accepted netlist's rows say what its bytes say: `decoded_rows`, and for the layers above `decoded_sources`. Assumes nothing.
use Prim.Native.Nat.{ℕ, zero, suc, ◌+◌, ◌-◌, ◌*◌, ◌≤◌, ◌<◌}
use native.Mathlib.Omega.{arith}
use native.Mathlib.Nat.{add-zero, zero-add}
use mathlib.Core.Path.{◌≡◌, refl, sym, ◌∙◌, ap, ap₂, fun_ext}
use mathlib.Core.Bool.{Bool, true, false, cond}
use mathlib.Core.List.{List, []}
use borrow.Author.Tests.{ltb-true, ltb-false}
use lib.Dec.{ltb}
use lib.ListN.{length, get_or, length-append, get_or-append}
use lib.Seq.{ext_get_or, get_or_at}
use Rattle.std.specs.Prelude.{Ok}
use Rattle.kung.specs.Rule.{kind_of}
use Rattle.kung.specs.Tables.{tab}
use Rattle.kung.proofs.Listed.{get_d_tab, length_tab}
use Rattle.circuit.specs.Circuit.{gate, sources}
use Rattle.circuit.proofs.Laws.{sources_cases, sources_input, sources_gate, sources_above}
use Rattle.words.specs.Words.{word_at, words_at}
use Rattle.words.proofs.Laws.{words_length, words_at_lem}
use Rattle.rows.specs.Rows.{count_in, pin_in, word_in, kind_in, row_pins, card_in, word_for, output_in}
use Rattle.rows.specs.Lent.{GateRow, Repeats}
use Rattle.making.specs.Making.{past_of, row_pin, row_at, put_at}
use Rattle.making.proofs.Making.{eight_length, eight_pin, pin_own, pin_past, length_put, put_own, put_before}
use Rattle.rows.proofs.Told.{Takes, word_count, word_kind}
use Rattle.records.specs.Records.{kind_at, count_at, pin_at, least_pins, most_pins}
use Rattle.records.specs.Reading.{word_of}
use Rattle.netlist.specs.declared.Shape.{Shape}
use Rattle.netlist.specs.Netlist.{Checked, inputs_of, gates_of, outputs_of, place_of, entries_at, output_at, gate_kind, gate_pins, card_of}
use Rattle.netlist.specs.Netlist.{records_from, body, checked}
use Rattle.netlist.specs.Formed.{RecordFormed, Formed}
use Rattle.netlist.specs.Decoded.{record_fits, row_of, rows_from, early, with_outputs, decoded_by, decoded, Decoded}
use Rattle.netlist.proofs.Accepted.{formed, body_accepted}
use Rattle.netlist.proofs.Passing.{fits_accepted}

-- a record's nine numbers, one by one
row_of_length : (repeated : Bool) (s : List ℕ) (at : ℕ) → length (row_of repeated s at) ≡ 9
unfolding row_of
row_of_length repeated s at = simp (length-append, eight_length)

row_of_pin : (repeated : Bool) (s : List ℕ) (at k : ℕ) → k < 8 → get_or (row_of repeated s at) k 0 ≡ row_pin repeated s (at + 2) (count_at s at) k
unfolding row_of
row_of_pin repeated s at k h = get_or-append (row_at repeated s (at + 2) (count_at s at)) _ 0 k (rw eight_length h) ∙ eight_pin s (at + 2) (count_at s at) _ k h

row_of_word : (repeated : Bool) (s : List ℕ) (at : ℕ) → get_or (row_of repeated s at) 8 0 ≡ word_of s at
unfolding row_of
row_of_word repeated s at = get_or_at (row_at repeated s (at + 2) (count_at s at)) (word_of s at) [] 0 8 (eight_length s (at + 2) (count_at s at) _)

-- the rows of n records from gate g's on, where all fit and have room
pub length_rows : (repeated : Bool) (n g : ℕ) (s rows : List ℕ) → length (rows_from repeated n g s rows) ≡ length rows
unfolding rows_from
length_rows repeated zero g s rows = refl
length_rows repeated (suc n) g s rows =
    let put = put_at rows (9 * (inputs_of s + g)) (row_of repeated s (place_of s g)) in
    go (record_fits s (inputs_of s + g) (place_of s g)) (rows_from repeated n (suc g) s put) (length_rows repeated n (suc g) s put ∙ length_put rows _ _)
  where
    go : (b : Bool) (more : List ℕ) → length more ≡ length rows → length (cond b more rows) ≡ length rows
    go true more e = e
    go false more e = refl

abbrev Fits : List ℕ → (g n : ℕ) → Type 0
Fits s g n = (k : ℕ) → k < n → record_fits s (inputs_of s + (g + k)) (place_of s (g + k)) ≡ true

fits_next : (s : List ℕ) (g n : ℕ) → Fits s g (suc n) → Fits s (suc g) n
fits_next s g n f k h = let e : g + suc k ≡ suc g + k = omega arith in rw e at (f (suc k) (omega arith))

rows_step : (repeated : Bool) (n g : ℕ) (s rows : List ℕ) → Fits s g (suc n)
    → rows_from repeated (suc n) g s rows ≡ rows_from repeated n (suc g) s (put_at rows (9 * (inputs_of s + g)) (row_of repeated s (place_of s g)))
unfolding rows_from
rows_step repeated n g s rows f = rw (rw add-zero at (f 0 (omega arith)))

rows_before : (repeated : Bool) (n g : ℕ) (s rows : List ℕ) → Fits s g n → 9 * (inputs_of s + g + n) ≤ length rows → (i : ℕ) → i < 9 * (inputs_of s + g)
    → get_or (rows_from repeated n g s rows) i 0 ≡ get_or rows i 0
unfolding rows_from
rows_before repeated zero g s rows f h i l = refl
rows_before repeated (suc n) g s rows f h i l =
    let nine = row_of_length repeated s (place_of s g) in
    ap (λ (t : List ℕ). get_or t i 0) (rows_step repeated n g s rows f)
    ∙ rows_before repeated n (suc g) s _ (fits_next s g n f) (rw length_put (omega arith)) i (omega arith)
    ∙ put_before rows (9 * (inputs_of s + g)) (row_of repeated s (place_of s g)) (omega arith) i l

rows_own : (repeated : Bool) (n g : ℕ) (s rows : List ℕ) → Fits s g n → 9 * (inputs_of s + g + n) ≤ length rows → (k j : ℕ) → k < n → j < 9
    → get_or (rows_from repeated n g s rows) (9 * (inputs_of s + (g + k)) + j) 0 ≡ get_or (row_of repeated s (place_of s (g + k))) j 0
rows_own repeated zero g s rows f h k j l m = absurd (omega arith)
rows_own repeated (suc n) g s rows f h zero j l m =
    let nine = row_of_length repeated s (place_of s g) in
    rw (add-zero g)
    (ap (λ (t : List ℕ). get_or t (9 * (inputs_of s + g) + j) 0) (rows_step repeated n g s rows f)
    ∙ rows_before repeated n (suc g) s _ (fits_next s g n f) (rw length_put (omega arith)) _ (omega arith)
    ∙ put_own rows (9 * (inputs_of s + g)) (row_of repeated s (place_of s g)) (omega arith) j (omega arith))
rows_own repeated (suc n) g s rows f h (suc k) j l m =
    let e : g + suc k ≡ suc g + k = omega arith in
    rw e
    (ap (λ (t : List ℕ). get_or t (9 * (inputs_of s + (suc g + k)) + j) 0) (rows_step repeated n g s rows f)
    ∙ rows_own repeated n (suc g) s _ (fits_next s g n f) (rw length_put (omega arith)) k j (omega arith) m)

fits_all : {shape : Shape} (n g : ℕ) (s : List ℕ) (next : Checked) → records_from n g s next ≡ Ok shape → Fits s g n
unfolding records_from
fits_all zero g s next e k h = absurd (omega arith)
fits_all (suc n) g s next e zero h = rw (add-zero g) (fits_accepted s _ _ _ e).0
fits_all (suc n) g s next e (suc k) h =
    let d : g + suc k ≡ suc g + k = omega arith in
    rw d (fits_all n (suc g) s next (fits_accepted s _ _ _ e).1 k (omega arith))

-- a kind takes so many pins that its word tells it
takes : (kind count : ℕ) → 1 ≤ kind → kind ≤ 6 → least_pins kind ≤ count → count ≤ most_pins kind → Takes (kind_of kind) count
unfolding kind_of least_pins most_pins
takes zero count l h p q = absurd (omega arith)
takes (suc zero) count l h p q = omega arith
takes (suc (suc zero)) count l h p q = omega arith
takes (suc (suc (suc zero))) count l h p q = p
takes (suc (suc (suc (suc zero)))) count l h p q = p
takes (suc (suc (suc (suc (suc zero))))) count l h p q = p
takes (suc (suc (suc (suc (suc (suc zero)))))) count l h p q = p
takes (suc (suc (suc (suc (suc (suc (suc n))))))) count l h p q = absurd (omega arith)

tab_words : (f : ℕ → ℕ) (n : ℕ) (s : List ℕ) (at : ℕ) → ((k : ℕ) → k < n → f k ≡ word_at s (at + 2 * k)) → tab f 0 n ≡ words_at n s at
tab_words f n s at h =
    ext_get_or 0 (tab f 0 n) (words_at n s at) (length_tab f 0 n ∙ sym (words_length n s at))
    (λ k l. let m : k < n = rw (length_tab f 0 n) at l in get_d_tab f n k m ∙ h k m ∙ sym (words_at_lem n s at k m))

module _ {shape : Shape} (repeated : Bool) (s old : List ℕ) (ok : checked s ≡ Ok shape) (room : 9 * (shape.inputs + shape.gates) + shape.outputs ≤ length old) where
  form : Formed s shape
  form = formed s ok

  whole : 9 * (inputs_of s + gates_of s) + outputs_of s ≤ length old
  whole = let f = form in omega arith

  entries_long : length (words_at (outputs_of s) s (entries_at s)) ≡ outputs_of s
  entries_long = words_length (outputs_of s) s (entries_at s)

  rows_are : decoded repeated s old ≡ put_at (rows_from repeated (gates_of s) 0 s old) (9 * (inputs_of s + gates_of s)) (words_at (outputs_of s) s (entries_at s))
  unfolding decoded decoded_by early with_outputs
  rows_are = rw ok

  long_rows : length (decoded repeated s old) ≡ length old
  long_rows = ap length rows_are ∙ length_put (rows_from repeated (gates_of s) 0 s old) _ _ ∙ length_rows repeated (gates_of s) 0 s old

  fit : Fits s 0 (gates_of s)
  unfolding body
  fit = fits_all (gates_of s) 0 s _ (body_accepted shape s ok)

  -- number j of gate g's nine
  number : (g j : ℕ) → g < gates_of s → j < 9 → get_or (decoded repeated s old) (9 * (inputs_of s + g) + j) 0 ≡ get_or (row_of repeated s (place_of s g)) j 0
  number g j h m =
      let w = whole in
      let l = entries_long in
      let n = length_rows repeated (gates_of s) 0 s old in
      ap (λ (t : List ℕ). get_or t (9 * (inputs_of s + g) + j) 0) rows_are
      ∙ put_before (rows_from repeated (gates_of s) 0 s old) (9 * (inputs_of s + gates_of s)) (words_at (outputs_of s) s (entries_at s)) (omega arith) _ (omega arith)
      ∙ rw zero-add at (rows_own repeated (gates_of s) 0 s old fit (omega arith) g j h m)

  module _ (g : ℕ) (h : g < gates_of s) where
    at_record : RecordFormed s (place_of s g)
    at_record = let f = form in f.records g (omega arith)

    pin_is : (k : ℕ) → k < 8 → pin_in (decoded repeated s old) (inputs_of s + g) k ≡ row_pin repeated s (place_of s g + 2) (count_at s (place_of s g)) k
    pin_is k m = number g k h (omega arith) ∙ row_of_pin repeated s (place_of s g) k m

    word_is : word_in (decoded repeated s old) (inputs_of s + g) ≡ word_for (gate_kind s g) (count_at s (place_of s g))
    unfolding word_of
    word_is = number g 8 h (omega arith) ∙ row_of_word repeated s (place_of s g)

    count_is : count_in (word_in (decoded repeated s old) (inputs_of s + g)) ≡ count_at s (place_of s g)
    count_is = ap (λ (w : ℕ). count_in w) word_is ∙ word_count (gate_kind s g) (count_at s (place_of s g))

    pin_below : (k : ℕ) → k < count_at s (place_of s g) → pin_at s (place_of s g) k < inputs_of s + g
    pin_below k l = let f = form in omega (arith, f.pin_below g k (omega arith) l)

    past_below : (b : Bool) → past_of b s (place_of s g + 2) (count_at s (place_of s g)) < inputs_of s + g
    unfolding past_of
    past_below true = pin_below (count_at s (place_of s g) - 1) (omega (arith, at_record.count_some))
    past_below false = let f = form in omega (arith, f.inputs_low, f.inputs_are)

    below : (k : ℕ) → k < 8 → pin_in (decoded repeated s old) (inputs_of s + g) k < inputs_of s + g
    below k m = rw (pin_is k m) (go (ltb k (count_at s (place_of s g))) refl)
      where
        go : (b : Bool) → ltb k (count_at s (place_of s g)) ≡ b → row_pin repeated s (place_of s g + 2) (count_at s (place_of s g)) k < inputs_of s + g
        go true e =
            let l = ltb-true k (count_at s (place_of s g)) e in
            rw (← pin_own s (place_of s g + 2) (count_at s (place_of s g)) _ k l) (pin_below k l)
        go false e = rw (← pin_past s (place_of s g + 2) (count_at s (place_of s g)) _ k (ltb-false k (count_at s (place_of s g)) e)) (past_below repeated)

    past_last : repeated ≡ true → past_of repeated s (place_of s g + 2) (count_at s (place_of s g)) ≡ word_at s (place_of s g + 2 + 2 * (count_at s (place_of s g) - 1))
    unfolding past_of
    past_last e = rw e

    repeats : repeated ≡ true → (k : ℕ) → count_at s (place_of s g) ≤ k → k < 8
        → pin_in (decoded repeated s old) (inputs_of s + g) k ≡ pin_in (decoded repeated s old) (inputs_of s + g) (count_at s (place_of s g) - 1)
    repeats e k l m =
        let some = at_record.count_some in
        pin_is k m
        ∙ sym (pin_past s (place_of s g + 2) (count_at s (place_of s g)) _ k l)
        ∙ past_last e
        ∙ pin_own s (place_of s g + 2) (count_at s (place_of s g)) _ (count_at s (place_of s g) - 1) (omega arith)
        ∙ sym (pin_is (count_at s (place_of s g) - 1) (omega arith))

    gate_row : GateRow (decoded repeated s old) (inputs_of s + g)
    gate_row = record {
      inside = omega (arith, long_rows, whole);
      count_some = rw count_is at_record.count_some;
      count_eight = rw count_is at_record.count_eight;
      below = below;
    }

    gate_repeats : repeated ≡ true → Repeats (decoded repeated s old) (inputs_of s + g)
    gate_repeats e = rw count_is (repeats e)

    kind_is : kind_in (word_in (decoded repeated s old) (inputs_of s + g)) ≡ gate_kind s g
    kind_is =
        let r = at_record in
        ap kind_in word_is ∙ word_kind (gate_kind s g) (count_at s (place_of s g)) (takes (kind_at s (place_of s g)) _ r.kind_low r.kind_high r.count_low r.count_high)

    pins_are : row_pins (decoded repeated s old) (inputs_of s + g) ≡ gate_pins s g
    unfolding row_pins
    pins_are =
        rw count_is
        (tab_words (pin_in (decoded repeated s old) (inputs_of s + g)) (count_at s (place_of s g)) s (place_of s g + 2)
        (λ k l. pin_is k (omega (arith, at_record.count_eight)) ∙ sym (pin_own s (place_of s g + 2) (count_at s (place_of s g)) _ k l)))

  output_is : (o : ℕ) → o < outputs_of s → output_in (decoded repeated s old) (inputs_of s + gates_of s) o ≡ output_at s o
  output_is o h =
      let w = whole in
      let l = entries_long in
      let n = length_rows repeated (gates_of s) 0 s old in
      ap (λ (t : List ℕ). get_or t (9 * (inputs_of s + gates_of s) + o) 0) rows_are
      ∙ put_own (rows_from repeated (gates_of s) 0 s old) (9 * (inputs_of s + gates_of s)) (words_at (outputs_of s) s (entries_at s)) (omega arith) o (omega arith)
      ∙ words_at_lem (outputs_of s) s (entries_at s) o h

  pub decoded_rows : Decoded repeated s (decoded repeated s old)
  decoded_rows = record {
    long = omega (arith, long_rows, whole);
    gate = gate_row;
    repeats = λ e g h. gate_repeats g h e;
    kinds_are = kind_is;
    pins_are = pins_are;
    outputs_are = output_is;
  }

-- the card in the rows is the card that the bytes describe
pub decoded_sources : {repeated : Bool} {s rows : List ℕ} → Decoded repeated s rows → {A : Type 0} (other : A) (v : ℕ → A)
    → sources (card_in rows (inputs_of s) (gates_of s)) other v ≡ sources (card_of s) other v
unfolding card_in card_of
decoded_sources {s = s} {rows = rows} d other v =
    fun_ext
    (sources_cases (card_in rows (inputs_of s) (gates_of s)) other v (λ n c. c ≡ sources (card_of s) other v n)
    (λ i h. sym (sources_input (card_of s) other v i h))
    (λ g h. ap₂ gate (d.kinds_are g h) (d.pins_are g h) ∙ sym (sources_gate (card_of s) other v g h))
    (λ n h. sym (sources_above (card_of s) other v n h)))
