-- `checked` accepts exactly the proper bytes, and its refusal is the first condition met. Assumes nothing.
use Prim.Native.Nat.{ℕ, zero, suc, ◌+◌, ◌<◌}
use native.Mathlib.Omega.{arith}
use native.Mathlib.Nat.{add-zero, zero-add}
use mathlib.Core.Path.{◌≡◌, refl, sym, ◌∙◌}
use mathlib.Core.Bool.{Bool, true, false, cond}
use mathlib.Core.List.{List, [], ◌∷◌, ◌++◌}
use borrow.Author.Tests.{le-ltb, ltb-false, eqb-true, not-false}
use lib.ListN.{length}
use Rattle.std.specs.Prelude.{Result, Ok, Err}
use Rattle.circuit.specs.Circuit.{Each}
use Rattle.words.specs.Words.{outside}
use Rattle.words.proofs.Laws.{inside}
use Rattle.refusals.specs.declared.Refusal.{Refusal}
use Rattle.refusals.specs.declared.Refusal.TheVariants.{Count, Pin, Entry}
use Rattle.refusals.specs.Refusal.{refuse}
use Rattle.refusals.proofs.Laws.{pass, refused_not}
use Rattle.records.specs.Records.{kind_at, count_at, no_kind, least_pins, most_pins}
use Rattle.netlist.specs.declared.Shape.{Shape}
use Rattle.netlist.specs.Netlist.{Checked, inputs_of, gates_of, outputs_of, place_of, entries_at, outputs_end}
use Rattle.netlist.specs.Netlist.{words_below, record_at, records_from}
use Rattle.netlist.specs.Netlist.{opening, counts, outputs, accepted, shape_of, body, body_within, checked_within, checked}
use Rattle.netlist.specs.Proper.{ProperRecord, Proper, Condition, when, first_met}
use Rattle.netlist.specs.Proper.{word_conditions, head_conditions, record_conditions, records_conditions, output_conditions, conditions}
use Rattle.netlist.proofs.Refusals.{opening_pass, counts_body, body_within_lem}
use Rattle.netlist.proofs.Accepted.{formed}
use Rattle.netlist.proofs.Together.{words_pass}

-- proper bytes pass each step of the chain
record_proper : (s : List ℕ) (signal at : ℕ) (next : Checked) → ProperRecord s signal at → record_at s signal at next ≡ next
unfolding record_at no_kind
record_proper s signal at next r =
    pass _ _ _ (le-ltb (length s) (at + 2) (omega (arith, r.room)))
    ∙ pass _ _ _ (inside 1 6 (kind_at s at) r.kind_low r.kind_high)
    ∙ pass _ _ _ (inside (least_pins (kind_at s at)) (most_pins (kind_at s at)) (count_at s at) r.count_low r.count_high)
    ∙ pass _ _ _ (le-ltb (length s) _ r.room)
    ∙ words_pass (count_at s at) s (at + 2) signal Pin next r.pin_below

records_proper : (n g : ℕ) (s : List ℕ) (next : Checked) → ((k : ℕ) → k < n → ProperRecord s (inputs_of s + (g + k)) (place_of s (g + k)))
    → records_from n g s next ≡ next
unfolding records_from
records_proper zero g s next h = refl
records_proper (suc n) g s next h =
    record_proper s (inputs_of s + g) (place_of s g) _ (rw (add-zero g) at (h 0 (omega arith)))
    ∙ records_proper n (suc g) s next (λ k l. let e : g + suc k ≡ suc g + k = omega arith in rw e at (h (suc k) (omega arith)))

outputs_proper : (s : List ℕ) (next : Checked) → Proper s → outputs s next ≡ next
unfolding outputs
outputs_proper s next p =
    pass _ _ _ (le-ltb (length s) (outputs_end s) (omega (arith, p.whole)))
    ∙ words_pass (outputs_of s) s (entries_at s) (inputs_of s + gates_of s) Entry _ p.output_below
    ∙ pass _ _ _ (le-ltb (outputs_end s) (length s) (omega (arith, p.whole)))

pub proper→accepted : (s : List ℕ) → Proper s → checked s ≡ accepted s
unfolding checked checked_within body
proper→accepted s p =
    let inputs : outside 1 256 (inputs_of s) ≡ false = inside 1 256 (inputs_of s) p.inputs_low p.inputs_high in
    let gates : outside 0 2048 (gates_of s) ≡ false = inside 0 2048 (gates_of s) (omega arith) p.gates_high in
    opening_pass 1 s _ p.long p.mark p.version
    ∙ counts_body s inputs gates (inside 1 64 (outputs_of s) p.outputs_low p.outputs_high)
    ∙ records_proper (gates_of s) 0 s _ (λ g l. rw zero-add (p.records g l))
    ∙ outputs_proper s (accepted s) p

-- lists of conditions, for any kind of answer
unfoldable pub Unmet : Condition → Type 0
Unmet (when met refusal) = met ≡ false

module _ {A : Type 0} where
  pub first_append : (a b : List Condition) (answer : Result A Refusal) → first_met (a ++ b) answer ≡ first_met a (first_met b answer)
  unfolding first_met
  first_append [] b answer = refl
  first_append (when met refusal ∷ a) b answer = rw (first_append a b answer)

  -- an answer that is no refusal is given where no condition is met
  pub none_met : (conditions : List Condition) (next : Result A Refusal) (answer : A)
      → first_met conditions next ≡ Ok answer → Each Unmet conditions × (next ≡ Ok answer)
  unfolding first_met Unmet
  none_met [] next answer h = (tt, h)
  none_met (when true refusal ∷ rest) next answer h = absurd (refused_not refusal answer h)
  none_met (when false refusal ∷ rest) next answer h = let r = none_met rest next answer h in ((refl, r.0), r.1)

-- each chain of refusals is the list of its conditions
words_first : (n : ℕ) (s : List ℕ) (at bound : ℕ) (refusal : (at : ℕ) → Refusal) (next : Checked)
    → words_below n s at bound refusal next ≡ first_met (word_conditions n s at bound refusal) next
unfolding words_below word_conditions first_met refuse
words_first zero s at bound refusal next = refl
words_first (suc n) s at bound refusal next = rw (words_first n s (at + 2) bound refusal next)

record_first : (s : List ℕ) (signal at : ℕ) (next : Checked) → record_at s signal at next ≡ first_met (record_conditions s signal at) next
unfolding record_at record_conditions first_met refuse
record_first s signal at next = rw (words_first (count_at s at) s (at + 2) signal Pin next)

records_first : (n g : ℕ) (s : List ℕ) (next : Checked) → records_from n g s next ≡ first_met (records_conditions n g s) next
unfolding records_from records_conditions first_met
records_first zero g s next = refl
records_first (suc n) g s next = rw (record_first s _ _ _, records_first n (suc g) s next, first_append (record_conditions s _ _) _ next)

outputs_first : (s : List ℕ) (next : Checked) → outputs s next ≡ first_met (output_conditions s) next
unfolding outputs output_conditions first_met refuse
outputs_first s next = rw (words_first (outputs_of s) s (entries_at s) (inputs_of s + gates_of s) Entry _, first_append (word_conditions _ _ _ _ _) _ next)

-- the check's limit on the signals is none where the counts are in range, so the list of conditions has it not
counts_first : (s : List ℕ) → counts s (body_within 2304 s) ≡ counts s (body s)
unfolding counts refuse
counts_first s = go (outside 1 256 (inputs_of s)) refl (outside 0 2048 (gates_of s)) refl
  where
    go : (a : Bool) → outside 1 256 (inputs_of s) ≡ a → (b : Bool) → outside 0 2048 (gates_of s) ≡ b
        → cond a (Err (Count 5)) (cond b (Err (Count 7)) (cond (outside 1 64 (outputs_of s)) (Err (Count 9)) (body_within 2304 s)))
        ≡ cond a (Err (Count 5)) (cond b (Err (Count 7)) (cond (outside 1 64 (outputs_of s)) (Err (Count 9)) (body s)))
    go true d b f = refl
    go false d true f = refl
    go false d false f = rw (body_within_lem s d f)

head_first : (s : List ℕ) (next : Checked) → opening 1 s (counts s next) ≡ first_met (head_conditions s) next
unfolding opening counts head_conditions first_met refuse
head_first s next = refl

pub first_refusal : (s : List ℕ) → checked s ≡ first_met (conditions s) (accepted s)
unfolding checked checked_within body conditions
first_refusal s =
    rw (
      counts_first s,
      head_first s _,
      records_first (gates_of s) 0 s _,
      outputs_first s _,
      first_append (head_conditions s ++ records_conditions (gates_of s) 0 s) _ _,
      first_append (head_conditions s) _ _,
    )

pub accepted→proper : {shape : Shape} (s : List ℕ) → checked s ≡ Ok shape → Proper s
unfolding conditions head_conditions accepted shape_of Unmet
accepted→proper {shape} s h =
    let passed = none_met (conditions s) (accepted s) shape (sym (first_refusal s) ∙ h) in
    let f = formed s (h ∙ sym passed.1) in
    record {
      long = ltb-false _ _ passed.0.0;
      mark = not-false _ passed.0.1.0;
      version = eqb-true _ _ (not-false _ passed.0.1.1.0);
      inputs_low = f.inputs_low;
      inputs_high = f.inputs_high;
      gates_high = f.gates_high;
      outputs_low = f.outputs_low;
      outputs_high = f.outputs_high;
      records = λ n l. let r = f.records n l in record {
        kind_low = r.kind_low;
        kind_high = r.kind_high;
        count_low = r.count_low;
        count_high = r.count_high;
        room = r.room;
        pin_below = λ k j. f.pin_below n k l j;
      };
      output_below = f.output_below;
      whole = f.whole;
    }
