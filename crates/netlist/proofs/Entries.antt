-- The output entries, one by one. Assumes nothing.
use Prim.Native.Nat.{ℕ, ◌+◌, ◌-◌, ◌*◌, ◌≤◌, ◌<◌}
use native.Mathlib.Nat.{sub-zero, add-zero}
use mathlib.Core.Path.{◌≡◌, ◌∙◌}
use mathlib.Core.List.{List}
use borrow.Author.Tests.{lt-ltb, le-ltb}
use lib.Dec.{ltb}
use lib.ListN.{length}
use Rattle.std.specs.Prelude.{Err}
use Rattle.words.specs.Words.{word_at}
use Rattle.refusals.specs.declared.Refusal.TheVariants.{CutOff, Entry, BytesLeft}
use Rattle.refusals.specs.Refusal.{refuse}
use Rattle.refusals.proofs.Laws.{stop, pass}
use Rattle.netlist.specs.Netlist.{inputs_of, gates_of, outputs_of, entries_at, outputs_end, words_below, outputs, accepted}
use Rattle.netlist.proofs.Laws.{place_pins}
use Rattle.netlist.proofs.Refusals.{words_stop, words_more, words_end}

pub entries_cut : (s : List ℕ) → length s < outputs_end s → outputs s (accepted s) ≡ Err (CutOff (entries_at s))
unfolding outputs
entries_cut s h = stop _ _ _ (lt-ltb (length s) (outputs_end s) h)

-- the first k are passed
pub record EntriesPassed (s : List ℕ) (k : ℕ) : Type 0 where
  pub left : outputs s (accepted s)
      ≡ words_below (outputs_of s - k) s (entries_at s + 2 * k) (inputs_of s + gates_of s) Entry
      (refuse (ltb (outputs_end s) (length s)) (BytesLeft (outputs_end s)) (accepted s))

pub entries_first : (s : List ℕ) → outputs_end s ≤ length s → EntriesPassed s 0
unfolding outputs
entries_first s h = record { left = rw (sub-zero, add-zero) (pass _ _ _ (le-ltb (length s) (outputs_end s) h)) }

module _ {s : List ℕ} {k : ℕ} (p : EntriesPassed s k) where
  -- by the place and the word that the code has read
  module _ (more : k < outputs_of s) {at word : ℕ} (a : at ≡ entries_at s) (e : word ≡ word_at s (at + 2 * k)) where
    pub entries_more : word < inputs_of s + gates_of s → EntriesPassed s (k + 1)
    entries_more h = record { left = p.left ∙ words_more _ _ _ _ _ _ _ more (rw a at e) h }

    pub entry_refused : inputs_of s + gates_of s ≤ word → outputs s (accepted s) ≡ Err (Entry (at + 2 * k))
    entry_refused h = rw a (p.left ∙ words_stop _ _ _ _ _ _ _ more (rw a at e) h)

  module _ (all : outputs_of s ≤ k) where
    pub bytes_left : outputs_end s < length s → outputs s (accepted s) ≡ Err (BytesLeft (outputs_end s))
    bytes_left h = p.left ∙ words_end _ _ _ _ _ _ _ all ∙ stop _ _ _ (lt-ltb (outputs_end s) (length s) h)

    pub entries_accepted : length s ≤ outputs_end s → outputs s (accepted s) ≡ accepted s
    entries_accepted h = p.left ∙ words_end _ _ _ _ _ _ _ all ∙ pass _ _ _ (le-ltb (outputs_end s) (length s) h)

-- what `check_outputs` asks up to the first entry, and past the last
pub ruleset entries = (place_pins, entries_cut, entries_first, bytes_left)
