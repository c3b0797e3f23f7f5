-- A record up to its pins as the first part of the record. Assumes nothing.
use Prim.Native.Nat.{ℕ, ◌+◌}
use mathlib.Core.Path.{◌≡◌, refl, ◌∙◌}
use mathlib.Core.Bool.{Bool, true, false}
use mathlib.Core.List.{List}
use Rattle.std.specs.Prelude.{Result, Ok, Err}
use Rattle.refusals.specs.declared.Refusal.{Refusal}
use Rattle.refusals.specs.declared.Refusal.TheVariants.{Pin}
use Rattle.refusals.specs.Refusal.{refuse}
use Rattle.records.specs.declared.Head.{Head}
use Rattle.records.specs.Records.{count_at}
use Rattle.records.specs.Reading.{head_at}
use Rattle.records.proofs.Heads.{head_told}
use Rattle.netlist.specs.Netlist.{Checked, words_below, record_at}

-- what is refused up to the pins is refused; else the pins decide
by_head : Result Head Refusal → Checked → Checked
by_head (Ok head) next = next
by_head (Err refusal) next = Err refusal

by_refuse : (met : Bool) (refusal : Refusal) (head : Result Head Refusal) (next : Checked)
    → by_head (refuse met refusal head) next ≡ refuse met refusal (by_head head next)
unfolding refuse by_head
by_refuse true refusal head next = refl
by_refuse false refusal head next = refl

module _ (s : List ℕ) (signal at : ℕ) (next : Checked) where
  record_head : record_at s signal at next ≡ by_head (head_at s at) (words_below (count_at s at) s (at + 2) signal Pin next)
  unfolding record_at head_at by_head
  record_head = rw (by_refuse, by_refuse, by_refuse, by_refuse)

  pub record_refused : {refusal : Refusal} → head_at s at ≡ Err refusal → record_at s signal at next ≡ Err refusal
  unfolding by_head
  record_refused e = record_head ∙ rw e

  pub record_pins : {head : Head} → head_at s at ≡ Ok head → record_at s signal at next ≡ words_below head.count s (at + 2) signal Pin next
  unfolding by_head
  record_pins e = record_head ∙ rw (e, (head_told s at e).count_is)
