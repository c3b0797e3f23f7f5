-- A part of the check refuses whatever follows it, or lets whatever follows through. Assumes nothing.
use Prim.Native.Nat.{ℕ, zero, suc, ◌≤◌}
use native.Mathlib.Omega.{arith}
use mathlib.Core.Path.{◌≡◌, refl, sym, ◌∙◌, ap}
use mathlib.Core.Logic.{◌⊎◌, inl, inr}
use mathlib.Core.Bool.{Bool, true, false}
use mathlib.Core.List.{List}
use borrow.Author.Tests.{le-ltb}
use Rattle.std.specs.Prelude.{Ok, Err}
use Rattle.refusals.specs.declared.Refusal.{Refusal}
use Rattle.refusals.specs.declared.Refusal.TheVariants.{Pin, Entry}
use Rattle.refusals.specs.Refusal.{number_of, refuse}
use Rattle.refusals.proofs.Laws.{refused_not}
use Rattle.netlist.specs.declared.Shape.{Shape}
use Rattle.netlist.specs.Netlist.{Checked, gates_of, words_below, record_at, records_from, outputs, accepted, body}
use Rattle.netlist.specs.Decoded.{passes, record_fits, early}

-- a refusal that is found once records are read
abbrev Refuses : (Checked → Checked) → Type 0
Refuses f = (refusal : Refusal) × (5 ≤ number_of refusal) × ((next : Checked) → f next ≡ Err refusal)

abbrev pub Passes : (Checked → Checked) → Type 0
Passes f = (next : Checked) → f next ≡ next

abbrev Part : (Checked → Checked) → Type 0
Part f = Refuses f ⊎ Passes f

part_refuse : (met : Bool) (refusal : Refusal) → 5 ≤ number_of refusal → Part (refuse met refusal)
unfolding refuse
part_refuse true refusal h = inl (refusal, h, λ next. refl)
part_refuse false refusal h = inr (λ next. refl)

part_then : (f g : Checked → Checked) → Part f → Part g → Part (λ next. f (g next))
part_then f g (inl (refusal, h, r)) q = inl (refusal, h, λ next. r (g next))
part_then f g (inr p) (inl (refusal, h, r)) = inl (refusal, h, λ next. p (g next) ∙ r next)
part_then f g (inr p) (inr q) = inr (λ next. p (g next) ∙ q next)

part_words : (n : ℕ) (s : List ℕ) (at bound : ℕ) (refusal : (at : ℕ) → Refusal) → ((at : ℕ) → 5 ≤ number_of (refusal at)) → Part (words_below n s at bound refusal)
unfolding words_below
part_words zero s at bound refusal h = inr (λ next. refl)
part_words (suc n) s at bound refusal h = part_then _ _ (part_refuse _ _ (h at)) (part_words n s _ bound refusal h)

part_record : (s : List ℕ) (signal at : ℕ) → Part (record_at s signal at)
unfolding record_at
part_record s signal at =
    part_then _ _ (part_refuse _ _ (omega arith))
    (part_then _ _ (part_refuse _ _ (omega arith))
    (part_then _ _ (part_refuse _ _ (omega arith))
    (part_then _ _ (part_refuse _ _ (omega arith))
    (part_words _ s _ signal Pin (λ k. omega arith)))))

part_records : (n g : ℕ) (s : List ℕ) → Part (records_from n g s)
unfolding records_from
part_records zero g s = inr (λ next. refl)
part_records (suc n) g s = part_then _ _ (part_record s _ _) (part_records n (suc g) s)

part_outputs : (s : List ℕ) → Part (outputs s)
unfolding outputs
part_outputs s =
    part_then _ _ (part_refuse _ _ (omega arith))
    (part_then _ _ (part_words _ s _ _ Entry (λ k. omega arith)) (part_refuse _ _ (omega arith)))

-- what follows the counts is not refused early
pub body_late : (s : List ℕ) → early (body s) ≡ false
unfolding body early accepted
body_late s = go (part_then (records_from (gates_of s) 0 s) (outputs s) (part_records (gates_of s) 0 s) (part_outputs s))
  where
    go : Part (λ next. records_from (gates_of s) 0 s (outputs s next)) → early (body s) ≡ false
    go (inl (refusal, h, r)) = ap early (r (accepted s)) ∙ le-ltb (number_of refusal) 5 h
    go (inr p) = ap early (p (accepted s))

-- whether a record fits, from what it does to what follows
module _ (s : List ℕ) (signal at : ℕ) where
  pub fits_not : {refusal : Refusal} → ((next : Checked) → record_at s signal at next ≡ Err refusal) → record_fits s signal at ≡ false
  unfolding record_fits passes
  fits_not r = ap passes (r (accepted s))

  pub fits : Passes (record_at s signal at) → record_fits s signal at ≡ true
  unfolding record_fits passes accepted
  fits p = ap passes (p (accepted s))

  -- an accepted netlist's record fits
  pub fits_accepted : {shape : Shape} (next : Checked) → record_at s signal at next ≡ Ok shape → (record_fits s signal at ≡ true) × (next ≡ Ok shape)
  fits_accepted {shape} next e = go (part_record s signal at)
    where
      go : Part (record_at s signal at) → (record_fits s signal at ≡ true) × (next ≡ Ok shape)
      go (inl (refusal, h, r)) = absurd (refused_not refusal shape (sym (r next) ∙ e))
      go (inr p) = (fits p, sym (p next) ∙ e)
