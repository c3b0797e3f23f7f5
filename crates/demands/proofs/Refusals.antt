-- Demand 1: a refusal is given exactly where it is the first condition met, a verdict exactly where none is. Assumes nothing.
use Rattle.std.specs.Prelude.{Result, Ok, Err}
use Rattle.std.proofs.Common.{◌≡◌, ℕ, Bool, true, false, cond, leb, ◌↔◌, List, sym, refl, ap, ◌∙◌, subst, le-leb, leb-false, leb-true}
use mathlib.Core.Bool.{false≢true}
use borrow.Author.Tests.{lt-leb}
use Rattle.refusals.specs.declared.Refusal.{Refusal}
use Rattle.refusals.specs.declared.Refusal.TheVariants.{NoChange}
use Rattle.netlist.specs.Formed.{Formed}
use Rattle.netlist.specs.declared.Shape.{Shape}
use Rattle.netlist.proofs.Accepted.{formed}
use Rattle.changes.specs.Refusals.{Listed, list_checked}
use Rattle.changes.proofs.Accepted.{listed}
use Rattle.demands.specs.Demands.{ListAccepted, Accepted, FirstMet, by_list, by_change, by_last}

-- An operation's chain: the list's refusal, no such change, one condition more by the accepted numbers, else the verdict.
module _ {A : Type 0} (verdict : A) (lastMet : Shape → Bool) (lastly : Refusal) (change : ℕ) where
  abbrev pub chain : Listed → Result A Refusal
  chain (Err refusal) = Err refusal
  chain (Ok task) = cond (leb task.changes change) (Err NoChange) (cond (lastMet task.shape) (Err lastly) (Ok verdict))

  -- a refusal exactly where it is the first, the verdict exactly where none is met
  pub record Cases (n l : List ℕ) (last : Type 0) : Type 0 where
    pub refused : (refusal : Refusal) → (chain (list_checked n l) ≡ Err refusal) ↔ FirstMet n l change last lastly refusal
    pub answered : (chain (list_checked n l) ≡ Ok verdict) ↔ (Accepted n l change × (last → ⊥))

  module _ (n l : List ℕ) (last : Type 0) (holds : (on : ListAccepted n l) → (lastMet on.task.shape ≡ true) ↔ last)
      (fails : (on : ListAccepted n l) → (last → ⊥) → lastMet on.task.shape ≡ false) where
    -- what the chain gives: the first refusal, or the verdict
    data Given : Result A Refusal → Type 0 where
      first : (refusal : Refusal) → FirstMet n l change last lastly refusal → Given (Err refusal)
      none : Accepted n l change × (last → ⊥) → Given (Ok verdict)

    given : (x : Listed) → list_checked n l ≡ x → Given (chain x)
    given (Err refusal) d = first refusal (by_list d)
    given (Ok task) d = tests (leb task.changes change) (lastMet task.shape) refl refl
      where
        on : ListAccepted n l
        on = record { task = task; list_accepted_lem = d }

        tests : (a b : Bool) → leb task.changes change ≡ a → lastMet task.shape ≡ b → Given (cond a (Err NoChange) (cond b (Err lastly) (Ok verdict)))
        tests true b late _ = first NoChange (by_change on (leb-true task.changes change late) refl)
        tests false true early met = first lastly (by_last (record { on = on; in_range = leb-false task.changes change early }) ((holds on).0 met) refl)
        tests false false early passed =
            none (record { on = on; in_range = leb-false task.changes change early }, λ h. false≢true (sym passed ∙ (holds on).1 h))

    refused_first : (refusal : Refusal) → chain (list_checked n l) ≡ Err refusal → FirstMet n l change last lastly refusal
    refused_first refusal = go _ (given (list_checked n l) refl)
      where
        go : (x : Result A Refusal) → Given x → x ≡ Err refusal → FirstMet n l change last lastly refusal
        go _ (first met f) e = let same : met ≡ refusal = cc in subst (FirstMet n l change last lastly) same f
        go _ (none a) e = cc

    answered_none : chain (list_checked n l) ≡ Ok verdict → Accepted n l change × (last → ⊥)
    answered_none = go _ (given (list_checked n l) refl)
      where
        go : (x : Result A Refusal) → Given x → x ≡ Ok verdict → Accepted n l change × (last → ⊥)
        go _ (first met f) e = cc
        go _ (none a) e = a

    first_refused : (refusal : Refusal) → FirstMet n l change last lastly refusal → chain (list_checked n l) ≡ Err refusal
    first_refused refusal (by_list e) = ap chain e
    first_refused refusal (by_change on late is) = ap chain on.list_accepted_lem ∙ rw (le-leb on.task.changes change late) (ap Err (sym is))
    first_refused refusal (by_last a h is) =
        ap chain a.on.list_accepted_lem ∙ rw (lt-leb a.on.task.changes change a.in_range, (holds a.on).1 h) (ap Err (sym is))

    none_answered : Accepted n l change × (last → ⊥) → chain (list_checked n l) ≡ Ok verdict
    none_answered h =
        ap chain h.0.on.list_accepted_lem
        ∙ rw (lt-leb h.0.on.task.changes change h.0.in_range, fails h.0.on h.1)

    pub cases : Cases n l last
    cases = record { refused = λ refusal. (refused_first refusal, first_refused refusal); answered = (answered_none, none_answered) }

-- the accepted numbers are those of the netlist
pub form : {n l : List ℕ} (on : ListAccepted n l) → Formed n on.task.shape
form {n} {l} on = formed n (listed n l on.list_accepted_lem).netlist_accepted
