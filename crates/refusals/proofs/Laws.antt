-- A step of a check, for any type of answer. Assumes nothing.
use Rattle.std.specs.Prelude.{◌≡◌, Bool, true, false, Result, Ok, Err}
use mathlib.Core.Path.{refl}
use Rattle.refusals.specs.declared.Refusal.{Refusal}
use Rattle.refusals.specs.Refusal.{refuse}

pub stop : {A : Type 0} (met : Bool) (refusal : Refusal) (next : Result A Refusal) → met ≡ true → refuse met refusal next ≡ Err refusal
unfolding refuse
stop met refusal next e = rw e

pub pass : {A : Type 0} (met : Bool) (refusal : Refusal) (next : Result A Refusal) → met ≡ false → refuse met refusal next ≡ next
unfolding refuse
pass met refusal next e = rw e

-- no refusal is an answer
pub refused_not : {A : Type 0} (refusal : Refusal) (answer : A) → ◌≡◌ {A = Result A Refusal} (Err refusal) (Ok answer) → ⊥
refused_not refusal answer h = cc

-- an answer that is no refusal was passed on
pub passed : {A : Type 0} (met : Bool) (refusal : Refusal) (next : Result A Refusal) (answer : A)
    → refuse met refusal next ≡ Ok answer → (met ≡ false) × (next ≡ Ok answer)
unfolding refuse
passed true refusal next answer h = absurd (refused_not refusal answer h)
passed false refusal next answer h = (refl, h)
