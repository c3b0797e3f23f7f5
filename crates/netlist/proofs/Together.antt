-- A record's pins looked at together: where all are below the bound, none is refused. Assumes nothing.
use Prim.Native.Nat.{ℕ, zero, suc, ◌+◌, ◌*◌, ◌≤◌, ◌<◌}
use native.Mathlib.Omega.{arith}
use native.Mathlib.Nat.{add-zero}
use mathlib.Core.Path.{◌≡◌, refl, sym, ◌∙◌}
use mathlib.Core.Bool.{Bool, true}
use mathlib.Core.List.{List, [], ◌∷◌}
use borrow.Author.Tests.{ltb-true, lt-leb}
use lib.Dec.{ltb}
use lib.ListN.{length, get_or}
use Rattle.std.specs.Cmp.{first_so, second_so}
use Rattle.kung.specs.Rule.{each}
use Rattle.words.specs.Words.{word_at}
use Rattle.refusals.specs.declared.Refusal.{Refusal}
use Rattle.refusals.proofs.Laws.{pass}
use Rattle.making.specs.Making.{own_at}
use Rattle.making.proofs.Making.{eight_length, eight_pin, pin_own}
use Rattle.netlist.specs.Netlist.{Checked, words_below}

each_at : (f : ℕ → Bool) (xs : List ℕ) (k : ℕ) → each f xs ≡ true → k < length xs → f (get_or xs k 0) ≡ true
unfolding each
each_at f [] k e h = absurd (omega arith)
each_at f (x ∷ xs) zero e h = first_so (f x) (each f xs) e
each_at f (x ∷ xs) (suc k) e h = each_at f xs k (second_so (f x) (each f xs) e) (omega arith)

pub words_pass : (n : ℕ) (s : List ℕ) (at bound : ℕ) (refusal : (at : ℕ) → Refusal) (next : Checked) → ((k : ℕ) → k < n → word_at s (at + 2 * k) < bound) → words_below n s at bound refusal next ≡ next
unfolding words_below
words_pass zero s at bound refusal next h = refl
words_pass (suc n) s at bound refusal next h =
    pass _ _ _ (lt-leb bound (word_at s at) (rw add-zero at (h 0 (omega arith))))
    ∙ words_pass n s (at + 2) bound refusal next (λ k l. let e : at + 2 * suc k ≡ at + 2 + 2 * k = omega arith in rw e at (h (suc k) (omega arith)))

pub all_passed : (s : List ℕ) (at bound count : ℕ) → count ≤ 8 → each (λ x. ltb x bound) (own_at s at count) ≡ true
    → (refusal : (at : ℕ) → Refusal) (next : Checked) → words_below count s at bound refusal next ≡ next
all_passed s at bound count h e refusal next =
    words_pass count s at bound refusal next
    (λ j l. rw (eight_pin s at count 0 j (omega arith) ∙ sym (pin_own s at count 0 j l)) at (ltb-true _ bound (each_at (λ x. ltb x bound) (own_at s at count) j e (rw eight_length (omega arith)))))
