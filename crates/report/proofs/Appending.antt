-- Texts appended one after the other. Assumes nothing.
use mathlib.Core.Path.{◌≡◌, refl, ap, ◌∙◌}
use mathlib.Core.List.{List, [], ◌∷◌, ◌++◌, append_assoc, append-nil}
use Prim.Native.Nat.{ℕ, ◌≤◌}
use native.Mathlib.Nat.{add-zero}
use native.Mathlib.Omega.{arith}
use lib.ListN.{length, length-append, take-append-drop}
use Rattle.report.specs.declared.Text.{Text}
use Rattle.report.specs.Text.{line}
use Rattle.report.specs.Placed.{Placed}
use Rattle.report.specs.Appended.{Fits, Appended}
use Rattle.report.proofs.Placing.{long, ◌behind◌, appended}

pub nothing : (a : Text) → a.written ≤ length a.bytes.now → Appended a a []
nothing a h = record {
  same_buffer = refl;
  room = omega arith;
  written = omega arith;
  bytes = simp (add-zero, append-nil, take-append-drop);
}

-- an append places its bytes where the text ended
placed : {a b : Text} {t : List ℕ} → Appended a b t → Placed a.bytes.now b.bytes.now a.written b.written t
placed p = record { room = p.room; after = p.written; bytes = p.bytes }

-- so it keeps the buffer's length
pub kept : {a b : Text} {t : List ℕ} → Appended a b t → length b.bytes.now ≡ length a.bytes.now
kept p = long (placed p)

infixr 20 ◌then◌
pub ◌then◌ : {a b c : Text} {t u : List ℕ} → Appended a b t → Appended b c u → Appended a c (t ++ u)
◌then◌ p q = appended (q.same_buffer ∙ p.same_buffer) (placed p behind placed q)

-- a line is its first word, a blank and the line of the others
line_words : (word next : List ℕ) (rest : List (List ℕ)) → line word (next ∷ rest) ≡ (word ++ (32 ∷ [])) ++ line next rest
unfolding line
line_words word next rest = simp append_assoc

-- what is left of a line fits
pub record FitsLine (a : Text) (word : List ℕ) (rest : List (List ℕ)) : Type 0 where
  pub whole : Fits a (line word rest)

-- its next word, and what is left after it
pub next_word : {a : Text} {word next : List ℕ} {rest : List (List ℕ)} → FitsLine a word (next ∷ rest) → Fits a (word ++ (32 ∷ []))
next_word {a} {word} {next} {rest} f =
    record { room = omega (arith, f.whole.room, ap length (line_words word next rest), length-append (word ++ (32 ∷ [])) (line next rest)) }

infixl 20 ◌past◌
pub ◌past◌ : {a b : Text} {word next : List ℕ} {rest : List (List ℕ)} → FitsLine a word (next ∷ rest) → Appended a b (word ++ (32 ∷ [])) → FitsLine b next rest
◌past◌ {a} {b} {word} {next} {rest} f p = record {
  whole = record {
    room =
        omega
        (arith, f.whole.room, p.written, kept p, ap length (line_words word next rest), length-append (word ++ (32 ∷ [])) (line next rest));
  };
}

pub last_word : {a : Text} {word : List ℕ} → FitsLine a word [] → Fits a (word ++ (10 ∷ []))
unfolding line
last_word f = f.whole
