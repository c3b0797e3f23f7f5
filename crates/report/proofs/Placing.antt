-- Bytes placed in a buffer one after the other. Assumes nothing.
use mathlib.Core.Path.{◌≡◌, refl, sym, ap, ap₂, ◌∙◌}
use mathlib.Core.List.{List, [], ◌∷◌, ◌++◌, append_assoc}
use Prim.Native.Nat.{ℕ, ◌+◌, ◌<◌}
use native.Mathlib.Nat.{add_assoc}
use native.Mathlib.Numerals.{add-one}
use native.Mathlib.Omega.{arith}
use lib.ListN.{length, take, drop, set, length-append, length-drop}
use lib.Seq.{length-take-le, drop-append-add, take_at, drop-drop, set_split, append_snoc}
use Rattle.report.specs.declared.Text.{Text}
use Rattle.report.specs.Placed.{Placed}
use Rattle.report.specs.Appended.{Appended}

pub one : (a : List ℕ) (at e : ℕ) → at < length a → Placed a (set a at e) at (at + 1) (e ∷ [])
one a at e h = record {
  room = omega arith;
  after = refl;
  bytes = rw (add-one, append_snoc) (set_split a at e h);
}

-- they keep the buffer's length
pub long : {a b t : List ℕ} {at r : ℕ} → Placed a b at r t → length b ≡ length a
long {a} {b} {t} {at} p =
    ap length p.bytes ∙ simp (length-append, length-drop) (omega (arith, length-take-le at a (omega (arith, p.room)), p.room))

infixr 20 ◌behind◌
pub ◌behind◌ : {a b c t u : List ℕ} {at r s : ℕ} → Placed a b at r t → Placed b c r s u → Placed a c at s (t ++ u)
◌behind◌ {a} {b} {c} {t} {u} {at} {r} {s} p q = record {
  room = simp length-append (omega (arith, p.room, p.after, q.room, long p));
  after = simp length-append (omega (arith, p.after, q.after));
  bytes = q.bytes ∙ ap₂ (λ x y. (x ++ u) ++ y) front back ∙ simp (append_assoc, length-append, add_assoc);
}
  where
    head : length (take at a ++ t) ≡ r
    head = simp length-append (omega (arith, length-take-le at a (omega (arith, p.room)), p.after))

    front : take r b ≡ take at a ++ t
    front = ap (take r) p.bytes ∙ take_at (take at a ++ t) _ r head

    back : drop (r + length u) b ≡ drop (at + length t + length u) a
    back = ap₂ (λ n l. drop (n + length u) l) (sym head) p.bytes ∙ drop-append-add (take at a ++ t) _ (length u) ∙ drop-drop (length u) (at + length t) a

-- bytes placed where a text ends are appended to it
pub appended : {a b : Text} {t : List ℕ} → b.bytes.ghost_name ≡ a.bytes.ghost_name → Placed a.bytes.now b.bytes.now a.written b.written t → Appended a b t
appended same p = record { same_buffer = same; room = p.room; written = p.after; bytes = p.bytes }
