-- The first line as a piece, laws of the pages, and how a page grows in the buffer. Assumes nothing.
use Rattle.std.proofs.Common.{◌≡◌, ℕ, zero, suc, ◌+◌, ◌-◌, ◌<◌, ◌≤◌, Bool, true, false, ltb, List, [], ◌++◌, length, refl, ap, ◌∙◌, append_assoc, append-nil, add-zero, zero-add, add-one, arith, ltb-false, ltb-true, le-ltb, lt-ltb}
use native.Mathlib.Nat.{sub-zero}
use Rattle.changes.specs.Refusals.{list_checked}
use Rattle.report.specs.declared.Text.{Text}
use Rattle.report.specs.Appended.{Appended}
use Rattle.report.proofs.Appending.{nothing, ◌then◌}
use Rattle.lines.specs.Texts.{texts, first_line}
use Rattle.lines.proofs.Laws.{texts_cons}
use Rattle.listing.specs.declared.Progress.{Progress}
use Rattle.listing.specs.declared.Progress.TheVariants.{Start, Change}
use Rattle.text.specs.Listing.{change_lines, printed_changes}
use Rattle.listing.specs.Pieces.{empty, ◌before◌, page, piece_of, Written}

-- A buffer that was lent to a text: what it held, and what it and the text hold at the end
pub record Lent (entry exit : List ℕ) (length : ℕ) (a b : Text) : Type 0 where
  pub starts : a.bytes.now ≡ entry
  pub none : a.written ≡ 0
  pub ends : exit ≡ b.bytes.now
  pub all : length ≡ b.written

-- what is appended to its empty text is a piece
written : {entry exit text : List ℕ} {r : ℕ} {a b : Text} (next : Progress) → Lent entry exit r a b → Appended a b text
    → Written (record { text = text; next = next }) entry exit (record { length = r; next = next })
written {text = text} next l p = record {
  length_is = l.all ∙ p.written ∙ rw l.none (zero-add (length text));
  next_is = refl;
  bytes = l.ends ∙ rw (l.none, l.starts, zero-add) at p.bytes;
}

-- no text in any buffer
written_empty : (entry : List ℕ) (p : Progress) → Written (empty p) entry entry (record { length = 0; next = p })
written_empty entry p = record { length_is = refl; next_is = refl; bytes = refl }

-- the first line, as the check of the list answers
module _ (n l : List ℕ) where
  pub first_short : (entry : List ℕ) → length entry < 64 → Written (piece_of n l (length entry) Start) entry entry (record { length = 0; next = Start })
  unfolding piece_of
  first_short entry h = rw (lt-ltb (length entry) 64 h) (written_empty entry Start)

  pub first_written : {entry exit : List ℕ} {r : ℕ} {a b : Text} → 64 ≤ length entry → Lent entry exit r a b → Appended a b (first_line (list_checked n l))
      → Written (piece_of n l (length entry) Start) entry exit (record { length = r; next = Change 0 })
  unfolding piece_of
  first_written {entry} h lent p = rw (le-ltb (length entry) 64 h) (written (Change 0) lent p)

module _ (f : ℕ → List ℕ) (left t room : ℕ) where
  pub page_full : room < 3072 → page f left t room ≡ empty (Change t)
  unfolding page
  page_full h = go left
    where
      go : (left : ℕ) → page f left t room ≡ empty (Change t)
      go zero = refl
      go (suc left) = rw (lt-ltb room 3072 h)

  pub page_none : left ≡ 0 → page f left t room ≡ empty (Change t)
  unfolding page
  page_none h = rw h

  pub page_more : 3072 ≤ room → page f (suc left) t room ≡ f t before page f left (suc t) (room - length (f t))
  unfolding page
  page_more h = rw (le-ltb room 3072 h)

-- a page is the texts of some changes, at least one where one is left and has room
pub record Reached (f : ℕ → List ℕ) (left t room : ℕ) : Type 0 where
  pub count : ℕ
  pub within : count ≤ left
  pub some : 1 ≤ left → 3072 ≤ room → 1 ≤ count
  pub text_is : (page f left t room).text ≡ texts f t count
  pub next_is : (page f left t room).next ≡ Change (t + count)

pub reached : (f : ℕ → List ℕ) (left t room : ℕ) → Reached f left t room
unfolding page texts
reached f zero t room = record { count = 0; within = omega arith; some = λ h. absurd (omega arith); text_is = refl; next_is = rw add-zero }
reached f (suc left) t room = go (ltb room 3072) refl (reached f left (suc t) (room - length (f t)))
  where
    go : (b : Bool) → ltb room 3072 ≡ b → Reached f left (suc t) (room - length (f t)) → Reached f (suc left) t room
    go true e r =
        let full = page_full f (suc left) t room (ltb-true room 3072 e) in
        record { count = 0; within = omega arith; some = λ h k. absurd (omega (arith, ltb-true room 3072 e)); text_is = rw full; next_is = rw (full, add-zero) }
    go false e r =
        let one = page_more f left t room (ltb-false room 3072 e) in
        record {
          count = suc r.count;
          within = omega (arith, r.within);
          some = λ h k. omega arith;
          text_is = rw (one, r.text_is) (texts_cons f t r.count);
          next_is = rw one (r.next_is ∙ ap Change (omega arith));
        }

-- A page that has grown up to change t: what is left of it begins with change t.
pub record Grown (n l : List ℕ) (a b : Text) (from t : ℕ) : Type 0 where
  pub text : List ℕ
  pub there : Appended a b text
  pub rest : piece_of n l (length a.bytes.now) (Change from)
      ≡ text before page (change_lines n l) (printed_changes (list_checked n l) - t) t (length a.bytes.now - b.written)

module _ (n l : List ℕ) where
  pub grown_none : (a : Text) (from : ℕ) → a.written ≡ 0 → Grown n l a a from from
  unfolding piece_of
  grown_none a from none = record { text = []; there = nothing a a.in_bounds; rest = rw (none, sub-zero) }

  pub grown_more : {a b c : Text} {from t : ℕ} → Grown n l a b from t → t < printed_changes (list_checked n l) → 3072 ≤ length a.bytes.now - b.written
      → Appended b c (change_lines n l t) → Grown n l a c from (t + 1)
  grown_more {a} {b} {c} {from} {t} g early room p = record {
    text = g.text ++ change_lines n l t;
    there = g.there then p;
    rest = g.rest ∙ rw (left, page_more lines (T - (t + 1)) t (length a.bytes.now - b.written) room, append_assoc, ← add-one t, here);
  }
    where
      lines : ℕ → List ℕ
      lines = change_lines n l

      T : ℕ
      T = printed_changes (list_checked n l)

      left : T - t ≡ suc (T - (t + 1))
      left = omega arith

      here : length a.bytes.now - b.written - length (lines t) ≡ length a.bytes.now - c.written
      here = omega (arith, p.written)

  pub grown_all : {entry exit : List ℕ} {r : ℕ} {a b : Text} {from t : ℕ} → Lent entry exit r a b → Grown n l a b from t
      → page (change_lines n l) (printed_changes (list_checked n l) - t) t (length a.bytes.now - b.written) ≡ empty (Change t)
      → Written (piece_of n l (length entry) (Change from)) entry exit (record { length = r; next = Change t })
  grown_all {t = t} lent g end = rw (← lent.starts, g.rest, end, append-nil) (written (Change t) (record { starts = refl; none = lent.none; ends = lent.ends; all = lent.all }) g.there)

  -- nothing is left to print
  pub written_none : (entry : List ℕ) (from : ℕ) → printed_changes (list_checked n l) ≤ from
      → Written (piece_of n l (length entry) (Change from)) entry entry (record { length = 0; next = Change from })
  unfolding piece_of
  written_none entry from h =
      rw (page_none (change_lines n l) (printed_changes (list_checked n l) - from) from (length entry) (omega arith)) (written_empty entry (Change from))
