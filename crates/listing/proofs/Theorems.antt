-- What the pieces make is what is to be printed, and they come to an end. Assumes nothing.
use Rattle.std.proofs.Common.{◌≡◌, ℕ, zero, suc, ◌+◌, ◌-◌, ◌<◌, ◌≤◌, Bool, true, false, cond, ltb, List, ◌++◌, length, drop, sym, refl, ap, ◌∙◌, subst, arith, length-append, le-ltb}
use native.Mathlib.Nat.{sub-zero}
use native.Mathlib.Decide.{dec_lt}
use Rattle.changes.specs.Refusals.{list_checked}
use Rattle.lines.specs.Texts.{texts, first_line}
use Rattle.lines.proofs.Laws.{texts_join, texts_some}
use Rattle.text.specs.Listing.{change_lines, printed_changes, printed}
use Rattle.text.proofs.Lines.{lines_some, first_some}
use Rattle.listing.specs.declared.Progress.{Progress}
use Rattle.listing.specs.declared.Progress.TheVariants.{Start, Change}
use Rattle.listing.specs.declared.Piece.{Piece}
use Rattle.listing.specs.Pieces.{Portion, empty, piece_of, Written, Pieces, last, more, AllPrinted}
use Rattle.listing.proofs.Pages.{page_none, reached}

-- a piece is inside the buffer
pub inside : {piece : Portion} {entry exit : List ℕ} {r : Piece} → Written piece entry exit r → length exit ≡ length entry → r.length ≤ length exit
inside {piece} {entry} w same =
    omega (arith, w.length_is, ap length w.bytes, length-append piece.text (drop (length piece.text) entry))

module _ (n l : List ℕ) where
  -- the changes to print
  abbrev T : ℕ
  T = printed_changes (list_checked n l)

  -- what is left to print falls with each piece that is not empty
  abbrev pub left : Progress → ℕ
  left Start = suc T
  left (Change t) = T - t

  pub falls : (room : ℕ) (p : Progress) → 1 ≤ length (piece_of n l room p).text → left (piece_of n l room p).next < left p
  unfolding piece_of texts
  falls room Start h = go (ltb room 64) h
    where
      go : (b : Bool) → let piece = cond b (empty Start) (record { text = first_line (list_checked n l); next = Change 0 }) in
          1 ≤ length piece.text → left piece.next < left Start
      go true h = absurd (omega arith)
      go false h = omega arith
  falls room (Change t) h =
      let r = reached (change_lines n l) (T - t) t room in
      rw r.next_is (go r.count r.within (rw r.text_is at h))
    where
      go : (count : ℕ) → count ≤ T - t → 1 ≤ length (texts (change_lines n l) t count) → T - (t + count) < T - t
      go zero w h = absurd (omega arith)
      go (suc k) w h = omega arith

  pub moved : (room : ℕ) (p : Progress) {entry exit : List ℕ} {r : Piece} → Written (piece_of n l room p) entry exit r → 1 ≤ r.length
      → left r.next < left p
  moved room p w some = rw w.next_is (falls room p (omega (arith, w.length_is)))

  only : {room : ℕ} {p : Progress} {a b : List ℕ} → Pieces n l room p a → Pieces n l room p b → a ≡ b
  only (last e) (last e') = refl
  only (last e) (more some r) = absurd (some e)
  only (more some r) (last e) = absurd (some e)
  only {room} {p} (more some r) (more some' r') = ap (λ t. (piece_of n l room p).text ++ t) (only r r')

  module _ (room : ℕ) (enough : 3072 ≤ room) where
    -- the lines of the changes from t on
    abbrev lines : ℕ → List ℕ
    lines t = texts (change_lines n l) t (T - t)

    lines_none : (t : ℕ) → T ≤ t → Pieces n l room (Change t) (lines t)
    unfolding piece_of texts
    lines_none t end =
        let e : T - t ≡ 0 = omega arith in
        subst (λ k. Pieces n l room (Change t) (texts (change_lines n l) t k)) (sym e)
        (last (ap (λ piece. piece.text) (page_none (change_lines n l) (T - t) t room e)))

    lines_more : (t : ℕ) → t < T → ((k : ℕ) → 1 ≤ k → Pieces n l room (Change (t + k)) (lines (t + k))) → Pieces n l room (Change t) (lines t)
    unfolding piece_of
    lines_more t early later =
        let f = change_lines n l in
        let r = reached f (T - t) t room in
        let k = r.count in
        let some = r.some (omega arith) enough in
        let up : k + (T - (t + k)) ≡ T - t = omega (arith, r.within) in
        subst (Pieces n l room (Change t))
        (ap (λ text. text ++ lines (t + k)) r.text_is ∙ texts_join f t k (T - (t + k)) ∙ ap (texts f t) up)
        (more (λ none. absurd (omega (arith, ap length none, ap length r.text_is, texts_some f t k (lines_some n l t early) some)))
        (subst (λ p. Pieces n l room p (lines (t + k))) (sym r.next_is) (later k some)))

    changes_printed : (fuel t : ℕ) → T - t ≤ fuel → Pieces n l room (Change t) (lines t)
    changes_printed zero t h = lines_none t (omega arith)
    changes_printed (suc fuel) t h = go (dec_lt t T) (λ k some early. changes_printed fuel (t + k) (omega arith))
      where
        go : Dec (t < T) → ((k : ℕ) → 1 ≤ k → t < T → Pieces n l room (Change (t + k)) (lines (t + k))) → Pieces n l room (Change t) (lines t)
        go (yes early) later = lines_more t early (λ k some. later k some early)
        go (no end) later = lines_none t (omega arith)

    whole : Pieces n l room Start (printed n l)
    unfolding piece_of printed
    whole =
        let first : piece_of n l room Start ≡ record { text = first_line (list_checked n l); next = Change 0 } = rw (le-ltb room 64 (omega arith)) in
        subst (Pieces n l room Start) (ap (λ piece. piece.text ++ texts (change_lines n l) 0 T) first)
        (more (λ none. absurd (omega (arith, ap length none, ap (λ piece. length piece.text) first, first_some n l)))
        (subst (λ p. Pieces n l room p (texts (change_lines n l) 0 T)) (sym (ap (λ piece. piece.next) first)) (rw sub-zero at (changes_printed T 0 (omega arith)))))

  pub all_printed : (room : ℕ) → AllPrinted n l room
  all_printed room enough text =
      (λ pieces. only pieces (whole room enough), λ e. subst (Pieces n l room Start) (sym e) (whole room enough))
