-- Laws of a search's bytes. Assumes nothing.
use Prim.Native.Nat.{ℕ, zero, suc, ◌+◌, ◌≤◌, ◌<◌}
use native.Mathlib.Nat.{add-zero, zero-add}
use native.Mathlib.Omega.{arith}
use mathlib.Core.Path.{◌≡◌, refl, sym, ◌∙◌, ap}
use mathlib.Core.Bool.{Bool, true, false}
use mathlib.Core.List.{List, [], ◌∷◌}
use mathlib.Core.Option.{Option, none, some}
use lib.Dec.{ltb}
use lib.ListN.{length, get_or, set, drop, get_or-map}
use borrow.Author.Tests.{lt-ltb, ltb-true, ltb-false}
use Rattle.kung.specs.Class.{Class, code, of_code}
use Rattle.kung.specs.Operation.{invert_if}
use Rattle.kung.proofs.SetLaws.{code_lt}
use Rattle.rows.specs.Rows.{inverts_in, word_in, row_kind, row_pins}
use Rattle.search.specs.Search.{byte_of, cell_of, cell_at, put, possible_of, only, told_or, driver_of}
use Rattle.search.proofs.Laws.{cell_of_byte_of}
use Rattle.checks.specs.Codes.{code_or}
use Rattle.cells.specs.Codes.{mark_of}
use Rattle.cells.specs.Cells.{cell_in, known_of, known_in, told_in}
use Rattle.checks.proofs.Codes.{code_of_code}
use Rattle.checks.proofs.Checks.{only_own}
use Rattle.cells.proofs.Cells.{cell_new, cell_open, cell_known, known_small, mark_cell, mark_told, mark_large, fresh_known_of}
use Rattle.visit.specs.Source.{signal_of, source_from}
use Rattle.visit.specs.Codes.{told_of}
use Rattle.visit.specs.Cells.{cells_from, cells_in, Marked}
use Rattle.rows.proofs.Gates.{inverts_is}

-- the definition's cells, one by one
from_length : (rows : List ℕ) (i : ℕ) (bytes : List ℕ) → length (cells_from rows i bytes) ≡ length bytes
unfolding cells_from
from_length rows i [] = refl
from_length rows i (b ∷ bytes) = ap suc (from_length rows (suc i) bytes)

from_at : (rows : List ℕ) (i : ℕ) (bytes : List ℕ) (s : ℕ)
    → get_or (cells_from rows i bytes) s 0 ≡ byte_of (cell_in (inverts_in (word_in rows (i + s))) (get_or bytes s 0))
unfolding cells_from
from_at rows i [] s = ap byte_of (sym (cell_new (inverts_in (word_in rows (i + s))) 0 (omega arith)))
from_at rows i (b ∷ bytes) zero = ap (λ t. byte_of (cell_in (inverts_in (word_in rows t)) b)) (sym (add-zero i))
from_at rows i (b ∷ bytes) (suc s) =
    from_at rows (suc i) bytes s ∙ ap (λ t. byte_of (cell_in (inverts_in (word_in rows t)) (get_or bytes s 0))) (omega arith)

from_set : (rows : List ℕ) (i : ℕ) (bytes : List ℕ) (s b : ℕ)
    → cells_from rows i (set bytes s b) ≡ put (cells_from rows i bytes) s (cell_in (inverts_in (word_in rows (i + s))) b)
unfolding cells_from put
from_set rows i [] s b = refl
from_set rows i (a ∷ bytes) zero b = ap (λ t. byte_of (cell_in (inverts_in (word_in rows t)) b) ∷ cells_from rows (suc i) bytes) (sym (add-zero i))
from_set rows i (a ∷ bytes) (suc s) b =
    ap (λ l. byte_of (cell_in (inverts_in (word_in rows i)) a) ∷ l)
    (from_set rows (suc i) bytes s b ∙ ap (λ t. put (cells_from rows (suc i) bytes) s (cell_in (inverts_in (word_in rows t)) b)) (omega arith))

module _ (rows bytes : List ℕ) where
  pub cells_length : length (cells_in rows bytes) ≡ length bytes
  cells_length = from_length rows 0 bytes

  module _ (s : ℕ) where
    -- whether signal s's gate inverts
    abbrev pub Inverts : Bool
    Inverts = inverts_in (word_in rows s)

    pub cells_at : get_or (cells_in rows bytes) s 0 ≡ byte_of (cell_in Inverts (get_or bytes s 0))
    cells_at = from_at rows 0 bytes s ∙ ap (λ t. byte_of (cell_in (inverts_in (word_in rows t)) (get_or bytes s 0))) (zero-add s)

    pub cells_small : get_or bytes s 0 < 256 → get_or (cells_in rows bytes) s 0 < 256
    cells_small small = rw cells_at (go (ltb (get_or bytes s 0) 16) refl (ltb (get_or bytes s 0) 128) refl)
      where
        go : (t : Bool) → ltb (get_or bytes s 0) 16 ≡ t → (u : Bool) → ltb (get_or bytes s 0) 128 ≡ u → byte_of (cell_in Inverts (get_or bytes s 0)) < 256
        go true e u d = rw (cell_new Inverts (get_or bytes s 0) (ltb-true (get_or bytes s 0) 16 e)) (omega arith)
        go false e true d =
            let b = get_or bytes s 0 in
            let less = ltb-true b 128 d in
            rw (cell_open Inverts b (ltb-false b 16 e) less) (omega (arith, code_lt (of_code b)))
        go false e false d =
            let b = get_or bytes s 0 in
            rw (cell_known Inverts b (ltb-false b 128 d)) (omega (arith, code_lt (invert_if Inverts (of_code b))))

    pub cells_set : (b : ℕ) → cells_in rows (set bytes s b) ≡ put (cells_in rows bytes) s (cell_in Inverts b)
    cells_set b =
        from_set rows 0 bytes s b ∙ ap (λ t. put (cells_from rows 0 bytes) s (cell_in (inverts_in (word_in rows t)) b)) (zero-add s)

    -- what stands behind a pin on signal s
    pub driver_at : driver_of (source_from rows (known_in bytes) s) (cell_at (cells_in rows bytes) s)
        ≡ driver_of (signal_of rows s (known_of (get_or bytes s 0))) (cell_in Inverts (get_or bytes s 0))
    unfolding source_from cell_at
    driver_at =
        λ i.
        driver_of (signal_of rows s (get_or-map known_of bytes s 0 i))
        ((ap cell_of cells_at ∙ cell_of_byte_of (cell_in Inverts (get_or bytes s 0))) i)

pub told_or_lem : (one : Option Class) (p : Class) (next : ℕ) → told_of (told_or one p next) ≡ code_or one
told_or_lem (some k) p next = refl
told_or_lem none p next = refl

-- a gate's byte at the end of its visit tells what its cell tells
pub mark_marked : (rows : List ℕ) (s p next : ℕ) → next ≤ 13
    → Marked rows s (mark_of (code_or (only (possible_of (row_kind rows s) (of_code p) (drop next (row_pins rows s))))) p next)
unfolding signal_of driver_of
mark_marked rows s p next few =
    let one = only (possible_of (row_kind rows s) (of_code p) (drop next (row_pins rows s))) in
    let b = mark_of (code_or one) p next in
    let v = inverts_in (word_in rows s) in
    let own : (k : Class) → one ≡ some k → k ≡ invert_if v (of_code p) =
    λ k e. only_own (row_kind rows s) (of_code p) (drop next (row_pins rows s)) k e ∙ ap (λ v. invert_if v (of_code p)) (sym (inverts_is (word_in rows s))) in
    mark_told p next one few
    ∙ sym
    ((λ i. told_of (driver_of (signal_of rows s (known_small b (omega (arith, mark_large (code_or one) p next)) i)) (mark_cell v p next one few own i)))
    ∙ told_or_lem one (of_code p) next)

-- bytes of which none is visited
pub fresh_marked : (rows : List ℕ) (s b : ℕ) → b ≤ 8 → Marked rows s b
unfolding signal_of driver_of
fresh_marked rows s b h = go (ltb b 8) refl
  where
    go : (t : Bool) → ltb b 8 ≡ t → Marked rows s b
    go true e =
        let less = ltb-true b 8 e in
        let own : code (of_code b) ≡ b = code_of_code b ∙ omega arith in
        let told-own : told_in b ≡ b = rw e in
        let step : told_of (driver_of (signal_of rows s b) (cell_in (inverts_in (word_in rows s)) b)) ≡ b = rw e own in
        told-own ∙ sym (ap (λ k. told_of (driver_of (signal_of rows s k) (cell_in (inverts_in (word_in rows s)) b))) (fresh_known_of b h) ∙ step)
    go false e = let le = ltb-false b 8 e in rw (e, lt-ltb b 128 (omega arith), cell_new (inverts_in (word_in rows s)) b (omega arith))
