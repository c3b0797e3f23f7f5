-- Laws of the bytes in which constants are kept. Assumes nothing.
use Rattle.std.proofs.Common.{◌≡◌, ℕ, ◌+◌, ◌<◌, ◌≤◌, List, ◌++◌, length, get_or, take, drop, sym, ap, ◌∙◌, arith, length-take-le, get_or-drop, get_or-take, get_or-append-add, ap₂, take_all, drop_of_length-le, append-nil, drop-drop}
use mathlib.Core.List.{map}
use lib.ListN.{length-map, get_or-map, length-drop, get_or-append}
use lib.Seq.{ext_get_or}
use Rattle.kung.specs.Tables.{tab}
use Rattle.kung.proofs.Listed.{get_d_tab, length_tab}
use Rattle.inputs.specs.Written.{written}
use Rattle.forward.specs.Known.{known_or8, known_codes}

-- what stands at each place of a buffer that was written from a place on
module _ (old : List ℕ) (at : ℕ) (f : ℕ → ℕ) (n : ℕ) (room : at ≤ length old) where
  front : length (take at old) ≡ at
  front = length-take-le at old room

  pub written_below : (s : ℕ) → s < at → get_or (written old at f n) s 0 ≡ get_or old s 0
  unfolding written
  written_below s h = get_or-append (take at old) (tab f 0 n ++ drop (at + n) old) 0 s (rw front h) ∙ get_or-take at old s 0 h

  behind : (k : ℕ) → get_or (written old at f n) (at + k) 0 ≡ get_or (tab f 0 n ++ drop (at + n) old) k 0
  unfolding written
  behind k =
      ap (λ m. get_or (take at old ++ (tab f 0 n ++ drop (at + n) old)) (m + k) 0) (sym front)
      ∙ get_or-append-add (take at old) (tab f 0 n ++ drop (at + n) old) k 0

  pub written_at : (k : ℕ) → k < n → get_or (written old at f n) (at + k) 0 ≡ f k
  written_at k h =
      behind k ∙ get_or-append (tab f 0 n) (drop (at + n) old) 0 k (rw length_tab h) ∙ get_d_tab f n k h

-- the gates' bytes marked, in place
marked_is : (now : List ℕ) (at n : ℕ) → at + n ≤ length now → take at now ++ (map known_or8 (take n (drop at now)) ++ drop (at + n) now) ≡ known_codes now at n
unfolding known_codes written
marked_is now at n room = ap (λ m. take at now ++ (m ++ drop (at + n) now)) (ext_get_or 0 part made long each)
  where
    part : List ℕ
    part = map known_or8 (take n (drop at now))

    made : List ℕ
    made = tab (λ g. known_or8 (get_or now (at + g) 0)) 0 n

    long_part : length part ≡ n
    long_part = length-map (take n (drop at now)) known_or8 ∙ length-take-le n (drop at now) (omega (arith, length-drop at now))

    long : length part ≡ length made
    long = long_part ∙ sym (length_tab _ 0 n)

    each : (k : ℕ) → k < length part → get_or part k 0 ≡ get_or made k 0
    each k h =
        let l : k < n = rw long_part at h in
        get_or-map known_or8 (take n (drop at now)) k 0 ∙ ap known_or8 (get_or-take n (drop at now) k 0 l ∙ get_or-drop at now k 0) ∙ sym (get_d_tab _ n k l)

-- when the loop has passed them all
pub marked_all : (now items : List ℕ) (at n passed : ℕ) → at + n ≤ length now → let lent = take n (drop at now) in
    items ≡ map known_or8 (take passed lent) ++ drop passed lent → length lent ≤ passed
    → take at now ++ (items ++ drop n (drop at now)) ≡ known_codes now at n
marked_all now items at n passed room e last =
    let lent = take n (drop at now) in
    let all : items ≡ map known_or8 lent =
    e ∙ ap₂ (λ xs ys. map known_or8 xs ++ ys) (take_all passed lent last) (drop_of_length-le lent {i = passed} last) ∙ append-nil (map known_or8 lent) in
    ap₂ (λ m rest. take at now ++ (m ++ rest)) all (drop-drop n at now) ∙ marked_is now at n room
