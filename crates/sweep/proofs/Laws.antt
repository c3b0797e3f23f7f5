-- Laws of the gate pass. Assumes nothing.
use Prim.Native.Nat.{ℕ, zero, suc, ◌+◌, ◌≤◌, ◌<◌}
use native.Mathlib.Omega.{arith}
use native.Mathlib.Nat.{add-zero}
use mathlib.Core.Path.{◌≡◌, refl, sym, ◌∙◌, ap, ap₂}
use mathlib.Core.Bool.{◌||◌}
use mathlib.Core.List.{List, [], ◌∷◌, ◌++◌, map, map-append, append_assoc}
use lib.ListN
use lib.ListN.{length, get_or, drop, set, length-append, length-drop, length-map, take, take-append-drop, get_or-append}
use lib.Seq.{drop-cons, drop-append-add, drop-drop, set_at, take-suc, length-take-le}
use Rattle.kung.specs.Class.{Class, c0, c1, code, of_code}
use Rattle.kung.specs.Rule.{gate_class}
use Rattle.kung.specs.Sets.{bit, has}
use Rattle.kung.specs.Members.{insert, members}
use Rattle.kung.specs.Tables.{tab}
use Rattle.kung.specs.Gates.{gate_at}
use Rattle.kung.proofs.Finite.{of_code_code}
use Rattle.kung.proofs.Listed.{agree}
use Rattle.circuit.specs.Circuit.{Each, sources, values, out_of}
use Rattle.circuit.proofs.Laws.{each_map, values_length, values_at, sources_gate, sources_input, sources_ext}
use Rattle.search.specs.Pins.{sum_below}
use Rattle.rows.specs.Rows.{gate_in, word_in, row_kind, row_pins, card_in}
use Rattle.rows.proofs.Gates.{pins_below}
use Rattle.sweep.specs.Sweep.{sources_in, codes_of, hots_of, pin_set, any_constant, touched_by}
use Rattle.sweep.specs.Lent.{Passable}
use Rattle.sweep.proofs.Pins.{set_class, set_touched}

-- a byte written after the first k, which are p
front_set : (p l : List ℕ) (k b : ℕ) → length p ≡ k → k < length l → set (p ++ drop k l) k b ≡ (p ++ (b ∷ [])) ++ drop (k + 1) l
front_set p l k b e h =
    let n : suc k ≡ k + 1 = omega arith in
    ap (λ x. set (p ++ x) k b) (drop-cons l k 0 h) ∙ set_at p _ _ b k e ∙ sym (append_assoc p (b ∷ []) (drop (suc k) l))
    ∙ ap (λ (n : ℕ). (p ++ (b ∷ [])) ++ drop n l) n

hots_length : (codes : List ℕ) → length (hots_of codes) ≡ length codes
unfolding hots_of
hots_length codes = length-map codes _

hots_last : (codes : List ℕ) (c : ℕ) → hots_of (codes ++ (c ∷ [])) ≡ hots_of codes ++ (insert 0 (of_code c) ∷ [])
unfolding hots_of
hots_last codes c = map-append _ codes (c ∷ [])

-- one input more
module _ (buffer old : List ℕ) (k : ℕ) where
  pub heat_more : k < length buffer → k < length old
      → set (hots_of (take k buffer) ++ drop k old) k (insert 0 (of_code (get_or buffer k 0))) ≡ hots_of (take (k + 1) buffer) ++ drop (k + 1) old
  heat_more h l =
      let n : suc k ≡ k + 1 = omega arith in
      front_set (hots_of (take k buffer)) old k _ (hots_length (take k buffer) ∙ length-take-le k buffer (omega arith)) l
      ∙ ap (λ x. x ++ drop (k + 1) old)
      (sym (hots_last (take k buffer) (get_or buffer k 0)) ∙ ap hots_of (sym (take-suc buffer k 0 h) ∙ ap (λ (n : ℕ). take n buffer) n))

code_below : (b : ℕ) → b < 8 → code (of_code b) ≡ b
unfolding of_code tab
code_below b h = agree (λ b. code (of_code b)) (λ b. b) 8 refl b h

get_d_map : (f : ℕ → ℕ) (l : List ℕ) (x : ℕ) → x < length l → get_or (map f l) x 0 ≡ f (get_or l x 0)
get_d_map f [] x h = absurd (omega arith)
get_d_map f (a ∷ l) zero h = refl
get_d_map f (a ∷ l) (suc x) h = get_d_map f l x (omega arith)

module _ (rows buffer : List ℕ) (inputs gates : ℕ) where
  abbrev codes_to : ℕ → List ℕ
  codes_to n = codes_of rows buffer inputs gates n

  abbrev classes_to : ℕ → ℕ → Class
  classes_to n x = get_or (values gate_class c0 (sources_in rows buffer inputs gates) n) x c0

  pub codes_length : (n : ℕ) → length (codes_to n) ≡ n
  unfolding codes_of
  codes_length n =
      length-map (values gate_class c0 (sources_in rows buffer inputs gates) n) code ∙ values_length gate_class c0 (sources_in rows buffer inputs gates) n

  -- one signal more
  codes_more : (n : ℕ) → codes_to (n + 1) ≡ codes_to n ++ (code (out_of gate_class (sources_in rows buffer inputs gates n) (classes_to n)) ∷ [])
  unfolding codes_of values
  codes_more n =
      let e : n + 1 ≡ suc n = omega arith in
      rw e (map-append code (values gate_class c0 (sources_in rows buffer inputs gates) n) _)

  -- the code of a signal, which later signals leave
  codes_at : (n m x : ℕ) → x < n → n ≤ m → get_or (codes_to m) x 0 ≡ code (classes_to n x)
  unfolding codes_of
  codes_at n m x h l =
      ListN.get_or-map code (values gate_class c0 (sources_in rows buffer inputs gates) m) x c0
      ∙ ap code (values_at gate_class c0 (sources_in rows buffer inputs gates) m x (omega arith)
      ∙ sym (values_at gate_class c0 (sources_in rows buffer inputs gates) n x h))

  hots_at : (n x : ℕ) → x < n → get_or (hots_of (codes_to n)) x 0 ≡ insert 0 (classes_to n x)
  unfolding hots_of
  hots_at n x h =
      get_d_map (λ c. insert 0 (of_code c)) (codes_to n) x (rw codes_length h)
      ∙ ap (insert 0) (ap of_code (codes_at n n x h (omega arith)) ∙ of_code_code (classes_to n x))

  -- one gate more is counted
  pub touched_none : (codes : List ℕ) → 0 ≡ touched_by rows codes inputs 0
  unfolding touched_by sum_below
  touched_none codes = refl

  touched_more : (codes : List ℕ) (g : ℕ) → bit (any_constant codes (row_pins rows (inputs + g))) + touched_by rows codes inputs g ≡ touched_by rows codes inputs (g + 1)
  unfolding touched_by sum_below
  touched_more codes g = let e : g + 1 ≡ suc g = omega arith in rw e

  module _ (hots : ℕ) (ready : Passable rows buffer hots inputs gates) where
    input_out : (n : ℕ) (v : ℕ → Class) → n < inputs → out_of gate_class (sources_in rows buffer inputs gates n) v ≡ of_code (get_or buffer n 0)
    unfolding sources_in card_in
    input_out n v h = ap (λ c. out_of gate_class c v) (sources_input (card_in rows inputs gates) c0 (λ i. of_code (get_or buffer i 0)) n h)

    gate_out : (g : ℕ) (v : ℕ → Class) → g < gates
        → out_of gate_class (sources_in rows buffer inputs gates (inputs + g)) v ≡ gate_class (row_kind rows (inputs + g)) (map v (row_pins rows (inputs + g)))
    unfolding sources_in card_in
    gate_out g v h = ap (λ c. out_of gate_class c v) (sources_gate (card_in rows inputs gates) c0 (λ i. of_code (get_or buffer i 0)) g h)

    -- the inputs' codes are the buffer's first bytes
    codes_inputs : (n : ℕ) → n ≤ inputs → codes_to n ≡ take n buffer
    unfolding codes_of values
    codes_inputs zero h = refl
    codes_inputs (suc n) h =
        let e : n + 1 ≡ suc n = omega arith in
        ap codes_to (sym e) ∙ codes_more n
        ∙ ap₂ (λ l k. l ++ (k ∷ [])) (codes_inputs n (omega arith))
        (ap code (input_out n _ (omega arith)) ∙ code_below (get_or buffer n 0) (ready.coded n (omega arith)))
        ∙ sym (take-suc buffer n 0 (omega (arith, ready.room)))

    pub pass_starts : buffer ≡ codes_to (inputs + 0) ++ drop (inputs + 0) buffer
    pass_starts = rw add-zero (sym (ap (λ l. l ++ drop inputs buffer) (codes_inputs inputs (omega arith)) ∙ take-append-drop inputs buffer))

    -- with the inputs' sets written, the others are as they were
    module _ (old now : List ℕ) (heated : now ≡ hots_of (take inputs buffer) ++ drop inputs old) where
      pub hot_rest : (n : ℕ) → drop (inputs + n) now ≡ drop (inputs + n) old
      hot_rest n =
          let e : length (hots_of (take inputs buffer)) ≡ inputs = hots_length (take inputs buffer) ∙ length-take-le inputs buffer (omega (arith, ready.room)) in
          ap (drop (inputs + n)) heated ∙ ap (λ (k : ℕ). drop (k + n) (hots_of (take inputs buffer) ++ drop inputs old)) (sym e)
          ∙ drop-append-add (hots_of (take inputs buffer)) (drop inputs old) n ∙ drop-drop n inputs old

      pub hot_starts : now ≡ hots_of (codes_to (inputs + 0)) ++ drop (inputs + 0) now
      hot_starts =
          rw (hot_rest 0)
          (rw add-zero (heated ∙ ap (λ l. hots_of l ++ drop inputs old) (sym (codes_inputs inputs (omega arith)))))

    -- Before gate g, whose pins' sets are the first of `now`.
    module _ (old now : List ℕ) (g : ℕ) (h : g < gates) (is : now ≡ hots_of (codes_to (inputs + g)) ++ drop (inputs + g) old) where
      pins_hot : Each (λ x. get_or now x 0 ≡ insert 0 (classes_to (inputs + g) x)) (row_pins rows (inputs + g))
      pins_hot = each_map hot (row_pins rows (inputs + g)) (pins_below rows (inputs + g) (ready.gate g h))
        where
          hot : (x : ℕ) → x < inputs + g → get_or now x 0 ≡ insert 0 (classes_to (inputs + g) x)
          hot x less =
              ap (λ l. get_or l x 0) is
              ∙ get_or-append (hots_of (codes_to (inputs + g))) (drop (inputs + g) old) 0 x (rw (hots_length, codes_length) less) ∙ hots_at (inputs + g) x less

      -- their union tells its code and whether it counts
      abbrev union : ℕ
      union = pin_set now (row_pins rows (inputs + g))

      next_code : code (gate_at (gate_in (word_in rows (inputs + g))) (members union))
          ≡ code (out_of gate_class (sources_in rows buffer inputs gates (inputs + g)) (classes_to (inputs + g)))
      next_code =
          ap code
          (set_class now (row_pins rows (inputs + g)) (classes_to (inputs + g)) pins_hot (word_in rows (inputs + g))
          ∙ sym (gate_out g _ h))

      pub pass_touched : bit (has union c0 || has union c1) + touched_by rows (codes_to (inputs + gates)) inputs g
          ≡ touched_by rows (codes_to (inputs + gates)) inputs (g + 1)
      pass_touched =
          ap (λ b. bit b + touched_by rows (codes_to (inputs + gates)) inputs g)
          (set_touched now (row_pins rows (inputs + g)) (classes_to (inputs + g)) pins_hot (codes_to (inputs + gates))
          (each_map (λ x less. sym (codes_at (inputs + g) (inputs + gates) x less (omega arith))) (row_pins rows (inputs + g))
          (pins_below rows (inputs + g) (ready.gate g h))))
          ∙ touched_more (codes_to (inputs + gates)) g

      -- one gate more
      module _ (b : ℕ) (made : b ≡ code (gate_at (gate_in (word_in rows (inputs + g))) (members union))) where
        with_next : codes_to (inputs + g) ++ (b ∷ []) ≡ codes_to (inputs + (g + 1))
        with_next =
            let n : inputs + g + 1 ≡ inputs + (g + 1) = omega arith in
            ap (λ c. codes_to (inputs + g) ++ (c ∷ [])) (made ∙ next_code) ∙ sym (codes_more (inputs + g)) ∙ ap codes_to n

        pub pass_more : (bytes : List ℕ) → bytes ≡ codes_to (inputs + g) ++ drop (inputs + g) buffer
            → set bytes (inputs + g) b ≡ codes_to (inputs + (g + 1)) ++ drop (inputs + (g + 1)) buffer
        pass_more bytes e =
            let n : inputs + g + 1 ≡ inputs + (g + 1) = omega arith in
            ap (λ l. set l (inputs + g) b) e
            ∙ front_set (codes_to (inputs + g)) buffer (inputs + g) b (codes_length (inputs + g)) (omega (arith, ready.room))
            ∙ ap₂ (λ l (m : ℕ). l ++ drop m buffer) with_next n

        pub hot_more : inputs + g < length old
            → set now (inputs + g) (insert 0 (of_code b)) ≡ hots_of (codes_to (inputs + (g + 1))) ++ drop (inputs + (g + 1)) old
        hot_more room =
            let n : inputs + g + 1 ≡ inputs + (g + 1) = omega arith in
            ap (λ l. set l (inputs + g) (insert 0 (of_code b))) is
            ∙ front_set (hots_of (codes_to (inputs + g))) old (inputs + g) _ (hots_length (codes_to (inputs + g)) ∙ codes_length (inputs + g)) room
            ∙ ap₂ (λ l (m : ℕ). l ++ drop m old) (sym (hots_last (codes_to (inputs + g)) b) ∙ ap hots_of with_next) n

-- the codes by the inputs' classes, whichever buffer has them
pub codes_from : (rows buffer : List ℕ) (inputs gates n : ℕ) (v : ℕ → Class) → ((i : ℕ) → i < inputs → of_code (get_or buffer i 0) ≡ v i)
    → codes_of rows buffer inputs gates n ≡ map code (values gate_class c0 (sources (card_in rows inputs gates) c0 v) n)
unfolding codes_of sources_in card_in
codes_from rows buffer inputs gates n v is =
    ap (λ src. map code (values gate_class c0 src n)) (sources_ext (card_in rows inputs gates) c0 (λ i. of_code (get_or buffer i 0)) v is)
