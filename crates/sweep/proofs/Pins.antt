-- Laws of the set of a gate's pins. Assumes nothing.
use Prim.Native.Nat.{ℕ, zero, suc, ◌+◌, ◌-◌, ◌/◌, ◌%◌, ◌≤◌, ◌<◌}
use native.Mathlib.Omega.{arith}
use native.Mathlib.Decide.{dec_lt}
use native.Mathlib.Numerals.{add-one}
use native.Mathlib.Nat.{zero-add}
use mathlib.Core.Path.{◌≡◌, refl, sym, ◌∙◌, ap, ap₂}
use mathlib.Core.Bool.{Bool, true, false, ◌||◌, or_assoc, or_comm, beq, false≢true}
use mathlib.Core.List.{List, [], ◌∷◌, ◌++◌, map}
use lib.ListN.{get_or}
use Rattle.kung.specs.Class.{Class, c0, c1, code, same}
use Rattle.kung.specs.Rule.{some, gate_class}
use Rattle.kung.specs.Operation.{invert_if, join_all}
use Rattle.kung.specs.Sets.{set_of, has}
use Rattle.kung.specs.Members.{members, insert, collect}
use Rattle.kung.specs.Tables.{tab}
use Rattle.kung.specs.Gates.{gate_at, unite}
use Rattle.kung.proofs.Finite.{every_class, class_at_lem, beq→≡}
use Rattle.kung.proofs.Laws.{gate_class_op}
use Rattle.kung.proofs.Unions.{some_or}
use Rattle.kung.proofs.SetLaws.{has_set_of, set_of_ext, has_one}
use Rattle.kung.proofs.Gates.{gate_collect, collect_is}
use Rattle.circuit.specs.Circuit.{Each}
use Rattle.circuit.proofs.Laws.{each_map}
use Rattle.rows.specs.Rows.{count_in, gate_in, kind_in, pin_in, word_in, row_pins}
use Rattle.rows.specs.Lent.{GateRow, Repeats}
use Rattle.rows.proofs.Gates.{gate_operation, inverts_is}
use Rattle.sweep.specs.Sweep.{pin_set, is_constant_code, any_constant}

-- one number more in a row
tab_last : (f : ℕ → ℕ) (i n : ℕ) → tab f i (suc n) ≡ tab f i n ++ (f (i + n) ∷ [])
unfolding tab
tab_last f i zero = ap (λ (k : ℕ). f k ∷ []) (omega arith)
tab_last f i (suc n) = ap (λ l. f i ∷ l) (tab_last f (suc i) n ∙ ap (λ (k : ℕ). tab f (suc i) n ++ (f k ∷ [])) (omega arith))

some_last : (g : ℕ → Bool) (xs : List ℕ) (x : ℕ) → some g (xs ++ (x ∷ [])) ≡ some g xs || g x
unfolding some
some_last g [] x = or_comm (g x) false
some_last g (y ∷ xs) x = ap (λ b. g y || b) (some_last g xs x) ∙ sym (or_assoc (g y) (some g xs) (g x))

pub some_next : (g : ℕ → Bool) (p : ℕ → ℕ) (n : ℕ) → some g (tab p 0 (n + 1)) ≡ some g (tab p 0 n) || g (p n)
some_next g p n =
    rw add-one (ap (some g) (tab_last p 0 n) ∙ some_last g (tab p 0 n) (p (0 + n)) ∙ ap (λ (k : ℕ). some g (tab p 0 n) || g (p k)) (zero-add n))

-- a pin that was there before changes nothing
some_had : (g : ℕ → Bool) (p : ℕ → ℕ) (n k : ℕ) → k < n → some g (tab p 0 n) || g (p k) ≡ some g (tab p 0 n)
some_had g p zero k h = absurd (omega arith)
some_had g p (suc n) k h = rw (← add-one) (rw some_next (go (dec_lt k n) (some_had g p n k)))
  where
    twice : (a b : Bool) → ((a || b) || b) ≡ (a || b)
    twice true b = refl
    twice false true = refl
    twice false false = refl

    early : (a b c : Bool) → (a || c) ≡ a → ((a || b) || c) ≡ (a || b)
    early true b c e = refl
    early false b true e = absurd (false≢true (sym e))
    early false true false e = refl
    early false false false e = refl

    go : Dec (k < n) → (k < n → some g (tab p 0 n) || g (p k) ≡ some g (tab p 0 n))
        → (some g (tab p 0 n) || g (p n)) || g (p k) ≡ some g (tab p 0 n) || g (p n)
    go (yes l) had = early (some g (tab p 0 n)) (g (p n)) (g (p k)) (had l)
    go (no l) had = let e : k ≡ n = omega arith in rw e (twice (some g (tab p 0 n)) (g (p n)))

-- the last pin repeated changes nothing
some_repeated : (g : ℕ → Bool) (p : ℕ → ℕ) (n m : ℕ) → 1 ≤ n → ((k : ℕ) → n ≤ k → k < n + m → p k ≡ p (n - 1))
    → some g (tab p 0 (n + m)) ≡ some g (tab p 0 n)
some_repeated g p n zero h e = ap (λ (k : ℕ). some g (tab p 0 k)) (omega arith)
some_repeated g p n (suc m) h e =
    ap (λ (k : ℕ). some g (tab p 0 k)) (omega arith) ∙ some_next g p (n + m)
    ∙ ap₂ ◌||◌ (some_repeated g p n m h (λ k a b. e k a (omega arith))) (ap g (e (n + m) (omega arith) (omega arith)))
    ∙ some_had g p n (n - 1) (omega arith)

-- The set of the first n pins.
module _ (hot : List ℕ) where
  pub set_none : (p : ℕ → ℕ) → 0 ≡ pin_set hot (tab p 0 0)
  unfolding pin_set tab some set_of
  set_none p = refl

  pub set_next : (p : ℕ → ℕ) (n : ℕ) → unite (pin_set hot (tab p 0 n)) (get_or hot (p n) 0) ≡ pin_set hot (tab p 0 (n + 1))
  unfolding pin_set unite
  set_next p n =
      set_of_ext _ _
      (λ c. ap (λ b. b || has (get_or hot (p n) 0) c) (has_set_of (λ c. some (λ x. has (get_or hot x 0) c) (tab p 0 n)) c)
      ∙ sym (some_next (λ x. has (get_or hot x 0) c) p n))

  -- eight pins have the set of the gate's
  pub set_all : (rows : List ℕ) (s : ℕ) → GateRow rows s → Repeats rows s → pin_set hot (tab (pin_in rows s) 0 8) ≡ pin_set hot (row_pins rows s)
  unfolding pin_set row_pins
  set_all rows s r repeats =
      let n = count_in (word_in rows s) in
      set_of_ext _ _
      (λ c. ap (λ (k : ℕ). some (λ x. has (get_or hot x 0) c) (tab (pin_in rows s) 0 k)) (omega (arith, r.count_eight))
      ∙ some_repeated (λ x. has (get_or hot x 0) c) (pin_in rows s) n (8 - n) r.count_some (λ k a b. repeats k a (omega (arith, r.count_eight))))

some_each : (f g : ℕ → Bool) (xs : List ℕ) → Each (λ x. f x ≡ g x) xs → some f xs ≡ some g xs
unfolding some
some_each f g [] h = refl
some_each f g (x ∷ xs) h = ap₂ ◌||◌ h.0 (some_each f g xs h.1)

some_map : (f : Class → Bool) (v : ℕ → Class) (xs : List ℕ) → some f (map v xs) ≡ some (λ x. f (v x)) xs
unfolding some
some_map f v [] = refl
some_map f v (x ∷ xs) = ap (λ b. f (v x) || b) (some_map f v xs)

-- a word's gate has its kind's operation and inversion
kind_is : (word : ℕ) (ps : List Class) → gate_at (gate_in word) ps ≡ gate_class (kind_in word) ps
unfolding gate_at
kind_is word ps =
    let a : gate_in word / 2 % 2 ≡ gate_in word / 2 = omega arith in
    rw a (λ i. invert_if (inverts_is word i) (join_all (gate_operation word i) ps)) ∙ sym (gate_class_op (kind_in word) ps)

-- Where each pin's set is that of its driver's class alone, their union tells the gate's class, and whether a driver is constant.
module _ (hot pins : List ℕ) (v : ℕ → Class) (is : Each (λ x. get_or hot x 0 ≡ insert 0 (v x)) pins) where
  collected : pin_set hot pins ≡ collect (map v pins)
  unfolding pin_set
  collected =
      set_of_ext _ _
      (λ c. some_each _ _ pins (each_map (λ x e. ap (λ m. has m c) e ∙ has_one (v x) c) pins is) ∙ sym (some_map (λ k. same k c) v pins))
      ∙ sym (collect_is (map v pins))

  pub set_class : (word : ℕ) → gate_at (gate_in word) (members (pin_set hot pins)) ≡ gate_class (kind_in word) (map v pins)
  set_class word = ap (λ m. gate_at (gate_in word) (members m)) collected ∙ gate_collect (gate_in word) (map v pins) ∙ kind_is word (map v pins)

  pub set_touched : (codes : List ℕ) → Each (λ x. code (v x) ≡ get_or codes x 0) pins
      → (has (pin_set hot pins) c0 || has (pin_set hot pins) c1) ≡ any_constant codes pins
  unfolding any_constant every_class
  set_touched codes are =
      ap₂ ◌||◌ (has_in c0) (has_in c1) ∙ sym (some_or (λ k. same k c0) (λ k. same k c1) (map v pins))
      ∙ some_map (λ k. same k c0 || same k c1) v pins
      ∙ some_each _ _ pins (each_map (λ x e. constant (v x) ∙ ap is_constant_code e) pins are)
    where
      has_in : (c : Class) → has (pin_set hot pins) c ≡ some (λ k. same k c) (map v pins)
      has_in c = ap (λ m. has m c) (collected ∙ collect_is (map v pins)) ∙ has_set_of (λ c. some (λ k. same k c) (map v pins)) c

      constant : (k : Class) → (same k c0 || same k c1) ≡ is_constant_code (code k)
      constant k = beq→≡ _ _ (class_at_lem (λ k. beq (same k c0 || same k c1) (is_constant_code (code k))) tt k)
