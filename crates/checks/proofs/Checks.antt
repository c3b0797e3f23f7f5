-- What the code's tests say of a gate's checks, and of what stands behind a pin. Assumes nothing.
use Prim.Native.Nat.{ℕ, ◌/◌, ◌≤◌, ◌<◌}
use native.Mathlib.Omega.{arith}
use mathlib.Core.Path.{◌≡◌, refl, sym, ◌∙◌, ap}
use mathlib.Core.Bool.{Bool, true, false, cond, not, ◌&&◌, ◌||◌}
use mathlib.Core.List.{List}
use mathlib.Core.Option.{Option, none, some}
use lib.Bits.{bit_and}
use lib.Dec.{T, eqb, ltb}
use borrow.Author.Tests.{eq-eqb, ne_eqb, lt-ltb}
use Rattle.kung.specs.Class.{Class, code, of_code}
use Rattle.kung.specs.Rule.{Kind, each, some as someOf, and_all, or_all}
use Rattle.kung.specs.Operation.{Op, and, or, op_of, op_at, inverts, invert_if, join, join_all}
use Rattle.kung.specs.Sets.{set_of, has, meets, image, possible, wanted_for}
use Rattle.kung.specs.Members.{swap_if}
use Rattle.kung.specs.Tables.{preimage, reach}
use Rattle.kung.specs.Lookup.{joined_by, has_one, gives_one, ends_with, stop_set}
use Rattle.kung.proofs.Finite.{T→≡, every_class, class_at_lem, of_code_code}
use Rattle.kung.proofs.SetLaws.{has_set_of, has_swap_if, meets_possible, wanted_preimage, code_lt}
use Rattle.kung.proofs.Unions.{set_byte}
use Rattle.search.specs.Search.{possible_of, pins_left, only, Waiting, nobody, waits, Outcome, stopped, known, same_result, known_or, checks}
use Rattle.search.proofs.Laws.{only_has, only_last}
use Rattle.checks.specs.Codes.{waiting_of, code_or, ending_of, check_of}
use Rattle.checks.proofs.Codes.{meets_and, only_code_lem}

pub stops : (wt : Waiting) → ending_of wt stopped ≡ 8
stops nobody = refl
stops (waits o p) = refl

-- what the waiting gate makes of a known class
pub joins : (waiter : ℕ) (k : Class) → code (joined_by waiter k) ≡ ending_of (waiting_of waiter) (known k)
unfolding joined_by waiting_of
joins waiter k = go (ltb waiter 16)
  where
    go : (b : Bool) → code (cond b (join (op_at (waiter / 8)) (of_code waiter) k) k) ≡ ending_of (cond b (waits (op_at (waiter / 8)) (of_code waiter)) nobody) (known k)
    go true = refl
    go false = refl

-- the checks of a possible set m, in order
module _ (m w : ℕ) (wt : Waiting) (byte : m < 256) where
  pub check_a : bit_and m w ≡ 0 → 8 ≡ check_of wt (checks m w wt)
  unfolding checks
  check_a e = rw (meets_and m w byte, eq-eqb (bit_and m w) 0 e) (sym (stops wt))

  module _ (shares : bit_and m w ≡ 0 → ⊥) where
    pub check_b : code_or (only m) < 8 → ending_of wt (known (of_code (code_or (only m)))) ≡ check_of wt (checks m w wt)
    unfolding checks
    check_b h = rw (meets_and m w byte, ne_eqb (bit_and m w) 0 shares) (go (only m) h)
      where
        go : (k : Option Class) → code_or k < 8 → ending_of wt (known (of_code (code_or k))) ≡ check_of wt (known_or k (same_result wt m))
        go (some k) h = ap (λ x. ending_of wt (known x)) (of_code_code k)
        go none h = absurd (omega arith)

    pub check_c : 8 ≤ code_or (only m) → code_or (same_result wt m) ≡ check_of wt (checks m w wt)
    unfolding checks same_result
    check_c h = rw (meets_and m w byte, ne_eqb (bit_and m w) 0 shares) (go wt (only m) h)
      where
        found : (o : Op) (p : Class) (r : Option Class) → code_or r ≡ check_of (waits o p) (known_or none r)
        found o p (some r) = refl
        found o p none = refl

        go : (wt : Waiting) (k : Option Class) → 8 ≤ code_or k → code_or (same_result wt m) ≡ check_of wt (known_or k (same_result wt m))
        go wt (some k) l = absurd (omega (arith, code_lt k))
        go nobody none l = refl
        go (waits o p) none l = found o p (only (image o p m))

-- the checks end the visit
abbrev pub ended : Option Outcome → Bool
ended (some e) = true
ended none = false

pub ended_by : (o : Option Outcome) → ended o ≡ true → (e : Outcome) × (o ≡ some e)
ended_by (some e) h = (e, refl)
ended_by none h = let z : ◌≡◌ {A = ℕ} 0 1 = cc in absurd (omega arith)

pub goes_on : (o : Option Outcome) → ended o ≡ false → o ≡ none
goes_on (some e) h = let z : ◌≡◌ {A = ℕ} 0 1 = cc in absurd (omega arith)
goes_on none h = refl

is_some : Option Class → Bool
is_some (some k) = true
is_some none = false

one_is : (m : ℕ) → m < 256 → has_one m ≡ is_some (only m)
unfolding is_some
one_is m byte = rw (only_code_lem m byte) (go (only m))
  where
    go : (k : Option Class) → ltb (code_or k) 8 ≡ is_some k
    go (some k) = lt-ltb (code k) 8 (code_lt k)
    go none = refl

gives_is : (waiter m : ℕ) → gives_one waiter m ≡ is_some (same_result (waiting_of waiter) m)
unfolding waiting_of same_result image is_some
gives_is waiter m = go (ltb waiter 16)
  where
    go : (b : Bool) → (b && has_one (image (op_at (waiter / 8)) (of_code waiter) m)) ≡ is_some (same_result (cond b (waits (op_at (waiter / 8)) (of_code waiter)) nobody) m)
    go true = one_is (image (op_at (waiter / 8)) (of_code waiter) m) (set_byte _)
    go false = refl

-- where no pin is left the checks end the visit, with the class that the gate then has
module _ (d : Kind) (p : Class) (w waiter : ℕ) where
  abbrev Last : Option Outcome
  Last = checks (possible (op_of d) (inverts d) p false) w (waiting_of waiter)

  abbrev Class₁ : Class
  Class₁ = invert_if (inverts d) p

  last_meets : meets (possible (op_of d) (inverts d) p false) w ≡ has w Class₁
  last_meets = meets_possible (op_of d) (inverts d) w false p ∙ has_swap_if (inverts d) w p

  pub last_class : code_or (only (possible (op_of d) (inverts d) p false)) ≡ code Class₁
  unfolding possible_of
  last_class = ap code_or (only_last d p)

  pub last_ends : ended Last ≡ true
  unfolding checks possible_of
  last_ends = rw (only_last d p) (go (meets (possible (op_of d) (inverts d) p false) w))
    where
      go : (b : Bool) → ended (cond b (some (known Class₁)) (some stopped)) ≡ true
      go true = refl
      go false = refl

  pub last_is : cond (has w Class₁) (code (joined_by waiter Class₁)) 8 ≡ check_of (waiting_of waiter) Last
  unfolding checks possible_of
  last_is = rw (only_last d p, last_meets) (go (has w Class₁))
    where
      go : (b : Bool) → cond b (code (joined_by waiter Class₁)) 8 ≡ check_of (waiting_of waiter) (cond b (some (known Class₁)) (some stopped))
      go true = joins waiter Class₁
      go false = sym (stops (waiting_of waiter))

-- The stop bits say whether the checks end the visit of a gate with pins left.
module _ (g waiter w : ℕ) where
  abbrev Set : Class → ℕ
  Set p = possible (op_at g) (eqb (g / 2) 1) p true

  abbrev Reach : ℕ
  Reach = reach (op_at g) (swap_if (eqb (g / 2) 1) w)

  pub over : (p : Class) → has (stop_set waiter g Reach) p ≡ ended (checks (Set p) w (waiting_of waiter))
  unfolding stop_set ends_with checks is_some possible possible_of
  over p =
      has_set_of (λ p. not (has Reach p) || (has_one (Set p) || gives_one waiter (Set p))) p
      ∙ (λ j. not (sym (meets_possible (op_at g) (eqb (g / 2) 1) w true p) j) || (one_is (Set p) (set_byte _) j || gives_is waiter (Set p) j))
      ∙ go (meets (Set p) w) (only (Set p)) (same_result (waiting_of waiter) (Set p))
    where
      go : (b : Bool) (x y : Option Class) → (not b || (is_some x || is_some y)) ≡ ended (cond b (known_or x y) (some stopped))
      go true (some k) y = refl
      go true none (some r) = refl
      go true none none = refl
      go false x y = refl

-- the waiting gate's wanted set for a visit behind it
wanted_by : Waiting → ℕ → ℕ
wanted_by nobody m = m
wanted_by (waits o p) m = preimage o p m

pub wants : (d : Kind) (g w waiter : ℕ) (p : Class) (left : Bool) (goal : ℕ) → op_at g ≡ op_of d → eqb (g / 2) 1 ≡ inverts d → waiter < 16
    → waiting_of waiter ≡ waits (op_at g) p → goal ≡ cond left (reach (op_at g) (swap_if (eqb (g / 2) 1) w)) (swap_if (eqb (g / 2) 1) w)
    → preimage (op_at (waiter / 8)) (of_code waiter) goal ≡ wanted_for (op_of d) (inverts d) p left w
unfolding wanted_by waiting_of
wants d g w waiter p left goal o i small waiting e =
    let same : waits (op_at (waiter / 8)) (of_code waiter) ≡ cond (ltb waiter 16) (waits (op_at (waiter / 8)) (of_code waiter)) nobody = rw (lt-ltb waiter 16 small) in
    ap (λ wt. wanted_by wt goal) (same ∙ waiting) ∙ ap (preimage (op_at g) p) e
    ∙ sym (wanted_preimage (op_at g) (eqb (g / 2) 1) w left p) ∙ (λ j. wanted_for (o j) (i j) p left w)

-- a possible set's only class is that of p
all_own : (o : Op) (v left : Bool) → T (every_class (λ p. has (possible o v p left) (invert_if v p)))
unfolding every_class has possible set_of someOf each join join_all and_all or_all
all_own and true true = tt
all_own and true false = tt
all_own and false true = tt
all_own and false false = tt
all_own or true true = tt
all_own or true false = tt
all_own or false true = tt
all_own or false false = tt

own : (o : Op) (v left : Bool) (p : Class) → has (possible o v p left) (invert_if v p) ≡ true
own o v left p = T→≡ _ (class_at_lem (λ p. has (possible o v p left) (invert_if v p)) (all_own o v left) p)

pub only_own : (d : Kind) (p : Class) (left : List ℕ) (k : Class) → only (possible_of d p left) ≡ some k → k ≡ invert_if (inverts d) p
unfolding possible_of
only_own d p left k e = sym (only_has (possible_of d p left) k (invert_if (inverts d) p) e (own (op_of d) (inverts d) (pins_left left) p))
