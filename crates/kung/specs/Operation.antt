-- A gate's operation as a value, so that AND-like and OR-like gates share every law.
use Rattle.std.specs.Prelude.{Bool, true, false, cond, not, List, [], ◌∷◌, ℕ, ◌%◌, eqb}
use Rattle.kung.specs.Class.{Class, c0, c1}
use Rattle.kung.specs.Rule.{Kind, NOT, BUFFER, AND, OR, NAND, NOR, and_all, or_all, invert, each, some}

pub data Op : Type 0 where
  and or : Op

-- document 01, "CORE": "NOT and BUFFER count as AND-like with one pin."
abbrev pub op_of : Kind → Op
op_of NOT = and
op_of BUFFER = and
op_of AND = and
op_of OR = or
op_of NAND = and
op_of NOR = or

-- "inverted for kinds 1, 5, 6"
abbrev pub inverts : Kind → Bool
inverts NOT = true
inverts BUFFER = false
inverts AND = false
inverts OR = false
inverts NAND = true
inverts NOR = true

abbrev pub invert_if : Bool → Class → Class
invert_if b k = cond b (invert k) k

-- the operation over all pins, over two, and over none
unfoldable pub join_all : Op → List Class → Class
join_all and ps = and_all ps
join_all or ps = or_all ps

unfoldable pub join : Op → Class → Class → Class
join o a b = join_all o (a ∷ b ∷ [])

-- "`1` for AND-like kinds at first and `0` for OR and NOR"
abbrev pub unit : Op → Class
unit and = c1
unit or = c0

-- the class that decides the gate alone
abbrev pub controlling : Op → Class
controlling and = c0
controlling or = c1

-- the same over values
unfoldable pub value_all : Op → List Bool → Bool
value_all and vs = each (λ v. v) vs
value_all or vs = some (λ v. v) vs

abbrev pub not_if : Bool → Bool → Bool
not_if b v = cond b (not v) v

-- an operation as a number, 0 AND and 1 OR; a larger one is read by its last bit
abbrev pub op_code : Op → ℕ
op_code and = 0
op_code or = 1

abbrev pub op_at : ℕ → Op
op_at n = cond (eqb (n % 2) 0) and or
