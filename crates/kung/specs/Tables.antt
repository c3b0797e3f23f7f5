-- The constant tables, each by its rule.
use Rattle.std.specs.Prelude.{ℕ, zero, suc, ◌+◌, ◌*◌, ◌/◌, ◌%◌, cond, List, [], ◌∷◌, ltb}
use Rattle.kung.specs.Class.{Class, classes, of_code}
use Rattle.kung.specs.Rule.{some}
use Rattle.kung.specs.Operation.{Op, join, op_at}
use Rattle.kung.specs.Sets.{set_of, has, image}

-- f i, f (i + 1), and so on: n numbers
unfoldable pub tab : (ℕ → ℕ) → ℕ → ℕ → List ℕ
tab f i zero = []
tab f i (suc n) = f i ∷ tab f (suc i) n

-- Document 01, "CORE": "a constant table of 4,096 entries: AND or OR, eight classes p, 256 sets"
unfoldable pub image_rule : ℕ → ℕ
image_rule i = image (op_at (i / 2048)) (of_code (i / 256)) (i % 256)

-- an entry's place in it
abbrev pub image_place : (operation p set : ℕ) → ℕ
image_place operation p set = operation % 2 * 2048 + p % 8 * 256 + set

unfoldable pub image_table : List ℕ
image_table = tab image_rule 0 4096

-- the classes that p joins into the set
unfoldable pub preimage : Op → Class → ℕ → ℕ
preimage o p m = set_of (λ k. has m (join o p k))

-- the classes that some further class joins into the set
unfoldable pub reach : Op → ℕ → ℕ
reach o m = set_of (λ k. some (λ c. has m (join o k c)) classes)

-- wanted sets, in blocks: preimages for AND or OR and eight classes p, then reach for AND or OR
unfoldable pub block_rule : (block set : ℕ) → ℕ
block_rule b m = cond (ltb b 16) (preimage (op_at (b / 8)) (of_code b) m) (reach (op_at b) m)

-- Both are unions over the set's classes, so a block has only the 16 sets of lower classes and the 16 of upper classes.
unfoldable pub half_set : ℕ → ℕ
half_set i = cond (ltb (i % 32) 16) (i % 16) (i % 16 * 16)

unfoldable pub wanted_rule : ℕ → ℕ
wanted_rule i = block_rule (i / 32) (half_set i)
