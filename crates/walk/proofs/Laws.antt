-- Laws of what a walk finds at a place. Assumes nothing.
use Rattle.std.proofs.Common.{◌≡◌, ℕ, ◌≤◌, ◌<◌, true, false, List, length, Some, None, arith}
use Rattle.std.proofs.lemmas.Bool.Decides.{nat_tests}
use Rattle.words.specs.Words.{outside}
use Rattle.records.specs.Records.{past_record, unfit, no_kind}
use Rattle.netlist.specs.Formed.{RecordFormed}
use Rattle.walk.specs.Walk.{whole, found_at}

module _ (n : List ℕ) (place : ℕ) where
  -- the check's records are whole
  pub whole_formed : RecordFormed n place → whole n place ≡ true
  unfolding unfit no_kind outside
  whole_formed f = grind (arith, nat_tests)

  pub whole_room : whole n place ≡ true → past_record n place ≤ length n
  whole_room e = grind (arith, nat_tests)

  module _ (number count : ℕ) where
    pub found_none : count ≤ number → None ≡ found_at n number place count
    found_none h = grind (arith, nat_tests)

    pub found_no_record : whole n place ≡ false → None ≡ found_at n number place count
    found_no_record e = grind (arith, nat_tests)

    pub found_record : number < count → whole n place ≡ true → Some (past_record n place) ≡ found_at n number place count
    found_record h e = grind (arith, nat_tests)

    -- a record is found where one is left and is whole
    pub record_found : (past : ℕ) → found_at n number place count ≡ Some past → (number < count) × (whole n place ≡ true) × (past ≡ past_record n place)
    record_found past e = grind (arith, nat_tests)
