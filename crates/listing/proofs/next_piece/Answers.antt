use Rattle.listing.proofs.next_piece.Goals as goal

-- `listing::next_piece` meets its contract: by cases of the progress. Assumes nothing.
pub returns-in-Start : goal.returns-in-Start
returns-in-Start c = rw c.in-Start.is c.put_first.ensures

pub returns-in-Change : goal.returns-in-Change
returns-in-Change c = rw c.in-Change.is c.put_changes.ensures
