-- Which room a card gets, and the signals that it has place for.
use Rattle.std.specs.Prelude.{ℕ, cond, leb}
use Rattle.rooms.specs.declared.Room.{Room}
use Rattle.rooms.specs.declared.Room.TheVariants.{Tiny, Small, Middle, Large}

abbrev pub room_of : (signals : ℕ) → Room
room_of n = cond (leb n 64) Tiny (cond (leb n 320) Small (cond (leb n 512) Middle Large))

abbrev pub signals_in : Room → ℕ
signals_in Tiny = 64
signals_in Small = 320
signals_in Middle = 512
signals_in Large = 2304
