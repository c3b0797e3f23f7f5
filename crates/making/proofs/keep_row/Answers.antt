use Rattle.std.proofs.Common.{◌≡◌, ◌+◌, ◌-◌, ◌*◌, [], ◌∷◌, sym, length, arith, length-append}
use Rattle.std.proofs.lemmas.Slice.{put_mid-paste}
use Rattle.making.proofs.Making.{put_out, put_more, paste_end}
use Rattle.making.proofs.keep_row.Goals.{Start}
use Rattle.making.proofs.keep_row.Goals as goal

-- `keep_row`: the pins, and the word after them. Assumes nothing.
long : (c : Start) → length c.args.row ≡ 8
long c = omega arith

pub returns-then-rows-base : goal.returns-then-rows-base
returns-then-rows-base c = let a = c.args in sym (put_out a.rows.now (9 * a.signal) _ (omega (arith, length-append a.row (a.word ∷ []), long (goal.at.returns-then-rows-base c).Start)))

pub returns : goal.returns
returns c =
    let a = c.args in
    let eight = long (goal.at.returns c).Start in
    let e : 9 * a.signal + 8 ≡ 9 * a.signal + length a.row = omega (arith, eight) in
    let pins = paste_end a.rows.now (9 * a.signal) a.row 8 _ (omega (arith, eight)) (sym eight)
    (put_mid-paste (9 * a.signal) (9 * a.signal + 8 - 9 * a.signal) a.rows.now _ a.row 8 c.copy_from_slice.ensures.after (omega arith) (sym eight)) in
    rw (pins, e) (put_more a.rows.now (9 * a.signal) a.row a.word (omega (arith, eight)))
