use Rattle.std.proofs.Common.{rules}
use Rattle.listing.proofs.Pages.{first_short, first_written}
use Rattle.listing.proofs.put_first.Goals as goal

pub returns-then-buffer-lt-LINE : goal.returns-then-buffer-lt-LINE
returns-then-buffer-lt-LINE c = first_short c.args.netlist.now c.args.list.now c.args.buffer.now c.if-buffer-lt-LINE.true

pub returns : goal.returns
returns c =
    first_written c.args.netlist.now c.args.list.now c.if-buffer-lt-LINE.false
    (record { starts = search rules; none = c.new-text.ensures.1; ends = search rules; all = c.len.ensures })
    c.put_line.ensures
