use Rattle.std.proofs.Common.{◌+◌, sym, take-append-drop}
use Rattle.mimic_events.proofs.FirstLines.{line_before}
use Rattle.mimic_expect.proofs.known.first_line.Goals as goal

pub returns : goal.returns
returns c =
    rw (c.split_at.ensures.front, c.split_at.ensures.back) (sym (take-append-drop (c.in_ok-at.at + 1) c.args.bytes.now), line_before c.args.bytes.now c.in_ok-at.at c.in_ok-at.ensures)
