use Rattle.std.proofs.Common.{◌≡◌, arith, length, vec_len}
use Rattle.mimic_printer.proofs.Adding.{adds_then}
use Rattle.mimic_watch.proofs.frame.waiting_for.Goals as goal

pub returns : goal.returns
returns c =
    let text = rw (c.new-text.ensures.writer, c.in_ok-from_slice.ensures.items) at (c.in_ok-text_of.ensures _ _ (adds_then _ _ c.add_time.ensures c.add.ensures)) in
    let front = rw (c.deref.ensures.value, text) at c.in_ok-front.ensures in
    let size : vec_len c.in_ok-front.front ≡ length c.in_ok-front.front.items = omega arith in
    let room = rw (c.len.ensures, size, front) at c.saturating_sub-room.ensures in
    let cut = rw (c.as_str.ensures.value, c.in_ok-name.ensures, room) at c.add_cut.ensures in
    rw (c.new-line.ensures.writer, front) at (c.text_of-2.ensures _ _ cut)
