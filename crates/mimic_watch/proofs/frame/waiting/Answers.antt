use Rattle.mimic_watch.proofs.frame.waiting.Goals as goal

pub returns : goal.returns
returns c =
    let made = rw (c.new-text.ensures.writer, c.in_ok-from_slice.ensures.items) at (c.in_ok-text_of.ensures _ _ c.add_time.ensures) in
    rw (c.deref.ensures.value, made) at c.front_of.ensures
