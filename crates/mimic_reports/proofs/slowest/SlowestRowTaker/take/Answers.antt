use Rattle.std.proofs.Common.{◌∙◌, List, ◌++◌, ◌∷◌, [], ap, map, subst, sym}
use Rattle.std.proofs.lemmas.List.{map-append}
use Rattle.mimic_events.specs.Contents.{entry_read}
use Rattle.mimic_reports.specs.Slowest.{HasSlowest, IsEnough, Timed, timed_among, timed_read}
use Rattle.mimic_reports.proofs.EnoughRows.{more_timed, slowest_kept}
use Rattle.mimic_reports.proofs.slowest.SlowestRowTaker.take.Goals as goal
use Rattle.mimic_reports.proofs.slowest.SlowestRowTaker.take.Goals.{then-len-self+in_ok-cut, else-len-self}

pub returns : goal.returns
returns c start entries taken =
    let count = c.args.self.now.count in
    let pushed = ap (map timed_read) c.in_ok-push.ensures.items ∙ map-append timed_read c.args.self.now.rows.items _ in
    let more : (rows : List Timed) → HasSlowest start rows
    → IsEnough count (rows ++ timed_among (entries ++ entry_read c.args.row ∷ [])) (map timed_read c.push.new.self.items) = λ rows h. subst (IsEnough count _) (sym pushed)
    (more_timed count rows _ entries (entry_read c.args.row) c.in-Some.nanos c.in-Some.is (taken.1 rows h)) in
    elim c.if-len-self.branch [
      | then-len-self+in_ok-cut w ↦
          let cut = w.in_ok-cut.ensures in
          rw (w.self-is, cut.0) (taken.0, λ rows h. subst (IsEnough count _) (sym cut.1.2) (slowest_kept count _ _ cut.1.0 (more rows h) cut.1.1))
      | else-len-self w ↦ rw w.self-is (taken.0, more)
    ]
