use Rattle.std.proofs.lemmas.List.Sorted.{IsPermutation-map}
use Rattle.reports.specs.declared.by_name.NumberedFile.{NumberedFile}
use Rattle.reports.proofs.by_name.in_order.Goals as goal

pub returns : goal.returns
returns c =
    rw (c.in_ok-files_of.ensures, ← c.in_ok-named.ensures)
    (IsPermutation-map (λ (it : NumberedFile). it.file) c.in_ok-named.named.items c.sort.new.named.items c.in_ok-sort.ensures)
