use Rattle.std.proofs.Common.{arith, rules, ◌+◌, drop, length}
use Rattle.std.proofs.lemmas.List.Prefix.{at_from_reads}
use Rattle.libtest_mimic.specs.Prelude.{kind_part}
use Rattle.libtest_mimic.proofs.select.stands_in_kind_part.Goals as goal

pub returns : goal.returns
returns c =
    let part = kind_part c.args.kind.now in
    let piece = c.args.piece.now in (
      (λ _. (
        drop (c.args.start + length piece) part,
        at_from_reads 0 part piece c.args.start c.requires (λ k lt. c.loop-i.invariant k (omega arith)),
      )),
      (λ _. search rules),
    )
