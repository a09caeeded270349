use Rattle.std.proofs.Common.{◌≡◌, ◌++◌, arith, length, length-append}
use Rattle.libtest_mimic.specs.Prelude.{kind_part}
use Rattle.libtest_mimic.proofs.FullName.{stands_whole, whole_stands}
use Rattle.libtest_mimic.proofs.select.is_full_name.Goals as goal

pub returns-then-pattern-front-2 : goal.returns-then-pattern-front-2
returns-then-pattern-front-2 c =
    let pattern = c.args.pattern.now in
    let part = kind_part c.args.kind.now in
    let name = c.args.name.now in
    let same : length pattern ≡ length (part ++ name) = omega (arith, c.kind_part_len-front.ensures, c.if-pattern-front.false, c.if-pattern-front-2.true, length-append part name) in (
      (λ t. whole_stands pattern (part ++ name) same (c.stands_at.ensures.0 t)),
      (λ e. c.stands_at.ensures.1 (stands_whole pattern (part ++ name) e)),
    )
