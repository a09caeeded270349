use Rattle.std.proofs.Common.{rules, inl, inr}
use Rattle.std.proofs.lemmas.Str.Pattern.{contains_text}
use Rattle.libtest_mimic.specs.Prelude.{kind_part}
use Rattle.libtest_mimic.proofs.FullName.{occurs_at, occurs_second, occurs_split}
use Rattle.libtest_mimic.proofs.select.occurs.Goals as goal

pub returns-then-contains : goal.returns-then-contains
returns-then-contains c =
    let found = (contains_text c.contains.result c.args.pattern.now c.args.name.now c.contains.ensures.cases).0 (search rules) in (
      (λ t. occurs_second c.args.pattern.now (kind_part c.args.kind.now) c.args.name.now found),
      (λ h. search rules),
    )

pub returns-else-contains : goal.returns-else-contains
returns-else-contains c =
    let e = rw (c.as_bytes.ensures.value, c.as_bytes-else-contains.ensures.value) at c.begins_in_kind_part.ensures in (
      (λ t. let begins = e.0 t in occurs_at c.args.pattern.now _ begins.0 begins.2),
      (λ h. elim (occurs_split c.args.pattern.now (kind_part c.args.kind.now) c.args.name.now h) [
        | inl begins ↦ e.1 begins
        | inr in_name ↦
            let yes = (contains_text c.contains.result c.args.pattern.now c.args.name.now c.contains.ensures.cases).1 in_name in
            cc
      ]),
    )
