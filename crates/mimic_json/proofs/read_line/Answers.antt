use Rattle.std.proofs.Common.{sym, ◌∙◌, rules}
use Rattle.mimic_json.proofs.Lines.{lines_are_objects, ok_follows, text_says}
use Rattle.mimic_json.proofs.read_line.Goals as goal

pub returns-clause-law : goal.returns-clause-law
returns-clause-law c = lines_are_objects

pub returns-clause-fields : goal.returns-clause-fields
returns-clause-fields c = λ fields says.
    let is = text_says c.args.line.now fields says in
    ok_follows c.from_str.result _ _ (λ v h. let same = sym h ∙ is in cc) c.from_str.ensures.ok

pub returns-clause-memory : goal.returns-clause-memory
returns-clause-memory c = λ fields says. let is = text_says c.args.line.now fields says in search (rules, is)
