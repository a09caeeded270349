use Rattle.std.proofs.Common.{rules, All}
use Rattle.mimic_main.proofs.Cases.{can_run}
use Rattle.mimic_main.specs.contracts.entry.trials_of_cases.F-FnOnce.{words}
use Rattle.mimic_main.proofs.entry.trials_of_cases.Goals as goal

pub returns-in_ok-of_cases-in-Ok-clause-runnable : goal.returns-in_ok-of_cases-in-Ok-clause-runnable
returns-in_ok-of_cases-in-Ok-clause-runnable g c =
    let may = (words g.row.N g.row.I g.row.F g.row.X g.F.FnOnce).pre in
    let holds : All (λ case. may c.args.check case.1) c.in-Ok.cases.items = search (rules, c.requires) in
    can_run g.N.AsStr.text c.args.check c.in-Ok.cases.items c.in_ok-of_cases-in-Ok.field-0.items may c.in_ok-of_cases-in-Ok.ensures holds
