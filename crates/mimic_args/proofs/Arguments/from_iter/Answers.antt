use Rattle.std.proofs.Common.{ap, ◌∙◌, sym, map, inr}
use Rattle.mimic_args.specs.Matched.{asks_for_excluded}
use Rattle.mimic_args.proofs.Accepted.{all_accepted}
use Rattle.mimic_args.proofs.Refusals.{refused_for}
use Rattle.mimic_args.proofs.SameLines.{same_fault, same_matches}
use Rattle.mimic_args.proofs.SimpleLine.{line_is_free, line_is_simple, parses_lines}
use Rattle.mimic_args.proofs.Arguments.from_iter.Goals as goal

pub returns-in-Err-clause-refused : goal.returns-in-Err-clause-refused
returns-in-Err-clause-refused g c =
    let parses = parses_lines c.in_ok-command.command _ _ c.test.ensures.declared c.quiet.ensures.declared c.in_ok-command.ensures in
    refused_for _ parses (map g.S.AsStr.text c.args.words.now) c.in-Err.error _ (c.in-Err.ensures.kinds (line_is_free _ parses)) c.in_ok-error_of-in-Err.ensures

pub returns-then-asks_for_excluded-clause-refused : goal.returns-then-asks_for_excluded-clause-refused
returns-then-asks_for_excluded-clause-refused g c =
    let parses = parses_lines c.in_ok-command.command _ _ c.test.ensures.declared c.quiet.ensures.declared c.in_ok-command.ensures in
    let words = map g.S.AsStr.text c.args.words.now in
    let rows = (c.in-Ok.ensures.matches (line_is_simple _ parses)).0 ∙ same_matches _ parses words in
    let no_fault = (same_fault _ parses words).same ∙ c.in-Ok.ensures.kinds (line_is_free _ parses) in
    inr (no_fault, sym (ap asks_for_excluded rows) ∙ sym c.asks_for_excluded.ensures ∙ c.if-asks_for_excluded.true)

pub returns-clause-taken : goal.returns-clause-taken
returns-clause-taken g c =
    let parses = parses_lines c.in_ok-command.command _ _ c.test.ensures.declared c.quiet.ensures.declared c.in_ok-command.ensures in
    let words = map g.S.AsStr.text c.args.words.now in
    let rows = (c.in-Ok.ensures.matches (line_is_simple _ parses)).0 ∙ same_matches _ parses words in
    record {
      no_fault = (same_fault _ parses words).same ∙ c.in-Ok.ensures.kinds (line_is_free _ parses);
      fields = rw (← rows) c.in_ok-args.ensures;
      accepted = rw (← rows) (all_accepted _ parses _ c.in_ok-args.args c.in-Ok.ensures.parsed c.in_ok-args.ensures);
      no_excluded = sym (ap asks_for_excluded rows) ∙ sym c.asks_for_excluded.ensures ∙ c.if-asks_for_excluded.false;
    }
