use Rattle.std.proofs.Common.{rules, tests}
use Rattle.std.proofs.lemmas.Iterator.{YieldsList-from_map_by, YieldsList-from_slice}
use Rattle.std.proofs.lemmas.Iterator.Search.{find_from_yields_List}
use Rattle.std.specs.Prelude.{string_bytes}
use Rattle.mimic_args.specs.Line.{is_option}
use Rattle.mimic_args.proofs.line.first_option.Goals as goal

pub returns : goal.returns
returns c =
    let words = YieldsList-from_map_by _ (λ r. r.now) string_bytes (YieldsList-from_slice c.args.words.now (cc)) c.map.ensures.closure (λ x r q k. search (rules, tests)) in
    find_from_yields_List is_option _ _ _ c.find.ensures.ran words (λ x b q k. search (rules, tests))
