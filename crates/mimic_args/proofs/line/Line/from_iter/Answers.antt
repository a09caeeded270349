use Rattle.std.proofs.Common.{rules, arith, ℕ, List, ◌≡◌, ◌∙◌, ◌+◌, ◌++◌, ◌∷◌, [], codes, get_or, ap, ap₂, inl, inr, subst, sym, drop, length, map, take}
use Rattle.std.proofs.Math.ListN.{drop_of_length-le}
use Rattle.std.proofs.lemmas.Bool.{cases_lt}
use Rattle.std.proofs.lemmas.List.{get_or-map, map-append, drop-map, take-map}
use Rattle.std.specs.Prelude.{IfErr, IfOk, string_bytes}
use Rattle.mimic_args.specs.CommandLine.{IsMeaningOf, IsRefusalOf}
use Rattle.mimic_args.specs.Line.{IsOwnLength}
use Rattle.mimic_args.proofs.line.Line.from_iter.Goals as goal

pub returns : goal.returns
returns g c =
    let text = g.S.AsStr.text in
    let words = c.args.words.now in
    let own = c.own_length-own.result in
    let rest = c.split_at.result.1.now in
    let behind : map text rest ≡ drop 1 (map text words) = ap (map text) c.split_at.ensures.back ∙ sym (drop-map text 1 words) in
    let name : string_bytes c.push_str.new.self ≡ get_or (map text words) 0 [] ++ codes " .. --" =
    c.in_ok-push_str.ensures.bytes ∙ ap (λ (t : List ℕ). t ++ codes " .. --") (c.in_ok-name.ensures.ok ∙ (c.as_str.ensures ∙ (ap text c.index-words-0.is ∙ sym (get_or-map text words 0 c.index-words-0.result [] (search (rules, arith)))))) in
    let cut : drop c.min.result rest ≡ drop (own + 1) rest =
    elim (cases_lt own (length rest)) [
      | inl below ↦ ap (λ n. drop n rest) (omega (arith, c.min.ensures, below))
      | inr past ↦ drop_of_length-le rest (omega (arith, c.min.ensures, past)) ∙ sym (drop_of_length-le rest (omega (arith, past)))
    ] in
    let options : map text c.split_at-2.result.1.now ≡ drop (own + 1) (drop 1 (map text words)) =
    ap (map text) (c.split_at-2.ensures.back ∙ cut) ∙ (sym (drop-map text (own + 1) rest) ∙ ap (drop (own + 1)) behind) in
    let asked : map string_bytes c.as_slice.result.now ≡ (get_or (map text words) 0 [] ++ codes " .. --") ∷ drop (own + 1) (drop 1 (map text words)) =
    ap (map string_bytes) (c.as_slice.ensures.value ∙ c.in_ok-append.ensures.items) ∙ (map-append string_bytes c.in_ok-line.line.items c.in_ok-all_copied.field-0.items
    ∙ ap₂ (λ l r. l ++ r) (ap (map string_bytes) c.in_ok-line.ensures.items ∙ ap (λ n. n ∷ []) name) (c.in_ok-all_copied.ensures ∙ options)) in (
      record {
        own_length = own;
        is_own = subst (λ l. IsOwnLength l own) behind c.own_length-own.ensures;
        own = c.in_ok-all_copied-2.ensures ∙ (sym (take-map text own rest) ∙ ap (take own) behind);
        options = subst (λ l. IfOk c.from_iter.result (IsMeaningOf l)) asked c.from_iter.ensures.taken;
      },
      subst (λ l. IfErr c.from_iter.result (IsRefusalOf l)) asked c.from_iter.ensures.refused,
    )
