-- If a parse took a line, the first value of an option passed the reader that is declared for it.
use Rattle.std.proofs.Common.{◌≡◌, ◌∙◌, ◌<◌, ap, arith, Bool, cond, false, filter, inl, inr, length, List, map, None, refl, Some, subst, suc, sym, true, zero, ℕ, [], ◌∷◌}
use Rattle.std.proofs.lemmas.Bool.{cases_lt}
use Rattle.std.proofs.lemmas.List.Elements.{All-drop, All-get_or}
use Rattle.std.proofs.lemmas.Slice.Eq.{bytes_eq-Decides}
use Rattle.std.specs.Borrow.{Bor}
use Rattle.std.specs.List.{All, AllByRecursion, slice_index_or}
use Rattle.std.specs.Prelude.{codes, slice_get, unwrap_or}
use Rattle.std.specs.Str.{bytes_eq}
use Rattle.clap.proofs.SimpleLemmas.{plain_fields, simple_groups}
use Rattle.clap.proofs.WalkLemmas.{both}
use Rattle.clap.specs.Built.{IsAuto, IsParsedFrom, SameRules}
use Rattle.clap.specs.Facts.{Entry, EntryPasses, PassesArg, args_of, groups_of, parser_of, parser_of_value}
use Rattle.clap.specs.Matches.{found_of}
use Rattle.clap.specs.Simple.{App, app_of, is_simple}
use Rattle.clap.specs.Values.{Accepts}
use Rattle.clap.specs.Walk.{Rule, Text, first_of, row_of, rows_of, rule_of, texts}
use Rattle.clap.specs.declared.builder.arg.Arg.{Arg}
use Rattle.clap.specs.declared.builder.command.Command.{Command}
use Rattle.clap.specs.declared.builder.value_parser.ValueParser.{ValueParser}
use Rattle.clap.specs.declared.parser.matches.ArgMatches.{ArgMatches}

-- the rules of an id
abbrev pub rules_of_id : Text → List Rule → List Rule
rules_of_id id = filter (λ r. bytes_eq r.id id)

-- what holds of the rules of an id holds of an argument that has the id
rule_fits : (P : Rule → Type 0) (id : Text) (xs : List Arg) (k : ℕ) (d : Arg) → AllByRecursion P (rules_of_id id (map rule_of xs)) → k < length xs
    → bytes_eq (slice_index_or xs k d).id.now id ≡ true → P (rule_of (slice_index_or xs k d))
rule_fits P id [] k d all lt hit = absurd (omega arith)
rule_fits P id (x ∷ xs) zero d all lt hit = (rw hit at all).0
rule_fits P id (x ∷ xs) (suc k) d all lt hit = rule_fits P id xs k d (others (bytes_eq x.id.now id) (rules_of_id id (map rule_of xs)) all) (omega arith) hit
  where
    others : (b : Bool) (rest : List Rule) → AllByRecursion P (cond b (rule_of x ∷ rest) rest) → AllByRecursion P rest
    others true rest here = here.1
    others false rest here = here

-- the only rule of an id
only_rule : (id : Text) (xs : List Arg) (r : Rule) (k : ℕ) (d : Arg) → rules_of_id id (map rule_of xs) ≡ r ∷ [] → k < length xs
    → bytes_eq (slice_index_or xs k d).id.now id ≡ true → rule_of (slice_index_or xs k d) ≡ r
only_rule id xs r k d one lt hit = rule_fits (λ x. x ≡ r) id xs k d (rw one (refl, tt)) lt hit

-- the entry of an id that has a first value
first_entry : (P : Entry → Type 0) (xs : List Entry) (id t : Text) → All P xs → first_of id (map row_of xs) ≡ Some t
    → (e : Entry) × (bytes_eq e.0.now id ≡ true) × (slice_get (texts e.1.vals.items) 0 ≡ Some t) × P e
first_entry P [] id t all found =
    let bad : None ≡ Some t = found in
    cc
first_entry P (x ∷ xs) id t all found = go (bytes_eq x.0.now id) refl (λ more. first_entry P xs id t (All-drop P 1 (x ∷ xs) all) more)
  where
    go : (b : Bool) → bytes_eq x.0.now id ≡ b
        → (first_of id (map row_of xs) ≡ Some t → (e : Entry) × (bytes_eq e.0.now id ≡ true) × (slice_get (texts e.1.vals.items) 0 ≡ Some t) × P e)
        → (e : Entry) × (bytes_eq e.0.now id ≡ true) × (slice_get (texts e.1.vals.items) 0 ≡ Some t) × P e
    go true hit later = (x, hit, rw hit at found, All-get_or P (x ∷ xs) 0 x (omega arith) all)
    go false miss later = later (rw miss at found)

head_value : (P : Text → Type 0) (vs : List (Bor Text)) (t : Text) → slice_get (texts vs) 0 ≡ Some t → All (λ v. P v.now) vs → P t
head_value P [] t first all =
    let bad : None ≡ Some t = first in
    cc
head_value P (v ∷ vs) t first all =
    subst P (ap (λ o. unwrap_or o v.now) first) (All-get_or (λ w. P w.now) (v ∷ vs) 0 v (omega arith) all)

-- what is declared for the one option of an id
pub record IsReadBy (id : Text) (q : ValueParser) (rules : List Rule) : Type 0 where
  pub rule : Rule
  pub only : rules_of_id id rules ≡ rule ∷ []
  pub parser : rule.parser ≡ Some q
  pub ignore_case : rule.ignore_case ≡ false
  pub named : id ≡ [] → ⊥
  pub no_help : codes "help" ≡ id → ⊥
  pub no_version : codes "version" ≡ id → ⊥

-- a text that passes the built argument of this id passes the declared reader
argument_takes : (old : Command) (m : ArgMatches) (p : IsParsedFrom old m) (id t : Text) (q : ValueParser) → IsReadBy id q (map rule_of (args_of old))
    → PassesArg p.built id t → Accepts false q t
argument_takes old m p id t q is pass =
    let x = pass.1 in
    elim (cases_lt pass.0 (length (args_of old))) [
      | inl under ↦
          let a = slice_index_or (args_of old) pass.0 x in
          let s = subst (λ w. SameRules a w) pass.3 (p.from.kept pass.0 x under).1 in
          let hit : bytes_eq a.id.now id ≡ true = rw (← s.id) pass.4.0 in
          let rule = only_rule id (args_of old) is.rule pass.0 x is.only under hit in
          let parser : parser_of x ≡ q = ap parser_of_value (s.parser q (ap (λ (r : Rule). r.parser) rule ∙ is.parser)) in
          let plain : x.ignore_case ≡ false = s.ignore_case ∙ (ap (λ (r : Rule). r.ignore_case) rule ∙ is.ignore_case) in
          subst (λ (b : Bool). Accepts b q t) plain (subst (λ (w : ValueParser). Accepts x.ignore_case w t) parser pass.4.1)
      | inr over ↦
          let own = (bytes_eq-Decides x.id.now id).0 pass.4.0 in
          let auto = subst IsAuto pass.3 (p.from.extra pass.0 x over pass.2) in
          absurd (elim auto [ inl h ↦ is.no_help (sym h ∙ own) | inr h ↦ is.no_version (sym h ∙ own) ])
    ]

-- the first value of the option passed its reader
pub first_passed : (old : Command) (m : ArgMatches) (app : App) (id t : Text) (q : ValueParser) → IsParsedFrom old m → app_of old ≡ app → is_simple (app_of old) ≡ true
    → IsReadBy id q app.top.rules → first_of id (rows_of (found_of m)) ≡ Some t → Accepts false q t
first_passed old m app id t q p same fits is found =
    let rules : map rule_of (args_of old) ≡ app.top.rules = ap (λ (a : App). a.top.rules) same in
    let ready = both _ _ (both _ _ (both _ _ fits).0).0 in
    let fields = plain_fields old ready.0 in
    let groups : groups_of p.built ≡ [] = (p.from.same_groups (simple_groups old ready.1)).1 ∙ fields.groups in
    let parsed = p.parsed (p.from.globals ∙ fields.globals) in
    let got = first_entry (EntryPasses p.built) (found_of m).entries.items id t parsed.values found in
    let e = got.0 in
    let key : e.0.now ≡ id = (bytes_eq-Decides e.0.now id).0 got.1 in
    let single : e.1.is_group ≡ true → ⊥ = λ g. elim (got.3.3 g) [
      | inl empty ↦ is.named (sym key ∙ empty)
      | inr some ↦
          let bad : 0 < 0 = rw groups at some in
          absurd (omega arith)
    ] in
    let all : All (λ v. PassesArg p.built e.0.now v.now) e.1.vals.items = elim got.3.0 [
      | inl g ↦ absurd (single g)
      | inr vals ↦ vals
    ] in
    let pass : PassesArg p.built id t = subst (λ w. PassesArg p.built w t) key (head_value (PassesArg p.built e.0.now) e.1.vals.items t got.2 all) in
    argument_takes old m p id t q (subst (IsReadBy id q) (sym rules) is) pass
