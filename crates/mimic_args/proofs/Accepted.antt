-- Each value in a line that `clap` took is one that the readers of the options accept.
use Rattle.std.proofs.Common.{◌≡◌, ◌∙◌, ◌||◌, ap, Bool, cond, false, is_some, List, map, None, Option, refl, Some, subst, sym, true, true≢false, ℕ, [], ◌∷◌}
use Rattle.std.proofs.lemmas.Slice.Eq.{bytes_eq-Decides}
use Rattle.std.specs.Cmp.{decided}
use Rattle.std.specs.List.{list_any}
use Rattle.std.specs.Prelude.{codes, option_and_then}
use Rattle.std.specs.Str.{bytes_eq}
use Rattle.clap.proofs.WalkLemmas.{list_any-map}
use Rattle.clap.specs.Built.{IsParsedFrom}
use Rattle.clap.specs.Values.{Accepts}
use Rattle.clap.specs.Walk.{Text}
use Rattle.clap.specs.declared.builder.command.Command.{Command}
use Rattle.clap.specs.declared.builder.value_parser.ValueParser.{ValueParser}
use Rattle.clap.specs.declared.builder.value_parser.ValueParser.TheVariants as vp
use Rattle.clap.specs.declared.parser.matches.ArgMatches.{ArgMatches}
use Rattle.mimic_args.specs.CommandLine.{TakesOnly, alone, option_rule, plus, read_by, threads_rule, unstable_rule}
use Rattle.mimic_args.specs.Matched.{AreAccepted, IsNumber, IsNumberOf, IsReadFrom, colour_name, colours, entries_of, first_text, unstable_name, unstables}
use Rattle.mimic_trial.specs.Formats.{format_name, formats, named}
use Rattle.mimic_args.specs.declared.Arguments.{Arguments}
use Rattle.mimic_args.proofs.Passed.{IsReadBy, first_passed}
use Rattle.mimic_args.proofs.SimpleLine.{ParsesLines, line_is_simple, parsed_options}

-- a text among the names of the values names one of them
names_one : {A : Type 0} (name : A → Text) (values : List A) (t : Text) → list_any (λ n. bytes_eq n t) (map name values) ≡ true → is_some (named name values t) ≡ true
names_one name [] t e = absurd (true≢false (sym e))
names_one name (a ∷ rest) t e = at (bytes_eq t (name a)) (rw ((decided bytes_eq bytes_eq-Decides).symm (name a) t) at e) (λ more. names_one name rest t more)
  where
    at : (b : Bool) → (b || list_any (λ n. bytes_eq n t) (map name rest)) ≡ true
        → (list_any (λ n. bytes_eq n t) (map name rest) ≡ true → is_some (named name rest t) ≡ true) → is_some (cond b (Some a) (named name rest t)) ≡ true
    at true h later = refl
    at false h later = later h

-- a reader of these names takes no other text
taken_named : {A : Type 0} (name : A → Text) (values : List A) (p : ValueParser) (t : Text) → TakesOnly (map name values) p → Accepts false p t → is_some (named name values t) ≡ true
taken_named name values p t only takes =
    let listed = subst (λ w. Accepts false w t) only.1 takes in
    let some = sym (list_any-map (λ n. bytes_eq n t) (λ n. n.now) only.0.now) ∙ listed in
    names_one name values t (ap (list_any (λ n. bytes_eq n t)) (sym only.2) ∙ some)

-- a value that is read by its name is there if the text is
named_there : {A : Type 0} (name : A → Text) (values : List A) (first : Option Text) (r : Option A) → r ≡ option_and_then (named name values) first
    → ((t : Text) → first ≡ Some t → is_some (named name values t) ≡ true) → is_some first ≡ is_some r
named_there name values None r is takes = sym (ap is_some is)
named_there name values (Some t) r is takes = sym (ap is_some is ∙ takes t refl)

number_there : (first : Option Text) (r : Option ℕ) → IsNumberOf first r → ((t : Text) → first ≡ Some t → IsNumber t) → is_some first ≡ is_some r
number_there None r is takes = sym (ap is_some is)
number_there (Some t) (Some n) is takes = refl
number_there (Some t) None is takes = absurd (is (takes t refl))

unstable_is : (u c f : ValueParser) → IsReadBy (codes "unstable") u (parsed_options u c f).top.rules
unfolding plus
unstable_is u c f = record { rule = (read_by u (alone unstable_rule)).0; only = refl; parser = refl; ignore_case = refl; named = λ e. cc; no_help = λ e. cc; no_version = λ e. cc }

color_is : (u c f : ValueParser) → IsReadBy (codes "color") c (parsed_options u c f).top.rules
unfolding plus
color_is u c f = record { rule = (read_by c (alone (option_rule (codes "color")))).0; only = refl; parser = refl; ignore_case = refl; named = λ e. cc; no_help = λ e. cc; no_version = λ e. cc }

format_is : (u c f : ValueParser) → IsReadBy (codes "format") f (parsed_options u c f).top.rules
unfolding plus
format_is u c f = record { rule = (read_by f (alone (option_rule (codes "format")))).0; only = refl; parser = refl; ignore_case = refl; named = λ e. cc; no_help = λ e. cc; no_version = λ e. cc }

threads_is : (u c f : ValueParser) → IsReadBy (codes "test-threads") (vp.Unsigned 0 18446744073709551615) (parsed_options u c f).top.rules
unfolding plus
threads_is u c f = record { rule = threads_rule; only = refl; parser = refl; ignore_case = refl; named = λ e. cc; no_help = λ e. cc; no_version = λ e. cc }

-- what a parse took is accepted
pub all_accepted : (old : Command) → ParsesLines old → (m : ArgMatches) (a : Arguments) → IsParsedFrom old m → IsReadFrom (entries_of m) a → AreAccepted (entries_of m) a
all_accepted old parses m a p fields =
    let u = parses.u in
    let c = parses.c in
    let f = parses.f in
    let passed : (id t : Text) (q : ValueParser) → IsReadBy id q (parsed_options u c f).top.rules → first_text (entries_of m) id ≡ Some t → Accepts false q t =
    λ id t q is found. first_passed old m (parsed_options u c f) id t q p parses.app (line_is_simple old parses) is found in
    record {
      unstable = named_there unstable_name unstables _ a.unstable_flags fields.unstable_flags (λ t e. taken_named unstable_name unstables u t parses.readers.unstable (passed _ t u (unstable_is u c f) e));
      color = named_there colour_name colours _ a.color fields.color (λ t e. taken_named colour_name colours c t parses.readers.color (passed _ t c (color_is u c f) e));
      format = named_there format_name formats _ a.format fields.format (λ t e. taken_named format_name formats f t parses.readers.format (passed _ t f (format_is u c f) e));
      test_threads = number_there _ a.test_threads fields.test_threads (λ t e.
          let n = passed _ t (vp.Unsigned 0 18446744073709551615) (threads_is u c f) e in
          (n.0, n.1));
    }
