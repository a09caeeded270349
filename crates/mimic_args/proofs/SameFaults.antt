-- Which fault a line has doesn't depend on where the names of a reader are kept. A line of a command without subcommands has at most one.
use Rattle.std.proofs.Common.{◌≡◌, ◌==◌, ◌&&◌, ◌||◌, ap₂, Bool, cond, false, is_some, length, List, map, nat_lt, None, not, Option, refl, Some, subst, suc, sym, true, zero, ℕ, [], ◌∷◌}
use Rattle.std.specs.Option.{option_map, option_map_or}
use Rattle.std.specs.Prelude.{slice_get}
use Rattle.std.specs.Str.{bytes_eq, chars}
use Rattle.clap.proofs.WalkLemmas.{list_any-map}
use Rattle.std.specs.List.{list_any}
use Rattle.clap.specs.Facts.{explicit_source, parser_of_value, unwrap_or_range}
use Rattle.clap.specs.Faults.{action_fault, bundle_step_fault, check_fault, default_fault, defaults_fault, flag_word_fault, flags_fault, level_fault, long_fault, option_fault, react_fault, set_fault, settle_fault, short_fault, step_fault, turn_fault, use_fault, values_fault, walk_fault, word_fault}
use Rattle.clap.specs.Kinds.{Kinds, or_else, range_kinds, request_kinds, value_kinds}
use Rattle.clap.specs.Lexer.{long_of, short_of}
use Rattle.clap.specs.Simple.{Shape}
use Rattle.clap.specs.Takes.{is_given}
use Rattle.clap.specs.ValueTests.{accepts}
use Rattle.clap.specs.Walk.{Held, Row, Rule, Step, Text, Waiting, Walk, action_of, arg_by_id, arg_by_index, arg_by_long, arg_by_short, attached_value, finished, has_row, idle, is_empty, is_pending, most_values, reacted, settled, subcommand_met, takes_several, takes_values, value, values_or_missing, walk, walk_from, walked, with_default, word_met}
use Rattle.clap.specs.declared.builder.action.ArgAction.{ArgAction}
use Rattle.clap.specs.declared.builder.action.ArgAction.TheVariants.{Set, Append, SetTrue, SetFalse, Count, Help, HelpShort, HelpLong, Version}
use Rattle.clap.specs.declared.error.kind.ErrorKind.{ErrorKind}
use Rattle.mimic_args.proofs.ByNames.{all_by_names, by_names, found_by_id, found_by_index, found_by_long, found_by_short, same_accepts, same_default, same_finished, same_reacted, same_refusal, same_rows, same_walk, same_walked, same_word}

-- at most one kind
abbrev pub One : Kinds → Type 0
One [] = Unit {0}
One (k ∷ []) = Unit {0}
One (k ∷ l ∷ more) = ⊥

-- the kinds are the same, and at most one
pub record AreSame (named kinds : Kinds) : Type 0 where
  pub same : named ≡ kinds
  pub one : One named

none : AreSame [] []
none = record { same = refl; one = tt }

only : (k : ErrorKind) → AreSame (k ∷ []) (k ∷ [])
only k = record { same = refl; one = tt }

either : (b : Bool) {x y p q : Kinds} → AreSame x p → AreSame y q → AreSame (cond b x y) (cond b p q)
either true first other = first
either false first other = other

in_turn : {x y p q : Kinds} → AreSame x p → AreSame y q → AreSame (or_else x y) (or_else p q)
in_turn {x} {y} first later = record { same = ap₂ or_else first.same later.same; one = go x first.one }
  where
    go : (ks : Kinds) → One ks → One (or_else ks y)
    go [] h = later.one
    go (k ∷ ks) h = h

if_some : {X : Type 0} (f g : X → Kinds) (o : Option X) {d e : Kinds} → ((x : X) → AreSame (f x) (g x)) → AreSame d e
    → AreSame (option_map_or f o d) (option_map_or g o e)
if_some f g None each otherwise = otherwise
if_some f g (Some x) each otherwise = each x

if_found : (f g : Rule → Kinds) (o : Option Rule) {d e : Kinds} → ((a : Rule) → AreSame (f (by_names a)) (g a)) → AreSame d e
    → AreSame (option_map_or f (option_map by_names o) d) (option_map_or g o e)
if_found f g None each otherwise = otherwise
if_found f g (Some a) each otherwise = each a

-- ---- one use of an argument

of_value : (a : Rule) (t : Text) → AreSame (value_kinds a.ignore_case (parser_of_value (by_names a).parser) t) (value_kinds a.ignore_case (parser_of_value a.parser) t)
of_value a t = rw (same_accepts a.ignore_case a.parser t, same_refusal a.parser) (either (accepts a.ignore_case (parser_of_value a.parser) t) none (only _))

of_values : (a : Rule) (ts : List Text) → AreSame (values_fault (by_names a) ts) (values_fault a ts)
of_values a [] = none
of_values a (t ∷ ts) = in_turn (of_value a t) (of_values a ts)

of_range : (least most n : ℕ) → AreSame (range_kinds least most n) (range_kinds least most n)
of_range least most n = either (nat_lt 0 least && n == 0) (only _) (either (least == most) (either (least == n) none (only _))
    (either (nat_lt n least) (only _) (either (nat_lt most n) (only _) none)))

of_set : (again : Bool) (a : Rule) (ts : List Text) (rows : List Row) → AreSame (set_fault again (by_names a) ts rows) (set_fault again a ts rows)
of_set again a ts rows = in_turn (either (has_row a.id rows && not again) (only _) none) (of_values a ts)

of_action : (x : ArgAction) (again : Bool) (a : Rule) (ts : List Text) (rows : List Row)
    → AreSame (action_fault x again (by_names a) ts rows) (action_fault x again a ts rows)
of_action Set again a ts rows = of_set again a ts rows
of_action SetTrue again a ts rows = of_set again a ts rows
of_action SetFalse again a ts rows = of_set again a ts rows
of_action Append again a ts rows = of_values a ts
of_action Count again a [] rows = of_value a _
of_action Count again a (t ∷ ts) rows = of_values a (t ∷ ts)
of_action request again a ts rows = only _

of_use : (again : Bool) (a : Rule) (ts : List Text) (rows : List Row) → AreSame (use_fault again (by_names a) ts rows) (use_fault again a ts rows)
of_use again a ts rows =
    in_turn (of_range (unwrap_or_range a.range).start_inclusive (most_values a) (length ts)) (of_action (action_of a) again a (values_or_missing a ts) rows)

-- ---- one word

module _ (c : List Rule) (again : Bool) where
  of_settle : (h : Held) → AreSame (settle_fault (map by_names c) again h) (settle_fault c again h)
  of_settle h = if_some _ _ h.pending (λ p. rw (found_by_id c p.0) (if_found _ _ (arg_by_id c p.0) (λ a. of_use again a p.1 h.rows) none)) none

  of_react : (a : Rule) (ts : List Text) (h : Held) → AreSame (react_fault (map by_names c) again (by_names a) ts h) (react_fault c again a ts h)
  of_react a ts h = rw (same_rows c h.pending h.rows) (in_turn (of_settle h) (of_use again a ts (settled c h).rows))

  of_option : (a : Rule) (v : Option Text) (h : Held) → AreSame (option_fault (map by_names c) again (by_names a) v h) (option_fault c again a v h)
  of_option a (Some v) h = of_react a (v ∷ []) h
  of_option a None h = of_settle h

  of_long : (o : Option Rule) (v : Option Text) (h : Held) → AreSame (long_fault (map by_names c) again (option_map by_names o) v h) (long_fault c again o v h)
  of_long None v h = only _
  of_long (Some a) v h = either (takes_values a) (of_option a v h) (either (is_some v) (only _) (of_react a [] h))

  of_short : (o : Option Rule) (rest : Text) (h : Held) (f g : Held → Kinds) → ((k : Held) → AreSame (f k) (g k))
      → AreSame (short_fault (map by_names c) again (option_map by_names o) rest h f) (short_fault c again o rest h g)
  of_short None rest h f g each = only _
  of_short (Some a) rest h f g each = either (takes_values a) (of_option a (attached_value rest) h)
      (in_turn (of_react a [] h) (subst (λ (k : Held). AreSame (f k) (g (reacted c a [] h))) (sym (same_reacted c a [] h)) (each (reacted c a [] h))))

  of_bundle_step : (x : Option ℕ) (flags : Text) (skip : ℕ) (h : Held) (f g : Text → ℕ → Held → Kinds) → ((t : Text) (n : ℕ) (k : Held) → AreSame (f t n k) (g t n k))
      → AreSame (bundle_step_fault (map by_names c) again x flags skip h f) (bundle_step_fault c again x flags skip h g)
  of_bundle_step None flags skip h f g each = none
  of_bundle_step (Some x) flags zero h f g each = rw (found_by_short c x) (of_short (arg_by_short c x) _ h _ _ (each _ 0))
  of_bundle_step (Some x) flags (suc skip) h f g each = each _ skip h

  of_flags : (k : ℕ) (flags : Text) (skip : ℕ) (h : Held) → AreSame (flags_fault (map by_names c) again k flags skip h) (flags_fault c again k flags skip h)
  unfolding flags_fault
  of_flags zero flags skip h = none
  of_flags (suc k) flags skip h = of_bundle_step (slice_get (chars flags) 0) flags skip h _ _ (of_flags k)

  of_flag_word : (o : Option (Text × Option Text)) (word : Text) (h : Held) → AreSame (flag_word_fault (map by_names c) again o word h) (flag_word_fault c again o word h)
  of_flag_word (Some p) word h = rw (found_by_long c p.0) (of_long (arg_by_long c p.0) p.1 h)
  of_flag_word None word h = if_some _ _ (short_of word) (λ flags. of_flags (length flags) flags h.skip (record h { skip = 0 })) none

no_subcommand : (waiting : Waiting) (word : Text) → subcommand_met [] waiting word ≡ None
no_subcommand idle word = refl
no_subcommand waiting word = refl

of_default : (rows : List Row) (a : Rule) → AreSame (default_fault rows (by_names a)) (default_fault rows a)
of_default rows a = either (has_row a.id rows || is_empty a.defaults) none (in_turn (of_request (action_of a)) (of_values a a.defaults))
  where
    of_request : (x : ArgAction) → AreSame (request_kinds x) (request_kinds x)
    of_request Help = only _
    of_request HelpShort = only _
    of_request HelpLong = only _
    of_request Version = only _
    of_request other = none

of_defaults : (rows : List Row) (rules : List Rule) → AreSame (defaults_fault rows (map by_names rules)) (defaults_fault rows rules)
unfolding defaults_fault
of_defaults rows [] = none
of_defaults rows (a ∷ rest) = rw (same_default rows a) (in_turn (of_default rows a) (of_defaults (with_default rows a) rest))

-- ---- a line of a command with no subcommand

module _ (s : Shape) (leaf : s.is_leaf ≡ true) where
  of_word : (trails : Bool) (waiting : Waiting) (word : Text) (h : Held)
      → AreSame (word_fault (all_by_names s) [] trails waiting word h) (word_fault s [] trails waiting word h)
  of_word trails waiting word h = rw (no_subcommand waiting word)
      (either trails none (either (bytes_eq word (45 ∷ 45 ∷ [])) none (of_flag_word s.rules s.args_override_self (long_of word) word h)))

  of_step : (position : ℕ) (h : Held) (step : Step) → AreSame (step_fault (all_by_names s) position h step) (step_fault s position h step)
  of_step position h value = rw (found_by_index s.rules position, leaf)
      (if_found _ _ (arg_by_index s.rules position)
      (λ a. either (is_pending a h.pending && takes_several a) none (of_settle s.rules s.args_override_self h)) (only _))
  of_step position h other = none

  of_turn : (w : Walk) (word : Text) → AreSame (turn_fault (all_by_names s) [] w word) (turn_fault s [] w word)
  of_turn w word =
      let met : Held × Step = word_met s.rules [] w.is_trailing w.waiting w.position word w.held in
      rw (same_word s.rules [] w.is_trailing w.waiting w.position word w.held)
      (either (is_some w.stopped) none (in_turn (of_word w.is_trailing w.waiting word w.held) (of_step w.position met.0 met.1)))

  of_walk : (w : Walk) (words : List Text) → AreSame (walk_fault (all_by_names s) [] w words) (walk_fault s [] w words)
  unfolding walk_fault
  of_walk w [] = none
  of_walk w (word ∷ rest) = rw (same_walked s.rules [] w word) (in_turn (of_turn w word) (of_walk (walked s.rules [] w word) rest))

  of_check : (rows : List Row) → AreSame (check_fault (all_by_names s) rows false) (check_fault s rows false)
  of_check rows = rw (← list_any-map (λ (a : Rule). a.required && not (is_given a.id rows)) by_names s.rules)
      (either (s.arg_required_else_help && not (list_any (λ (r : Row). explicit_source r.source) rows)) (only _) (either s.subcommand_required (only _)
      (either (not (s.subcommand_negates_reqs && false) && list_any (λ (a : Rule). a.required && not (is_given a.id rows)) s.rules) (only _) none)))

  pub of_level : (h : Held) (words : List Text) → AreSame (level_fault (all_by_names s) [] h words false []) (level_fault s [] h words false [])
  of_level h words =
      let end : Held = (walk s.rules [] h words).held in
      in_turn (of_walk (walk_from h) words) (rw (same_walk s.rules [] h words, same_finished s.rules end, same_rows s.rules end.pending end.rows)
      (in_turn none (in_turn (of_settle s.rules s.args_override_self end) (in_turn (of_defaults (settled s.rules end).rows s.rules) (of_check (finished s.rules end))))))
