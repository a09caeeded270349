-- What a parse reads from the words doesn't depend on where the names of a reader are kept.
use Rattle.std.proofs.Common.{◌≡◌, ◌∙◌, ◌==◌, ◌&&◌, ap, ap₂, Bool, cond, drop, false, fold, is_some, length, List, map, None, not, Option, refl, Some, suc, sym, zero, ℕ, [], ◌∷◌}
use Rattle.std.specs.Borrow.{Bor}
use Rattle.std.specs.Option.{option_map, option_map_or}
use Rattle.std.specs.Prelude.{encode_utf8, slice_get}
use Rattle.std.specs.Str.{bytes_eq, chars}
use Rattle.clap.proofs.WalkLemmas.{find-map, list_any-map}
use Rattle.clap.specs.Facts.{parser_of_value}
use Rattle.clap.specs.Lexer.{short_of, long_of}
use Rattle.clap.specs.Simple.{Shape}
use Rattle.clap.specs.ValueTests.{accepts}
use Rattle.clap.specs.Values.{reading_of, refused_kind, same_text}
use Rattle.clap.specs.Walk.{Held, Names, Outcome, Row, Rule, Step, Text, Waiting, Walk, after_flag, after_step, arg_by_id, arg_by_index, arg_by_long, arg_by_short, attached_value, bundle_met, bundle_step, done, finished, flag_met, has_long, has_short, long_met, long_or_other, next, option, option_met, option_word, plain, plain_word, reacted, settled, settled_rows, short_met, short_or_plain, subcommand_met, subcommand_or_other, takes_values, texts, to_positional, trailing, used_by_id, value, waits, walk, walk_from, walked, walked_from, with_default, word_met}
use Rattle.clap.specs.declared.builder.value_parser.ValueParser.{ValueParser}
use Rattle.clap.specs.declared.builder.value_parser.ValueParser.TheVariants as vp
use Rattle.mimic_args.specs.CommandLine.{behind, reader_of}

-- the definitions' reader of the same names
abbrev pub named_reader : ValueParser → ValueParser
named_reader (vp.Names listed) = reader_of (texts listed.now)
named_reader p = p

-- the argument with that reader
abbrev pub by_names : Rule → Rule
by_names a = record a { parser = option_map named_reader a.parser }

abbrev pub all_by_names : Shape → Shape
all_by_names s = record s { rules = map by_names s.rules }

pub same_accepts : (i : Bool) (o : Option ValueParser) (t : Text) → accepts i (parser_of_value (option_map named_reader o)) t ≡ accepts i (parser_of_value o) t
same_accepts i (Some (vp.Names listed)) t =
    sym (list_any-map (λ (n : Bor Text). same_text i n.now t) behind (texts listed.now))
    ∙ sym (list_any-map (λ n. same_text i n t) (λ (n : Bor Text). n.now) listed.now)
same_accepts i other t = refl

pub same_refusal : (o : Option ValueParser) → refused_kind (parser_of_value (option_map named_reader o)) ≡ refused_kind (parser_of_value o)
same_refusal (Some (vp.Names listed)) = refl
same_refusal other = refl

same_reading : (o : Option ValueParser) → reading_of (parser_of_value (option_map named_reader o)) ≡ reading_of (parser_of_value o)
same_reading (Some (vp.Names listed)) = refl
same_reading other = refl

used_if_found : (o : Option Rule) (ts : List Text) (rows : List Row) → used_by_id (option_map by_names o) ts rows ≡ used_by_id o ts rows
used_if_found None ts rows = refl
used_if_found (Some a) ts rows = rw (same_reading a.parser)

same_option_word : (o : Option Rule) (id word : Text) (h : Held) → option_word (option_map by_names o) id word h ≡ option_word o id word h
same_option_word None id word h = refl
same_option_word (Some a) id word h = refl

pub same_default : (rows : List Row) (a : Rule) → with_default rows (by_names a) ≡ with_default rows a
same_default rows a = rw (same_reading a.parser)

same_defaults : (rows : List Row) (c : List Rule) → fold with_default rows (map by_names c) ≡ fold with_default rows c
same_defaults rows [] = refl
same_defaults rows (a ∷ rest) = ap (λ r. fold with_default r (map by_names rest)) (same_default rows a) ∙ same_defaults (with_default rows a) rest

module _ (c : List Rule) where
  pub found_by_id : (id : Text) → arg_by_id (map by_names c) id ≡ option_map by_names (arg_by_id c id)
  found_by_id id = sym (find-map (λ (a : Rule). bytes_eq a.id id) by_names c)

  pub found_by_long : (name : Text) → arg_by_long (map by_names c) name ≡ option_map by_names (arg_by_long c name)
  found_by_long name = sym (find-map (λ (a : Rule). not (is_some a.index) && has_long a name) by_names c)

  pub found_by_short : (x : ℕ) → arg_by_short (map by_names c) x ≡ option_map by_names (arg_by_short c x)
  found_by_short x = sym (find-map (λ (a : Rule). not (is_some a.index) && has_short a x) by_names c)

  pub found_by_index : (i : ℕ) → arg_by_index (map by_names c) i ≡ option_map by_names (arg_by_index c i)
  found_by_index i = sym (find-map (λ (a : Rule). option_map_or (λ k. k == i) a.index false) by_names c)

  pub same_rows : (p : Option (Text × List Text)) (rows : List Row) → settled_rows (map by_names c) p rows ≡ settled_rows c p rows
  same_rows None rows = refl
  same_rows (Some p) rows = rw (found_by_id p.0) (used_if_found (arg_by_id c p.0) p.1 rows)

  pub same_reacted : (a : Rule) (ts : List Text) (h : Held) → reacted (map by_names c) (by_names a) ts h ≡ reacted c a ts h
  same_reacted a ts h = rw (same_rows h.pending h.rows, same_reading a.parser)

  same_option : (a : Rule) (v : Option Text) (h : Held) → option_met (map by_names c) (by_names a) v h ≡ option_met c a v h
  same_option a (Some v) h = ap (λ (g : Held). (g, done)) (same_reacted a (v ∷ []) h)
  same_option a None h = rw (same_rows h.pending h.rows)

  same_flag : (a : Rule) (v : Option Text) (h : Held) → flag_met (map by_names c) (by_names a) v h ≡ flag_met c a v h
  same_flag a (Some v) h = refl
  same_flag a None h = ap (λ (g : Held). (g, done)) (same_reacted a [] h)

  same_long : (o : Option Rule) (v : Option Text) (h : Held) → long_met (map by_names c) (option_map by_names o) v h ≡ long_met c o v h
  same_long None v h = refl
  same_long (Some a) v h = ap₂ (cond (takes_values a)) (same_option a v h) (same_flag a v h)

  same_short : (o : Option Rule) (rest : Text) (h : Held) (f g : Held → Held × Outcome) → ((k : Held) → f k ≡ g k)
      → short_met (map by_names c) (option_map by_names o) rest h f ≡ short_met c o rest h g
  same_short None rest h f g each = refl
  same_short (Some a) rest h f g each = ap₂ (cond (takes_values a)) (same_option a (attached_value rest) h) (ap f (same_reacted a [] h) ∙ each (reacted c a [] h))

  same_bundle_step : (x : Option ℕ) (flags : Text) (skip : ℕ) (o : Outcome) (h : Held) (f g : Text → ℕ → Outcome → Held → Held × Outcome)
      → ((t : Text) (n : ℕ) (o : Outcome) (k : Held) → f t n o k ≡ g t n o k) → bundle_step (map by_names c) x flags skip o h f ≡ bundle_step c x flags skip o h g
  same_bundle_step None flags skip o h f g each = refl
  same_bundle_step (Some x) flags zero o h f g each = rw (found_by_short x) (same_short (arg_by_short c x) _ h _ _ (each (drop (length (encode_utf8 x)) flags) 0 done))
  same_bundle_step (Some x) flags (suc skip) o h f g each = each _ skip o h

  same_bundle : (k : ℕ) (flags : Text) (skip : ℕ) (o : Outcome) (h : Held) → bundle_met (map by_names c) k flags skip o h ≡ bundle_met c k flags skip o h
  unfolding bundle_met
  same_bundle zero flags skip o h = refl
  same_bundle (suc k) flags skip o h = same_bundle_step (slice_get (chars flags) 0) flags skip o h _ _ (same_bundle k)

  same_plain_word : (waiting : Waiting) (word : Text) (h : Held) → plain_word (map by_names c) waiting word h ≡ plain_word c waiting word h
  same_plain_word (option id) word h = ap (λ (m : Held × Waiting). (m.0, next m.1)) (rw (found_by_id id) (same_option_word (arg_by_id c id) id word h))
  same_plain_word waiting word h = refl

  same_after_flag : (waiting : Waiting) (word : Text) (h : Held) (o : Outcome) → after_flag (map by_names c) waiting word h o ≡ after_flag c waiting word h o
  same_after_flag waiting word h done = refl
  same_after_flag waiting word h (waits id) = refl
  same_after_flag waiting word h other = same_plain_word waiting word h

  after_same : (waiting : Waiting) (word : Text) (m n : Held × Outcome) → m ≡ n → after_flag (map by_names c) waiting word m.0 m.1 ≡ after_flag c waiting word n.0 n.1
  after_same waiting word m n same = ap (λ (x : Held × Outcome). after_flag (map by_names c) waiting word x.0 x.1) same ∙ same_after_flag waiting word n.0 n.1

  same_long_or_other : (waiting : Waiting) (word : Text) (o : Option (Text × Option Text)) (h : Held)
      → long_or_other (map by_names c) waiting word o h ≡ long_or_other c waiting word o h
  same_long_or_other waiting word (Some p) h =
      after_same waiting word _ _ (ap (λ o. long_met (map by_names c) o p.1 h) (found_by_long p.0) ∙ same_long (arg_by_long c p.0) p.1 h)
  same_long_or_other waiting word None h = short (short_of word)
    where
      short : (o : Option Text) → short_or_plain (map by_names c) waiting word o h ≡ short_or_plain c waiting word o h
      short (Some flags) = after_same waiting word _ _ (same_bundle (length flags) flags h.skip plain (record h { skip = 0 }))
      short None = same_plain_word waiting word h

  same_other : (o : Option Text) (waiting : Waiting) (i : ℕ) (word : Text) (h : Held)
      → subcommand_or_other (map by_names c) o waiting i word h ≡ subcommand_or_other c o waiting i word h
  same_other (Some name) waiting i word h = refl
  same_other None waiting i word h = ap (cond (bytes_eq word (45 ∷ 45 ∷ [])) (h, trailing i)) (same_long_or_other waiting word (long_of word) h)

  pub same_word : (names : Names) (trails : Bool) (waiting : Waiting) (i : ℕ) (word : Text) (h : Held)
      → word_met (map by_names c) names trails waiting i word h ≡ word_met c names trails waiting i word h
  same_word names trails waiting i word h = ap (cond trails (h, value)) (same_other (subcommand_met names waiting word) waiting i word h)

  same_to_positional : (o : Option Rule) (word : Text) (w : Walk) (h : Held)
      → to_positional (map by_names c) (option_map by_names o) word w h ≡ to_positional c o word w h
  same_to_positional None word w h = refl
  same_to_positional (Some a) word w h = rw (same_rows h.pending h.rows)

  same_step : (word : Text) (w : Walk) (h : Held) (step : Step) → after_step (map by_names c) word w h step ≡ after_step c word w h step
  same_step word w h value = rw (found_by_index w.position) (same_to_positional (arg_by_index c w.position) word w h)
  same_step word w h other = refl

  same_from : (names : Names) (o : Option (Text × List Text)) (w : Walk) (word : Text) → walked_from (map by_names c) names o w word ≡ walked_from c names o w word
  same_from names (Some p) w word = refl
  same_from names None w word =
      let met = word_met c names w.is_trailing w.waiting w.position word w.held in
      ap (λ (m : Held × Step). after_step (map by_names c) word w m.0 m.1) (same_word names w.is_trailing w.waiting w.position word w.held) ∙ same_step word w met.0 met.1

  pub same_walked : (names : Names) (w : Walk) (word : Text) → walked (map by_names c) names w word ≡ walked c names w word
  unfolding walked
  same_walked names w word = same_from names w.stopped w word

  same_steps : (names : Names) (w : Walk) (words : List Text) → fold (walked (map by_names c) names) w words ≡ fold (walked c names) w words
  same_steps names w [] = refl
  same_steps names w (word ∷ rest) = rw (same_walked names w word) (same_steps names (walked c names w word) rest)

  pub same_walk : (names : Names) (h : Held) (words : List Text) → walk (map by_names c) names h words ≡ walk c names h words
  same_walk names h words = same_steps names (walk_from h) words

  pub same_finished : (h : Held) → finished (map by_names c) h ≡ finished c h
  same_finished h = rw (same_rows h.pending h.rows) (same_defaults (settled c h).rows c)
