-- A parse with readers of the right names finds the fault and the values that the definitions give.
use Rattle.std.proofs.Common.{◌≡◌, ◌∙◌, ap, inl, inr, List, map, refl, subst, sym, [], ◌∷◌}
use Rattle.clap.proofs.FaultLemmas.{leaf_fault}
use Rattle.clap.specs.Faults.{fault_of}
use Rattle.clap.specs.Kinds.{IsAmong, Kinds}
use Rattle.clap.specs.Simple.{App, app_of, argument_words, built, matches_of}
use Rattle.clap.specs.Walk.{Text, finished, nothing_held, walk}
use Rattle.clap.specs.declared.builder.command.Command.{Command}
use Rattle.clap.specs.declared.builder.value_parser.ValueParser.{ValueParser}
use Rattle.clap.specs.declared.error.kind.ErrorKind.{ErrorKind}
use Rattle.mimic_args.specs.CommandLine.{AreReaders, TakesOnly, line_options, plus, reader_of}
use Rattle.mimic_args.proofs.ByNames.{by_names, named_reader, same_finished, same_walk}
use Rattle.mimic_args.proofs.SameFaults.{AreSame, One, of_level}
use Rattle.mimic_args.proofs.SimpleLine.{ParsesLines, parsed_options}

named : (names : List Text) (p : ValueParser) → TakesOnly names p → named_reader p ≡ reader_of names
named names p only = ap named_reader only.1 ∙ ap reader_of only.2

-- the options that a line is parsed with have the readers of the definitions
line_of : (u c f : ValueParser) → AreReaders u c f → parsed_options (named_reader u) (named_reader c) (named_reader f) ≡ line_options
line_of u c f readers = λ i. parsed_options (named _ u readers.unstable i) (named _ c readers.color i) (named _ f readers.format i)

only : (k : ErrorKind) (ks : Kinds) → One ks → IsAmong k ks → ks ≡ k ∷ []
only k [] h among = absurd among
only k (x ∷ []) h (inl same) = ap (λ y. y ∷ []) (sym same)
only k (x ∷ []) h (inr none) = absurd none
only k (x ∷ y ∷ more) h among = absurd h

module _ (command : Command) (parses : ParsesLines command) (words : List Text) where
  kept : App
  kept = parsed_options (named_reader parses.u) (named_reader parses.c) (named_reader parses.f)

  pub same_fault : AreSame (fault_of line_options words) (fault_of (app_of command) words)
  unfolding plus kept
  same_fault =
      let app = parsed_options parses.u parses.c parses.f in
      let here : AreSame (fault_of kept words) (fault_of app words) = rw (leaf_fault (built kept) nothing_held _ refl, leaf_fault (built app) nothing_held _ refl)
      (of_level (built app).top refl nothing_held (argument_words app words)) in
      subst (λ (a : App). AreSame (fault_of line_options words) (fault_of a words)) (sym parses.app)
      (subst (λ (a : App). AreSame (fault_of a words) (fault_of app words)) (line_of parses.u parses.c parses.f parses.readers) here)

  -- if a line has a fault of this kind, it has no other
  pub only_fault : (k : ErrorKind) → IsAmong k (fault_of (app_of command) words) → fault_of line_options words ≡ k ∷ []
  only_fault k among = only k (fault_of line_options words) same_fault.one (subst (IsAmong k) (sym same_fault.same) among)

  pub same_matches : matches_of (app_of command) words ≡ matches_of line_options words
  unfolding plus
  same_matches =
      let app = parsed_options parses.u parses.c parses.f in
      let rules = (built app).top.rules in
      ap (λ (a : App). matches_of a words) parses.app
      ∙ sym (ap (λ w. finished (map by_names rules) w.held) (same_walk rules [] nothing_held (argument_words app words))
      ∙ same_finished rules (walk rules [] nothing_held (argument_words app words)).held)
      ∙ ap (λ (a : App). matches_of a words) (line_of parses.u parses.c parses.f parses.readers)
