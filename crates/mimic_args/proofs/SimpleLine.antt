-- The options that a line is parsed with are of the kind for which `clap` defines what each line means, and which lines it refuses.
use Rattle.std.proofs.Common.{◌≡◌, ◌∙◌, ap, ap₂, true}
use Rattle.clap.specs.Words.{App, app_of, is_simple, is_simple_and_free}
use Rattle.clap.specs.declared.builder.command.Command.{Command}
use Rattle.clap.specs.declared.builder.value_parser.ValueParser.{ValueParser}
use Rattle.mimic_args.specs.CommandLine.{AreReaders, Declared, Options, alone, options_of, options_with, plus, quiet_rule, test_rule}

-- the options that a line is parsed with, for these readers
abbrev pub parsed_options : ValueParser → ValueParser → ValueParser → App
parsed_options unstable color format = (options_with (alone test_rule) (alone quiet_rule) unstable color format).0

-- the command has these options, with readers of the right names
pub record ParsesLines (command : Command) : Type 0 where
  pub u : ValueParser
  pub c : ValueParser
  pub f : ValueParser
  pub readers : AreReaders u c f
  pub app : app_of command ≡ parsed_options u c f

pub parses_lines : (command : Command) (test quiet : Declared) → test ≡ alone test_rule → quiet ≡ alone quiet_rule
    → (u : ValueParser) × (c : ValueParser) × (f : ValueParser) × AreReaders u c f × (options_of command ≡ options_with test quiet u c f) → ParsesLines command
parses_lines command test quiet t q made = record {
  u = made.0;
  c = made.1;
  f = made.2;
  readers = made.3;
  app = ap (λ (o : Options). o.0) (made.4 ∙ ap₂ (λ x y. options_with x y made.0 made.1 made.2) t q);
}

pub line_is_simple : (command : Command) → ParsesLines command → is_simple (app_of command) ≡ true
unfolding plus
line_is_simple command parses = ap is_simple parses.app

pub line_is_free : (command : Command) → ParsesLines command → is_simple_and_free (app_of command) ≡ true
unfolding plus
line_is_free command parses = ap is_simple_and_free parses.app
