-- The error of a parse is a reason why its line gives no arguments.
use Rattle.std.proofs.Common.{◌≡◌, ◌∙◌, inl, inr, subst, sym, List}
use Rattle.clap.specs.Values.{kind_of}
use Rattle.clap.specs.Words.{HasKind, IsAmong, Text, app_of, fault_of}
use Rattle.clap.specs.declared.builder.command.Command.{Command}
use Rattle.clap.specs.declared.error.Error.{Error}
use Rattle.clap.specs.declared.error.kind.ErrorKind.TheVariants as kind
use Rattle.mimic_args.specs.CommandLine.{IsErrorFor, IsRefusalOf}
use Rattle.mimic_args.proofs.SameLines.{only_fault}
use Rattle.mimic_args.proofs.SimpleLine.{ParsesLines}
use Rattle.mimic_args.specs.declared.error.ArgumentsError.{ArgumentsError}
use Rattle.mimic_args.specs.declared.error.ArgumentsError.TheVariants.{OutOfMemory, Help, Refused}

pub refused_for : (command : Command) → ParsesLines command → (words : List Text) (e : Error) (error : ArgumentsError) → HasKind (fault_of (app_of command) words) e
    → IsErrorFor (kind_of e ≡ kind.OutOfMemory) (kind_of e ≡ kind.DisplayHelp) error → IsRefusalOf words error
refused_for command parses words e OutOfMemory has is = tt
refused_for command parses words e (Help text) has is = elim has [
  | inl memory ↦ let bad : kind.DisplayHelp ≡ kind.OutOfMemory = sym is ∙ memory in cc
  | inr among ↦ only_fault command parses words kind.DisplayHelp (subst (λ k. IsAmong k (fault_of (app_of command) words)) is among)
]
refused_for command parses words e (Refused text) has is =
    let among : IsAmong (kind_of e) (fault_of (app_of command) words) = elim has [ inl memory ↦ absurd (is.0 memory) | inr h ↦ h ] in
    inl (kind_of e, only_fault command parses words (kind_of e) among, is.1)
