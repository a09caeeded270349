-- What is declared of an argument that excludes one more, and of a command with one more argument.
use Rattle.std.proofs.Common.{◌≡◌, ◌∙◌, ◌++◌, ◌∷◌, ◌&&◌, [], ap, ap₂, append_assoc, arith, Bool, false, flat_map, fold, length, length-append, List, map, not, refl, sym, true, ℕ}
use Rattle.std.proofs.lemmas.Bool.{ne_eqb}
use Rattle.std.proofs.lemmas.List.{map-append, append-nil}
use Rattle.std.proofs.lemmas.List.Concat.{flat_map-append}
use Rattle.std.specs.Borrow.{Bor}
use Rattle.clap.specs.Adds.{AddsConflicts}
use Rattle.clap.specs.Words.{AddsArg, AddsInTurn, app_of, args_of, new_app}
use Rattle.clap.specs.Walk.{Rule, Text, is_empty, rule_of, texts}
use Rattle.clap.specs.declared.builder.arg.Arg.{Arg}
use Rattle.clap.specs.declared.builder.command.Command.{Command}
use Rattle.mimic_args.specs.CommandLine.{AddsLocal, Declared, declared_of, excluding, local, options_of, pairs, placed_of, plus}

and-false : (b : Bool) → b && false ≡ false
and-false true = refl
and-false false = refl

is_empty-push : {A : Type 0} (xs ys : List A) (x : A) → ys ≡ xs ++ x ∷ [] → is_empty ys ≡ false
is_empty-push xs ys x e = ne_eqb _ _ (λ n. omega (arith, n, ap length e, length-append xs (x ∷ [])))

rule-excluding : (old new : Arg) (id : Bor (List ℕ)) → AddsConflicts old new (id ∷ []) → rule_of new ≡ record (rule_of old) { is_free = false }
rule-excluding old new id h =
    ap rule_of h.0 ∙ rw (is_empty-push old.conflicts.items new.conflicts.items id h.1, and-false (not old.exclusive))

pub declared-excluding : (old new : Arg) (id : Bor (List ℕ)) → AddsConflicts old new (id ∷ []) → declared_of new ≡ excluding (declared_of old) id.now
declared-excluding old new id h =
    ap₂ (λ (r : Rule) (others : List Text). (r, others)) (rule-excluding old new id h) (ap texts h.1 ∙ map-append (λ s. s.now) old.conflicts.items (id ∷ []))

pairs_in : Arg → List (Text × Text)
pairs_in a = pairs a.id.now (texts a.conflicts.items)

pub options-plus : (old : Command) (a : Arg) (new : Command) → AddsArg old a new → a.global ≡ false → options_of new ≡ plus (options_of old) (declared_of a)
unfolding plus pairs_in
options-plus old a new h local =
    let same = append-nil (pairs_in h.arg) ∙ ap₂ pairs (ap (λ i. i.now) h.rules.id) (ap texts h.rules.conflicts) in
    let all = ap (flat_map pairs_in) h.args ∙ flat_map-append pairs_in (args_of old) (h.arg ∷ []) ∙ ap (λ z. flat_map pairs_in (args_of old) ++ z) same in
    ap₂ (λ x y. (x, y)) (h.shape local) all

-- one more argument for the command alone
pub adds-one : {old new : List Arg} {declared : Declared} (a : Arg) → new ≡ old ++ a ∷ [] → declared_of a ≡ declared → a.global ≡ false
    → AddsLocal old (declared ∷ []) new
adds-one {old} a e is here = record {
  same = ap (map placed_of) e ∙ (map-append placed_of old (a ∷ []) ∙ ap₂ (λ d g. map placed_of old ++ (d, g) ∷ []) is here);
}

-- what is added in two steps is added in one
pub adds-more : {old middle new : List Arg} {first more : List Declared} → AddsLocal old first middle → AddsLocal middle more new
    → AddsLocal old (first ++ more) new
adds-more {old} {first = first} {more = more} h k = record {
  same = k.same ∙ (ap (λ l. l ++ map local more) h.same ∙ (append_assoc (map placed_of old) (map local first) (map local more)
      ∙ ap (λ l. map placed_of old ++ l) (sym (map-append local first more))));
}

in_turn : (args : List Arg) (declared : List Declared) (old new : Command) → AddsInTurn AddsArg old args new → map placed_of args ≡ map local declared
    → options_of new ≡ fold plus (options_of old) declared
in_turn [] [] old new h same = ap options_of (sym h)
in_turn [] (d ∷ ds) old new h same = cc
in_turn (a ∷ rest) [] old new h same = cc
in_turn (a ∷ rest) (d ∷ ds) old new h same =
    let here : placed_of a ≡ local d = cc in
    let more : map placed_of rest ≡ map local ds = cc in
    in_turn rest ds h.0 new h.2 more
    ∙ ap (λ o. fold plus o ds) (options-plus old a h.0 h.1 (ap (λ p. p.1) here) ∙ ap (λ (p : Declared × Bool). plus (options_of old) p.0) here)

-- a command with arguments that are added in turn has their declarations
pub options-in_turn : {declared : List Declared} (args : List Arg) (old new : Command) → AddsInTurn AddsArg old args new → AddsLocal [] declared args
    → options_of new ≡ fold plus (options_of old) declared
options-in_turn {declared} args old new h added = in_turn args declared old new h added.same

pub options-none : (c : Command) (name : Text) → app_of c ≡ new_app name → args_of c ≡ [] → options_of c ≡ (new_app name, [])
unfolding pairs_in
options-none c name app none = ap₂ (λ x y. (x, y)) app (ap (flat_map pairs_in) none)
