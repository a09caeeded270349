-- What a run left in its sink, in terms of the bytes that were written out.
use Rattle.std.proofs.Common.{◌≡◌, ℕ, length, List, Option, Result, Ok, Err, refl, ap, ap₂, is_ok, subst, sym, IfErr, IfOk, OnOk, IsOk}
use Rattle.std.proofs.lemmas.Bool.{false≢true}
use Rattle.std.proofs.KnownBytes.{Appends-kept}
use Rattle.std.specs.Io.KnownBytes.{Keeps}
use Rattle.std.specs.declared.io.Error.{Error}
use Rattle.libtest_mimic.specs.Prelude.{Asked, Conclusion, Done, HasAnswer, Lists, Put, Shown, shown, Sink, total_of, Watched}
use Rattle.libtest_mimic.specs.declared.running.RunError.{RunError}
use Rattle.mimic_printer.specs.declared.sink.WriteFault.TheVariants as WriteFault
use Rattle.libtest_mimic.specs.declared.running.RunError.TheVariants.{Write}
use Rattle.libtest_mimic.specs.Run.{Runs}
use Rattle.libtest_mimic.specs.Sink.{faults_of, writer_of}
use Rattle.mimic_main.specs.Output.{HandsOn}
use Rattle.mimic_main.specs.Run.{GotBeginning, IsFaultOf, IsLawful, Left, Ran, done_over, faultless}

-- a sink with no fault shows the bytes of its writer
pub shown-new : {W : Type 0} (contents : W → Option (List ℕ)) (s : Sink W) (w : W) → writer_of s ≡ w → faults_of s ≡ 0 → shown contents s ≡ faultless (contents w)
shown-new contents s w e f = ap₂ (λ x n. record { bytes = contents x; faults = n }) e f

-- the answer of a run that was refused
abbrev pub refused : RunError → Result Conclusion RunError
refused fault = Err fault

-- equal refusals are of equal faults
same_fault : (a b : RunError) → refused a ≡ refused b → a ≡ b
same_fault a b e = let P : Result Conclusion RunError → Type 0 = λ r. IfErr r (λ x. x ≡ b) in subst P (sym e) refl

-- the fault that is answered is that of the run, or of its last bytes
IsFaultOf-settled : {T : Type 0} (ran : Result Conclusion RunError) (fault : RunError) (finished : Result T Error)
    → IfErr ran (λ e. refused fault ≡ refused e) → (IsOk finished → refused fault ≡ ran) → (IsOk ran → IfErr finished (λ error. refused fault ≡ refused (Write (WriteFault.Error error))))
    → IsFaultOf ran fault
IsFaultOf-settled (Err e) fault finished same kept cause = same_fault fault e same
IsFaultOf-settled (Ok c) fault (Ok x) same kept cause = absurd (false≢true (ap is_ok (kept refl)))
IsFaultOf-settled (Ok c) fault (Err error) same kept cause = (error, same_fault fault (Write (WriteFault.Error error)) (cause refl))

-- ---- a run that answered, if all that its sink got was written out

Put-got : (old : Option (List ℕ)) (new : Shown) (got : Option (List ℕ)) (text : List ℕ) → Keeps new.bytes got → Put (faultless old) new text → Put (faultless old) (faultless got) text
Put-got old new got text k p = record { appended = Appends-kept old new.bytes got text p.appended k; faults = refl }

-- what a run with this watch did, if its sink showed these two before and after it
abbrev pub seen : Shown → Shown → Watched → Result Conclusion RunError → Done
seen first new watch answer = record {
  before = first;
  after = new;
  watch = watch;
  answer = answer;
}

module _ {R : Type 0} (asked : Asked R) (watch : Watched) where
  Ran-got : (old : Option (List ℕ)) (new : Shown) (got : Option (List ℕ)) (c : Conclusion)
      → Keeps new.bytes got → Left asked (done_over old new watch (Ok c)) → Ran asked old got watch c
  Ran-got old new got c k a = record {
    listed = λ is_list. let l = a.listed is_list in (l.0, l.1, (l.2.0, Put-got old new got _ k l.2.1));
    watched = a.watched;
    reported = λ unlisted.
        let o = a.reported unlisted in
        let r = o.2 in (
          o.0,
          o.1,
          record {
            placed = r.placed;
            ordered = r.ordered;
            none = r.none;
            arranged = r.arranged;
            rows = r.rows;
            timed = r.timed;
            nanos = r.nanos;
            elapsed = r.elapsed;
            fits = r.fits;
            appended = Put-got old new got _ k r.appended;
            counts = r.counts;
          },
        );
  }

  OnOk-here : {T E : Type 0} (finished : Result T E) (K : Type 0) → IsOk finished → OnOk finished K → K
  OnOk-here (Ok x) K p k = k
  OnOk-here (Err e) K p k = absurd (false≢true p)

  -- what a run left behind these bytes, in a sink that had no fault
  left_behind : (old : Option (List ℕ)) (first new : Shown) (ran : Result Conclusion RunError)
      → first ≡ faultless old → Left asked (seen first new watch ran) → Left asked (done_over old new watch ran)
  left_behind old first new ran e left = subst (λ (s : Shown). Left asked (seen s new watch ran)) e left

  -- the answer `r`, which is Ok only if the run answered that and its last bytes were written out
  pub Ran-settled : {T E : Type 0} (old : Option (List ℕ)) (first new : Shown) (got : Option (List ℕ))
      (ran r : Result Conclusion RunError) (finished : Result T E)
      → first ≡ faultless old → OnOk finished (Keeps new.bytes got) → IfOk r (λ c. ran ≡ Ok c)
      → (IsOk r → IsOk finished) → Left asked (seen first new watch ran) → IfOk r (λ c. Ran asked old got watch c)
  Ran-settled old first new got ran (Ok c) finished e k a f left =
      let Answered : Result Conclusion RunError → Type 0 = λ x. Left asked (done_over old new watch x) in
      Ran-got old new got c (OnOk-here finished _ (f refl) k) (subst Answered a (left_behind old first new ran e left))
  Ran-settled old first new got ran (Err x) finished e k a f left = tt

  -- a run of which a beginning was written out, if the answer `r` is a fault
  pub GotBeginning-from : {T : Type 0} (old : Option (List ℕ)) (first new : Shown) (got : Option (List ℕ))
      (ran r : Result Conclusion RunError) (finished : Result T Error)
      → first ≡ faultless old → HandsOn new.bytes got
      → IfErr ran (λ fault. r ≡ refused fault) → (IsOk finished → r ≡ ran)
      → (IsOk ran → IfErr finished (λ error. r ≡ refused (Write (WriteFault.Error error))))
      → Left asked (seen first new watch ran) → IfErr r (λ fault. GotBeginning asked old got watch fault)
  GotBeginning-from old first new got ran (Ok c) finished e handed same kept cause left = tt
  GotBeginning-from old first new got ran (Err fault) finished e handed same kept cause left =
      (new, ran, left_behind old first new ran e left, handed, IsFaultOf-settled ran fault finished same kept cause)

-- counts that a run answered are lawful
pub lawful_settled : {R : Type 0} (asked : Asked R) (did : Done) (r : Result Conclusion RunError) → IfOk r (λ c. did.answer ≡ Ok c) → Runs asked did → IfOk r (IsLawful asked)
lawful_settled asked did (Ok c) answered runs =
    let Answer : Result Conclusion RunError → Type 0 = λ a. HasAnswer asked a in
    let AddsUp : Result Conclusion RunError → Type 0 = λ a. IfOk a (λ x. total_of x ≡ length asked.trials) in
    record {
      listed = λ is_list.
          let l = runs.listed is_list in
          let Listed : Result Conclusion RunError → Type 0 = λ a. Lists l.0 did.before did.after a in
          (subst Listed answered l.2).0;
      answer = subst Answer answered runs.answer;
      adds_up = λ unlisted. subst AddsUp answered (runs.adds_up unlisted);
    }
lawful_settled asked did (Err e) answered runs = tt
