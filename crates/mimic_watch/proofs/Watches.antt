-- A watch, moment by moment.
use Rattle.std.proofs.Common.{◌≡◌, inl, inr, ℕ, Bool, true, List, [], ◌∷◌, ◌++◌, Option, Some, None, is_some, IfSome, MatchResult, Result, refl, sym, ap, ◌∙◌, subst, append_assoc, append-nil}
use Rattle.std.specs.Io.KnownBytes.{Consumes}
use Rattle.std.specs.Result.{IsErrAnd}
use Rattle.std.proofs.KnownBytes.{Consumes-nil, Consumes-trans}
use Rattle.std.proofs.lemmas.List.Concat.{flat_map-append}
use Rattle.mimic_printer.specs.Json.{Entry}
use Rattle.mimic_printer.specs.Sink.{Put, Shown, Stopped}
use Rattle.mimic_printer.specs.declared.sink.WriteFault.{WriteFault}
use Rattle.mimic_printer.specs.declared.sink.OutputFault.TheVariants as output
use Rattle.mimic_events.specs.Reading.{Decodes}
use Rattle.mimic_events.specs.SoFar.{IsFirstWrong}
use Rattle.mimic_events.specs.Readings.{IsOver, IsRead}
use Rattle.mimic_events.proofs.Results.{on_error}
use Rattle.mimic_watch.specs.declared.frame.Screen.{Screen}
use Rattle.mimic_watch.specs.declared.verdict.WatchVerdict.{WatchVerdict}
use Rattle.mimic_watch.specs.declared.verdict.WatchFault.{WatchFault}
use Rattle.mimic_watch.specs.declared.verdict.WatchFault.TheVariants.{Write}
use Rattle.mimic_watch.specs.declared.viewer.Viewer.{Viewer}
use Rattle.mimic_watch.specs.Moments.{AreMomentsAfter, IsDrawn, IsMoment, Moment, ended_in, moment_text, moments_text}
use Rattle.mimic_watch.specs.Watched.{AreCounts, HasFailed, HasWatched, IsLeft, failures_part, failures_text, last_text}
use Rattle.mimic_watch.specs.Viewers.{EndsSeen, HasSeen, IsWatching, PutsSeen, ReadsOn, ShowsOn, StaysSeen, put_text}

-- ---- one moment more

more_ended : (moments : List Moment) (m : Moment) → ended_in (moments ++ m ∷ []) ≡ ended_in moments ++ m.ended
more_ended moments m = simp (flat_map-append, append-nil)

more_text : (colours : Bool) (moments : List Moment) (m : Moment)
    → moments_text colours (moments ++ m ∷ []) ≡ moments_text colours moments ++ moment_text colours m
more_text colours moments m = rw (flat_map-append, append-nil)

each_more : (start : Option (List ℕ)) (screen : Screen) (before : List Entry) (moments : List Moment) (m : Moment)
    → AreMomentsAfter start screen before moments
    → IsMoment start screen ((before ++ ended_in moments) ++ m.ended) m → AreMomentsAfter start screen before (moments ++ m ∷ [])
each_more start screen before [] m h k = (rw append-nil at k, tt)
each_more start screen before (x ∷ moments) m h k =
    (h.0, each_more start screen (before ++ x.ended) moments m h.1 (rw (append_assoc before x.ended (ended_in moments)) k))

-- ---- what comes

-- nothing has come yet
pub begin : (screen : Screen) (start : Option (List ℕ)) (w : Viewer) → HasSeen w [] [] [] → w.screen ≡ screen
    → IsWatching screen start start [] w
begin screen start w h l = record { bytes = []; moments = []; waiting = []; each = tt; seen = h; screen_is = l; gone = Consumes-nil start; shows = refl }

module _ {screen : Screen} {start now : Option (List ℕ)} {text : List ℕ} {w : Viewer} (h : IsWatching screen start now text w) where
  -- a piece was read
  pub take_on : {next : Option (List ℕ)} {v : Viewer} {over : Bool} → ReadsOn now next w v over
      → IsWatching screen start next text v
  take_on {next} r =
      let s = r.seen h.bytes (ended_in h.moments) h.waiting h.seen in
      record {
        bytes = h.bytes ++ r.bytes;
        moments = h.moments;
        waiting = h.waiting ++ s.0;
        each = h.each;
        seen = s.1;
        screen_is = r.screen ∙ h.screen_is;
        gone = Consumes-trans start now next h.bytes r.bytes h.gone r.gone;
        shows = h.shows;
      }

  -- only the time has changed
  pub stay : (v : Viewer) → StaysSeen w v → v.screen ≡ w.screen → IsWatching screen start now text v
  stay v same l = record {
    bytes = h.bytes;
    moments = h.moments;
    waiting = h.waiting;
    each = h.each;
    seen = same h.bytes (ended_in h.moments) h.waiting h.seen;
    screen_is = l ∙ h.screen_is;
    gone = h.gone;
    shows = h.shows;
  }

  -- some bytes were read, and then a fault came
  pub failed : {next : Option (List ℕ)} {a b : Shown} (fault : WatchFault) (rest : List ℕ) → Consumes now next rest
      → IsLeft fault a b text [] → HasFailed screen start next a b fault
  failed {next} {a} {b} fault rest gone left = record {
    bytes = h.bytes;
    rest = rest;
    gone = Consumes-trans start now next h.bytes rest h.gone gone;
    moments = h.moments;
    waiting = h.waiting;
    each = h.each;
    ended = h.seen.followed.ended;
    last = [];
    is_last = inl refl;
    left = subst (λ (l : List ℕ). IsLeft fault a b l []) h.shows left;
  }

  -- ---- what is put

  module _ (erases : Bool) (drawn : List ℕ) (only : erases ≡ true → w.screen.live ≡ true)
      (draws : IsDrawn start w.screen (ended_in h.moments ++ h.waiting) drawn) where
    -- this moment, and the moments so far with it
    abbrev moment_now : Moment
    moment_now = record { erased = erases; ended = h.waiting; drawn = drawn }

    abbrev moments_now : List Moment
    moments_now = h.moments ++ moment_now ∷ []

    each_now : AreMomentsAfter start screen [] moments_now
    each_now = each_more start screen [] h.moments moment_now h.each (record {
      erased = λ e. ap (λ (x : Screen). x.live) (sym h.screen_is) ∙ only e;
      drawn = subst (λ (l : Screen). IsDrawn start l (ended_in h.moments ++ h.waiting) drawn) h.screen_is draws;
    })

    text_now : text ++ put_text erases w.waiting.items drawn ≡ moments_text screen.colours moments_now
    text_now = rw (h.shows, h.seen.shown, h.screen_is) (sym (more_text screen.colours h.moments moment_now))

    -- none waits any more
    pub moment_put : (v : Viewer) → PutsSeen w v → v.screen ≡ w.screen
        → IsWatching screen start now (text ++ put_text erases w.waiting.items drawn) v
    moment_put v puts l = record {
      bytes = h.bytes;
      moments = moments_now;
      waiting = [];
      each = each_now;
      seen = rw (more_ended h.moments moment_now) (puts h.bytes (ended_in h.moments) h.waiting h.seen);
      screen_is = l ∙ h.screen_is;
      gone = h.gone;
      shows = text_now;
    }

    module _ (verdict : WatchVerdict) (over : IsOver now h.bytes) (ends : EndsSeen w verdict) where
      abbrev last : List ℕ
      last = last_text w.screen.colours (failures_part w.failed.items) verdict.counts verdict.ending

      -- the verdict is on all rows that were put
      ends_now : IfSome start (IsRead (ended_in moments_now) verdict.ending) × AreCounts (ended_in moments_now) verdict
          × (last ≡ last_text screen.colours (failures_text (ended_in moments_now)) verdict.counts verdict.ending)
      ends_now =
          let e = ends h.bytes (ended_in h.moments) h.waiting h.seen in
          rw (more_ended h.moments moment_now) (e.0 start now h.gone over, e.1, rw (h.screen_is, h.seen.failed))

      all_text : text ++ (put_text erases w.waiting.items drawn ++ last) ≡ moments_text screen.colours moments_now ++ last
      all_text = sym (append_assoc text (put_text erases w.waiting.items drawn) last) ∙ ap (λ (l : List ℕ). l ++ last) text_now

      -- the watch is over
      all_put : {a c : Shown} → Put a c (text ++ (put_text erases w.waiting.items drawn ++ last))
          → HasWatched screen start a c verdict
      all_put {a} {c} p = record {
        moments = moments_now;
        each = each_now;
        ending = ends_now.0;
        counts = ends_now.1;
        put = subst (Put a c) (all_text ∙ ap (λ (l : List ℕ). moments_text screen.colours moments_now ++ l) ends_now.2) p;
      }

      -- the writer failed at last
      last_failed : {a c : Shown} (error : WriteFault) → Stopped a c (text ++ (put_text erases w.waiting.items drawn ++ last))
          → HasFailed screen start now a c (Write (output.Write error))
      last_failed {a} {c} error p = record {
        bytes = h.bytes;
        rest = [];
        gone = rw append-nil h.gone;
        moments = moments_now;
        waiting = [];
        each = each_now;
        ended = rw (append-nil (ended_in moments_now), more_ended h.moments moment_now) h.seen.followed.ended;
        last = last;
        is_last = inr (verdict, ends_now.0, ends_now.1, ends_now.2);
        left = subst (Stopped a c) all_text p;
      }

-- ---- turns of the loop

module _ {screen : Screen} {start now next : Option (List ℕ)} {text : List ℕ} {w v : Viewer} {over : Bool}
    (h : IsWatching screen start now text w) (r : ReadsOn now next w v over) where
  -- memory was refused
  pub refused : {a b : Shown} → Put a b text → HasFailed screen start next a b (Write output.OutOfMemory)
  refused put = failed (take_on h r) (Write output.OutOfMemory) [] (Consumes-nil next) put

  -- the writer failed at a moment
  pub show_failed : (u : Viewer) (more : List ℕ) → ShowsOn v u more → {a b : Shown} (error : WriteFault)
      → Stopped a b (text ++ more) → HasFailed screen start next a b (Write (output.Write error))
  show_failed u more on error p = failed (on screen start next text (take_on h r)) (Write (output.Write error)) []
      (Consumes-nil next) (rw (append-nil (text ++ more)) p)

  module _ (is : over ≡ true) (verdict : WatchVerdict) (ends : EndsSeen v verdict) where
    -- all that is put
    abbrev pub all_of : List ℕ
    all_of = text ++ (put_text v.screen.live v.waiting.items [] ++ last_text v.screen.colours
        (failures_part v.failed.items) verdict.counts verdict.ending)

    over_now : IsOver next (take_on h r).bytes
    over_now = let last = take_on h r in r.last is last.bytes (ended_in last.moments) last.waiting last.seen

    pub end_put : {a c : Shown} → Put a c all_of → HasWatched screen start a c verdict
    end_put p = all_put (take_on h r) v.screen.live [] (λ live. live) (inl refl) verdict over_now ends p

    pub end_failed : {a c : Shown} (error : WriteFault) → Stopped a c all_of
        → HasFailed screen start next a c (Write (output.Write error))
    end_failed error p = last_failed (take_on h r) v.screen.live [] (λ live. live) (inl refl) verdict over_now ends error p

-- a call that returned this fault
pub returned : {screen : Screen} {start end : Option (List ℕ)} {a b : Shown} (result : Result WatchVerdict WatchFault)
    (fault : WatchFault) → IsErrAnd result (λ f. f ≡ fault)
    → HasFailed screen start end a b fault → MatchResult result (HasWatched screen start a b) (HasFailed screen start end a b)
returned {screen} {start} {end} {a} {b} result fault h p = on_error result fault (HasWatched screen start a b)
    (HasFailed screen start end a b) h p

-- a line that is wrong was read
pub over_wrong : (now : Option (List ℕ)) (bytes : List ℕ) (found : Option ℕ) → is_some found ≡ true
    → Decodes IsFirstWrong bytes found → IsOver now bytes
over_wrong now bytes None is wrong = absurd cc
over_wrong now bytes (Some number) is wrong = inr (number, wrong.0)
