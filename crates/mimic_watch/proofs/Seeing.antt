-- Rows that have ended, one after another.
use Rattle.std.proofs.Common.{◌≡◌, ℕ, ◌-◌, ◌<◌, ◌^◌, List, [], ◌∷◌, ◌++◌, length, length-append, refl, sym, ap, ◌∙◌, subst, arith, append_assoc, append-nil}
use Rattle.std.specs.List.{flat_map}
use Rattle.std.proofs.lemmas.List.{length-map, flat_map_more}
use Rattle.mimic_trial.specs.declared.outcome.Conclusion.{Conclusion}
use Rattle.mimic_trial.specs.Count.{CanCount, counted, counts_of}
use Rattle.mimic_trial.proofs.Counting.{can_count}
use Rattle.mimic_printer.specs.Json.{Entry, outcomes_in}
use Rattle.mimic_events.specs.Contents.{entry_read}
use Rattle.mimic_events.specs.Follower.{FollowsOn, FollowsRow, HasFollowed}
use Rattle.mimic_events.specs.declared.follower.Follower.{Follower}
use Rattle.mimic_events.specs.declared.report.Row.{Row}
use Rattle.mimic_events.proofs.Counted.{few, one_counted}
use Rattle.mimic_watch.specs.declared.frame.Screen.{Screen}
use Rattle.mimic_watch.specs.declared.viewer.Viewer.{Viewer}
use Rattle.mimic_watch.specs.Rows.{failed_line, failed_lines, row_text}
use Rattle.mimic_watch.specs.Viewers.{HasSeen, SeesOn, SeesRow}

-- ---- one row

-- a row was followed, and then counted
row_seen : (old new : Viewer) (follower : Follower) (bytes front : List ℕ) (put waiting : List Entry) (e : Entry)
    → FollowsOn old.follower front follower (e ∷ []) → SeesRow (record old { follower = follower }) e new
    → HasSeen old bytes put waiting → HasSeen new (bytes ++ front) put (waiting ++ e ∷ [])
row_seen old new follower bytes front put waiting e on sees h =
    let all : List Entry = put ++ waiting in
    let more : all ++ e ∷ [] ≡ put ++ (waiting ++ e ∷ []) = append_assoc put waiting (e ∷ []) in
    let next : HasFollowed follower (bytes ++ front) (all ++ e ∷ []) = on bytes all h.followed in
    let room : length all < 2 ^ 64 - 1 = few (bytes ++ front) all e next.ended in
    let one_more : CanCount (counts_of (outcomes_in all) 0) e.outcome = can_count (outcomes_in all) 0 e.outcome (omega (arith, room, length-map all (λ (x : Entry). x.outcome))) in
    record {
      followed = rw (sees.follower, ← more) next;
      ended = sees.ended (omega (arith, h.ended, room)) ∙ omega (arith, h.ended, ap length more, length-append all (e ∷ []));
      counts = sees.counts (subst (λ (c : Conclusion). CanCount c e.outcome) (sym h.counts) one_more) ∙ ap (λ (c : Conclusion). counted c e.outcome) h.counts
          ∙ one_counted all e ∙ ap (λ (l : List Entry). counts_of (outcomes_in l) 0) more;
      shown = sees.shown ∙ ap (λ (l : List ℕ). l ++ row_text old.screen.colours e) h.shown
          ∙ flat_map_more (row_text old.screen.colours) [] waiting e
          ∙ ap (λ (x : Screen). flat_map (row_text x.colours) (waiting ++ e ∷ [])) (sym sees.screen);
      failed = sees.failed ∙ ap (λ (l : List ℕ). l ++ failed_line e.label e.outcome) h.failed
          ∙ flat_map_more (λ (x : Entry). failed_line x.label x.outcome) [] all e ∙ ap failed_lines more;
    }

-- ---- a piece

-- a front of the piece was taken
pub record TakenSoFar (old : Viewer) (piece : List ℕ) (new : Viewer) (rest : List ℕ) : Type 0 where
  pub screen : new.screen ≡ old.screen
  pub seen : (before : List ℕ) (put waiting : List Entry) → HasSeen old before put waiting
      → (front : List ℕ) × (more : List Entry) × (piece ≡ front ++ rest) × HasSeen new (before ++ front) put (waiting ++ more)

-- nothing was read
pub none_seen : (w : Viewer) → SeesOn w [] w
none_seen w = λ before put waiting h. ([], rw (append-nil before, append-nil waiting) h)

pub nothing_taken : (w : Viewer) (piece : List ℕ) → TakenSoFar w piece w piece
nothing_taken w piece = record {
  screen = refl;
  seen = λ before put waiting h. let s = none_seen w before put waiting h in ([], s.0, refl, s.1);
}

module _ {start old : Viewer} {piece rest : List ℕ} (so_far : TakenSoFar start piece old rest) (follower : Follower) where
  pub row_taken : (new : Viewer) (row : Row) (left : List ℕ) → SeesRow (record old { follower = follower }) (entry_read row) new
      → FollowsRow old.follower rest follower row left → TakenSoFar start piece new left
  row_taken new row left sees f = record {
    screen = sees.screen ∙ so_far.screen;
    seen = λ before put waiting h.
        let s = so_far.seen before put waiting h in
        let e : Entry = entry_read row in (
          s.0 ++ f.front,
          s.1 ++ e ∷ [],
          s.2 ∙ ap (λ (l : List ℕ). s.0 ++ l) f.parts ∙ sym (append_assoc s.0 f.front left),
          rw (← (append_assoc before s.0 f.front), ← (append_assoc waiting s.1 (e ∷ [])))
              (row_seen old new follower (before ++ s.0) f.front put (waiting ++ s.1) e f.followed sees s.3),
        );
  }

  -- no row ends in the rest
  pub rest_taken : FollowsOn old.follower rest follower [] → SeesOn start piece (record old { follower = follower })
  rest_taken on = λ before put waiting h.
      let s = so_far.seen before put waiting h in
      let seen = s.3 in
      let all : List Entry = put ++ (waiting ++ s.1) in
      let bytes : (before ++ s.0) ++ rest ≡ before ++ piece = append_assoc before s.0 rest ∙ ap (λ (l : List ℕ). before ++ l) (sym s.2) in (
        s.1,
        record {
          followed = rw (append-nil all, bytes) at (on (before ++ s.0) all seen.followed);
          ended = seen.ended;
          counts = seen.counts;
          shown = seen.shown;
          failed = seen.failed;
        },
      )
