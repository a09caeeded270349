-- What a worker answers: after each of its trials, and once its loop has ended.
use Rattle.std.proofs.Common.{◌≡◌, ◌∙◌, Bool, List, [], ◌∷◌, ◌++◌, ap, append-nil, append_assoc, arith, length, refl, subst, sym}
use Rattle.mimic_pool.specs.Prelude.{Answers, Assigned, Gives, HasWorked, IsOutcomeOf, Placed}

module _ {X : Type 0} (gives : Gives X) (mode : Bool) where
  -- those of one list, and then those of another
  pub answers_both : (items more : List (Assigned X)) (rows last : List Placed) → Answers gives mode items rows → Answers gives mode more last → Answers gives mode (items ++ more) (rows ++ last)
  answers_both [] more [] last a b = b
  answers_both [] more (row ∷ rows) last a b = absurd a
  answers_both (item ∷ items) more [] last a b = absurd a
  answers_both (item ∷ items) more (row ∷ rows) last a b = (a.0, a.1, answers_both items more rows last a.2 b)

  pub answers_length : (items : List (Assigned X)) (rows : List Placed) → Answers gives mode items rows → length rows ≡ length items
  answers_length [] [] a = refl
  answers_length [] (row ∷ rows) a = absurd a
  answers_length (item ∷ items) [] a = absurd a
  answers_length (item ∷ items) (row ∷ rows) a = let rest = answers_length items rows a.2 in omega (arith, rest)

  module _ {S : Type 0} (goes_on : S → List (Assigned X) → S → Type 0)
      (joins : (first mid last : S) (items more : List (Assigned X)) → goes_on first items mid → goes_on mid more last → goes_on first (items ++ more) last) where
    -- nothing was handed out yet
    pub worked_none : (heard : List Placed → Type 0) (source : S) (rows : List Placed) → goes_on source [] source → HasWorked goes_on gives mode heard heard source source rows rows
    worked_none heard source rows stays = record {
      given = [];
      rows = [];
      went_on = stays;
      answers = tt;
      added = sym (append-nil rows);
      hears = λ told was. subst heard (sym (append-nil told)) was;
    }

    -- one trial more was handed out and answered
    pub worked_next : (heard then now : List Placed → Type 0) (start before after : S) (old rows next : List Placed) (item : Assigned X) (row : Placed) → next ≡ rows ++ row ∷ [] → row.0 ≡ item.place
        → IsOutcomeOf gives item.ignored item.runner mode row.1 → ((told : List Placed) → then told → now (told ++ row ∷ []))
        → goes_on before (item ∷ []) after → HasWorked goes_on gives mode heard then start before old rows → HasWorked goes_on gives mode heard now start after old next
    worked_next heard then now start before after old rows next item row is place own hears step worked = record {
      given = worked.given ++ item ∷ [];
      rows = worked.rows ++ row ∷ [];
      went_on = joins start before after worked.given (item ∷ []) worked.went_on step;
      answers = answers_both worked.given (item ∷ []) worked.rows (row ∷ []) worked.answers (place, own, tt);
      added = is ∙ ap (λ l. l ++ row ∷ []) worked.added ∙ append_assoc old worked.rows (row ∷ []);
      hears = λ told was. subst now (append_assoc told worked.rows (row ∷ [])) (hears (told ++ worked.rows) (worked.hears told was));
    }

    -- the source has ended
    pub worked_whole : (heard now : List Placed → Type 0) (start before after : S) (old rows next : List Placed) → next ≡ rows → goes_on before [] after → HasWorked goes_on gives mode heard now start before old rows
        → HasWorked goes_on gives mode heard now start after old next
    worked_whole heard now start before after old rows next is step worked = record {
      given = worked.given;
      rows = worked.rows;
      went_on = subst (λ l. goes_on start l after) (append-nil worked.given) (joins start before after worked.given [] worked.went_on step);
      answers = worked.answers;
      added = is ∙ worked.added;
      hears = worked.hears;
    }
