-- What the takes of a queue are: trials that were answered, and trials that were dropped.
use Rattle.std.proofs.Common.{◌≡◌, ◌∙◌, ◌∷◌, ◌++◌, [], Bool, List, false, true, ap, append-nil, append_assoc, refl, subst, sym}
use Rattle.std.specs.List.{flat_map}
use Rattle.std.proofs.lemmas.Bool.{false≢true}
use Rattle.std.specs.List.Sorted.{IsPermutation}
use Rattle.std.proofs.lemmas.List.Concat.{flat_map-append}
use Rattle.std.proofs.lemmas.List.Sorted.{IsPermutation-append_comm, IsPermutation-append_left, IsPermutation-append_right, IsPermutation-refl, IsPermutation-trans}
use Rattle.mimic_pool.specs.Prelude.{Answers, AnswersSome, AreJoined, Assigned, Gives, Placed}
use Rattle.mimic_pool.proofs.Working.{answers_both}

module _ {X : Type 0} where
  -- more are given, before what is dropped
  given_more : (taken given dropped more : List X) → IsPermutation taken (given ++ dropped) → IsPermutation (taken ++ more) ((given ++ more) ++ dropped)
  given_more taken given dropped more parts =
      let longer : IsPermutation (taken ++ more) ((given ++ dropped) ++ more) = IsPermutation-append_left more _ _ parts in
      let turned : IsPermutation (given ++ (dropped ++ more)) (given ++ (more ++ dropped)) = IsPermutation-append_right given _ _ (IsPermutation-append_comm dropped more) in
      let turned' = subst (λ l. IsPermutation l (given ++ (more ++ dropped))) (sym (append_assoc given dropped more)) turned in
      subst (λ l. IsPermutation (taken ++ more) l) (sym (append_assoc given more dropped)) (IsPermutation-trans _ _ _ longer turned')

module _ {X : Type 0} (gives : Gives X) (mode : Bool) where
  module _ (whole : Bool) where
    -- more were taken and answered
    pub takes_answered : (taken more : List (Assigned X)) (rows all : List Placed) (was : AnswersSome gives mode whole taken rows) → Answers gives mode (was.answered.given ++ more) all → AnswersSome gives mode whole (taken ++ more) all
    takes_answered taken more rows all was answers = record {
      dropped = was.dropped;
      answered = record { given = was.answered.given ++ more; parts = given_more taken was.answered.given was.dropped more was.answered.parts; answers = answers };
      all = was.all;
    }

    -- those that another took, and its rows, are more
    pub takes_both : (taken more longer : List (Assigned X)) (rows last next : List Placed) → longer ≡ taken ++ more → next ≡ rows ++ last → Answers gives mode more last → AnswersSome gives mode whole taken rows
        → AnswersSome gives mode whole longer next
    takes_both taken more longer rows last next is_longer is_next answers was =
        subst (λ l. AnswersSome gives mode whole l next) (sym is_longer) (subst (λ l. AnswersSome gives mode whole (taken ++ more) l) (sym is_next) (takes_answered taken more rows (rows ++ last) was (answers_both gives mode was.answered.given more rows last was.answered.answers answers)))

    -- more were taken and dropped
    pub takes_dropped : (taken more longer : List (Assigned X)) (rows : List Placed) → longer ≡ taken ++ more → whole ≡ false → AnswersSome gives mode whole taken rows → AnswersSome gives mode whole longer rows
    takes_dropped taken more longer rows is_longer part was =
        let given = was.answered.given in
        let parts : IsPermutation (taken ++ more) (given ++ (was.dropped ++ more)) = subst (λ l. IsPermutation (taken ++ more) l) (append_assoc given was.dropped more) (IsPermutation-append_left more _ _ was.answered.parts) in
        record {
          dropped = was.dropped ++ more;
          answered = record { given = given; parts = subst (λ l. IsPermutation l (given ++ (was.dropped ++ more))) (sym is_longer) parts; answers = was.answered.answers };
          all = λ all. absurd (false≢true (sym part ∙ all));
        }

    -- none was dropped, whether all are to be run or not
    pub takes_any : (taken : List (Assigned X)) (rows : List Placed) → AnswersSome gives mode true taken rows → AnswersSome gives mode whole taken rows
    takes_any taken rows was = record { dropped = was.dropped; answered = was.answered; all = λ _. was.all refl }

    -- all that was put was taken
    pub takes_whole : (trials put taken : List (Assigned X)) (joined : List (List Placed)) (rows : List Placed) → put ≡ trials → IsPermutation put taken → rows ≡ flat_map (λ rows. rows) joined
        → AnswersSome gives mode whole taken rows → AreJoined gives mode trials whole joined
    takes_whole trials put taken joined rows is same are was = record {
      dropped = was.dropped;
      answered = record {
        given = was.answered.given;
        parts = subst (λ l. IsPermutation l (was.answered.given ++ was.dropped)) is (IsPermutation-trans _ _ _ same was.answered.parts);
        answers = subst (λ l. Answers gives mode was.answered.given l) are was.answered.answers;
      };
      all = was.all;
    }

  pub takes_none : (taken : List (Assigned X)) (rows : List Placed) → taken ≡ [] → rows ≡ [] → AnswersSome gives mode true taken rows
  takes_none taken rows none empty = record { dropped = []; answered = record { given = []; parts = subst (λ l. IsPermutation l []) (sym none) (IsPermutation-refl []); answers = subst (Answers gives mode []) (sym empty) tt }; all = λ _. refl }

-- the rows of one more
pub rows_pushed : {V Y : Type 0} (f : V → List Y) (old new : List V) (last : V) → new ≡ old ++ last ∷ [] → flat_map f new ≡ flat_map f old ++ f last
rows_pushed f old new last is_new = ap (flat_map f) is_new ∙ flat_map-append f old (last ∷ []) ∙ ap (λ l. flat_map f old ++ l) (append-nil (f last))
