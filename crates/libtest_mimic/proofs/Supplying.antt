-- Trials that are put on their way to workers one after another.
use Rattle.std.proofs.Common.{◌≡◌, ℕ, ◌+◌, Bool, List, [], ◌∷◌, ◌++◌, append-nil, append_assoc, ap, ap₂, arith, length, subst, sym, ◌∙◌}
use Rattle.std.proofs.lemmas.List.{length-map, map-append}
use Rattle.std.specs.Prelude.{◌↔◌, IsTrue}
use Rattle.libtest_mimic.specs.Prelude.{AreSupplied, Arguments, Assigned, assigned_from, Holds, info_of, IsIgnored, runner_of, TestInfo, Trial, WaitingTrials}
use Rattle.mimic_pool.proofs.Dealing.{assigned_more}
use Rattle.libtest_mimic.proofs.Arranged.{flags_length, flags_push}

-- the trials before those that are left were put
pub record IsPutSoFar {R : Type 0} (can_run : R → Type 0) (args : Arguments) (trials left : List (Trial R)) (infos : List TestInfo) (waiting : WaitingTrials R) : Type 0 where
  pub seen : List (Trial R)
  pub are_all : seen ++ left ≡ trials
  pub put : AreSupplied can_run args seen infos waiting

module _ {R : Type 0} where
  seen_next : (trials left seen : List (Trial R)) (trial : Trial R) (rest : List (Trial R)) → left ≡ trial ∷ rest → seen ++ left ≡ trials → (seen ++ trial ∷ []) ++ rest ≡ trials
  seen_next trials left seen trial rest next are_all = append_assoc seen (trial ∷ []) rest ∙ ap (λ l. seen ++ l) (sym next) ∙ are_all

  -- one more trial was put
  pub put_next : (can_run : R → Type 0) (args : Arguments) (trials left rest : List (Trial R)) (infos more : List TestInfo) (old new : WaitingTrials R)
      (trial : Trial R) (info : TestInfo) (runner : R) (flag : Bool) (place : ℕ)
      → left ≡ trial ∷ rest → info ≡ info_of trial → runner ≡ runner_of trial → (IsTrue flag ↔ IsIgnored args trial) → place ≡ length infos → more ≡ infos ++ info ∷ []
      → ((items : List (Assigned R)) → Holds can_run old items → Holds can_run new (items ++ record { place = place; runner = runner; ignored = flag } ∷ []))
      → IsPutSoFar can_run args trials left infos old → IsPutSoFar can_run args trials rest more new
  put_next can_run args trials left rest infos more old new trial info runner flag place next known runs says at pushed puts so_far =
      let put = so_far.put in
      let infos_seen : length infos ≡ length so_far.seen = ap length put.parts.each_info ∙ length-map so_far.seen info_of in
      let runners_seen : length put.runners ≡ length so_far.seen = ap length put.parts.each_runner ∙ length-map so_far.seen runner_of in
      let same : length put.runners ≡ length put.flags = runners_seen ∙ flags_length args so_far.seen put.flags put.parts.each_flag in
      let here : 0 + length put.runners ≡ place = omega (arith, runners_seen, infos_seen, at) in
      record {
        seen = so_far.seen ++ trial ∷ [];
        are_all = seen_next trials left so_far.seen trial rest next so_far.are_all;
        put = record {
          runners = put.runners ++ runner ∷ [];
          flags = put.flags ++ flag ∷ [];
          parts = record {
            each_info = pushed ∙ ap₂ (λ l x. l ++ x ∷ []) put.parts.each_info known ∙ sym (map-append info_of so_far.seen (trial ∷ []));
            each_runner = ap₂ (λ l x. l ++ x ∷ []) put.parts.each_runner runs ∙ sym (map-append runner_of so_far.seen (trial ∷ []));
            each_flag = flags_push args so_far.seen put.flags trial flag put.parts.each_flag says;
          };
          held = subst (λ (l : List (Assigned R)). Holds can_run new l) (sym (assigned_more 0 place put.runners put.flags runner flag here same)) (puts (assigned_from 0 put.runners put.flags) put.held);
        };
      }

  pub put_all : (can_run : R → Type 0) (args : Arguments) (infos : List TestInfo) (waiting : WaitingTrials R) (trials left : List (Trial R)) → left ≡ [] → IsPutSoFar can_run args trials left infos waiting → AreSupplied can_run args trials infos waiting
  put_all can_run args infos waiting trials left none so_far =
      let all : so_far.seen ++ [] ≡ trials = ap (λ l. so_far.seen ++ l) (sym none) ∙ so_far.are_all in
      subst (λ l. AreSupplied can_run args l infos waiting) (sym (append-nil so_far.seen) ∙ all) so_far.put
