-- A runner more is dealt, or put into the batch that is being filled.
use Rattle.std.proofs.Common.{◌≡◌, ◌≢◌, ◌∙◌, ℕ, ◌+◌, ◌%◌, ◌<◌, ◌==◌, Bool, true, false, List, [], ◌∷◌, ◌++◌, cond, length, slice_index_or, slice_set, refl, sym, ap, arith, All, append_assoc, subst}
use Rattle.std.specs.Prelude.{Ok, Err, OnErr, Result, OnOk}
use Rattle.std.proofs.lemmas.Grind.{get_or-set_at}
use Rattle.std.proofs.lemmas.List.{append-nil, get_or_default, get_or-set_other}
use Rattle.std.proofs.lemmas.List.Elements.{filter-append, All-push}
use Rattle.std.proofs.lemmas.Bool.Decides.{nat_tests}
use Rattle.mimic_pool.specs.Prelude.{account_of, AreShares, Assigned, assigned_from, IsFilling, items_of, Queue, Share, share_of}

-- what holds anyhow holds of a refusal
pub on_refusal : {T E P : Type 0} (r : Result T E) → P → OnErr r P
on_refusal (Ok x) p = tt
on_refusal (Err e) p = p

module _ {X : Type 0} where
  -- a runner more is assigned behind the others
  pub assigned_more : (k p : ℕ) (rs : List X) (bs : List Bool) (r : X) (b : Bool) → k + length rs ≡ p → length rs ≡ length bs
      → assigned_from k (rs ++ r ∷ []) (bs ++ b ∷ []) ≡ assigned_from k rs bs ++ record { place = p; runner = r; ignored = b } ∷ []
  assigned_more k p [] [] r b at same = ap (λ n. record { place = n; runner = r; ignored = b } ∷ []) (omega (arith, at))
  assigned_more k p [] (b' ∷ bs) r b at same = absurd (omega (arith, same))
  assigned_more k p (r' ∷ rs) [] r b at same = absurd (omega (arith, same))
  assigned_more k p (r' ∷ rs) (b' ∷ bs) r b at same =
      ap (λ l. record { place = k; runner = r'; ignored = b' } ∷ l) (assigned_more (k + 1) p rs bs r b (omega (arith, at)) (omega (arith, same)))

  -- what the worker w has of all items; t says whether it gets the last one
  dealt_by : (workers p w : ℕ) (S : List (Share X)) (d new : Share X) (items : List (Assigned X)) (item : Assigned X)
      → item.place ≡ p → p % workers < length S
      → new.items.items ≡ (slice_index_or S (p % workers) d).items.items ++ item ∷ []
      → items_of (slice_index_or S w d) ≡ share_of workers w items
      → (t : Bool) → (item.place % workers == w) ≡ t
      → items_of (slice_index_or (slice_set S (p % workers) new) w d) ≡ share_of workers w (items ++ item ∷ [])
  dealt_by workers p w S d new items item at below is was true here =
      let same : w ≡ p % workers = grind (arith, nat_tests) in
      let got : slice_index_or (slice_set S (p % workers) new) w d ≡ new = get_or-set_at S (p % workers) w new d same below in
      let old : new.items.items ≡ share_of workers w items ++ item ∷ [] =
      is ∙ ap (λ k. (slice_index_or S k d).items.items ++ item ∷ []) (sym same) ∙ ap (λ l. l ++ item ∷ []) was in
      let last : share_of workers w (item ∷ []) ≡ item ∷ [] = ap (λ t. cond t (item ∷ []) []) here in
      ap items_of got ∙ old ∙ ap (λ l. share_of workers w items ++ l) (sym last)
      ∙ sym (filter-append (λ i. i.place % workers == w) items (item ∷ []))
  dealt_by workers p w S d new items item at below is was false here =
      let other : w ≢ p % workers = grind (arith, nat_tests) in
      let got : slice_index_or (slice_set S (p % workers) new) w d ≡ slice_index_or S w d = get_or-set_other S (p % workers) w new d other in
      let none : share_of workers w (item ∷ []) ≡ [] = ap (λ t. cond t (item ∷ []) []) here in
      ap items_of got ∙ was ∙ sym (append-nil (share_of workers w items)) ∙ ap (λ l. share_of workers w items ++ l) (sym none)
      ∙ sym (filter-append (λ i. i.place % workers == w) items (item ∷ []))

  -- one runner more was dealt
  pub dealt_more : (workers p at : ℕ) (S : List (Share X)) (now new : Share X) (items : List (Assigned X)) (item : Assigned X)
      → item.place ≡ p → at ≡ p % workers → at < length S → now ≡ slice_index_or S at now
      → new.items.items ≡ now.items.items ++ item ∷ []
      → AreShares items workers S → AreShares (items ++ item ∷ []) workers (slice_set S at new)
  dealt_more workers p at S now new items item place e below value is dealt = λ w d low.
      let last : new.items.items ≡ (slice_index_or S (p % workers) d).items.items ++ item ∷ [] =
      is ∙ ap (λ s. s.items.items ++ item ∷ []) (value ∙ get_or_default S at now d below) ∙ ap (λ k. (slice_index_or S k d).items.items ++ item ∷ []) e in
      ap (λ k. items_of (slice_index_or (slice_set S k new) w d)) e
      ∙ dealt_by workers p w S d new items item place (omega (arith, e, below)) last (dealt w d low) (item.place % workers == w) refl

-- what follows on success
pub on_ok : {T E P Q : Type 0} (r : Result T E) → (P → Q) → OnOk r P → OnOk r Q
on_ok (Ok x) f p = f p
on_ok (Err e) f p = tt

pub filled : {X : Type 0} (can_run : X → Type 0) (queue : Queue X) (next : Share X) (item : Assigned X) (trials : List (Assigned X)) → items_of next ≡ items_of queue.next ++ item ∷ [] → can_run item.runner
    → IsFilling can_run queue trials → IsFilling can_run (record queue { next = next }) (trials ++ item ∷ [])
filled can_run queue next item trials is may was = record {
  ours = was.ours;
  parts = was.parts;
  none_taken = was.none_taken;
  put = ap (λ l. (account_of queue.pass).put ++ l) is ∙ sym (append_assoc (account_of queue.pass).put (items_of queue.next) (item ∷ [])) ∙ ap (λ l. l ++ item ∷ []) was.put;
  runnable = subst (λ l. All (λ item. can_run item.runner) l) (sym is) (All-push (λ item. can_run item.runner) (items_of queue.next) item was.runnable may);
  some = was.some;
  few = was.few;
  workers = was.workers;
}
