use Rattle.std.proofs.Common.{[], ◌∷◌, ◌++◌, ap, arith, map}
use Rattle.std.proofs.lemmas.List.{nil_from_length}
use Rattle.std.proofs.lemmas.List.Elements.{All-push, All-same}
use Rattle.std.specs.Iterator.{size}
use Rattle.mimic_join.specs.Turns.{in_turn}
use Rattle.mimic_join.proofs.Taking.{Ends, all_taken, fewer-items, fewer-lists, first_ends, others_end, pass, take}
use Rattle.mimic_join.proofs.order.taken_in_turn.Goals as goal

pub loop-list-init : goal.loop-list-init
loop-list-init g c = record {
  ends = rw c.from_vec-lists.ensures.items c.requires;
  leave = λ row_in all gives. (
    all,
    rw c.from_vec-lists.ensures.items gives,
    ap (λ rows. map row_in rows ++ in_turn all) c.new-rows.ensures.items,
  );
}

pub next-requires : goal.next-requires
next-requires g c =
    (first_ends g.I.Iterator.can_next g.I.Iterator.remaining c.loop-list.lists.items
    c.pop_front.new.self.items c.in-Some.list c.in-Some.ensures.items c.loop-list.invariant.ends).0

pub loop-list-smaller-in-Continue-branch-2 : goal.loop-list-smaller-in-Continue-branch-2
loop-list-smaller-in-Continue-branch-2 g c =
    let lists = c.loop-list.lists.items in
    let others = c.pop_front.new.self.items in
    let front = c.in-Some.ensures.items in
    let first = first_ends g.I.Iterator.can_next g.I.Iterator.remaining lists others c.in-Some.list
    front c.loop-list.invariant.ends in
    fewer-items (λ list. size (g.I.Iterator.remaining list)) lists others
    c.push_back.new.self.items c.in-Some.list c.next.new.self front c.in_ok-push_back.ensures.items
    (c.in-Some-next.ensures.goes.on first.1).2

pub loop-list-preserved-in-Continue-branch-2 : goal.loop-list-preserved-in-Continue-branch-2
loop-list-preserved-in-Continue-branch-2 g c =
    let can = g.I.Iterator.can_next in
    let left = g.I.Iterator.remaining in
    let lists = c.loop-list.lists.items in
    let others = c.pop_front.new.self.items in
    let front = c.in-Some.ensures.items in
    let back = c.in_ok-push_back.ensures.items in
    let before = c.loop-list.invariant in
    let first = first_ends can left lists others c.in-Some.list front before.ends in
    let after = c.in-Some-next.ensures.goes.on first.1 in
    record {
      ends = All-same (Ends can left) c.push_back.new.self.items (others ++ c.next.new.self ∷ []) back
          (All-push (Ends can left) others c.next.new.self
          (others_end can left lists others c.in-Some.list front before.ends) (after.0, after.1));
      leave = λ row_in all gives.
          let l = rw front at (before.leave row_in all gives) in
          rw (back, c.in_ok-push.ensures.items) (take g.I.Iterator.next_gives row_in c.in-Some.list c.next.new.self c.in-Some-next.row
          others c.loop-list.rows.items l.0 all c.in-Some-next.ensures.steps l.1 l.2);
    }

pub loop-list-smaller : goal.loop-list-smaller
loop-list-smaller g c =
    fewer-lists (λ list. size (g.I.Iterator.remaining list)) c.loop-list.lists.items
    c.pop_front.new.self.items c.in-Some.list c.in-Some.ensures.items

pub loop-list-preserved : goal.loop-list-preserved
loop-list-preserved g c =
    let lists = c.loop-list.lists.items in
    let others = c.pop_front.new.self.items in
    let front = c.in-Some.ensures.items in
    let before = c.loop-list.invariant in
    record {
      ends = others_end g.I.Iterator.can_next g.I.Iterator.remaining lists others c.in-Some.list
          front before.ends;
      leave = λ row_in all gives.
          let l = rw front at (before.leave row_in all gives) in
          pass g.I.Iterator.next_gives row_in c.in-Some.list c.next.new.self others c.loop-list.rows.items l.0 all
          c.in_default-next.ensures.steps l.1 l.2;
    }

pub returns : goal.returns
returns g c = λ row_in all gives.
    let none = nil_from_length c.loop-list.lists.items
    (omega (arith, c.in_default.ensures.cases.0, c.loop-list.lists.ok)) in
    let l = rw none at (c.loop-list.invariant.leave row_in all gives) in
    all_taken g.I.Iterator.next_gives row_in c.loop-list.rows.items l.0 all l.1 l.2
