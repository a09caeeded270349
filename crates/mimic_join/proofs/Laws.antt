-- What holds of all reports that are joined.
use Rattle.mimic_join.specs.Joined.{JoinLaws}
use Rattle.mimic_join.proofs.Falls.{falls_are_shards}
use Rattle.mimic_join.proofs.Joining.{joins_in_order, joins_shards}
use Rattle.mimic_join.proofs.Turns.{shards_in_turn, turns_are_all}

pub join_laws : JoinLaws
join_laws = record {
  turns = turns_are_all;
  shards = shards_in_turn;
  numbers = falls_are_shards;
  entries = joins_shards;
  order = joins_in_order;
}
