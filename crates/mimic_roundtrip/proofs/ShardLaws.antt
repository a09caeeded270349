-- What holds of the runs of all shards.
use Rattle.mimic_trial.specs.Promise.{Gives}
use Rattle.mimic_roundtrip.specs.Joined.{ShardLaws}
use Rattle.mimic_roundtrip.proofs.JoinedRuns.{joins_runs}
use Rattle.mimic_roundtrip.proofs.Selections.{selects_shards}
use Rattle.mimic_roundtrip.proofs.ShardRuns.{runs_report}

pub shard_laws : {R : Type 0} (gives : Gives R) → ShardLaws gives
shard_laws gives = record { runs = runs_report gives; joins = joins_runs gives; selects = selects_shards }
