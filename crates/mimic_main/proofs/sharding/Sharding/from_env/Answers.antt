use Rattle.std.proofs.Common.{refl, option_map, string_bytes}
use Rattle.std.specs.Option.{option_copied}
use Rattle.mimic_main.proofs.sharding.Sharding.from_env.Goals as goal
use Rattle.mimic_main.proofs.sharding.Sharding.from_env.Goals.{in-Some+in_ok-status_file-in-Some, in-None}

pub returns : goal.returns
returns g c = (
  record {
    total = option_copied c.as_deref.result;
    index = option_copied c.as_deref-2.result;
    status_file = option_map string_bytes c.match-shard.status_file;
    only = option_map string_bytes c.in_ok-text_of.field-0;
  },
  record {
    shard = c.in_ok-shard.ensures;
    status_file = elim c.match-shard.branch [
      | in-Some+in_ok-status_file-in-Some w ↦ rw w.in-Some.is refl
      | in-None w ↦ rw w.in-None.is (rw w.status_file-is refl)
    ];
    filter = c.unless_empty-filter.ensures;
  },
)
