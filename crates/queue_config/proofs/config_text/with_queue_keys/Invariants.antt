use Rattle.std.proofs.Common.{◌≡◌}
use Rattle.toml.specs.View.{members_view}
use Rattle.queue_config.specs.ConfigKeys.{with_keys}
use Rattle.queue_config.specs.ConfigText.{queue_keys, no_keys}
use Rattle.queue_config.proofs.config_text.with_queue_keys.Given as goal

abbrev pub invariant-loop-key : goal.invariant-loop-key
invariant-loop-key l = with_keys queue_keys l.queue (members_view l.key-iterator) ≡ with_keys queue_keys no_keys (members_view l.table.entries)
