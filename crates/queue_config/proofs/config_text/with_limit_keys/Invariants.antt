use Rattle.std.proofs.Common.{◌≡◌}
use Rattle.toml.specs.View.{members_view}
use Rattle.queue_config.specs.Limits.{default_limits}
use Rattle.queue_config.specs.ConfigKeys.{with_keys}
use Rattle.queue_config.specs.ConfigText.{limit_keys}
use Rattle.queue_config.proofs.config_text.with_limit_keys.Given as goal

abbrev pub invariant-loop-key : goal.invariant-loop-key
invariant-loop-key l = with_keys limit_keys l.limits (members_view l.key-iterator) ≡ with_keys limit_keys default_limits (members_view l.table.entries)
