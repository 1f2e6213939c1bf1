use Rattle.std.proofs.Common.{◌≡◌}
use Rattle.toml.specs.View.{members_view}
use Rattle.queue_config.specs.ConfigText.{have_top_keys}
use Rattle.queue_config.proofs.config_text.have_top_keys.Given as goal

abbrev pub invariant-loop-key : goal.invariant-loop-key
invariant-loop-key l = have_top_keys (members_view l.key-iterator) ≡ have_top_keys (members_view l.table.entries)
