use Rattle.std.proofs.Common.{◌≡◌, [], drop}
use Rattle.toml.specs.View.{items_view}
use Rattle.queue_config.specs.ConfigKeys.{with_tables}
use Rattle.queue_config.specs.ConfigText.{queue_in}
use Rattle.queue_config.proofs.config_text.with_queues.Given as goal

abbrev pub invariant-loop-table : goal.invariant-loop-table
invariant-loop-table l = with_tables queue_in l.queues.items (items_view (drop l.table-index l.tables)) ≡ with_tables queue_in [] (items_view l.tables)
