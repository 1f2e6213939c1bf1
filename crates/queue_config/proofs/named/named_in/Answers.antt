use Rattle.std.proofs.Common.{◌∙◌}
use Rattle.queue_config.proofs.NameLemmas.{named}
use Rattle.queue_config.proofs.named.named_in.Goals as goal

pub returns : goal.returns
returns g c = c.first_named.ensures ∙ named c.args.name.now c.args.rows.now
