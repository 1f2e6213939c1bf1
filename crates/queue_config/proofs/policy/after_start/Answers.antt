use Rattle.queue_config.proofs.ArnLemmas.{stripped}
use Rattle.queue_config.proofs.policy.after_start.Goals as goal

pub returns : goal.returns
returns c = stripped c.args.arn.now c.strip_prefix.result c.strip_prefix.ensures.cases
