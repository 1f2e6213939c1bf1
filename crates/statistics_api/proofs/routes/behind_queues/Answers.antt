use Rattle.std.proofs.Common.{codes}
use Rattle.statistics_api.proofs.PlainLemmas.{strips-after}
use Rattle.statistics_api.proofs.routes.behind_queues.Goals as goal

pub returns : goal.returns
returns c = strips-after (codes "/statistics/queues/") c.args.path.now c.strip_prefix.result c.strip_prefix.ensures.cases
