use Rattle.queue_core.proofs.indexed.QuestionLemmas.{gauged}
use Rattle.queue_core.proofs.index.MessageIndex.gauges.Goals as goal

pub returns : goal.returns
returns c = λ q same is. gauged q c.args.self.now is c.len.result c.oldest_age.result c.len.ensures.count (c.oldest_age.ensures q same is)
