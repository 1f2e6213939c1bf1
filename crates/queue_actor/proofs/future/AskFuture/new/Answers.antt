use Rattle.std.proofs.Common.{rules}
use Rattle.queue_actor.proofs.future.AskFuture.new.Goals as goal

pub returns-in-Ok-put-clause-sent : goal.returns-in-Ok-put-clause-sent
returns-in-Ok-put-clause-sent g c =
    let ask = c.into_ask-ask.result in (search rules, (ask, search rules, search rules, search rules, search rules))
