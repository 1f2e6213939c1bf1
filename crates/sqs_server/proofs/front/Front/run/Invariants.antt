use Rattle.std.proofs.Common.{Result}
use Rattle.futures.specs.Task.{Keeps}
use Rattle.hyper.specs.declared.error.Error.{Error}
use Rattle.sqs_server.specs.Responses.{MayEnd}
use Rattle.sqs_server.specs.declared.reply.Sent.{Sent}
use Rattle.sqs_server.proofs.front.Front.run.Given as goal

-- what was registered stays, and a request that may end so from the stage that it has come to may end so from its first one
abbrev pub invariant-loop : goal.invariant-loop
invariant-loop g l = Keeps l.fn.cx l.cx × ((ended : Result Sent Error) → MayEnd l.self.port l.stage ended → MayEnd l.self.port l.fn.stage ended)
