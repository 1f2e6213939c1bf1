use Rattle.std.proofs.Common.{inl}
use Rattle.sqs_server.proofs.front.Front.find.Goals as goal

pub returns-in-Ok-None-clause-errors : goal.returns-in-Ok-None-clause-errors
returns-in-Ok-None-clause-errors g c = inl c.refused.ensures
