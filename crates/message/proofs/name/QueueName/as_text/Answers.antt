use Rattle.message.proofs.NameLemmas.{IsUtf8-from_name}
use Rattle.message.proofs.name.QueueName.as_text.Goals as goal

pub unreachable-requires : goal.unreachable-requires
unreachable-requires c = c.in-Err.ensures.cases.0 (IsUtf8-from_name _ c.self.invariant.name)
