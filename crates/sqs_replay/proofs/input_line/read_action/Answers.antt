use Rattle.std.proofs.Common.{sym, ◌∙◌}
use Rattle.sqs_replay.proofs.LineLemmas.{IsUtf8-from_action}
use Rattle.sqs_replay.proofs.input_line.read_action.Goals as goal

pub unreachable-requires : goal.unreachable-requires
unreachable-requires c = c.in-Err.ensures.cases.0 (IsUtf8-from_action _ (sym c.is_action.ensures ∙ c.if-not-is_action.false))
