use Rattle.std.proofs.Common.{sym}
use Rattle.sqs_replay.proofs.LineLemmas.{moment_of-other}
use Rattle.sqs_replay.proofs.input_line.read_moment.Goals as goal

pub returns-in_default : goal.returns-in_default
returns-in_default c = sym (moment_of-other c.args.text.now c.in_default.ensures.cases.0)
