use Rattle.std.proofs.Common.{ap}
use Rattle.std.specs.Prelude.{Ok}
use Rattle.statistics_api.proofs.EscapeLemmas.{escaped_name}
use Rattle.statistics_api.proofs.metrics.state_line.Goals as goal

pub returns : goal.returns
returns c =
    let text = rw (c.as_text-queue.ensures.text, c.as_text-name.ensures.text, c.name-word.ensures, c.state_digit-digit.ensures) at c.in_ok-format.ensures.ok in
    rw (escaped_name c.args.queue.now c.as_text-queue.ensures.name, escaped_name c.args.alarm.now.0 c.as_text-name.ensures.name) (ap Ok text)
