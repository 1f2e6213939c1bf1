use Rattle.std.proofs.Common.{ap}
use Rattle.std.specs.Prelude.{Ok}
use Rattle.statistics_api.proofs.EscapeLemmas.{escaped_name}
use Rattle.statistics_api.proofs.metrics.sample.Goals as goal

pub returns : goal.returns
returns c =
    let name = ap (λ s. s.name) c.sheet.view_is in
    let text = rw (c.name-name.ensures, c.as_text-queue.ensures.text, c.of-value.ensures, name) at c.in_ok-format.ensures.ok in
    rw (escaped_name c.args.sheet.now.name (rw name at c.as_text-queue.ensures.name)) (ap Ok text)
