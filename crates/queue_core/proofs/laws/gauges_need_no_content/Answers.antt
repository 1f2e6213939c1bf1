use Rattle.queue_core.proofs.MarkLemmas.{gauges_of-marks}
use Rattle.queue_core.proofs.laws.gauges_need_no_content.Goals as goal

pub returns : goal.returns
returns c = record { gauges = gauges_of-marks }
