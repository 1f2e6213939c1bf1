use Rattle.message.specs.Content.{content_size}
use Rattle.metric_window.proofs.MinuteLemmas.{minute_flows-marks}
use Rattle.metric_window.proofs.laws.flows_need_no_content.Goals as goal

pub returns : goal.returns
returns c = record { flows = minute_flows-marks content_size }
