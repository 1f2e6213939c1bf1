use Rattle.message.specs.Content.{content_size}
use Rattle.metric_window.proofs.FlowLemmas.{capped-added}
use Rattle.metric_window.proofs.MinuteLemmas.{minute_flows-none, minute_flows-push}
use Rattle.metric_window.proofs.laws.minutes_are_counted_line_by_line.Goals as goal

pub returns : goal.returns
returns c = record {
  none = minute_flows-none content_size;
  one_more = minute_flows-push content_size;
  capped_before = capped-added;
}
