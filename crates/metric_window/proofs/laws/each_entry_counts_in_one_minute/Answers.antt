use Rattle.message.specs.Content.{content_size}
use Rattle.metric_window.proofs.MinuteLemmas.{minutes-total}
use Rattle.metric_window.proofs.laws.each_entry_counts_in_one_minute.Goals as goal

pub returns : goal.returns
returns c = record { all = λ lines first minutes all. minutes-total content_size first minutes lines all }
