use Rattle.std.proofs.Common.{sym, ◌∙◌}
use Rattle.std.proofs.lemmas.Iterator.Consumers.{nth_from_yields_List, YieldsList-from_first}
use Rattle.std.proofs.lemmas.Iterator.Adapters.{option_map_id}
use Rattle.queue_core.specs.Messages.{messages}
use Rattle.plain_queue.proofs.reading.message_numbered.Goals as goal

pub returns : goal.returns
returns c =
    sym (option_map_id c.nth.result)
    ∙ nth_from_yields_List c.nth.result c.nth.new.self c.args.number c.nth.ensures.ran (YieldsList-from_first (λ m. m) (λ left. left) (messages c.args.lines.now) c.of.ensures.all)
