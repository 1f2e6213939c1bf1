use Rattle.std.proofs.Common.{sym, ◌∙◌, rules, tests}
use Rattle.std.proofs.lemmas.Iterator.Consumers.{YieldsList-from_first}
use Rattle.std.proofs.lemmas.Iterator.Adapters.{option_map_id}
use Rattle.std.proofs.lemmas.Iterator.Search.{find_from_yields_List}
use Rattle.queue_core.specs.Messages.{messages}
use Rattle.queue_core.specs.States.{has_age}
use Rattle.plain_queue.proofs.states.oldest_message.Goals as goal

pub returns : goal.returns
returns c =
    sym (option_map_id c.find.result)
    ∙ find_from_yields_List (λ m. has_age c.args.lines.now c.args.clock m) _ _ _ c.find.ensures.ran
    (YieldsList-from_first (λ m. m) (λ left. left) (messages c.args.lines.now) c.of.ensures.all) (λ x b q k. search (rules, tests))
