use Rattle.std.proofs.Common.{◌∙◌, rules, tests}
use Rattle.std.proofs.lemmas.Iterator.Consumers.{YieldsList-at, YieldsList-from_first, YieldsList-from_filter, count_from_yields_List}
use Rattle.std.proofs.lemmas.List.Sums.{length-filter}
use Rattle.queue_core.specs.Messages.{messages}
use Rattle.queue_core.specs.States.{is_in_state}
use Rattle.plain_queue.proofs.states.count_in_state.Goals as goal

pub returns : goal.returns
returns c =
    count_from_yields_List _ _ c.count.ensures.ran
    (YieldsList-from_filter _ (λ m. is_in_state c.args.state c.args.lines.now c.args.clock m)
    (YieldsList-at c.filter.ensures.source (YieldsList-from_first (λ m. m) (λ left. left) (messages c.args.lines.now) c.of.ensures.all)) c.filter.ensures.closure (λ x b q k. search (rules, tests)))
    ∙ length-filter (λ m. is_in_state c.args.state c.args.lines.now c.args.clock m) (messages c.args.lines.now)
