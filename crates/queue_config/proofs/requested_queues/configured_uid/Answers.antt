use Rattle.std.proofs.Common.{sym, ap, ◌∙◌, option_map, ◌+◌}
use Rattle.queue_config.proofs.ConfigLemmas.{position-map}
use Rattle.queue_config.proofs.requested_queues.configured_uid.Goals as goal

pub returns-in-Some : goal.returns-in-Some
returns-in-Some c = ap (option_map (λ place. place + 1)) (c.in-Some.ensures.place ∙ sym (position-map _ _ c.args.queues.now))

pub returns-in-None : goal.returns-in-None
returns-in-None c = ap (option_map (λ place. place + 1)) (c.in-None.ensures.place ∙ sym (position-map _ _ c.args.queues.now))
