use Rattle.std.proofs.lemmas.Fn.{filter_same}
use Rattle.queue_core.specs.private.Slots.{is_left}
use Rattle.queue_core.specs.private.Records.{slots_in}
use Rattle.queue_core.proofs.index.MessageIndex.forget_returned.Goals as goal
use Rattle.std.proofs.Common.{rules}

pub returns-clause-leaving : goal.returns-clause-leaving
returns-clause-leaving c =
    filter_same _ (λ n. is_left (slots_in c.args.self.now n)) _ (λ x b f k. search rules) _ _ c.retain.ensures.filtered
