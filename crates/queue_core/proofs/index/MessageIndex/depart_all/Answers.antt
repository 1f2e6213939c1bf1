use Rattle.std.proofs.Common.{false, get_or, take, Some}
use Rattle.queue_core.specs.declared.slot.Stay.TheVariants.{Left}
use Rattle.queue_core.specs.private.Records.{with_stay}
use Rattle.queue_core.proofs.entries.NumberLemmas.{contains-at, unseen}
use Rattle.queue_core.proofs.records.ChangeLemmas.{here-outside}
use Rattle.queue_core.proofs.index.MessageIndex.depart_all.Goals as goal

pub depart-requires-clause-here : goal.depart-requires-clause-here
depart-requires-clause-here c =
    let i = c.loop-number.number-index in let xs = c.args.numbers.now in
    here-outside (λ r. Some (with_stay (Left c.args.target false) r)) (take i xs) (get_or xs i 0) _ c.loop-number.self c.loop-number.invariant.changed
    (unseen xs i c.requires.once c.loop-number-test.true) (c.requires.here (get_or xs i 0) (contains-at xs i 0 c.loop-number-test.true))
