use Rattle.std.proofs.Common.{sym, ap, ◌∙◌}
use Rattle.std.specs.Option.{option_map}
use Rattle.redrive.specs.declared.place.QueuePlace.{QueuePlace}
use Rattle.redrive.proofs.PlaceLemmas.{named-found}
use Rattle.redrive.proofs.house.House.named.Goals as goal

pub returns-clause-queue : goal.returns-clause-queue
returns-clause-queue c =
    named-found c.args.self.now c.args.name.now c.in_ok-found.found.uid c.queue_at.result.now c.find_place.ensures.registry
    (ap (option_map (λ (f : QueuePlace). f.uid)) (sym c.in_ok-found.was) ∙ c.find_place.ensures.found) c.queue_at.ensures
