use Rattle.std.proofs.Common.{◌≡◌, ◌<◌, ◌==◌, List, length, filter, ap, subst, ◌∙◌}
use Rattle.std.proofs.lemmas.Bool.{eq-eqb}
use Rattle.std.proofs.lemmas.List.{length-map}
use Rattle.redrive.specs.declared.catalog.Registered.{Registered}
use Rattle.redrive.specs.Catalog.{NameDirectory, name_of}
use Rattle.redrive.proofs.ListingLemmas.{on_refusal, some-passes}
use Rattle.redrive.proofs.catalog.Catalog.names_of_target.Goals as goal

pub returns-in_err-push-clause-wants : goal.returns-in_err-push-clause-wants
returns-in_err-push-clause-wants c =
    let same : c.as_slice-queue-items.result.now ≡ c.args.self.now.queues = c.as_slice-queue-items.ensures.value ∙ ap (λ (d : NameDirectory). d.queues) c.self.view_is in
    on_refusal c.from_residual.result
    (rw (length-map (filter (λ (q : Registered). q.target == c.args.uid) c.args.self.now.queues) name_of)
    (subst (λ (qs : List Registered). 0 < length (filter (λ q. q.target == c.args.uid) qs)) same
    (some-passes (λ (q : Registered). q.target == c.args.uid) c.as_slice-queue-items.result.now c.loop-queue.queue-index c.queue-item.result c.loop-queue-test.true c.queue-item.is (eq-eqb c.queue-item.result.target c.args.uid c.if-queue-uid.true))))
