use Rattle.std.proofs.Common.{◌≡◌, ◌<◌, List, length, map, sym, ap, subst, ◌∙◌, arith}
use Rattle.redrive.specs.declared.catalog.Registered.{Registered}
use Rattle.redrive.specs.Listing.{names_beginning}
use Rattle.redrive.specs.Catalog.{NameDirectory, name_of}
use Rattle.redrive.proofs.ListingLemmas.{on_refusal, names_beginning-more, some-begins}
use Rattle.redrive.proofs.catalog.Catalog.names_with.Goals as goal

pub loop-queue-preserved : goal.loop-queue-preserved
loop-queue-preserved c =
    c.in_ok-add_name.ensures.ok
    ∙ rw c.loop-queue.invariant
    (sym (names_beginning-more name_of c.args.prefix.now c.as_slice-queue-items.result.now c.loop-queue.queue-index c.queue-item.result (omega arith) c.queue-item.is))

pub returns-in_err-add_name-clause-wants : goal.returns-in_err-add_name-clause-wants
returns-in_err-add_name-clause-wants c =
    let same : c.as_slice-queue-items.result.now ≡ c.args.self.now.queues = c.as_slice-queue-items.ensures.value ∙ ap (λ (d : NameDirectory). d.queues) c.self.view_is in
    on_refusal c.from_residual.result
    (subst (λ (qs : List Registered). 0 < length (names_beginning c.args.prefix.now (map name_of qs))) same
    (some-begins name_of c.args.prefix.now c.as_slice-queue-items.result.now c.loop-queue.queue-index c.queue-item.result c.loop-queue-test.true c.queue-item.is c.in_err-add_name.ensures.wants))
