use Rattle.std.proofs.Common.{map}
use Rattle.sqs_server.specs.Counts.{told}
use Rattle.sqs_server.proofs.CountLemmas.{told-next}
use Rattle.sqs_server.proofs.counts.RequestCounts.requested.Goals as goal

pub loop-place-preserved : goal.loop-place-preserved
loop-place-preserved c =
    told-next c.loop-place.place c.load-count.result (map told c.loop-place.requests.items) (map told c.tell_count.new.requests.items)
    c.loop-place.invariant c.in_ok-tell_count.ensures.ok
