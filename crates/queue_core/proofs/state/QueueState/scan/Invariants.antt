use Rattle.std.proofs.Common.{drop}
use Rattle.queue_core.specs.States.{receive_order}
use Rattle.queue_core.specs.Queue.{is_exhausted, scanned, scanned_candidates}
use Rattle.queue_core.proofs.indexed.ReceiveLemmas.{IsScanned}
use Rattle.queue_core.proofs.state.QueueState.scan.Given as goal

abbrev pub invariant-loop-place : goal.invariant-loop-place
invariant-loop-place l =
    IsScanned (λ c. is_exhausted l.self c) (scanned_candidates l.self l.maximum) l.offered l.leaving
    (scanned (λ c. is_exhausted l.self c) l.may_be_offered l.may_leave (drop l.place (receive_order l.self.lines l.self.clock)))
