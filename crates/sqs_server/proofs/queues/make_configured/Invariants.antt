-- The queues so far were opened as they are configured.
use Rattle.std.proofs.Common.{◌≡◌, take}
use Rattle.std.specs.Arc.{arc_value}
use Rattle.sqs_server.specs.Configured.{AllNumbered, IsOpenedAtPlace}
use Rattle.sqs_server.proofs.queues.make_configured.Given as goal

abbrev pub invariant-loop-queue : goal.invariant-loop-queue
invariant-loop-queue g l = record {
  place : l.place ≡ l.queue-index;
  served : AllNumbered (IsOpenedAtPlace (arc_value l.queues) l.config.alarms l.at) 1 (take l.queue-index l.config.queues) l.marks.items;
}
