use Rattle.std.proofs.Common.{arith}
use Rattle.redrive.proofs.RunLemmas.{measured-more}
use Rattle.redrive.proofs.house.House.measure.Goals as goal

pub loop-queue-preserved : goal.loop-queue-preserved
loop-queue-preserved c = record {
  counted = omega arith;
  room = omega arith;
  measured =
      measured-more c.args.minute c.args.alarm c.as_slice-queue-items.result.now c.loop-queue.queue-index c.queue-item.result c.loop-queue.metrics.items c.push_reserved.new.self.items c.metrics_of.result
      (omega arith) c.queue-item.is c.loop-queue.invariant.measured c.metrics_of.ensures c.push_reserved.ensures.items;
}
