use Rattle.std.proofs.Common.{rules, ◌≡◌, ap, subst}
use Rattle.std.specs.Arc.{arc_value}
use Rattle.queue_config.specs.Config.{Configuration}
use Rattle.queue_config.specs.Limits.{QueueLimits}
use Rattle.sqs_server.specs.Configured.{AreOpenedInOrder}
use Rattle.sqs_server.proofs.queues.open_all.Goals as goal

pub returns : goal.returns
returns g c =
    let own : c.config.inside.limits ≡ c.args.config.now.limits = ap (λ (k : Configuration). k.limits) c.config.view_is in
    let limits : arc_value c.in_ok-queues.queues ≡ c.args.config.now.limits = search (own, c.in_ok-queues.ensures.ok, c.in_ok-new.ensures.ok, rules) in
    record {
      served = (
        c.moment.result,
        subst (λ (most : QueueLimits). AreOpenedInOrder c.args.config.now most c.moment.result c.in_ok-marks.marks.items) limits c.in_ok-marks.ensures.served,
      );
    }
