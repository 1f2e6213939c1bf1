use Rattle.std.proofs.Common.{◌≡◌, ◌≤◌, ℕ, Ok, map, length, rules, subst, sym, ap, ◌∙◌, false}
use Rattle.std.proofs.lemmas.List.{length-map}
use Rattle.queue_config.specs.AlarmText.{have_too_many_alarms, have_equal_alarms, configured_alarms}
use Rattle.queue_config.specs.Config.{most_queues}
use Rattle.queue_config.specs.private.Config.{AreAlarms}
use Rattle.queue_config.specs.ConfigText.{have_equal_names, configured_queues}
use Rattle.queue_config.specs.declared.config.ConfiguredQueue.{ConfiguredQueue}
use Rattle.queue_config.specs.declared.requested_queues.RequestedQueue.{RequestedQueue}
use Rattle.queue_config.proofs.AlarmLemmas.{are_alarms}
use Rattle.queue_config.proofs.ConfigLemmas.{are_configured}
use Rattle.queue_config.proofs.requested_queues.together.Goals as goal

pub invariant_of-result : goal.invariant_of-result
invariant_of-result c =
    let few : length c.args.queues.now ≤ most_queues = c.if-queues-gt-QUEUE_LIMIT.false in
    let differ : have_equal_names c.args.queues.now ≡ false = search rules in
    let found : configured_queues c.args.queues.now ≡ Ok c.in_ok-configured.configured.items = search rules in
    let few_alarms : have_too_many_alarms c.args.alarms.now ≡ false = search rules in
    let alarms_differ : have_equal_alarms c.args.alarms.now ≡ false = search rules in
    let alarms_found : configured_alarms (map (λ q. q.name) c.args.queues.now) c.args.alarms.now ≡ Ok c.in_ok-rules.rules.items = search rules in
    let queues = are_configured c.args.queues.now c.in_ok-configured.configured.items few differ found in
    let count : length (map (λ (q : RequestedQueue). q.name) c.args.queues.now) ≡ length c.in_ok-configured.configured.items =
    sym (ap length queues.0) ∙ length-map c.in_ok-configured.configured.items (λ (q : ConfiguredQueue). q.name) in
    record {
      queues = queues.1;
      alarms = subst (λ (n : ℕ). AreAlarms n c.in_ok-rules.rules.items) count
          (are_alarms (map (λ q. q.name) c.args.queues.now) c.args.alarms.now c.in_ok-rules.rules.items few_alarms alarms_differ alarms_found);
    }
