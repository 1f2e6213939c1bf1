use Rattle.std.proofs.Common.{◌≡◌, ℕ, ◌+◌, ◌<◌, ◌≤◌, List, [], length, get_or, take, refl, sym, ap, subst, ◌∙◌}
use Rattle.std.specs.Arc.{arc_value}
use Rattle.std.proofs.lemmas.List.{take_all}
use Rattle.queue_config.specs.AlarmRules.{Rule}
use Rattle.queue_config.specs.Config.{Configuration, rules_of}
use Rattle.queue_config.specs.declared.config.ConfiguredAlarm.{ConfiguredAlarm}
use Rattle.queue_config.specs.declared.config.ConfiguredQueue.{ConfiguredQueue}
use Rattle.queue_core.specs.Kept.{opened_queue}
use Rattle.queue_core.specs.Queue.{QueueHistory}
use Rattle.sqs_server.specs.Configured.{AllNumbered, IsOpenedAtPlace}
use Rattle.sqs_server.proofs.ConfiguredLemmas.{numbered_more}
use Rattle.sqs_server.proofs.queues.make_configured.Goals as goal

pub loop-queue-init : goal.loop-queue-init
unfolding AllNumbered
loop-queue-init g c =
    record {
      place = refl;
      served = subst (λ (marks : List QueueHistory). AllNumbered (IsOpenedAtPlace (arc_value c.args.queues.now) c.args.config.now.alarms c.args.at) 1 [] marks) (sym c.new-marks.ensures.items) tt;
    }

pub loop-queue-preserved : goal.loop-queue-preserved
loop-queue-preserved g c =
    let limits = arc_value c.args.queues.now in
    let queues = c.args.config.now.queues in
    let alarms = c.args.config.now.alarms in
    let at = c.args.at in
    let i = c.loop-queue.queue-index in
    let queue = c.queue-item.result in
    let new = c.in_ok-new.new in
    let opened = c.in_ok-make_queue.ensures.opened in
    let same : c.as_slice-queue-items.result.now ≡ queues = c.as_slice-queue-items.ensures.value ∙ ap (λ (k : Configuration). k.queues) c.config.view_is in
    let all : c.as_slice.result.now ≡ alarms = c.as_slice.ensures.value ∙ ap (λ (k : Configuration). k.alarms) c.config.view_is in
    let rules : new.rules.items ≡ rules_of alarms (i + 1) =
    c.in_ok-new.ensures.ok.2 ∙ ap (λ (xs : List ConfiguredAlarm). rules_of xs (c.loop-queue.place + 1)) all ∙ ap (λ (n : ℕ). rules_of alarms (n + 1)) c.loop-queue.invariant.place in
    let one : IsOpenedAtPlace limits alarms at (i + 1) queue c.in_ok-make_queue.field-0 = (
      opened.0,
      opened.1
          ∙ ap (λ (name : List ℕ). opened_queue opened.0 name new.settings limits new.rules.items at) c.in_ok-new.ensures.ok.0
          ∙ ap (λ settings. opened_queue opened.0 queue.name settings limits new.rules.items at) c.in_ok-new.ensures.ok.1
          ∙ ap (λ (rules : List Rule). opened_queue opened.0 queue.name queue.settings limits rules at) rules,
    ) in
    record {
      place = ap (λ (n : ℕ). n + 1) c.loop-queue.invariant.place;
      served = subst (λ (marks : List QueueHistory). AllNumbered (IsOpenedAtPlace limits alarms at) 1 (take (i + 1) queues) marks) (sym c.in_ok-push.ensures.items)
          (numbered_more (IsOpenedAtPlace limits alarms at) queues i queue c.loop-queue.marks.items c.in_ok-make_queue.field-0 c.loop-queue.invariant.served
          (subst (λ (qs : List ConfiguredQueue). i < length qs) same c.loop-queue-test.true) (c.queue-item.is ∙ ap (λ (qs : List ConfiguredQueue). get_or qs i queue) same) one);
    }

pub returns : goal.returns
returns g c =
    let queues = c.args.config.now.queues in
    let i = c.loop-queue.queue-index in
    let same : c.as_slice-queue-items.result.now ≡ queues = c.as_slice-queue-items.ensures.value ∙ ap (λ (k : Configuration). k.queues) c.config.view_is in
    record {
      served = subst (λ (qs : List ConfiguredQueue). AllNumbered (IsOpenedAtPlace (arc_value c.args.queues.now) c.args.config.now.alarms c.args.at) 1 qs c.loop-queue.marks.items)
          (take_all i queues (subst (λ (qs : List ConfiguredQueue). length qs ≤ i) same c.loop-queue-test.false)) c.loop-queue.invariant.served;
    }
