use Rattle.std.proofs.Common.{◌≡◌, ℕ, ◌<◌, List, ap, subst, ◌∙◌, length, get_or, ◌≤◌}
use Rattle.std.proofs.lemmas.List.{take_all}
use Rattle.queue_config.specs.Config.{Configuration, AreConfigured, rules_of}
use Rattle.queue_config.specs.AlarmRules.{Rule}
use Rattle.queue_config.specs.declared.config.ConfiguredAlarm.{ConfiguredAlarm}
use Rattle.queue_config.specs.declared.config.ConfiguredQueue.{ConfiguredQueue}
use Rattle.redrive.specs.House.{House, new_house, with_queue, next_queue, found_uid}
use Rattle.redrive.proofs.ConfiguredLemmas.{found-configured}
use Rattle.redrive.proofs.OpeningLemmas.{next_name-new, next_name-place, opened-more}
use Rattle.redrive.proofs.house.House.new.Goals as goal

pub open-requires-clause-new_name : goal.open-requires-clause-new_name
open-requires-clause-new_name c =
    let own = ap (λ (k : Configuration). k.queues) c.config.view_is in
    let same : c.as_slice-queue-items.result.now ≡ c.args.config.now.queues = c.as_slice-queue-items.ensures.value ∙ own in
    next_name-new c.loop-queue.house c.args.config.now.limits c.args.config.now.alarms c.args.at c.args.config.now.queues c.loop-queue.queue-index c.queue-item.result c.loop-queue.invariant
    (subst (λ (qs : List ConfiguredQueue). c.loop-queue.queue-index < length qs) same c.loop-queue-test.true)
    (c.queue-item.is ∙ ap (λ (qs : List ConfiguredQueue). get_or qs c.loop-queue.queue-index c.queue-item.result) same)
    (subst (λ (qs : List ConfiguredQueue). AreConfigured qs) own c.config.invariant.queues)

pub open-requires-clause-place : goal.open-requires-clause-place
open-requires-clause-place c =
    let own = ap (λ (k : Configuration). k.queues) c.config.view_is in
    let same : c.as_slice-queue-items.result.now ≡ c.args.config.now.queues = c.as_slice-queue-items.ensures.value ∙ own in
    next_name-place c.loop-queue.house c.args.config.now.limits c.args.config.now.alarms c.args.at c.args.config.now.queues c.loop-queue.queue-index c.loop-queue.invariant
    (subst (λ (qs : List ConfiguredQueue). c.loop-queue.queue-index < length qs) same c.loop-queue-test.true)
    (subst (λ (qs : List ConfiguredQueue). AreConfigured qs) own c.config.invariant.queues)

pub loop-queue-preserved : goal.loop-queue-preserved
loop-queue-preserved c =
    let own = ap (λ (k : Configuration). k.queues) c.config.view_is in
    let same : c.as_slice-queue-items.result.now ≡ c.args.config.now.queues = c.as_slice-queue-items.ensures.value ∙ own in
    let alarms : c.as_slice.result.now ≡ c.args.config.now.alarms = c.as_slice.ensures.value ∙ ap (λ (k : Configuration). k.alarms) c.config.view_is in
    let uid : c.next_uid.result ≡ c.loop-queue.house.next_uid = c.next_uid.ensures ∙ ap (λ (w : House). w.next_uid) c.house.view_is in
    let rules : c.in_ok-rules.rules.items ≡ rules_of c.args.config.now.alarms c.loop-queue.house.next_uid =
    c.in_ok-rules.ensures.ok ∙ ap (λ (xs : List ConfiguredAlarm). rules_of xs c.next_uid.result) alarms ∙ ap (λ (u : ℕ). rules_of c.args.config.now.alarms u) uid in
    c.in_ok-open.ensures.ok
    ∙ ap (λ (rules : List Rule). with_queue c.loop-queue.house (next_queue c.loop-queue.house c.args.at c.queue-item.result.name c.queue-item.result.settings rules)) rules
    ∙ opened-more c.args.config.now.limits c.args.config.now.alarms c.args.at c.args.config.now.queues c.loop-queue.queue-index c.queue-item.result c.loop-queue.house c.loop-queue.invariant
    (subst (λ (qs : List ConfiguredQueue). c.loop-queue.queue-index < length qs) same c.loop-queue-test.true)
    (c.queue-item.is ∙ ap (λ (qs : List ConfiguredQueue). get_or qs c.loop-queue.queue-index c.queue-item.result) same)

pub returns-clause-found : goal.returns-clause-found
returns-clause-found c name =
    let own = ap (λ (k : Configuration). k.queues) c.config.view_is in
    let same : c.as_slice-queue-items.result.now ≡ c.args.config.now.queues = c.as_slice-queue-items.ensures.value ∙ own in
    let over : length c.args.config.now.queues ≤ c.loop-queue.queue-index = subst (λ (qs : List ConfiguredQueue). length qs ≤ c.loop-queue.queue-index) same c.loop-queue-test.false in
    let made : c.loop-queue.house ≡ new_house c.args.config.now c.args.at =
    c.loop-queue.invariant
    ∙ ap (λ (qs : List ConfiguredQueue). new_house (record { limits = c.args.config.now.limits; queues = qs; alarms = c.args.config.now.alarms }) c.args.at) (take_all c.loop-queue.queue-index c.args.config.now.queues over) in
    ap (λ (w : House). found_uid w name) made ∙ found-configured c.args.config.now c.args.at name
