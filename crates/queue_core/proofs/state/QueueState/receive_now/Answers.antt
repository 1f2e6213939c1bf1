use Rattle.std.proofs.Common.{Bool, refl, sym, ap, ◌∙◌}
use Rattle.queue_core.specs.declared.command.Command.TheVariants as commands
use Rattle.journal.specs.declared.entry.Event.TheVariants.{Received}
use Rattle.queue_core.specs.Queue.{rebased_where, with_optional_event, outcome_in}
use Rattle.queue_core.proofs.commands.InPlaceLemmas.{plain, placed}
use Rattle.queue_core.proofs.commands.LegalLemmas.{caused_in, event-over_limit, event-received, answer-received, state-received, more-received}
use Rattle.queue_core.proofs.costs.BoundLemmas.{bound-later}
use Rattle.queue_core.proofs.state.QueueState.receive_now.Goals as goal

pub refuse-requires-clause-caused : goal.refuse-requires-clause-caused
refuse-requires-clause-caused c = caused_in c.args.self.now _ (commands.Receive c.args.maximum c.args.timeout) (c.requires.maximum, c.requires.timeout)
    (event-over_limit c.args.self.now c.requires.open c.args.maximum c.args.timeout (sym c.is_at_in_flight_limit.ensures ∙ c.if-is_at_in_flight_limit.true))
    (placed c.args.self.now (commands.Receive c.args.maximum c.args.timeout) c.requires.place)

pub add-requires : goal.add-requires
add-requires c = caused_in c.args.self.now _ (commands.Receive c.args.maximum c.args.timeout) (c.requires.maximum, c.requires.timeout)
    (rw (c.timeout_or_own.ensures, c.in_ok-scan.ensures.offered, c.in_ok-scan.ensures.leaving, c.policy_target.ensures)
    (event-received c.args.self.now c.requires.open c.args.maximum c.args.timeout (sym c.is_at_in_flight_limit.ensures ∙ c.if-is_at_in_flight_limit.false)))
    (placed c.args.self.now (commands.Receive c.args.maximum c.args.timeout) c.requires.place)

pub returns-clause-answer : goal.returns-clause-answer
returns-clause-answer c =
    answer-received c.args.self.now c.requires.open c.args.self.now c.args.maximum c.args.timeout c.in_ok-offers.offers refl
    (sym c.is_at_in_flight_limit.ensures ∙ c.if-is_at_in_flight_limit.false) (c.in_ok-offers.ensures.ok c.args.maximum c.in_ok-scan.ensures.offered)

pub returns-clause-state : goal.returns-clause-state
returns-clause-state c =
    state-received c.args.self.now c.requires.open c.args.self.now c.add.new.self c.args.maximum c.args.timeout
    (Received c.timeout_or_own.result c.in_ok-scan.scan.offered c.in_ok-scan.scan.leaving c.policy_target.result) refl
    (sym c.is_at_in_flight_limit.ensures ∙ c.if-is_at_in_flight_limit.false)
    (rw (c.timeout_or_own.ensures, c.in_ok-scan.ensures.offered, c.in_ok-scan.ensures.leaving, c.policy_target.ensures) refl)
    c.in_ok-add.ensures.ok
    ∙ ap (λ (b : Bool). with_optional_event (rebased_where b c.args.self.now) (outcome_in c.args.self.now (commands.Receive c.args.maximum c.args.timeout)).event)
    (sym (plain c.args.self.now (commands.Receive c.args.maximum c.args.timeout)))

pub returns-in_err-scan-clause-room : goal.returns-in_err-scan-clause-room
returns-in_err-scan-clause-room c = λ room alone.
    more-received c.args.self.now c.requires.open c.args.self.now c.args.maximum c.args.timeout refl
    (sym c.is_at_in_flight_limit.ensures ∙ c.if-is_at_in_flight_limit.false) alone

pub returns-in_err-offers-clause-room : goal.returns-in_err-offers-clause-room
returns-in_err-offers-clause-room c = λ room alone.
    more-received c.args.self.now c.requires.open c.args.self.now c.args.maximum c.args.timeout refl
    (sym c.is_at_in_flight_limit.ensures ∙ c.if-is_at_in_flight_limit.false) alone

pub returns-in_err-add-clause-room : goal.returns-in_err-add-clause-room
returns-in_err-add-clause-room c = λ room alone.
    more-received c.args.self.now c.requires.open c.args.self.now c.args.maximum c.args.timeout refl
    (sym c.is_at_in_flight_limit.ensures ∙ c.if-is_at_in_flight_limit.false) alone

pub returns-clause-room : goal.returns-clause-room
returns-clause-room c = λ room alone.
    more-received c.args.self.now c.requires.open c.args.self.now c.args.maximum c.args.timeout refl
    (sym c.is_at_in_flight_limit.ensures ∙ c.if-is_at_in_flight_limit.false) alone

pub returns-in_err-scan-clause-cost : goal.returns-in_err-scan-clause-cost
returns-in_err-scan-clause-cost c = λ p before come. bound-later before c.args.ticks.now p _ come

pub returns-in_err-offers-clause-cost : goal.returns-in_err-offers-clause-cost
returns-in_err-offers-clause-cost c = λ p before come. bound-later before c.args.ticks.now p _ come
