use Rattle.std.proofs.Common.{◌≡◌, ◌+◌, ◌≤◌, Some, nat_eq, position, ap, subst, ◌∙◌}
use Rattle.queue_core.specs.Queue.{after_answer}
use Rattle.redrive.specs.House.{House}
use Rattle.redrive.specs.Cost.{command_ticks}
use Rattle.redrive.proofs.PlaceLemmas.{ticks-at, answer-at, exact-at, room-at, step-at, IsKept-step_at}
use Rattle.redrive.proofs.house.House.command_at.Goals as goal

pub invariant_of-self : goal.invariant_of-self
invariant_of-self c =
    let w = c.self.inside.queues in
    let here : position (λ q. nat_eq q.uid c.args.found.uid) w.queues ≡ Some c.args.found.place = ap (λ (w : House). position (λ q. nat_eq q.uid c.args.found.uid) w.queues) c.self.view_is ∙ c.requires.here in
    IsKept-step_at w c.args.found.uid c.args.found.place here c.self.inside.keys c.args.at c.args.command.now c.perform_at.result c.perform_at.new.self c.self.invariant
    c.requires.stays c.perform_at.ensures.state

pub returns-clause-answer : goal.returns-clause-answer
returns-clause-answer c =
    let w = c.self.inside.queues in
    let here : position (λ q. nat_eq q.uid c.args.found.uid) w.queues ≡ Some c.args.found.place = ap (λ (w : House). position (λ q. nat_eq q.uid c.args.found.uid) w.queues) c.self.view_is ∙ c.requires.here in
    rw (← c.self.view_is) (answer-at w c.args.found.uid c.args.found.place here c.args.at c.args.command.now c.perform_at.result c.perform_at.ensures.answer)

pub returns-clause-exact : goal.returns-clause-exact
returns-clause-exact c =
    let w = c.self.inside.queues in
    let here : position (λ q. nat_eq q.uid c.args.found.uid) w.queues ≡ Some c.args.found.place = ap (λ (w : House). position (λ q. nat_eq q.uid c.args.found.uid) w.queues) c.self.view_is ∙ c.requires.here in
    rw (← c.self.view_is) (exact-at w c.args.found.uid c.args.found.place here c.args.at c.args.command.now c.perform_at.result c.perform_at.ensures.exact)

pub returns-clause-room : goal.returns-clause-room
returns-clause-room c =
    let w = c.self.inside.queues in
    let here : position (λ q. nat_eq q.uid c.args.found.uid) w.queues ≡ Some c.args.found.place = ap (λ (w : House). position (λ q. nat_eq q.uid c.args.found.uid) w.queues) c.self.view_is ∙ c.requires.here in
    rw (← c.self.view_is) (room-at w c.args.found.uid c.args.found.place here c.args.at c.args.command.now c.perform_at.result c.perform_at.ensures.room)

pub returns-clause-state : goal.returns-clause-state
returns-clause-state c =
    let w = c.self.inside.queues in
    let here : position (λ q. nat_eq q.uid c.args.found.uid) w.queues ≡ Some c.args.found.place = ap (λ (w : House). position (λ q. nat_eq q.uid c.args.found.uid) w.queues) c.self.view_is ∙ c.requires.here in
    rw (← c.self.view_is)
    (step-at w c.args.found.uid c.args.found.place here c.args.at c.args.command.now c.perform_at.result c.perform_at.new.self c.self.invariant.registry c.perform_at.ensures.state)

pub returns-clause-cost : goal.returns-clause-cost
returns-clause-cost c =
    let w = c.self.inside.queues in
    let here : position (λ q. nat_eq q.uid c.args.found.uid) w.queues ≡ Some c.args.found.place = ap (λ (w : House). position (λ q. nat_eq q.uid c.args.found.uid) w.queues) c.self.view_is ∙ c.requires.here in
    subst (λ (w : House). c.perform_at.new.ticks ≤ c.args.ticks.now + command_ticks w c.args.found.uid c.args.at c.args.command.now c.perform_at.result) c.self.view_is
    (ticks-at w c.args.found.uid c.args.found.place here (λ q. after_answer q c.args.at c.args.command.now c.perform_at.result) c.args.ticks.now c.perform_at.new.ticks c.perform_at.ensures.cost)
