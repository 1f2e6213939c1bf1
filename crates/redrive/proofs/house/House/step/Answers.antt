use Rattle.std.proofs.Common.{◌≡◌, ℕ, Option, None, nat_eq, position, refl, sym, ◌∙◌}
use Rattle.queue_core.specs.Queue.{QueueHistory}
use Rattle.redrive.specs.House.{House, queue_of_uid}
use Rattle.redrive.proofs.KeyedLemmas.{find-no_position}
use Rattle.redrive.proofs.house.House.step.Goals as goal

absent : (w : House) (uid : ℕ) (place : Option ℕ) → place ≡ position (λ q. nat_eq q.uid uid) w.queues → place ≡ None → queue_of_uid w uid ≡ None
absent w uid place found none = find-no_position (λ (q : QueueHistory). q.uid) uid w.queues (sym found ∙ none)

pub step_at-requires : goal.step_at-requires
step_at-requires c = sym c.place_of.ensures.place ∙ c.in-Some.is

pub returns-in-None-clause-answer : goal.returns-in-None-clause-answer
returns-in-None-clause-answer c = rw (absent c.args.self.now c.args.uid c.place_of.result c.place_of.ensures.place c.in-None.is) refl

pub returns-in-None-clause-refused : goal.returns-in-None-clause-refused
returns-in-None-clause-refused c = rw (absent c.args.self.now c.args.uid c.place_of.result c.place_of.ensures.place c.in-None.is) refl

pub returns-in-None-clause-exact : goal.returns-in-None-clause-exact
returns-in-None-clause-exact c none = returns-in-None-clause-answer c

pub returns-in-None-clause-room : goal.returns-in-None-clause-room
returns-in-None-clause-room c free = rw (absent c.args.self.now c.args.uid c.place_of.result c.place_of.ensures.place c.in-None.is) tt

pub returns-in-None-clause-state : goal.returns-in-None-clause-state
returns-in-None-clause-state c = rw (absent c.args.self.now c.args.uid c.place_of.result c.place_of.ensures.place c.in-None.is) refl
