use Rattle.std.proofs.Common.{◌≡◌, ℕ, ◌+◌, ◌≤◌, Option, Some, Result, Ok, Err, sym, ap, subst, ◌∙◌}
use Rattle.std.proofs.lemmas.Bool.{false≢true}
use Rattle.message.specs.declared.fault.Fault.{Fault}
use Rattle.message.specs.Fault.{Meets}
use Rattle.queue_core.specs.declared.command.Command.TheVariants.{Arrive, Orphan}
use Rattle.queue_core.specs.declared.parcel.Parcel.{Parcel}
use Rattle.redrive.specs.declared.moved.Moved.{Moved}
use Rattle.redrive.specs.House.{first_parcel_in}
use Rattle.redrive.proofs.HandOverLemmas.{is-first, delivered-answer, delivered-takes, delivered-left, delivered-ticks, orphan-delivery, arrive-delivery, parcel-delivery, wanted, answered, answered-meets, answered-left, answered-ticks, ran-out, unmade-left, unmade-ticks}
use Rattle.redrive.proofs.house.House.hand_over_first.Goals as goal

-- its queue is gone
pub returns-then-not-has_queue-clause-answer : goal.returns-then-not-has_queue-clause-answer
returns-then-not-has_queue-clause-answer c =
    let w = c.args.self.now in
    let first = is-first w c.args.source c.args.origin.now c.args.target c.requires.first in
    let gone = orphan-delivery w c.args.source c.requires.there c.args.origin.now c.args.target first (sym c.has_queue.ensures.there ∙ c.if-not-has_queue.true) in
    subst (λ (h : Result Moved Fault). Meets c.deliver.result h) (sym (delivered-answer w c.args.source c.args.source (Orphan c.args.target) gone c.args.at)) c.deliver.ensures.answer

pub returns-then-not-has_queue-clause-exact : goal.returns-then-not-has_queue-clause-exact
returns-then-not-has_queue-clause-exact c = λ none.
    let w = c.args.self.now in
    let first = is-first w c.args.source c.args.origin.now c.args.target c.requires.first in
    let gone = orphan-delivery w c.args.source c.requires.there c.args.origin.now c.args.target first (sym c.has_queue.ensures.there ∙ c.if-not-has_queue.true) in
    c.deliver.ensures.exact (sym (delivered-takes w c.args.source c.args.source (Orphan c.args.target) gone c.args.at) ∙ none) ∙ sym (delivered-answer w c.args.source c.args.source (Orphan c.args.target) gone c.args.at)

pub returns-then-not-has_queue-clause-state : goal.returns-then-not-has_queue-clause-state
returns-then-not-has_queue-clause-state c =
    let w = c.args.self.now in
    let first = is-first w c.args.source c.args.origin.now c.args.target c.requires.first in
    let gone = orphan-delivery w c.args.source c.requires.there c.args.origin.now c.args.target first (sym c.has_queue.ensures.there ∙ c.if-not-has_queue.true) in
    c.deliver.ensures.state ∙ sym (delivered-left w c.args.source c.args.source (Orphan c.args.target) gone c.args.at c.deliver.result)

pub returns-then-not-has_queue-clause-cost : goal.returns-then-not-has_queue-clause-cost
returns-then-not-has_queue-clause-cost c =
    let w = c.args.self.now in
    let first = is-first w c.args.source c.args.origin.now c.args.target c.requires.first in
    let gone = orphan-delivery w c.args.source c.requires.there c.args.origin.now c.args.target first (sym c.has_queue.ensures.there ∙ c.if-not-has_queue.true) in
    subst (λ (n : ℕ). c.deliver.new.ticks ≤ c.args.ticks.now + n) (sym (delivered-ticks w c.args.source c.args.source (Orphan c.args.target) gone c.args.at c.deliver.result)) c.deliver.ensures.cost

-- the parcel is made
pub returns-in-Ok-Some-clause-answer : goal.returns-in-Ok-Some-clause-answer
returns-in-Ok-Some-clause-answer c =
    let w = c.args.self.now in
    let first = is-first w c.args.source c.args.origin.now c.args.target c.requires.first in
    let made = subst (λ (o : Option Parcel). ◌≡◌ {A = Result (Option Parcel) Fault} (Ok o) (Ok (first_parcel_in w c.args.source))) c.in-Ok-Some.field-0-is c.in-Ok-Some.ensures.answer in
    let handed = parcel-delivery w c.args.source c.requires.there c.args.origin.now c.args.target first c.in-Ok-Some.parcel made (sym c.has_queue.ensures.there ∙ c.if-not-has_queue.false) in
    subst (λ (h : Result Moved Fault). Meets c.deliver-in-Ok-Some.result h) (sym (delivered-answer w c.args.source c.args.target (Arrive c.in-Ok-Some.parcel) handed c.args.at)) c.deliver-in-Ok-Some.ensures.answer

pub returns-in-Ok-Some-clause-exact : goal.returns-in-Ok-Some-clause-exact
returns-in-Ok-Some-clause-exact c = λ none.
    let w = c.args.self.now in
    let first = is-first w c.args.source c.args.origin.now c.args.target c.requires.first in
    let made = subst (λ (o : Option Parcel). ◌≡◌ {A = Result (Option Parcel) Fault} (Ok o) (Ok (first_parcel_in w c.args.source))) c.in-Ok-Some.field-0-is c.in-Ok-Some.ensures.answer in
    let handed = parcel-delivery w c.args.source c.requires.there c.args.origin.now c.args.target first c.in-Ok-Some.parcel made (sym c.has_queue.ensures.there ∙ c.if-not-has_queue.false) in
    c.deliver-in-Ok-Some.ensures.exact (sym (delivered-takes w c.args.source c.args.target (Arrive c.in-Ok-Some.parcel) handed c.args.at) ∙ none) ∙ sym (delivered-answer w c.args.source c.args.target (Arrive c.in-Ok-Some.parcel) handed c.args.at)

pub returns-in-Ok-Some-clause-state : goal.returns-in-Ok-Some-clause-state
returns-in-Ok-Some-clause-state c =
    let w = c.args.self.now in
    let first = is-first w c.args.source c.args.origin.now c.args.target c.requires.first in
    let made = subst (λ (o : Option Parcel). ◌≡◌ {A = Result (Option Parcel) Fault} (Ok o) (Ok (first_parcel_in w c.args.source))) c.in-Ok-Some.field-0-is c.in-Ok-Some.ensures.answer in
    let handed = parcel-delivery w c.args.source c.requires.there c.args.origin.now c.args.target first c.in-Ok-Some.parcel made (sym c.has_queue.ensures.there ∙ c.if-not-has_queue.false) in
    c.deliver-in-Ok-Some.ensures.state ∙ sym (delivered-left w c.args.source c.args.target (Arrive c.in-Ok-Some.parcel) handed c.args.at c.deliver-in-Ok-Some.result)

pub returns-in-Ok-Some-clause-cost : goal.returns-in-Ok-Some-clause-cost
returns-in-Ok-Some-clause-cost c =
    let w = c.args.self.now in
    let first = is-first w c.args.source c.args.origin.now c.args.target c.requires.first in
    let made = subst (λ (o : Option Parcel). ◌≡◌ {A = Result (Option Parcel) Fault} (Ok o) (Ok (first_parcel_in w c.args.source))) c.in-Ok-Some.field-0-is c.in-Ok-Some.ensures.answer in
    let handed = parcel-delivery w c.args.source c.requires.there c.args.origin.now c.args.target first c.in-Ok-Some.parcel made (sym c.has_queue.ensures.there ∙ c.if-not-has_queue.false) in
    subst (λ (n : ℕ). c.deliver-in-Ok-Some.new.ticks ≤ c.args.ticks.now + n) (sym (delivered-ticks w c.args.source c.args.target (Arrive c.in-Ok-Some.parcel) handed c.args.at c.deliver-in-Ok-Some.result)) c.deliver-in-Ok-Some.ensures.cost

-- there is no memory for it, and none is wanted
pub returns-in-Some-clause-answer : goal.returns-in-Some-clause-answer
returns-in-Some-clause-answer c =
    let w = c.args.self.now in
    let first = is-first w c.args.source c.args.origin.now c.args.target c.requires.first in
    answered-meets w c.args.source c.args.at c.requires.there c.args.origin.now c.args.target first (sym c.has_queue.ensures.there ∙ c.if-not-has_queue.false) c.advance_in.new.self c.advance_in.ensures.state c.arrival_answer.result
    c.arrival_answer.ensures c.in-Some.answer c.in-Some.is c.as_moved.result c.as_moved.ensures

pub returns-in-Some-clause-exact : goal.returns-in-Some-clause-exact
returns-in-Some-clause-exact c = λ none.
    let w = c.args.self.now in
    let first = is-first w c.args.source c.args.origin.now c.args.target c.requires.first in
    answered w c.args.source c.args.at c.requires.there c.args.origin.now c.args.target first (sym c.has_queue.ensures.there ∙ c.if-not-has_queue.false) c.advance_in.new.self c.advance_in.ensures.state c.arrival_answer.result
    c.arrival_answer.ensures c.in-Some.answer c.in-Some.is c.as_moved.result c.as_moved.ensures

pub returns-in-Some-clause-state : goal.returns-in-Some-clause-state
returns-in-Some-clause-state c =
    let w = c.args.self.now in
    let first = is-first w c.args.source c.args.origin.now c.args.target c.requires.first in
    answered-left w c.args.source c.args.at c.requires.there c.args.origin.now c.args.target first (sym c.has_queue.ensures.there ∙ c.if-not-has_queue.false) c.advance_in.new.self c.advance_in.ensures.state c.arrival_answer.result
    c.arrival_answer.ensures c.in-Some.answer c.in-Some.is c.as_moved.result c.has_queue.ensures.registry

pub returns-in-Some-clause-cost : goal.returns-in-Some-clause-cost
returns-in-Some-clause-cost c =
    let w = c.args.self.now in
    let first = is-first w c.args.source c.args.origin.now c.args.target c.requires.first in
    subst (λ (n : ℕ). c.advance_in.new.ticks ≤ c.args.ticks.now + n)
    (answered-ticks w c.args.source c.args.at c.requires.there c.args.origin.now c.args.target first (sym c.has_queue.ensures.there ∙ c.if-not-has_queue.false) c.advance_in.new.self c.advance_in.ensures.state c.arrival_answer.result
    c.arrival_answer.ensures c.in-Some.answer c.in-Some.is c.as_moved.result) c.advance_in.ensures.cost

-- there is no memory for it, and some is wanted
pub returns-in-None-clause-exact : goal.returns-in-None-clause-exact
returns-in-None-clause-exact c = λ none.
    let w = c.args.self.now in
    let first = is-first w c.args.source c.args.origin.now c.args.target c.requires.first in
    absurd (false≢true (sym none ∙ wanted w c.args.source c.args.at c.requires.there c.args.origin.now c.args.target first (sym c.has_queue.ensures.there ∙ c.if-not-has_queue.false) c.advance_in.new.self c.advance_in.ensures.state c.arrival_answer.result
    c.arrival_answer.ensures c.in-None.is))

pub returns-in-None-clause-state : goal.returns-in-None-clause-state
returns-in-None-clause-state c =
    let w = c.args.self.now in
    let first = is-first w c.args.source c.args.origin.now c.args.target c.requires.first in
    let handed = arrive-delivery w c.args.source c.requires.there c.args.origin.now c.args.target first (sym c.has_queue.ensures.there ∙ c.if-not-has_queue.false) in
    let memory = ran-out c.in-Err.fault (first_parcel_in w c.args.source) c.in-Err.ensures.answer in
    unmade-left w c.args.source c.args.at c.args.target first.parcel handed c.in-Err.fault memory c.advance_in.new.self c.advance_in.ensures.state

pub returns-in-None-clause-cost : goal.returns-in-None-clause-cost
returns-in-None-clause-cost c =
    let w = c.args.self.now in
    let first = is-first w c.args.source c.args.origin.now c.args.target c.requires.first in
    let handed = arrive-delivery w c.args.source c.requires.there c.args.origin.now c.args.target first (sym c.has_queue.ensures.there ∙ c.if-not-has_queue.false) in
    let memory = ran-out c.in-Err.fault (first_parcel_in w c.args.source) c.in-Err.ensures.answer in
    subst (λ (n : ℕ). c.advance_in.new.ticks ≤ c.args.ticks.now + n) (unmade-ticks w c.args.source c.args.at c.args.target first.parcel handed c.in-Err.fault memory) c.advance_in.ensures.cost
