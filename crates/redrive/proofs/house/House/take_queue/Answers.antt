use Rattle.std.proofs.Common.{◌+◌, ◌≤◌, Ok, Err, sym, subst, ◌∙◌}
use Rattle.std.proofs.lemmas.Result.{err_from_is_err_and}
use Rattle.queue_core.specs.Queue.{QueueHistory}
use Rattle.redrive.specs.House.{House}
use Rattle.redrive.specs.Cost.{after_deletion, deletion_ticks}
use Rattle.redrive.proofs.RegistryLemmas.{present-absent, delete-absent_state}
use Rattle.redrive.proofs.DeletionLemmas.{take-absent_answer, journal-handed, journals-kept}
use Rattle.redrive.proofs.PlaceLemmas.{place-shown, ticks-at, take-at, left-at, delete-at, IsKept-taken, IsKept-moved_at}
use Rattle.redrive.proofs.house.House.take_queue.Goals as goal

pub returns-in-None-clause-answer : goal.returns-in-None-clause-answer
returns-in-None-clause-answer c = sym (take-absent_answer c.args.self.now c.args.uid c.args.at (sym c.place_of.ensures.place ∙ c.in-None.is))

pub returns-in-None-clause-state : goal.returns-in-None-clause-state
returns-in-None-clause-state c = sym (delete-absent_state c.args.self.now c.args.uid (sym c.place_of.ensures.place ∙ c.in-None.is))

-- ---- it finds no memory

pub returns-in_err-queue-in-Some-clause-absent : goal.returns-in_err-queue-in-Some-clause-absent
returns-in_err-queue-in-Some-clause-absent c none = absurd (present-absent c.args.self.now c.args.uid c.in-Some.place (sym c.place_of.ensures.place ∙ c.in-Some.is) none)

pub invariant_of-self : goal.invariant_of-self
invariant_of-self c =
    let w = c.self.inside.queues in
    let here = place-shown c.args.uid c.self.view_is c.place_of.ensures.place c.in-Some.is in
    IsKept-moved_at w c.args.uid c.in-Some.place here c.self.inside.keys c.args.at c.close_and_take.new.self c.self.invariant c.in_err-queue-in-Some.ensures.err

pub returns-in_err-queue-in-Some-clause-state : goal.returns-in_err-queue-in-Some-clause-state
returns-in_err-queue-in-Some-clause-state c =
    let w = c.self.inside.queues in
    let here = place-shown c.args.uid c.self.view_is c.place_of.ensures.place c.in-Some.is in
    let p = err_from_is_err_and c.from_residual.result c.from_residual.ensures.1 in
    rw (p.1, p.2, ← c.self.view_is)
    (delete-at w c.args.uid c.in-Some.place here {T = QueueHistory} c.args.at (Err c.in_err-queue-in-Some.field-0.0) c.close_and_take.new.self c.self.invariant.registry c.in_err-queue-in-Some.ensures.ok
    c.in_err-queue-in-Some.ensures.err c.in_err-queue-in-Some.ensures.errors)

pub returns-in_err-queue-in-Some-clause-cost : goal.returns-in_err-queue-in-Some-clause-cost
returns-in_err-queue-in-Some-clause-cost c =
    let w = c.self.inside.queues in
    let here = place-shown c.args.uid c.self.view_is c.place_of.ensures.place c.in-Some.is in
    let p = err_from_is_err_and c.from_residual.result c.from_residual.ensures.1 in
    rw (p.1, p.2)
    (subst (λ (w : House). c.close_and_take.new.ticks ≤ c.args.ticks.now + deletion_ticks {T = QueueHistory} w c.args.uid c.args.at (Err c.in_err-queue-in-Some.field-0.0)) c.self.view_is
    (ticks-at w c.args.uid c.in-Some.place here (λ q. after_deletion {T = QueueHistory} q c.args.at (Err c.in_err-queue-in-Some.field-0.0)) c.args.ticks.now c.close_and_take.new.ticks c.in_err-queue-in-Some.ensures.cost))

-- ---- it is taken out

pub invariant_of-self-in-Some : goal.invariant_of-self-in-Some
invariant_of-self-in-Some c =
    let w = c.self.inside.queues in
    let here = place-shown c.args.uid c.self.view_is c.place_of.ensures.place c.in-Some.is in
    IsKept-taken w c.args.uid c.in-Some.place here c.self.inside.keys c.remove.new.self c.close_and_take.new.self c.self.invariant c.in_ok-queue-in-Some.ensures.ok c.remove.ensures.uids c.remove.ensures.names

pub returns-in_ok-queue-in-Some-clause-answer : goal.returns-in_ok-queue-in-Some-clause-answer
returns-in_ok-queue-in-Some-clause-answer c =
    let w = c.self.inside.queues in
    let here = place-shown c.args.uid c.self.view_is c.place_of.ensures.place c.in-Some.is in
    rw (← c.self.view_is) (take-at w c.args.uid c.in-Some.place here c.args.at (Ok c.in_ok-queue-in-Some.queue) c.in_ok-queue-in-Some.ensures.answer)

pub returns-in_ok-queue-in-Some-clause-absent : goal.returns-in_ok-queue-in-Some-clause-absent
returns-in_ok-queue-in-Some-clause-absent c none = absurd (present-absent c.args.self.now c.args.uid c.in-Some.place (sym c.place_of.ensures.place ∙ c.in-Some.is) none)

pub returns-in_ok-queue-in-Some-clause-state : goal.returns-in_ok-queue-in-Some-clause-state
returns-in_ok-queue-in-Some-clause-state c =
    let w = c.self.inside.queues in
    let here = place-shown c.args.uid c.self.view_is c.place_of.ensures.place c.in-Some.is in
    rw (← c.self.view_is) (left-at w c.args.uid c.in-Some.place here (Ok c.in_ok-queue-in-Some.queue) c.close_and_take.new.self c.self.invariant.registry c.in_ok-queue-in-Some.ensures.ok)

pub returns-in_ok-queue-in-Some-clause-journal : goal.returns-in_ok-queue-in-Some-clause-journal
returns-in_ok-queue-in-Some-clause-journal c =
    let w = c.self.inside.queues in
    let here = place-shown c.args.uid c.self.view_is c.place_of.ensures.place c.in-Some.is in
    rw (← c.self.view_is)
    (journal-handed w c.close_and_take.new.self c.args.uid c.args.at (Ok c.in_ok-queue-in-Some.queue)
    (take-at w c.args.uid c.in-Some.place here c.args.at (Ok c.in_ok-queue-in-Some.queue) c.in_ok-queue-in-Some.ensures.answer)
    (left-at w c.args.uid c.in-Some.place here (Ok c.in_ok-queue-in-Some.queue) c.close_and_take.new.self c.self.invariant.registry c.in_ok-queue-in-Some.ensures.ok))

pub returns-in_ok-queue-in-Some-clause-others : goal.returns-in_ok-queue-in-Some-clause-others
returns-in_ok-queue-in-Some-clause-others c =
    let w = c.self.inside.queues in
    let here = place-shown c.args.uid c.self.view_is c.place_of.ensures.place c.in-Some.is in
    rw (← c.self.view_is)
    (journals-kept w c.close_and_take.new.self c.args.uid c.args.at (Ok c.in_ok-queue-in-Some.queue)
    (take-at w c.args.uid c.in-Some.place here c.args.at (Ok c.in_ok-queue-in-Some.queue) c.in_ok-queue-in-Some.ensures.answer)
    (left-at w c.args.uid c.in-Some.place here (Ok c.in_ok-queue-in-Some.queue) c.close_and_take.new.self c.self.invariant.registry c.in_ok-queue-in-Some.ensures.ok))

pub returns-in_ok-queue-in-Some-clause-cost : goal.returns-in_ok-queue-in-Some-clause-cost
returns-in_ok-queue-in-Some-clause-cost c =
    let w = c.self.inside.queues in
    let here = place-shown c.args.uid c.self.view_is c.place_of.ensures.place c.in-Some.is in
    subst (λ (w : House). c.close_and_take.new.ticks ≤ c.args.ticks.now + deletion_ticks w c.args.uid c.args.at (Ok c.in_ok-queue-in-Some.queue)) c.self.view_is
    (ticks-at w c.args.uid c.in-Some.place here (λ q. after_deletion q c.args.at (Ok c.in_ok-queue-in-Some.queue)) c.args.ticks.now c.close_and_take.new.ticks c.in_ok-queue-in-Some.ensures.cost)
