use Rattle.std.proofs.Common.{Bool, true, false, List, sym, ◌∙◌, arith}
use Rattle.queue_core.specs.declared.facts.Candidate.{Candidate}
use Rattle.queue_core.specs.States.{receive_order}
use Rattle.queue_core.specs.Queue.{is_exhausted, scanned_candidates}
use Rattle.queue_core.proofs.OfferLemmas.{go_on}
use Rattle.queue_core.proofs.indexed.ReceiveLemmas.{index_seen, turns_are, exhausted_by, scan_stops, scan_all, step_leaving, step_offered}
use Rattle.queue_core.proofs.state.QueueState.scan.Goals as goal
use Rattle.queue_core.proofs.state.QueueState.scan.Goals.{then-is_exhausted+in_ok-push, else-is_exhausted+in_ok-push-2}

pub number_in_turn-number-requires : goal.number_in_turn-number-requires
number_in_turn-number-requires c =
    let turns = turns_are c.args.self.now.lines c.args.self.now.clock c.self.inside.index (index_seen _ c.args.self.now c.self.inside.index c.self.view_is c.self.invariant.2) in
    omega (arith, turns, c.len-place-end.ensures.count, c.loop-place-test.true)

pub loop-place-preserved : goal.loop-place-preserved
loop-place-preserved c =
    let p : Candidate → Bool = λ x. is_exhausted c.args.self.now x in
    let all : List Candidate = scanned_candidates c.args.self.now c.args.maximum in
    let order : List Candidate = receive_order c.args.self.now.lines c.args.self.now.clock in
    let number = c.number_in_turn-number.result in
    let a = c.loop-place.may_be_offered in
    let b = c.loop-place.may_leave in
    let going = go_on p a b c.if-may_be_offered-eq0.false c.if-may_leave-eq0.false in
    elim c.if-is_exhausted.branch [
      | then-is_exhausted+in_ok-push w ↦
          rw (w.offered-is, w.leaving-is, w.in_ok-push.ensures.ok, w.may_be_offered-is, w.may_leave-is)
          (step_leaving p all order c.loop-place.place number a b c.number_in_turn-number.ensures going c.loop-place.offered c.loop-place.leaving
          (exhausted_by c.args.self.now number true (sym w.if-is_exhausted.true ∙ c.is_exhausted.ensures)) c.loop-place.invariant)
      | else-is_exhausted+in_ok-push-2 w ↦
          rw (w.offered-is, w.leaving-is, w.in_ok-push-2.ensures.ok, w.may_be_offered-is, w.may_leave-is)
          (step_offered p all order c.loop-place.place number a b c.number_in_turn-number.ensures going c.loop-place.offered c.loop-place.leaving
          (exhausted_by c.args.self.now number false (sym w.if-is_exhausted.false ∙ c.is_exhausted.ensures)) c.loop-place.invariant)
    ]

pub returns-then-may_be_offered-eq0-clause-offered : goal.returns-then-may_be_offered-eq0-clause-offered
returns-then-may_be_offered-eq0-clause-offered c =
    (scan_stops (λ x. is_exhausted c.args.self.now x) (scanned_candidates c.args.self.now c.args.maximum) c.loop-place.offered c.loop-place.leaving c.loop-place.may_be_offered
    c.loop-place.may_leave _ c.then-may_be_offered-eq0.either c.loop-place.invariant).0

pub returns-then-may_be_offered-eq0-clause-leaving : goal.returns-then-may_be_offered-eq0-clause-leaving
returns-then-may_be_offered-eq0-clause-leaving c =
    (scan_stops (λ x. is_exhausted c.args.self.now x) (scanned_candidates c.args.self.now c.args.maximum) c.loop-place.offered c.loop-place.leaving c.loop-place.may_be_offered
    c.loop-place.may_leave _ c.then-may_be_offered-eq0.either c.loop-place.invariant).1

pub returns-clause-offered : goal.returns-clause-offered
returns-clause-offered c =
    let turns = turns_are c.args.self.now.lines c.args.self.now.clock c.self.inside.index (index_seen _ c.args.self.now c.self.inside.index c.self.view_is c.self.invariant.2) in
    (scan_all (λ x. is_exhausted c.args.self.now x) (scanned_candidates c.args.self.now c.args.maximum) c.loop-place.offered c.loop-place.leaving c.loop-place.may_be_offered
    c.loop-place.may_leave (receive_order c.args.self.now.lines c.args.self.now.clock) c.loop-place.place (omega (arith, turns, c.len-place-end.ensures.count, c.loop-place-test.false)) c.loop-place.invariant).0

pub returns-clause-leaving : goal.returns-clause-leaving
returns-clause-leaving c =
    let turns = turns_are c.args.self.now.lines c.args.self.now.clock c.self.inside.index (index_seen _ c.args.self.now c.self.inside.index c.self.view_is c.self.invariant.2) in
    (scan_all (λ x. is_exhausted c.args.self.now x) (scanned_candidates c.args.self.now c.args.maximum) c.loop-place.offered c.loop-place.leaving c.loop-place.may_be_offered
    c.loop-place.may_leave (receive_order c.args.self.now.lines c.args.self.now.clock) c.loop-place.place (omega (arith, turns, c.len-place-end.ensures.count, c.loop-place-test.false)) c.loop-place.invariant).1
