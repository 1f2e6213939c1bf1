use Rattle.std.proofs.Common.{◌≡◌, ap, sym, ◌∙◌, arith}
use Rattle.std.proofs.lemmas.List.{take_all}
use Rattle.message.specs.Content.{ContentText}
use Rattle.queue_core.specs.Queue.{offer_of, offers_of, offered_candidates}
use Rattle.queue_core.proofs.indexed.ReceiveLemmas.{index_seen, as_many, offer_missing, offer_more}
use Rattle.queue_core.proofs.state.QueueState.offers_of.Goals as goal
use Rattle.queue_core.proofs.state.QueueState.offers_of.Goals.{in-Some+in_ok-share-in-Some+in_ok-push-in-Some, in-None}

pub loop-number-preserved : goal.loop-number-preserved
loop-number-preserved c = λ maximum are.
    let is = index_seen _ c.args.self.now c.self.inside.index c.self.view_is c.self.invariant.2 in
    let numbers = c.as_slice-number-items.result.now in
    elim c.match-get.branch [
      | in-Some+in_ok-share-in-Some+in_ok-push-in-Some w ↦
          let content : w.in_ok-share-in-Some.field-0 ≡ w.in-Some.kept.now.content = cc w.in_ok-share-in-Some.ensures in
          w.offers-is ∙ w.in_ok-push-in-Some.ensures.ok ∙ rw (c.loop-number.invariant maximum are)
          (sym (offer_more c.args.self.now c.self.inside.index is maximum numbers (c.as_slice-number-items.ensures ∙ are) c.loop-number.number-index c.loop-number-test.true w.in-Some.kept.now
          (sym w.in-Some.ensures.value) w.offer_of.result (λ x number of. w.offer_of.ensures x number of ∙ ap (λ (text : ContentText). offer_of c.args.self.now x text) content)))
      | in-None w ↦
          absurd (offer_missing c.args.self.now c.self.inside.index is maximum numbers (c.as_slice-number-items.ensures ∙ are) c.loop-number.number-index c.loop-number-test.true
          (sym w.in-None.ensures.value))
    ]

pub returns-clause-ok : goal.returns-clause-ok
returns-clause-ok c = λ maximum are.
    let many = as_many c.as_slice-number-items.result.now (offered_candidates c.args.self.now maximum) (c.as_slice-number-items.ensures ∙ are) in
    c.loop-number.invariant maximum are
    ∙ ap (offers_of c.args.self.now) (take_all c.loop-number.number-index (offered_candidates c.args.self.now maximum) (omega (arith, many, c.loop-number-test.false)))
