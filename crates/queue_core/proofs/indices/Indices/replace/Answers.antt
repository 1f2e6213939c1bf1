use Rattle.std.proofs.Common.{cond, nat_eq, is_some, ap, ◌∙◌}
use mir.Val.{bool_byte}
use Rattle.std.specs.FinMap as finite
use Rattle.visible_index.specs.Pairs.{has_pair}
use Rattle.queue_core.specs.private.Slots.{is_hidden, is_shown, is_here, is_delayed, is_in_flight, is_failing}
use Rattle.queue_core.specs.private.Changes.{is_at}
use Rattle.queue_core.proofs.indexed.SlotLemmas.{is_some-due_in, is_some-sent_in, is_some-shown_in, is_at-shown_in, same_rooms, recounted}
use Rattle.queue_core.proofs.costs.SpendingLemmas.{cost-replaced}
use Rattle.queue_core.proofs.indices.Indices.replace.Goals as goal

pub replace-requires : goal.replace-requires
replace-requires c = rw c.has_age.ensures c.requires.ages

pub returns-clause-replaced : goal.returns-clause-replaced
returns-clause-replaced c =
    let x = c.args.self.now in
    let before = c.args.before in
    let after = c.args.after in
    let number = c.args.number in
    record {
      due = λ n. c.replace_moment.ensures.moments n ∙ ap (λ o. cond (nat_eq n number) o (finite.get x.due.moments n)) c.due_in-2.ensures;
      sent = λ n. c.replace_moment-2.ensures.moments n ∙ ap (λ o. cond (nat_eq n number) o (finite.get x.sent.moments n)) c.sent_in-2.ensures;
      shown = λ moment n. c.replace_pair.ensures.pairs moment n
          ∙ ap (λ b. cond (nat_eq n number) b (has_pair (moment, n) x.visible.pairs)) (ap (λ o. is_at o moment) c.shown_in-2.ensures ∙ is_at-shown_in after moment);
      strict = c.replace_pair.ensures.strict;
      delayed = recounted x.delayed c.from.result c.from-2.result (is_delayed before) (is_delayed after) (c.from.ensures ∙ ap bool_byte c.is_delayed.ensures) (c.from-2.ensures ∙ ap bool_byte c.is_delayed-2.ensures) c.requires.delayed;
      in_flight = recounted x.in_flight c.from-3.result c.from-4.result (is_in_flight before) (is_in_flight after) (c.from-3.ensures ∙ ap bool_byte c.is_in_flight.ensures) (c.from-4.ensures ∙ ap bool_byte c.is_in_flight-2.ensures) c.requires.in_flight;
      due_spare = same_rooms c.due_in.result c.due_in-2.result (is_hidden before) (is_hidden after) x.due.spare _ (ap is_some c.due_in.ensures ∙ is_some-due_in before) (ap is_some c.due_in-2.ensures ∙ is_some-due_in after) c.replace_moment.ensures.spare;
      visible_spare = same_rooms c.shown_in.result c.shown_in-2.result (is_shown before) (is_shown after) x.visible.spare _ (ap is_some c.shown_in.ensures ∙ is_some-shown_in before) (ap is_some c.shown_in-2.ensures ∙ is_some-shown_in after) c.replace_pair.ensures.spare;
      sent_spare = same_rooms c.sent_in.result c.sent_in-2.result (is_here before) (is_here after) x.sent.spare _ (ap is_some c.sent_in.ensures ∙ is_some-sent_in before) (ap is_some c.sent_in-2.ensures ∙ is_some-sent_in after) c.replace_moment-2.ensures.spare;
      failing = recounted x.failing c.from-5.result c.from-6.result (is_failing before) (is_failing after) (c.from-5.ensures ∙ ap bool_byte c.is_failing.ensures) (c.from-6.ensures ∙ ap bool_byte c.is_failing-2.ensures) c.requires.failing;
      ages = rw (c.has_age.ensures, c.has_age-2.ensures) at c.replace.ensures;
    }

pub returns-clause-cost : goal.returns-clause-cost
returns-clause-cost c =
    λ k below keeps.
    let x = c.args.self.now in
    let before = c.args.before in
    let after = c.args.after in
    cost-replaced before after x _ _ _ k c.args.ticks.now c.replace_moment.new.ticks c.replace_moment-2.new.ticks c.replace_pair.new.ticks
    (recounted x.delayed c.from.result c.from-2.result (is_delayed before) (is_delayed after) (c.from.ensures ∙ ap bool_byte c.is_delayed.ensures) (c.from-2.ensures ∙ ap bool_byte c.is_delayed-2.ensures) c.requires.delayed)
    (recounted x.in_flight c.from-3.result c.from-4.result (is_in_flight before) (is_in_flight after) (c.from-3.ensures ∙ ap bool_byte c.is_in_flight.ensures) (c.from-4.ensures ∙ ap bool_byte c.is_in_flight-2.ensures) c.requires.in_flight)
    (rw (c.shown_in.ensures, c.shown_in-2.ensures) at c.replace_pair.ensures.len)
    (is_some-shown_in before) (is_some-shown_in after) keeps
    (rw (c.due_in.ensures, c.due_in-2.ensures) at c.replace_moment.ensures.cost k below.due)
    (rw (c.sent_in.ensures, c.sent_in-2.ensures) at c.replace_moment-2.ensures.cost k below.sent)
    (rw (c.shown_in.ensures, c.shown_in-2.ensures) at c.replace_pair.ensures.cost k below.visible)
