use Rattle.std.proofs.Common.{rules, ◌≡◌, ◌<◌, length, get_or, take, sym, ap, ◌∙◌}
use Rattle.std.proofs.lemmas.List.Sums.{fold_more}
use Rattle.queue_actor.specs.private.Ending.{earlier, earliest}
use Rattle.queue_actor.proofs.actor.earliest.Goals as goal

-- one poll more
pub loop-place-preserved : goal.loop-place-preserved
loop-place-preserved g c =
    let i = c.loop-place.place in
    let asks = c.args.parked.now.items in
    let poll = c.index.result.now in
    let here : poll ≡ get_or asks i poll = search rules in
    let below : i < length asks = search rules in
    c.earlier-soonest.ensures ∙ ap (λ n. earlier c.loop-place.soonest n) c.milliseconds.ensures.value ∙ ap (λ n. earlier n poll.wait_until) c.loop-place.invariant
    ∙ ap (λ r. earlier (earliest 18446744073709551615 (take i asks)) r.wait_until) here ∙ sym (fold_more (λ n r. earlier n r.wait_until) 18446744073709551615 asks i poll below)
