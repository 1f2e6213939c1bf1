use Rattle.std.proofs.Common.{rules, ◌≡◌, ◌<◌, ◌≤◌, ℕ, List, length, get_or, ap, ◌∙◌, arith}
use Rattle.std.proofs.lemmas.Grind.{get_or_default_zero}
use Rattle.queue_core.specs.private.Applying.{where_left, returned_from}
use Rattle.queue_core.proofs.records.ChangeLemmas.{changed-more, changed-all, changed-beside, left-all}
use Rattle.queue_core.proofs.costs.SpendingLemmas.{costs_within, costs_then, back-counted, back-all}
use Rattle.queue_core.proofs.index.MessageIndex.bring_back.Goals as goal

pub returns-clause-change : goal.returns-clause-change
returns-clause-change c =
    let x = c.args.self.now in
    let end : length x.leaving.items ≤ c.loop-place.place = omega (arith, c.len-place-end.ensures, x.leaving.ok.0) in
    changed-beside _ x c.loop-place.self c.forget_returned.new.self c.forget_returned.ensures.records (ap (λ v. length v.items) c.forget_returned.ensures.receives) c.forget_returned.ensures.indices
    (left-all (returned_from c.args.lost c.args.at) x c.loop-place.self c.requires.indexed
    (changed-all _ x.leaving.items c.loop-place.place x c.loop-place.self end c.loop-place.invariant.changed))

pub loop-place-preserved : goal.loop-place-preserved
loop-place-preserved c =
    let x = c.args.self.now in
    let xs = x.leaving.items in
    let i = c.loop-place.place in
    let change = where_left (returned_from c.args.lost c.args.at) in
    let inside : i < length xs = search rules in
    let inside' : i < length c.loop-place.self.leaving.items = omega (arith, inside, ap (λ (v : List ℕ). length v) c.loop-place.invariant.leaving) in
    let read : c.index-number.result.now ≡ get_or xs i 0 = c.index-number.ensures ∙ get_or_default_zero c.loop-place.self.leaving.items i _ inside' ∙ ap (λ (v : List ℕ). get_or v i 0) c.loop-place.invariant.leaving in
    record {
      changed = changed-more change xs i c.index-number.result.now x c.loop-place.self c.return_one.new.self c.requires.indexed.once inside read c.loop-place.invariant.changed c.return_one.ensures.change;
      receives = search rules;
      leaving = search rules;
      cost = costs_within 0 _ _ _ _ _ _ _ _ (back-counted c.args.lost change xs i c.index-number.result.now x c.loop-place.self c.requires.indexed.once inside read c.loop-place.invariant.changed)
          (costs_then 0 _ 0 _ _ _ _ _ _ _ _ _ _ c.loop-place.invariant.cost c.return_one.ensures.cost);
    }

pub returns-clause-cost : goal.returns-clause-cost
returns-clause-cost c =
    rw (c.forget_returned.ensures.records, c.forget_returned.ensures.indices)
    (costs_within 0 _ _ _ _ _ _ _ _ (back-all c.args.lost c.loop-place.place c.args.self.now.leaving.items c.args.self.now) c.loop-place.invariant.cost)
