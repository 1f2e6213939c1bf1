use Rattle.std.proofs.Common.{◌≡◌, ℕ, zero, suc, ◌<◌, List, [], ◌∷◌, length, get_or, set, slice_get, refl, sym, ap, subst, ◌∙◌}
use Rattle.std.specs.List.{remove}
use Rattle.std.specs.Option.{option_map_or}
use Rattle.std.proofs.lemmas.Option.{slice_get-get_or}
use Rattle.queue_core.specs.Queue.{QueueHistory, at_moment}
use Rattle.redrive.specs.House.{House, closed_queue}
use Rattle.redrive.specs.private.ByPlace.{with_place_changed, without_place}
use Rattle.redrive.proofs.CostLemmas.{done-at}
use Rattle.redrive.proofs.queues.Queues.close_and_take.Goals as goal

remove-set : (qs : List QueueHistory) (place : ℕ) (q : QueueHistory) → remove (set qs place q) place ≡ remove qs place
remove-set [] place q = refl
remove-set (x ∷ xs) zero q = refl
remove-set (x ∷ xs) (suc place) q = ap (λ (ys : List QueueHistory). x ∷ ys) (remove-set xs place q)

-- what stands at a place is changed
set-read : (change : QueueHistory → QueueHistory) (qs : List QueueHistory) (place : ℕ) (q : QueueHistory) → place < length qs
    → set qs place (change (get_or qs place q)) ≡ option_map_or (λ q. set qs place (change q)) (slice_get qs place) qs
set-read change qs place q h = sym (ap (λ o. option_map_or (λ q. set qs place (change q)) o qs) (slice_get-get_or qs place q h))

pub returns-in-Ok-clause-ok : goal.returns-in-Ok-clause-ok
returns-in-Ok-clause-ok c =
    let items = c.remove.ensures.items ∙ remove-set c.self.inside.queues.items c.args.place c.close.new.queue in
    ap (λ (qs : List QueueHistory). record { limits = c.self.inside.limits; next_uid = c.self.inside.next_uid; queues = qs }) items
    ∙ ap (λ (w : House). without_place w c.args.place) c.self.view_is

pub returns-in-Err-clause-err : goal.returns-in-Err-clause-err
returns-in-Err-clause-err c =
    let within = c.requires.within in
    let change : QueueHistory → QueueHistory = λ q. at_moment q c.args.at in
    let closed = c.in-Err.ensures.moved ∙ ap change c.index_mut.ensures.value in
    ap (λ (q : QueueHistory). record { limits = c.self.inside.limits; next_uid = c.self.inside.next_uid; queues = set c.self.inside.queues.items c.args.place q }) closed
    ∙ ap (λ (qs : List QueueHistory). record { limits = c.self.inside.limits; next_uid = c.self.inside.next_uid; queues = qs })
    (set-read change c.self.inside.queues.items c.args.place c.index_mut.result.now (subst (λ (w : House). c.args.place < length w.queues) (sym c.self.view_is) within))
    ∙ ap (λ (w : House). with_place_changed w c.args.place change) c.self.view_is

pub returns-in-Ok-clause-cost : goal.returns-in-Ok-clause-cost
returns-in-Ok-clause-cost c =
    done-at c.args.place c.index_mut.result.now c.close.new.queue (λ q. closed_queue q c.args.at) c.args.ticks.now c.close.new.ticks
    c.self.view_is c.requires.within c.index_mut.ensures.value c.in-Ok.ensures.closed c.in-Ok.ensures.cost

pub returns-in-Err-clause-cost : goal.returns-in-Err-clause-cost
returns-in-Err-clause-cost c =
    done-at c.args.place c.index_mut.result.now c.close.new.queue (λ q. at_moment q c.args.at) c.args.ticks.now c.close.new.ticks
    c.self.view_is c.requires.within c.index_mut.ensures.value c.in-Err.ensures.moved c.in-Err.ensures.cost
