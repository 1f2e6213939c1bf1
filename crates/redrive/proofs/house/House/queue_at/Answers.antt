use Rattle.std.proofs.Common.{◌≡◌, ◌<◌, List, length, get_or, Some, nat_eq, position, sym, ap, subst, ◌∙◌}
use Rattle.queue_core.specs.Queue.{QueueHistory}
use Rattle.redrive.specs.House.{House, queue_of_uid}
use Rattle.redrive.proofs.PlaceLemmas.{within, read-at}
use Rattle.redrive.proofs.house.House.queue_at.Goals as goal

pub bounds-as_slice-found : goal.bounds-as_slice-found
bounds-as_slice-found c =
    let w = c.self.inside.queues in
    let here : position (λ q. nat_eq q.uid c.args.found.uid) w.queues ≡ Some c.args.found.place = ap (λ (w : House). position (λ q. nat_eq q.uid c.args.found.uid) w.queues) c.self.view_is ∙ c.requires in
    subst (λ (qs : List QueueHistory). c.args.found.place < length qs) (sym c.as_slice.ensures) (within w c.args.found.uid c.args.found.place here)

pub returns : goal.returns
returns c =
    let w = c.self.inside.queues in
    let q = c.index-as_slice-found.result in
    let here : position (λ q. nat_eq q.uid c.args.found.uid) w.queues ≡ Some c.args.found.place = ap (λ (w : House). position (λ q. nat_eq q.uid c.args.found.uid) w.queues) c.self.view_is ∙ c.requires in
    let read : q ≡ get_or w.queues c.args.found.place q = c.index-as_slice-found.is ∙ ap (λ (qs : List QueueHistory). get_or qs c.args.found.place q) c.as_slice.ensures in
    ap (λ (w : House). queue_of_uid w c.args.found.uid) (sym c.self.view_is) ∙ read-at w c.args.found.uid c.args.found.place here q read
