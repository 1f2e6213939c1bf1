use Rattle.std.proofs.Common.{◌≡◌, ℕ, ◌<◌, List, length, get_or, Option, Some, nat_eq, position, sym, ap, subst, ◌∙◌}
use Rattle.std.specs.Prelude.{option_and_then, slice_get}
use Rattle.std.specs.Option.{option_map}
use Rattle.std.specs.Str.{bytes_eq}
use Rattle.queue_core.specs.Queue.{QueueHistory}
use Rattle.redrive.specs.declared.place.QueuePlace.{QueuePlace}
use Rattle.redrive.specs.House.{House, found_uid}
use Rattle.redrive.specs.Keys.{KeyLists}
use Rattle.redrive.specs.private.ByPlace.{IsKept}
use Rattle.redrive.proofs.KeyedLemmas.{found-by, placed-by}
use Rattle.redrive.proofs.PlaceLemmas.{named-within, named-read, named-stands}
use Rattle.redrive.proofs.house.House.find_place.Goals as goal

-- the place of a name among the keys is that of its queue
placed : (w : House) (k : KeyLists) (name : List ℕ) (o : Option ℕ) (place : ℕ) → IsKept w k → o ≡ position (λ n. bytes_eq n name) k.names → o ≡ Some place
    → position (λ q. bytes_eq q.name name) w.queues ≡ Some place
placed w k name o place kept found is = sym (placed-by (λ (q : QueueHistory). q.name) (λ n. bytes_eq n name) k.names w.queues kept.names) ∙ sym found ∙ is

pub returns-in_err-place-clause-found : goal.returns-in_err-place-clause-found
returns-in_err-place-clause-found c =
    ap (option_map (λ (f : QueuePlace). f.uid)) c.from_residual.ensures
    ∙ ap (option_map (λ (q : QueueHistory). q.uid)) (ap (option_and_then (λ i. slice_get c.self.inside.queues.queues i)) (sym c.in_err-place.was ∙ c.place_named.ensures)
    ∙ found-by (λ (q : QueueHistory). q.name) (λ n. bytes_eq n c.args.name.now) c.self.inside.keys.names c.self.inside.queues.queues c.self.invariant.names)
    ∙ ap (λ (w : House). found_uid w c.args.name.now) c.self.view_is

pub bounds-as_slice-place : goal.bounds-as_slice-place
bounds-as_slice-place c =
    let w = c.self.inside.queues in
    let here = placed w c.self.inside.keys c.args.name.now c.place_named.result c.in_ok-place.place c.self.invariant c.place_named.ensures c.in_ok-place.was in
    subst (λ (qs : List QueueHistory). c.in_ok-place.place < length qs) (sym c.as_slice.ensures) (named-within w c.args.name.now c.in_ok-place.place here)

pub returns-clause-found : goal.returns-clause-found
returns-clause-found c =
    let w = c.self.inside.queues in
    let q = c.index-as_slice-place.result in
    let here = placed w c.self.inside.keys c.args.name.now c.place_named.result c.in_ok-place.place c.self.invariant c.place_named.ensures c.in_ok-place.was in
    let read : q ≡ get_or w.queues c.in_ok-place.place q = c.index-as_slice-place.is ∙ ap (λ (qs : List QueueHistory). get_or qs c.in_ok-place.place q) c.as_slice.ensures in
    ap Some c.uid-uid.ensures ∙ sym (ap (option_map (λ (q : QueueHistory). q.uid)) (named-read w c.args.name.now c.in_ok-place.place here q read))
    ∙ ap (λ (w : House). found_uid w c.args.name.now) c.self.view_is

pub returns-clause-here : goal.returns-clause-here
returns-clause-here c =
    let w = c.self.inside.queues in
    let q = c.index-as_slice-place.result in
    let here = placed w c.self.inside.keys c.args.name.now c.place_named.result c.in_ok-place.place c.self.invariant c.place_named.ensures c.in_ok-place.was in
    let read : q ≡ get_or w.queues c.in_ok-place.place q = c.index-as_slice-place.is ∙ ap (λ (qs : List QueueHistory). get_or qs c.in_ok-place.place q) c.as_slice.ensures in
    subst (λ (u : ℕ). position (λ x. nat_eq x.uid u) c.args.self.now.queues ≡ Some c.in_ok-place.place) (sym c.uid-uid.ensures)
    (ap (λ (w : House). position (λ x. nat_eq x.uid q.uid) w.queues) (sym c.self.view_is) ∙ named-stands w c.args.name.now c.in_ok-place.place here q c.self.invariant.registry read)
