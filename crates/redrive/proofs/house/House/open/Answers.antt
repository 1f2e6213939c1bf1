use Rattle.std.proofs.Common.{◌≡◌, ℕ, ◌<◌, false, List, [], ◌∷◌, ◌++◌, map, nat_eq, None, Result, Ok, Err, refl, sym, ap, subst, ◌∙◌}
use Rattle.std.specs.List.{All, find, list_any}
use Rattle.std.specs.Str.{bytes_eq}
use Rattle.message.specs.declared.fault.Fault.{Fault}
use Rattle.queue_core.specs.Queue.{QueueHistory}
use Rattle.redrive.specs.Keys.{KeyLists}
use Rattle.redrive.specs.House.{House, queue_named, has_no_place, with_queue, next_queue}
use Rattle.redrive.proofs.KeyedLemmas.{absent-by, find-unused}
use Rattle.redrive.proofs.RegistryLemmas.{IsRegistry-with_queue, IsKept-same, IsKept-with_queue}
use Rattle.redrive.proofs.house.House.open.Goals as goal

number_in : ℕ → Result ℕ Fault → ℕ
number_in a (Ok x) = x
number_in a (Err fault) = a

abbrev answered : ℕ → Result ℕ Fault
answered uid = Ok uid

same_Ok : (a b : ℕ) → answered a ≡ answered b → a ≡ b
unfolding number_in
same_Ok a b is = ap (number_in a) is

-- a uid that no queue has yet is not among the keys
unused : (w : House) (uid : ℕ) (keys : List ℕ) → uid ≡ w.next_uid → keys ≡ map (λ q. q.uid) w.queues → All (λ q. q.uid < w.next_uid) w.queues → list_any (λ u. nat_eq u uid) keys ≡ false
unused w uid keys is same used =
    absent-by (λ (q : QueueHistory). q.uid) (λ u. nat_eq u uid) keys w.queues same
    (subst (λ (u : ℕ). find (λ q. nat_eq q.uid u) w.queues ≡ None) (sym is) (find-unused (λ (q : QueueHistory). q.uid) w.next_uid w.queues used))

pub push-requires-clause-new_uid : goal.push-requires-clause-new_uid
push-requires-clause-new_uid c =
    unused c.self.inside.queues c.in_ok-uid.uid c.reserve.new.self.uids (same_Ok c.in_ok-uid.uid c.self.inside.queues.next_uid c.in_ok-uid.ensures.answer) (c.reserve.ensures.uids ∙ c.self.invariant.uids) c.self.invariant.registry.used

pub push-requires-clause-new_name : goal.push-requires-clause-new_name
push-requires-clause-new_name c =
    absent-by (λ (q : QueueHistory). q.name) (λ n. bytes_eq n c.args.name) c.reserve.new.self.names c.self.inside.queues.queues (c.reserve.ensures.names ∙ c.self.invariant.names)
    (ap (λ (w : House). queue_named w c.args.name) c.self.view_is ∙ c.requires.new_name)

pub invariant_of-self-2 : goal.invariant_of-self-2
invariant_of-self-2 c =
    let w : House = c.self.inside.queues in
    let q : QueueHistory = next_queue w c.args.at c.args.name c.args.settings c.args.rules.items in
    let registry =
    IsRegistry-with_queue w q c.self.invariant.registry (ap (λ (w : House). queue_named w c.args.name) c.self.view_is ∙ c.requires.new_name) refl refl refl
    (ap (λ (w : House). has_no_place w) c.self.view_is ∙ c.requires.place) in
    let kept = IsKept-same w c.self.inside.keys c.reserve.new.self c.reserve.ensures.uids c.reserve.ensures.names c.self.invariant in
    rw c.in_ok-uid.ensures.ok
    (IsKept-with_queue w q c.reserve.new.self c.push.new.self kept registry
    (c.push.ensures.uids ∙ ap (λ (u : ℕ). c.reserve.new.self.uids ++ u ∷ []) (same_Ok c.in_ok-uid.uid c.self.inside.queues.next_uid c.in_ok-uid.ensures.answer)) c.push.ensures.names)
