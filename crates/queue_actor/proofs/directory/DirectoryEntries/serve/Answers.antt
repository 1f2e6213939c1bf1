use Rattle.std.proofs.Common.{rules, ◌≡◌, ℕ, Bool, false, List, [], ◌∷◌, ◌++◌, map, Some, sym, ap, subst, ◌∙◌, nat_eq}
use Rattle.std.specs.Prelude.{is_some}
use Rattle.std.specs.List.{list_any, position, IsDistinct}
use Rattle.std.specs.Str.{bytes_eq}
use Rattle.std.proofs.lemmas.Bool.{or_parts}
use Rattle.std.proofs.lemmas.List.{map-append}
use Rattle.redrive.specs.Catalog.{NameDirectory, uid_of_name, with_target}
use Rattle.redrive.proofs.KeyedLemmas.{absent-by, IsDistinct-push}
use Rattle.queue_actor.proofs.DirectoryLemmas.{none-found, uids-more}
use Rattle.queue_actor.proofs.directory.DirectoryEntries.serve.Goals as goal

-- a key of which no element is found is not among the keys
unplaced : {X K : Type 0} (key : X → K) (test : K → Bool) (keys : List K) (xs : List X) → keys ≡ map key xs → is_some (position (λ x. test (key x)) xs) ≡ false → list_any test keys ≡ false
unplaced key test keys xs same none = absent-by key test keys xs same (none-found (λ x. test (key x)) xs none)

pub push-requires-clause-new_uid : goal.push-requires-clause-new_uid
push-requires-clause-new_uid g c =
    let none = or_parts _ _ (sym c.is_served.ensures ∙ c.if-is_served.false) in
    unplaced (λ q. q.uid) (λ u. nat_eq u c.args.queue.uid) c.reserve-2.new.self.uids c.args.self.now.served.items (c.reserve-2.ensures.uids ∙ c.args.self.now.uids) none.0

pub push-requires-clause-new_name : goal.push-requires-clause-new_name
push-requires-clause-new_name g c =
    let none = or_parts _ _ (sym c.is_served.ensures ∙ c.if-is_served.false) in
    unplaced (λ q. q.name) (λ n. bytes_eq n c.args.queue.name) c.reserve-2.new.self.names c.args.self.now.served.items (c.reserve-2.ensures.names ∙ c.args.self.now.names) none.1

pub invariant_of-self-2-clause-once : goal.invariant_of-self-2-clause-once
invariant_of-self-2-clause-once g c =
    let xs = c.args.self.now.served.items in
    let none = or_parts _ _ (sym c.is_served.ensures ∙ c.if-is_served.false) in
    let all : c.push.new.self.uids ≡ map (λ q. q.uid) (xs ++ c.args.queue ∷ []) =
    c.push.ensures.uids ∙ ap (λ (us : List ℕ). us ++ c.args.queue.uid ∷ []) (c.reserve-2.ensures.uids ∙ c.args.self.now.uids) ∙ sym (map-append (λ q. q.uid) xs (c.args.queue ∷ [])) in
    subst (λ us. IsDistinct nat_eq us) (sym all)
    (IsDistinct-push nat_eq (λ q. q.uid) xs c.args.queue (subst (λ us. IsDistinct nat_eq us) c.args.self.now.uids c.args.self.now.once) (none-found (λ q. nat_eq q.uid c.args.queue.uid) xs none.0))

pub invariant_of-self-2-clause-entered : goal.invariant_of-self-2-clause-entered
invariant_of-self-2-clause-entered g c =
    let old = c.args.self.now in
    let own : uid_of_name old.catalog c.args.queue.name ≡ Some c.args.queue.uid = search rules in
    ap (λ (d : NameDirectory). map (λ name. uid_of_name d name) c.push.new.self.names) c.set_target.ensures.state
    ∙ ap (map (λ name. uid_of_name (with_target old.catalog c.args.queue.uid c.args.target) name)) (c.push.ensures.names ∙ ap (λ (ns : List (List ℕ)). ns ++ c.args.queue.name ∷ []) c.reserve-2.ensures.names)
    ∙ uids-more old.catalog c.args.queue.uid c.args.target old.keys.names old.keys.uids c.args.queue.name c.args.queue.uid old.entered own
    ∙ sym (ap (map (λ u. Some u)) (c.push.ensures.uids ∙ ap (λ (us : List ℕ). us ++ c.args.queue.uid ∷ []) c.reserve-2.ensures.uids))

pub invariant_of-self-2-clause-names : goal.invariant_of-self-2-clause-names
invariant_of-self-2-clause-names g c =
    let xs = c.args.self.now.served.items in
    c.push.ensures.names ∙ ap (λ (ns : List (List ℕ)). ns ++ c.args.queue.name ∷ []) (c.reserve-2.ensures.names ∙ c.args.self.now.names)
    ∙ sym (map-append (λ q. q.name) xs (c.args.queue ∷ [])) ∙ ap (map (λ q. q.name)) (sym (c.push_reserved.ensures.items ∙ ap (λ ys. ys ++ c.args.queue ∷ []) c.reserve.ensures.items))

pub of-requires : goal.of-requires
of-requires g c =
    (c.args.self.now.served.items, c.args.queue, c.push_reserved.ensures.items ∙ ap (λ ys. ys ++ c.args.queue ∷ []) c.reserve.ensures.items, sym c.requires.opened)
