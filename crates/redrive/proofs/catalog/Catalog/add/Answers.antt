use Rattle.std.proofs.Common.{◌≡◌, false, None, sym, ap, ◌∙◌}
use Rattle.redrive.specs.Catalog.{NameDirectory, uid_of_name, is_directory_full}
use Rattle.redrive.proofs.CatalogLemmas.{unused, unnamed, IsKept-added}
use Rattle.redrive.proofs.catalog.Catalog.add.Goals as goal

pub push-requires-2-clause-new_uid : goal.push-requires-2-clause-new_uid
push-requires-2-clause-new_uid c =
    unused (record { next_uid = c.self.inside.next_uid; queues = c.self.inside.queues.items }) c.self.inside.keys c.reserve.new.self c.self.invariant c.reserve.ensures.uids

pub push-requires-2-clause-new_name : goal.push-requires-2-clause-new_name
push-requires-2-clause-new_name c =
    unnamed (record { next_uid = c.self.inside.next_uid; queues = c.self.inside.queues.items }) c.self.inside.keys c.reserve.new.self c.args.name c.self.invariant c.reserve.ensures.names
    (ap (λ (d : NameDirectory). uid_of_name d c.args.name) c.self.view_is ∙ c.requires)

pub invariant_of-self-2 : goal.invariant_of-self-2
invariant_of-self-2 c =
    let d : NameDirectory = record { next_uid = c.self.inside.next_uid; queues = c.self.inside.queues.items } in
    let new : uid_of_name d c.args.name ≡ None = ap (λ (d : NameDirectory). uid_of_name d c.args.name) c.self.view_is ∙ c.requires in
    let full : is_directory_full d ≡ false = ap (λ (d : NameDirectory). is_directory_full d) c.self.view_is ∙ sym c.is_full.ensures ∙ c.if-is_full.false in
    IsKept-added d c.self.inside.keys c.reserve.new.self c.push-2.new.self c.args.name c.args.target c.push.new.self.items c.self.invariant new full c.in_ok-push.ensures.items
    c.reserve.ensures.uids c.reserve.ensures.names c.push-2.ensures.uids c.push-2.ensures.names
