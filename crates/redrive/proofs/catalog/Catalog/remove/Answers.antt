use Rattle.std.proofs.Common.{◌≡◌, Some, sym, ap, subst, ◌∙◌, nat_eq}
use Rattle.std.specs.List.{position}
use Rattle.redrive.specs.Catalog.{NameDirectory, IsDirectory, without_uid}
use Rattle.redrive.proofs.CatalogLemmas.{has-present, has-absent, without-absent, without-present, IsKept-removed}
use Rattle.redrive.proofs.catalog.Catalog.remove.Goals as goal

pub invariant_of-self : goal.invariant_of-self
invariant_of-self c =
    let d : NameDirectory = record { next_uid = c.self.inside.next_uid; queues = c.self.inside.queues.items } in
    let here : position (λ q. nat_eq q.uid c.args.uid) d.queues ≡ Some c.in-Some.place =
    ap (λ (d : NameDirectory). position (λ q. nat_eq q.uid c.args.uid) d.queues) c.self.view_is ∙ sym c.place_of.ensures ∙ c.in-Some.is in
    IsKept-removed d c.self.inside.keys c.remove-in-Some.new.self c.args.uid c.in-Some.place c.remove.new.self.items c.self.invariant here c.remove.ensures.items c.remove-in-Some.ensures.uids c.remove-in-Some.ensures.names

pub returns-in-Some-clause-answer : goal.returns-in-Some-clause-answer
returns-in-Some-clause-answer c = sym (has-present c.args.self.now c.args.uid c.in-Some.place (sym c.place_of.ensures ∙ c.in-Some.is))

pub returns-in-None-clause-answer : goal.returns-in-None-clause-answer
returns-in-None-clause-answer c = sym (has-absent c.args.self.now c.args.uid (sym c.place_of.ensures ∙ c.in-None.is))

pub returns-in-Some-clause-state : goal.returns-in-Some-clause-state
returns-in-Some-clause-state c =
    let d : NameDirectory = record { next_uid = c.self.inside.next_uid; queues = c.self.inside.queues.items } in
    let here : position (λ q. nat_eq q.uid c.args.uid) d.queues ≡ Some c.in-Some.place =
    ap (λ (d : NameDirectory). position (λ q. nat_eq q.uid c.args.uid) d.queues) c.self.view_is ∙ sym c.place_of.ensures ∙ c.in-Some.is in
    without-present d c.args.uid c.in-Some.place c.remove.new.self.items c.self.invariant.directory here c.remove.ensures.items ∙ ap (λ (d : NameDirectory). without_uid d c.args.uid) c.self.view_is

pub returns-in-None-clause-state : goal.returns-in-None-clause-state
returns-in-None-clause-state c = sym (without-absent c.args.self.now c.args.uid (sym c.place_of.ensures ∙ c.in-None.is))
