use Rattle.std.proofs.Common.{◌≡◌, Some, sym, ap, subst, ◌∙◌, nat_eq}
use Rattle.std.specs.List.{position}
use Rattle.redrive.specs.Catalog.{NameDirectory, with_target}
use Rattle.redrive.specs.private.Catalog.{IsKeptDirectory}
use Rattle.redrive.proofs.CatalogLemmas.{has-present, has-absent, with_target-absent, with_target-present, IsKept-with_target}
use Rattle.redrive.proofs.catalog.Catalog.set_target.Goals as goal

pub invariant_of-self : goal.invariant_of-self
invariant_of-self c =
    let d : NameDirectory = record { next_uid = c.self.inside.next_uid; queues = c.self.inside.queues.items } in
    let here : position (λ q. nat_eq q.uid c.args.uid) d.queues ≡ Some c.in-Some.place =
    ap (λ (d : NameDirectory). position (λ q. nat_eq q.uid c.args.uid) d.queues) c.self.view_is ∙ sym c.place_of.ensures ∙ c.in-Some.is in
    subst (λ (d : NameDirectory). IsKeptDirectory d c.self.inside.keys) (sym (with_target-present d c.args.uid c.args.target c.in-Some.place c.index_mut.result.now c.self.invariant.directory here c.index_mut.ensures.value))
    (IsKept-with_target d c.self.inside.keys c.args.uid c.args.target c.self.invariant)

pub returns-in-Some-clause-answer : goal.returns-in-Some-clause-answer
returns-in-Some-clause-answer c = sym (has-present c.args.self.now c.args.uid c.in-Some.place (sym c.place_of.ensures ∙ c.in-Some.is))

pub returns-in-None-clause-answer : goal.returns-in-None-clause-answer
returns-in-None-clause-answer c = sym (has-absent c.args.self.now c.args.uid (sym c.place_of.ensures ∙ c.in-None.is))

pub returns-in-Some-clause-state : goal.returns-in-Some-clause-state
returns-in-Some-clause-state c =
    let d : NameDirectory = record { next_uid = c.self.inside.next_uid; queues = c.self.inside.queues.items } in
    let here : position (λ q. nat_eq q.uid c.args.uid) d.queues ≡ Some c.in-Some.place =
    ap (λ (d : NameDirectory). position (λ q. nat_eq q.uid c.args.uid) d.queues) c.self.view_is ∙ sym c.place_of.ensures ∙ c.in-Some.is in
    with_target-present d c.args.uid c.args.target c.in-Some.place c.index_mut.result.now c.self.invariant.directory here c.index_mut.ensures.value
    ∙ ap (λ (d : NameDirectory). with_target d c.args.uid c.args.target) c.self.view_is

pub returns-in-None-clause-state : goal.returns-in-None-clause-state
returns-in-None-clause-state c = sym (with_target-absent c.args.self.now c.args.uid c.args.target (sym c.place_of.ensures ∙ c.in-None.is))
