use Rattle.std.proofs.Common.{◌≡◌, rules, List, ap, sym, ◌∙◌}
use Rattle.std.specs.Prelude.{option_and_then, slice_get}
use Rattle.std.specs.List.{find}
use Rattle.std.specs.Option.{option_copied, option_map}
use Rattle.std.specs.Str.{bytes_eq}
use Rattle.redrive.specs.declared.catalog.Registered.{Registered}
use Rattle.redrive.specs.Catalog.{NameDirectory, uid_of_name, name_of}
use Rattle.redrive.proofs.KeyedLemmas.{found-by, lent-at}
use Rattle.redrive.proofs.catalog.Catalog.find.Goals as goal

pub returns-in_err-place-clause-found : goal.returns-in_err-place-clause-found
returns-in_err-place-clause-found c =
    c.from_residual.ensures
    ∙ ap (option_map (λ (q : Registered). q.uid)) (ap (option_and_then (λ i. slice_get c.self.inside.queues.items i)) (sym c.in_err-place.was ∙ c.place_named.ensures)
    ∙ found-by name_of (λ n. bytes_eq n c.args.name.now) c.self.inside.keys.names c.self.inside.queues.items c.self.invariant.names)
    ∙ ap (λ (d : NameDirectory). uid_of_name d c.args.name.now) c.self.view_is

pub returns-clause-found : goal.returns-clause-found
returns-clause-found c =
    let looked : option_copied c.get.result ≡ find (λ q. bytes_eq q.name c.args.name.now) c.args.self.now.queues =
    lent-at c.deref.result.now c.in_ok-place.place c.get.result c.get.ensures.lookup.0 c.get.ensures.lookup.1
    ∙ ap (λ (qs : List Registered). slice_get qs c.in_ok-place.place) c.deref.ensures.value
    ∙ ap (option_and_then (λ i. slice_get c.self.inside.queues.items i)) (sym c.in_ok-place.was ∙ c.place_named.ensures)
    ∙ found-by name_of (λ n. bytes_eq n c.args.name.now) c.self.inside.keys.names c.self.inside.queues.items c.self.invariant.names
    ∙ ap (λ (d : NameDirectory). find (λ q. bytes_eq q.name c.args.name.now) d.queues) c.self.view_is in
    search rules
