use Rattle.std.proofs.Common.{sym, ◌∙◌}
use Rattle.redrive.proofs.CatalogLemmas.{has-present, has-absent}
use Rattle.redrive.proofs.catalog.Catalog.has_uid.Goals as goal

pub returns-in-Some : goal.returns-in-Some
returns-in-Some c = sym (has-present c.args.self.now c.args.uid c.in-Some.field-0 (sym c.place_of.ensures ∙ c.in-Some.is))

pub returns-in-None : goal.returns-in-None
returns-in-None c = sym (has-absent c.args.self.now c.args.uid (sym c.place_of.ensures ∙ c.in-None.is))
