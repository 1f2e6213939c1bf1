use Rattle.std.proofs.Common.{sym, ap, ◌∙◌}
use Rattle.std.specs.Option.{option_copied}
use Rattle.redrive.proofs.RegistryLemmas.{found-opened, others-opened}
use Rattle.redrive.proofs.house.House.create.Goals as goal

pub returns-clause-found : goal.returns-clause-found
returns-clause-found c =
    found-opened c.args.self.now c.open.new.self c.args.at c.args.name c.with-settings.result c.new.result.items c.open.result (sym c.named-known.ensures.queue ∙ ap option_copied c.in_default.is) c.open.ensures.answer c.open.ensures.ok

pub returns-clause-others : goal.returns-clause-others
returns-clause-others c =
    others-opened c.args.self.now c.open.new.self c.args.at c.args.name c.with-settings.result c.new.result.items c.open.result c.open.ensures.ok c.open.ensures.err
