use Rattle.std.proofs.Common.{◌∙◌}
use Rattle.std.specs.Str.{bytes_eq}
use Rattle.redrive.proofs.KeyedLemmas.{placed-by}
use Rattle.queue_actor.proofs.directory.DirectoryEntries.place_named.Goals as goal

pub returns : goal.returns
returns g c =
    c.place_named.ensures ∙ placed-by (λ q. q.name) (λ n. bytes_eq n c.args.name.now) c.args.self.now.keys.names c.args.self.now.served.items c.args.self.now.names
