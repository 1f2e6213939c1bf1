-- A directory, and the keys that are kept beside it.
use Rattle.std.specs.Prelude.{◌≡◌, map}
use Rattle.redrive.specs.Keys.{KeyLists}
use Rattle.redrive.specs.Catalog.{NameDirectory, name_of, IsDirectory}

-- a directory, and the uids and names of its queues as they are kept beside them
pub record IsKeptDirectory (d : NameDirectory) (k : KeyLists) : Type 0 where
  pub directory : IsDirectory d
  pub uids : k.uids ≡ map (λ q. q.uid) d.queues
  pub names : k.names ≡ map name_of d.queues
