-- The uids and names of queues, in the order of their list.
use Rattle.std.specs.Prelude.{ℕ, List}

pub record KeyLists : Type 0 where
  pub uids : List ℕ
  pub names : List (List ℕ)
  pub uid_room : ℕ  -- for how many more there is room
  pub name_room : ℕ
