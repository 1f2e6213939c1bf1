-- The name directory: which queue has which name and uid, and which dead-letter target. Uids and targets are this project's own.
use Rattle.std.specs.Prelude.{ℕ, ◌+◌, ◌^◌, ◌<◌, ◌≤◌, ◌==◌, nat_eq, nat_le, Bool, not, ◌||◌, if◌then◌else◌, List, [], ◌∷◌, ◌++◌, length, map, filter, is_some, Option, Result, Ok, Err}
use Rattle.std.specs.List.{find, IsDistinct, All}
use Rattle.std.specs.Option.{option_map}
use Rattle.std.specs.Str.{bytes_eq}
use Rattle.message.specs.declared.fault.Fault.{Fault}
use Rattle.message.specs.declared.fault.Fault.TheVariants.{QueueDoesNotExist, OverLimit}
use Rattle.redrive.specs.Listing.{in_order, names_beginning}
use Rattle.redrive.specs.declared.catalog.Registered.{Registered}

-- the uid of the next queue, and the queues in the order in which they were added
pub record NameDirectory : Type 0 where
  pub next_uid : ℕ
  pub queues : List Registered

abbrev pub empty_directory : NameDirectory
empty_directory = record { next_uid = 1; queues = [] }

abbrev pub name_of : Registered → List ℕ
name_of q = q.name

-- the uid of the queue of a name
abbrev pub uid_of_name : NameDirectory → List ℕ → Option ℕ
uid_of_name d name = option_map (λ q. q.uid) (find (λ q. bytes_eq q.name name) d.queues)

-- whether a queue has the uid
abbrev pub has_uid : NameDirectory → ℕ → Bool
has_uid d uid = is_some (find (λ q. q.uid == uid) d.queues)

-- whether there are as many queues as there may be, or no uid is left
abbrev pub is_directory_full : NameDirectory → Bool
is_directory_full d = nat_le 1000 (length d.queues) || nat_le (2 ^ 62) d.next_uid

abbrev pub add_answer : NameDirectory → Result ℕ Fault
add_answer d = if is_directory_full d then Err OverLimit else Ok d.next_uid

-- one queue more, whose uid is used up
abbrev pub with_registered : NameDirectory → List ℕ → ℕ → NameDirectory
with_registered d name target =
    record d { next_uid = d.next_uid + 1; queues = d.queues ++ record { name = name; uid = d.next_uid; target = target } ∷ [] }

-- every queue but that of the uid
abbrev pub without_uid : NameDirectory → ℕ → NameDirectory
without_uid d uid = record d { queues = filter (λ q. not (q.uid == uid)) d.queues }

-- a queue with another target, where it has the uid
abbrev pub retargeted : ℕ → ℕ → Registered → Registered
retargeted uid target q = if q.uid == uid then record q { target = target } else q

-- the directory with another target for the queue of the uid
abbrev pub with_target : NameDirectory → ℕ → ℕ → NameDirectory
with_target d uid target = record d { queues = map (λ q. retargeted uid target q) d.queues }

-- the names that begin with a prefix, in the order in which they were added, and in that of their bytes
abbrev pub names_with : NameDirectory → List ℕ → List (List ℕ)
names_with d prefix = names_beginning prefix (map name_of d.queues)

abbrev pub names_listed : NameDirectory → List ℕ → List (List ℕ)
names_listed d prefix = in_order (names_with d prefix)

-- the names of the queues whose target a uid is, in the order in which they were added, and in that of their bytes
abbrev pub names_to : NameDirectory → ℕ → List (List ℕ)
names_to d uid = map name_of (filter (λ q. q.target == uid) d.queues)

abbrev pub source_names : NameDirectory → ℕ → List (List ℕ)
source_names d uid = in_order (names_to d uid)

abbrev pub names_to_answer : NameDirectory → ℕ → Result (List (List ℕ)) Fault
names_to_answer d uid = if has_uid d uid then Ok (names_to d uid) else Err QueueDoesNotExist

abbrev pub sources_answer : NameDirectory → ℕ → Result (List (List ℕ)) Fault
sources_answer d uid = if has_uid d uid then Ok (source_names d uid) else Err QueueDoesNotExist

-- at most 1,000 queues, no two of one name or one uid, no uid used twice, and uids from 1 and below 2^62
pub record IsDirectory (d : NameDirectory) : Type 0 where
  pub count : length d.queues ≤ 1000
  pub names : IsDistinct bytes_eq (map name_of d.queues)
  pub uids : IsDistinct nat_eq (map (λ q. q.uid) d.queues)
  pub used : All (λ q. q.uid < d.next_uid) d.queues
  pub first : All (λ q. 1 ≤ q.uid) d.queues
  pub begun : 1 ≤ d.next_uid
  pub last : d.next_uid ≤ 2 ^ 62
