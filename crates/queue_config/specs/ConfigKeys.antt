-- The tables of a configuration: their values, and their keys one by one. Which keys there are, and the faults, are this project's own.
use Rattle.std.specs.Prelude.{ℕ, ℤ, pos, negsuc, nat_le, ◌&&◌, if◌then◌else◌, List, [], ◌∷◌, ◌++◌, Option, Some, None, Result, Ok, Err, ok_or}
use Rattle.std.specs.Str.{bytes_eq}
use Rattle.message.specs.Name.{is_queue_name}
use Rattle.toml.specs.Data.{Data, Items, no_items, item, Members, no_members, member, as_integer, as_str, as_array}
use Rattle.queue_config.specs.declared.config_fault.ConfigFault.{ConfigFault}
use Rattle.queue_config.specs.declared.config_fault.ConfigFault.TheVariants.{UnknownKey, WrongKind, OutOfRange}

infixl 10 ◌>>=◌
-- what a value leads to, or the fault in its place
abbrev pub ◌>>=◌ : {A B : Type 0} → Result A ConfigFault → (A → Result B ConfigFault) → Result B ConfigFault
Ok x >>= next = next x
Err fault >>= next = Err fault

-- ---- values

-- a whole number between two bounds; a number with a point is of another kind
abbrev pub whole_between : ℕ → ℕ → Option ℤ → Result ℕ ConfigFault
whole_between least most None = Err WrongKind
whole_between least most (Some (pos n)) = if nat_le least n && nat_le n most then Ok n else Err OutOfRange
whole_between least most (Some (negsuc n)) = Err OutOfRange

abbrev pub number_between : ℕ → ℕ → Data → Result ℕ ConfigFault
number_between least most d = whole_between least most (as_integer d)

abbrev pub if_name : List ℕ → Result (List ℕ) ConfigFault
if_name text = if is_queue_name text then Ok text else Err OutOfRange

-- the name of a queue
abbrev pub name_in : Data → Result (List ℕ) ConfigFault
name_in d = do
  text ← ok_or (as_str d) WrongKind
  if_name text

-- what one of the words of a table stands for
abbrev pub word_in : {W : Type 0} → (List ℕ → Option W) → Data → Result W ConfigFault
word_in named d = do
  text ← ok_or (as_str d) WrongKind
  ok_or (named text) OutOfRange

-- ---- tables, key by key

-- a key of a table, and what its value does to what the table has said so far
pub record KeyRow (S : Type 0) : Type 0 where
  pub key : List ℕ
  pub take : S → Data → Result S ConfigFault

-- a key whose value is a whole number between two bounds
abbrev pub number_key : {S : Type 0} → List ℕ → ℕ → ℕ → (S → ℕ → S) → KeyRow S
number_key key least most change = record { key = key; take = λ s d. number_between least most d >>= λ n. Ok (change s n) }

-- a key whose value is the name of a queue
abbrev pub name_key : {S : Type 0} → List ℕ → (S → List ℕ → S) → KeyRow S
name_key key change = record { key = key; take = λ s d. name_in d >>= λ name. Ok (change s name) }

-- a key whose value is one of the words of a table
abbrev pub word_key : {S W : Type 0} → List ℕ → (List ℕ → Option W) → (S → W → S) → KeyRow S
word_key key named change = record { key = key; take = λ s d. word_in named d >>= λ word. Ok (change s word) }

-- what a table has said after one more key
abbrev pub with_key : {S : Type 0} → List (KeyRow S) → S → List ℕ → Data → Result S ConfigFault
with_key [] s key d = Err UnknownKey
with_key (row ∷ rows) s key d = if bytes_eq key row.key then row.take s d else with_key rows s key d

-- keys stand in the order of their bytes
abbrev pub with_keys : {S : Type 0} → List (KeyRow S) → S → Members → Result S ConfigFault
with_keys rows s no_members = Ok s
with_keys rows s (member key d rest) = do
  more ← with_key rows s key d
  with_keys rows more rest

-- ---- tables, one after another

-- what has been read, and what the tables after that are read as
abbrev pub with_tables : {T : Type 0} → (Data → Result T ConfigFault) → List T → Items → Result (List T) ConfigFault
with_tables table_in found no_items = Ok found
with_tables table_in found (item d rest) = do
  more ← table_in d
  with_tables table_in (found ++ more ∷ []) rest

-- what the tables are read as, where there are any
abbrev pub tables_in : {T : Type 0} → (Data → Result T ConfigFault) → Option Data → Result (List T) ConfigFault
tables_in table_in None = Ok []
tables_in table_in (Some d) = do
  tables ← ok_or (as_array d) WrongKind
  with_tables table_in [] tables

-- ---- lists

-- what has been made, and what is made of the rest, one after another
abbrev pub with_each : {A B : Type 0} → (A → Result B ConfigFault) → List B → List A → Result (List B) ConfigFault
with_each made_of found [] = Ok found
with_each made_of found (x ∷ rest) = do
  made ← made_of x
  with_each made_of (found ++ made ∷ []) rest

-- ---- for private clauses
