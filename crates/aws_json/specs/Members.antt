-- The members of a request's body and their kinds (AWS JSON 1.0; which fault is which is this project's own choice).
use Rattle.std.specs.Prelude.{ℕ, nat_le, Bool, true, false, ◌&&◌, ◌||◌, is_some, if◌then◌else◌, List, [], ◌∷◌, codes, Option, Some, None, option_and_then, Result, Ok, Err, ok_or}
use Rattle.std.specs.Option.{option_map_or}
use Rattle.std.specs.Str.{is_utf8}
use Rattle.message.specs.declared.fault.Fault.{Fault}
use Rattle.message.specs.declared.fault.Fault.TheVariants.{InvalidParameterValue, SerializationException}
use Rattle.serde_json.specs.Data.{Data, Items, no_items, item, Members, no_members, member}
use Rattle.serde_json.specs.Find.{get, as_null, as_number, as_u64, as_i64, as_str, as_array, as_object}
use Rattle.serde_json.specs.Read.{read}
use Rattle.aws_json.specs.declared.members.Kind.{Kind}
use Rattle.aws_json.specs.declared.members.Kind.TheVariants.{Text, Number, Texts, NamedTexts, MessageAttributes}

-- the value that bytes are the JSON text of
abbrev pub json_of : List ℕ → Option Data
json_of bytes = if is_utf8 bytes then read bytes else None

-- the same, where it is an object
abbrev pub if_object : Data → Option Data
if_object d = if is_some (as_object d) then Some d else None

-- the object that a body is
abbrev pub object_of : List ℕ → Result Data Fault
object_of body = ok_or (option_and_then if_object (json_of body)) SerializationException

-- ---- a member's value; absent, null and of another kind are None

abbrev pub text_in : List ℕ → Data → Option (List ℕ)
text_in name d = option_and_then as_str (get name d)

abbrev pub items_in : List ℕ → Data → Option Items
items_in name d = option_and_then as_array (get name d)

abbrev pub members_in : List ℕ → Data → Option Members
members_in name d = option_and_then as_object (get name d)

-- None: of another kind, as a number with a fraction or an exponent, -0, and one that 64 bits do not hold. Some None: below 0. Some (Some n): n
abbrev pub as_whole : Data → Option (Option ℕ)
as_whole d =
    if is_some (option_and_then as_u64 (as_number d)) then Some (option_and_then as_u64 (as_number d))
    else if is_some (option_and_then as_i64 (as_number d)) then Some None
    else None

abbrev pub number_in : List ℕ → Data → Option (Option ℕ)
number_in name d = option_and_then as_whole (get name d)

-- a number between two bounds, where it is there
abbrev pub within : ℕ → ℕ → Option (Option ℕ) → Result (Option ℕ) Fault
within least most None = Ok None
within least most (Some None) = Err InvalidParameterValue
within least most (Some (Some n)) = if nat_le least n && nat_le n most then Ok (Some n) else Err InvalidParameterValue

-- ---- kinds; a null counts as absent, and what is absent is of every kind

abbrev pub is_text : Data → Bool
is_text d = is_some (as_str d)

abbrev pub is_null : Data → Bool
is_null d = is_some (as_null d)

-- a text, or nothing
abbrev pub may_be_text : List ℕ → Data → Bool
may_be_text name d = option_map_or (λ v. is_null v || is_text v) (get name d) true

-- a list of texts
abbrev pub are_texts : Items → Bool
are_texts no_items = true
are_texts (item d rest) = is_text d && are_texts rest

-- an object of texts
abbrev pub have_texts : Members → Bool
have_texts no_members = true
have_texts (member name d rest) = (is_null d || is_text d) && have_texts rest

-- an object whose members of these names are texts
abbrev pub is_attribute : Data → Bool
is_attribute d =
    is_some (as_object d) && may_be_text (codes "DataType") d && may_be_text (codes "StringValue") d && may_be_text (codes "BinaryValue") d

abbrev pub have_attributes : Members → Bool
have_attributes no_members = true
have_attributes (member name d rest) = (is_null d || is_attribute d) && have_attributes rest

abbrev pub is_of_kind : Kind → Data → Bool
is_of_kind Text d = is_text d
is_of_kind Number d = is_some (as_whole d)
is_of_kind Texts d = option_map_or are_texts (as_array d) false
is_of_kind NamedTexts d = option_map_or have_texts (as_object d) false
is_of_kind MessageAttributes d = option_map_or have_attributes (as_object d) false

-- ---- tables of members

-- a member that an action knows
pub record Column : Type 0 where
  pub name : List ℕ
  pub kind : Kind

abbrev pub column : List ℕ → Kind → Column
column name kind = record { name = name; kind = kind }

abbrev pub has_kind : List ℕ → Kind → Data → Bool
has_kind name kind d = option_map_or (λ v. is_null v || is_of_kind kind v) (get name d) true

-- whether each of these members has its kind, as far as it is there
abbrev pub have_kinds : List Column → Data → Bool
have_kinds [] d = true
have_kinds (c ∷ rest) d = if has_kind c.name c.kind d then have_kinds rest d else false
