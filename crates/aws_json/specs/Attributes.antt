-- The attributes of messages in requests, and which of them a receive asks for (Amazon SQS API Reference, MessageAttributeValue, ReceiveMessage).
use Rattle.std.specs.Prelude.{ℕ, ◌-◌, nat_eq, Bool, true, false, ◌&&◌, ◌||◌, unwrap_or, if◌then◌else◌, List, [], ◌∷◌, length, take, filter, codes, Result, Ok, Err}
use Rattle.std.specs.List.{starts_with, ends_with}
use Rattle.std.specs.Str.{bytes_eq}
use Rattle.base64.specs.Engines.{standard}
use Rattle.base64.specs.GeneralPurpose.{decode_of}
use Rattle.base64.specs.declared.decode.DecodeError.{DecodeError}
use Rattle.message.specs.Attribute.{AttributeText, is_of_type}
use Rattle.serde_json.specs.Data.{Data, Members, no_members, member}
use Rattle.aws_json.specs.Members.{text_in, is_null}

-- ---- in requests

-- a text that is missing counts as the empty one, which no attribute may have
abbrev pub text_or_empty : List ℕ → Data → List ℕ
text_or_empty name d = unwrap_or (text_in name d) []

abbrev pub decoded : Result (List ℕ) DecodeError → List ℕ
decoded (Ok bytes) = bytes
decoded (Err error) = []

-- the bytes that a text is in RFC 4648's base64, with its padding and with zeros for the bits left over; none where it is no such text
abbrev pub bytes_of_base64 : List ℕ → List ℕ
bytes_of_base64 text = decoded (decode_of standard text)

-- a name and what is said of it; the type says which value counts
abbrev pub attribute_given : List ℕ → Data → AttributeText
attribute_given name d =
    if is_of_type (codes "Binary") (text_or_empty (codes "DataType") d)
    then record { name = name; kind = text_or_empty (codes "DataType") d; is_binary = true; value = bytes_of_base64 (text_or_empty (codes "BinaryValue") d) }
    else record { name = name; kind = text_or_empty (codes "DataType") d; is_binary = false; value = text_or_empty (codes "StringValue") d }

-- the attributes of an object, of which a null is none
abbrev pub attributes_given : Members → List AttributeText
attributes_given no_members = []
attributes_given (member name d rest) = if is_null d then attributes_given rest else attribute_given name d ∷ attributes_given rest

-- ---- which of them a receive asks for

-- all of them, those whose names begin with a text, or the one of a name
abbrev pub is_asked_by : List ℕ → List ℕ → Bool
is_asked_by pattern name =
    bytes_eq pattern (codes "All")
    || (ends_with nat_eq pattern (codes ".*") && starts_with nat_eq name (take (length pattern - 2) pattern))
    || bytes_eq pattern name

abbrev pub is_asked : List (List ℕ) → List ℕ → Bool
is_asked [] name = false
is_asked (pattern ∷ patterns) name = is_asked_by pattern name || is_asked patterns name

-- the attributes that are asked for, in their order
abbrev pub asked_attributes : List (List ℕ) → List AttributeText → List AttributeText
asked_attributes patterns attributes = filter (λ a. is_asked patterns a.name) attributes
