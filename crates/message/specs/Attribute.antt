-- An attribute of a message, and what it may be (Amazon SQS API Reference, MessageAttributeValue and "Message metadata").
use Rattle.std.specs.Prelude.{ℕ, ◌+◌, ◌==◌, nat_eq, nat_le, nat_lt, Bool, true, false, not, ◌&&◌, ◌||◌, if◌then◌else◌, List, [], ◌∷◌, ◌++◌, length, take, codes, string_bytes, Option, Some, None}
use Rattle.std.specs.List.{list_all, starts_with, ends_with}
use Rattle.std.specs.Option.{option_or}
use Rattle.std.specs.Str.{bytes_eq, str_eq_ignore_ascii_case}
use Rattle.message.specs.declared.attribute.AttributeValue.{AttributeValue}
use Rattle.message.specs.declared.attribute.AttributeValue.TheVariants.{Text, Binary}
use Rattle.message.specs.declared.fault.Fault.{Fault}
use Rattle.message.specs.declared.fault.Fault.TheVariants.{InvalidParameterValue, InvalidMessageContents}
use Rattle.message.specs.Name.{is_name_character}
use Rattle.message.specs.Characters.{is_message_text}
use Rattle.message.specs.Order.{sorted, text_before}

-- the bytes of the name, of the type text and of the value, and whether the value was given as raw bytes
pub record AttributeText : Type 0 where
  pub name : List ℕ
  pub kind : List ℕ
  pub is_binary : Bool
  pub value : List ℕ

abbrev pub is_binary : AttributeValue → Bool
is_binary (Text text) = false
is_binary (Binary bytes) = true

abbrev pub bytes_of_value : AttributeValue → List ℕ
bytes_of_value (Text text) = string_bytes text
bytes_of_value (Binary bytes) = bytes.items

-- the bytes of its name, its type text and its value
abbrev pub attribute_size : AttributeText → ℕ
attribute_size a = length a.name + length a.kind + length a.value

-- ---- names

abbrev pub full_stop : ℕ
full_stop = 46

-- an ASCII letter, a digit, a hyphen, an underscore or a full stop
abbrev pub is_attribute_name_character : ℕ → Bool
is_attribute_name_character c = is_name_character c || (c == full_stop)

-- whether two full stops stand side by side
abbrev pub has_two_stops : List ℕ → Bool
has_two_stops [] = false
has_two_stops (c ∷ []) = false
has_two_stops (c ∷ d ∷ rest) = ((c == full_stop) && (d == full_stop)) || has_two_stops (d ∷ rest)

-- whether a text begins with another, in upper or lower case
abbrev pub begins_in_any_case : List ℕ → List ℕ → Bool
begins_in_any_case prefix text = str_eq_ignore_ascii_case (take (length prefix) text) prefix

-- names that Amazon keeps for itself
abbrev pub is_reserved : List ℕ → Bool
is_reserved name = begins_in_any_case (codes "AWS.") name || begins_in_any_case (codes "Amazon.") name

-- 1 to 256 of these characters, no full stop first, last or beside another, and not reserved
abbrev pub is_attribute_name : List ℕ → Bool
is_attribute_name name =
    nat_le 1 (length name) && nat_le (length name) 256 && list_all is_attribute_name_character name
    && not (starts_with nat_eq name (codes ".")) && not (ends_with nat_eq name (codes ".")) && not (has_two_stops name)
    && not (is_reserved name)

-- ---- types

-- the word alone, or followed by a full stop and a label of at least one character
abbrev pub is_of_type : List ℕ → List ℕ → Bool
is_of_type word kind = bytes_eq kind word || (starts_with nat_eq kind (word ++ codes ".") && nat_lt (length word + 1) (length kind))

-- at most 256 bytes of the characters that bodies may have, of one of the three types
abbrev pub is_type_text : List ℕ → Bool
is_type_text kind =
    nat_le (length kind) 256 && is_message_text kind
    && (is_of_type (codes "String") kind || is_of_type (codes "Number") kind || is_of_type (codes "Binary") kind)

-- ---- values

-- a value of the other sort than the type says counts as missing, and a missing one as empty
abbrev pub is_value_given : AttributeText → Bool
is_value_given a = (if a.is_binary then is_of_type (codes "Binary") a.kind else not (is_of_type (codes "Binary") a.kind)) && nat_le 1 (length a.value)

-- ---- faults

-- what is wrong with an attribute: its name is judged first, then its type, then its value
abbrev pub attribute_fault : AttributeText → Option Fault
attribute_fault a =
    if not (is_attribute_name a.name) then Some InvalidParameterValue
    else if not (is_type_text a.kind) then Some InvalidParameterValue
    else if not (is_value_given a) then Some InvalidParameterValue
    else if a.is_binary then None
    else if is_message_text a.value then None
    else Some InvalidMessageContents

-- what is wrong with the first that anything is wrong with
abbrev pub first_fault : List AttributeText → Option Fault
first_fault [] = None
first_fault (a ∷ rest) = option_or (attribute_fault a) (first_fault rest)

-- whether an attribute of this name is among these
abbrev pub has_name : List ℕ → List AttributeText → Bool
has_name name [] = false
has_name name (a ∷ rest) = bytes_eq a.name name || has_name name rest

-- whether two have one name
abbrev pub have_equal_names : List AttributeText → Bool
have_equal_names [] = false
have_equal_names (a ∷ rest) = has_name a.name rest || have_equal_names rest

-- ---- their order

-- the order of the bytes of the names
abbrev pub comes_before : AttributeText → AttributeText → Bool
comes_before a b = text_before a.name b.name

-- ascending by name
abbrev pub by_name : List AttributeText → List AttributeText
by_name attributes = sorted comes_before attributes

-- what is wrong with the attributes of a message, given in any order: more than ten or two of one name first, then each by name
abbrev pub attributes_fault : List AttributeText → Option Fault
attributes_fault attributes =
    if nat_lt 10 (length attributes) || have_equal_names attributes then Some InvalidParameterValue else first_fault (by_name attributes)
