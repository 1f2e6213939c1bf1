-- What a message holds (Amazon SQS API Reference, SendMessage).
use Rattle.std.specs.Prelude.{ℕ, ◌+◌, ◌==◌, nat_le, Bool, ◌&&◌, if◌then◌else◌, List, length, sum_by, is_none, Option, Some, None, Result, Ok, Err}
use Rattle.std.specs.List.{list_all}
use Rattle.std.specs.Option.{option_or}
use Rattle.message.specs.declared.fault.Fault.{Fault}
use Rattle.message.specs.declared.fault.Fault.TheVariants.{InvalidParameterValue, InvalidMessageContents}
use Rattle.message.specs.Attribute.{AttributeText, attribute_size, attribute_fault, attributes_fault, by_name, comes_before}
use Rattle.message.specs.Order.{is_ascending}
use Rattle.message.specs.Characters.{is_message_text}

-- the UTF-8 bytes of the body, and the attributes
pub record ContentText : Type 0 where
  pub body : List ℕ
  pub attributes : List AttributeText

-- the bytes of the body and of all attributes
abbrev pub content_size : ContentText → ℕ
content_size c = length c.body + sum_by attribute_size c.attributes

-- what is wrong with a body
abbrev pub body_fault : List ℕ → Option Fault
body_fault body = if length body == 0 then Some InvalidParameterValue else if is_message_text body then None else Some InvalidMessageContents

-- a value, unless something is wrong
abbrev pub unless_fault : {A : Type 0} → Option Fault → A → Result A Fault
unless_fault None x = Ok x
unless_fault (Some fault) x = Err fault

-- the content that a body and attributes make, or what is first wrong with them: the body is judged before the attributes
abbrev pub content_of : List ℕ → List AttributeText → Result ContentText Fault
content_of body attributes =
    unless_fault (option_or (body_fault body) (attributes_fault attributes)) (record { body = body; attributes = by_name attributes })

-- a content that these rules take: its attributes stand ascending by name
abbrev pub is_content : ContentText → Bool
is_content c =
    is_none (body_fault c.body) && nat_le (length c.attributes) 10 && is_ascending comes_before c.attributes
    && list_all (λ a. is_none (attribute_fault a)) c.attributes
