-- The attributes of a content in order, or what is first wrong with them, and what holds of a content that is stored.
use Rattle.std.specs.Prelude.{◌≡◌, IsTrue, List, Result, Ok, Err}
use Rattle.std.specs.Global.{Vec}
use Rattle.message.specs.declared.content.Parts.{Parts}
use Rattle.message.specs.declared.fault.Fault.{Fault}
use Rattle.message.specs.Attribute.{AttributeText, attributes_fault, by_name}
use Rattle.message.specs.Content.{content_size, is_content, unless_fault}
use Rattle.message.specs.StoredContent.{text_of}

-- the list in a `Vec` that a call answers
abbrev pub items_of : Result (Vec AttributeText) Fault → Result (List AttributeText) Fault
items_of (Ok attributes) = Ok attributes.items
items_of (Err fault) = Err fault

-- the attributes ascending by name, or what is first wrong with them
abbrev pub attributes_of : List AttributeText → Result (List AttributeText) Fault
attributes_of attributes = unless_fault (attributes_fault attributes) (by_name attributes)

-- the rules hold, and the size that is kept is that of the content
pub record IsStoredContent (p : Parts) : Type 0 where
  pub allowed : IsTrue (is_content (text_of p))
  pub size : p.size ≡ content_size (text_of p)
