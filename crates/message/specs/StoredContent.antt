-- How a content is kept.
use Rattle.std.specs.Prelude.{string_bytes}
use Rattle.message.specs.declared.content.Parts.{Parts}
use Rattle.message.specs.Content.{ContentText}

-- the content that the parts are
abbrev pub text_of : Parts → ContentText
text_of p = record { body = string_bytes p.body; attributes = p.attributes.items }
