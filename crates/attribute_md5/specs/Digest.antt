-- Digests of messages (RFC 1321; Amazon SQS API Reference, SendMessage; Amazon SQS Developer Guide,
-- "Calculating the MD5 message digest for message attributes").
use Rattle.std.specs.Prelude.{ℕ, ◌==◌, if◌then◌else◌, List, [], ◌∷◌, ◌++◌, length, Option, Some, None}
use Rattle.std.specs.Int.{w32, to_be_bytes}
use Rattle.md5.specs.Md5.{md5}
use Rattle.hex.specs.Hex.{encode_lower}
use Rattle.message.specs.Attribute.{AttributeText}

-- the lower-case hex digits of the MD5 of a text's bytes
abbrev pub body_digest : List ℕ → List ℕ
body_digest body = encode_lower (md5 body)

-- how many bytes follow, as four bytes, the highest first, and the bytes; a number of 2^32 or more
-- would keep its remainder alone, but a request has at most 8 MiB, so no such text comes
abbrev pub sized : List ℕ → List ℕ
sized bytes = to_be_bytes w32 (length bytes) ++ bytes

-- 1 for a text, 2 for raw bytes
abbrev pub transport : AttributeText → ℕ
transport a = if a.is_binary then 2 else 1

-- its name, its type text, the kind of value and the value
abbrev pub attribute_preimage : AttributeText → List ℕ
attribute_preimage a = sized a.name ++ sized a.kind ++ transport a ∷ [] ++ sized a.value

-- the attributes, one after another
abbrev pub preimage_of : List AttributeText → List ℕ
preimage_of [] = []
preimage_of (a ∷ rest) = attribute_preimage a ++ preimage_of rest

-- the lower-case hex digits of the MD5 of that; none without attributes
abbrev pub attributes_digest : List AttributeText → Option (List ℕ)
attributes_digest attributes =
    if length attributes == 0 then None else Some (encode_lower (md5 (preimage_of attributes)))
