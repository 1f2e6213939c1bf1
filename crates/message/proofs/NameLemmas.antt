-- Names are ASCII, and so UTF-8.
use Rattle.std.proofs.Common.{◌≡◌, ℕ, zero, suc, ◌<◌, Bool, true, false, ◌&&◌, nat_le, List, [], ◌∷◌, length, refl, arith}
use Rattle.std.specs.List.{list_all}
use Rattle.std.specs.Str.{IsAscii, IsUtf8}
use Rattle.std.proofs.lemmas.Str.{IsUtf8-from_ascii}
use Rattle.std.proofs.lemmas.Bool.Decides.{nat_tests}
use Rattle.message.specs.Name.{is_name_character, is_queue_name}

-- both parts of a conjunction that holds
pub both : (a b : Bool) → (a && b) ≡ true → (a ≡ true) × (b ≡ true)
both true b h = (refl, h)
both false b h = absurd cc

name_character_ascii : (c : ℕ) → is_name_character c ≡ true → c < 128
name_character_ascii c h = grind (arith, nat_tests)

IsAscii-from_characters : (text : List ℕ) → list_all is_name_character text ≡ true → IsAscii text
IsAscii-from_characters [] h i = omega arith
IsAscii-from_characters (c ∷ text) h zero = name_character_ascii c (both (is_name_character c) (list_all is_name_character text) h).0
IsAscii-from_characters (c ∷ text) h (suc i) = IsAscii-from_characters text (both (is_name_character c) (list_all is_name_character text) h).1 i

pub IsUtf8-from_name : (text : List ℕ) → is_queue_name text ≡ true → IsUtf8 text
IsUtf8-from_name text h =
    IsUtf8-from_ascii text (IsAscii-from_characters text (both (nat_le 1 (length text) && nat_le (length text) 80) (list_all is_name_character text) h).1)
