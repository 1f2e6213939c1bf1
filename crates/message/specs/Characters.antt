-- The characters of messages (Amazon SQS API Reference, SendMessage; W3C XML 1.0, Char).
use Rattle.std.specs.Prelude.{ℕ, ◌==◌, nat_le, Bool, ◌&&◌, ◌||◌, List}
use Rattle.std.specs.List.{list_all}
use Rattle.std.specs.Str.{chars}

-- tab, line feed, carriage return, and the characters of three ranges
abbrev pub is_message_character : ℕ → Bool
is_message_character c =
    (c == 0x9) || (c == 0xA) || (c == 0xD) || (nat_le 0x20 c && nat_le c 0xD7FF)
    || (nat_le 0xE000 c && nat_le c 0xFFFD) || (nat_le 0x10000 c && nat_le c 0x10FFFF)

-- a text of message characters alone
abbrev pub is_message_text : List ℕ → Bool
is_message_text text = list_all is_message_character (chars text)
