-- A queue's name has no byte that is escaped in a label's value.
use Rattle.std.proofs.Common.{◌≡◌, ℕ, true, ◌&&◌, nat_le, List, [], ◌∷◌, length, refl, arith}
use Rattle.std.specs.List.{list_all}
use Rattle.std.proofs.lemmas.Bool.Decides.{nat_tests}
use Rattle.message.proofs.NameLemmas.{both}
use Rattle.message.specs.Name.{is_name_character, is_queue_name}
use Rattle.statistics_api.specs.Metrics.{escaped_byte, escaped}

byte_kept : (c : ℕ) → is_name_character c ≡ true → escaped_byte c ≡ c ∷ []
byte_kept c h = grind (arith, nat_tests)

bytes_kept : (text : List ℕ) → list_all is_name_character text ≡ true → escaped text ≡ text
bytes_kept [] h = refl
bytes_kept (c ∷ text) h =
    rw (byte_kept c (both (is_name_character c) (list_all is_name_character text) h).0, bytes_kept text (both (is_name_character c) (list_all is_name_character text) h).1) refl

pub escaped_name : (text : List ℕ) → is_queue_name text ≡ true → escaped text ≡ text
escaped_name text h = bytes_kept text (both (nat_le 1 (length text) && nat_le (length text) 80) (list_all is_name_character text) h).1
