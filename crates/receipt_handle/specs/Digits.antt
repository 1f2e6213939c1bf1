-- The digits of receipt handles: this project's own choice.
use Rattle.std.specs.Prelude.{ℕ, zero, suc, ◌/◌, ◌%◌, ◌==◌, nat_le, Bool, ◌&&◌, ◌||◌, List, [], ◌∷◌, ◌++◌, length}
use Rattle.std.specs.List.{list_all}
use Rattle.std.specs.Char.{digit_char}

-- the last `count` digits of n in base 16, the highest first
unfoldable pub hex_digits : ℕ → ℕ → List ℕ
hex_digits zero n = []
hex_digits (suc count) n = hex_digits count (n / 16) ++ digit_char (n % 16) ∷ []

-- `0` to `9` are 48 to 57, and `a` to `f` are 97 to 102
abbrev pub is_handle_digit : ℕ → Bool
is_handle_digit c = (nat_le 48 c && nat_le c 57) || (nat_le 97 c && nat_le c 102)

-- 48 of these
abbrev pub is_handle_text : List ℕ → Bool
is_handle_text text = (length text == 48) && list_all is_handle_digit text
