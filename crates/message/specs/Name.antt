-- Names of queues (Amazon SQS API Reference, CreateQueue).
use Rattle.std.specs.Prelude.{ℕ, ◌==◌, nat_le, Bool, ◌&&◌, ◌||◌, if◌then◌else◌, List, length, Result, Ok, Err}
use Rattle.std.specs.List.{list_all}
use Rattle.message.specs.declared.fault.Fault.{Fault}
use Rattle.message.specs.declared.fault.Fault.TheVariants.{InvalidParameterValue}

abbrev pub hyphen : ℕ
hyphen = 45

abbrev pub underscore : ℕ
underscore = 95

abbrev pub is_letter : ℕ → Bool
is_letter c = (nat_le 65 c && nat_le c 90) || (nat_le 97 c && nat_le c 122)

abbrev pub is_digit : ℕ → Bool
is_digit c = nat_le 48 c && nat_le c 57

-- an ASCII letter, a digit, a hyphen or an underscore
abbrev pub is_name_character : ℕ → Bool
is_name_character c = is_letter c || is_digit c || (c == hyphen) || (c == underscore)

-- 1 to 80 of these
abbrev pub is_queue_name : List ℕ → Bool
is_queue_name text = nat_le 1 (length text) && nat_le (length text) 80 && list_all is_name_character text

-- the name that a text is, or the refusal
abbrev pub queue_name_of : List ℕ → Result (List ℕ) Fault
queue_name_of text = if is_queue_name text then Ok text else Err InvalidParameterValue
