-- What std's `parse` gives for a text of digits alone.
use Rattle.std.proofs.Common.{◌≡◌, ℕ, ◌<◌, ◌≤◌, ◌^◌, Bool, true, false, ◌&&◌, nat_le, List, length, Result, Ok, refl, ap, arith, rules}
use Rattle.std.specs.Char.{is_ascii_digit}
use Rattle.std.specs.List.{list_all}
use Rattle.std.specs.Result.{result_ok}
use Rattle.std.specs.Str.Parse.{ParsesUnsigned, digits_value}
use Rattle.std.proofs.lemmas.Bool.Decides.{nat_tests}
use Rattle.std.proofs.lemmas.Str.Parse.{IsDigitsTest, IsNumeralModel, numerals_by_value, parse_gives, digits_value_short}
use Rattle.queue_config.specs.Decimal.{decimal_of}

tells_digits : IsDigitsTest (λ text. list_all is_ascii_digit text ≡ true)
tells_digits = search rules

digits_are_numerals : IsNumeralModel (λ text. list_all is_ascii_digit text ≡ true) (digits_value 10)
digits_are_numerals = numerals_by_value _ tells_digits

both : (a b c : Bool) → a ≡ true → b ≡ true → c ≡ true → (a && b && c) ≡ true
both true true true p q r = refl
both true true false p q r = r
both true false c p q r = q
both false b c p q r = p

pub result_ok-parsed : {E : Type 0} (most : ℕ) (text : List ℕ) (r : Result ℕ E) → ParsesUnsigned 64 10 text r → 0 < length text → length text ≤ most → most ≤ 19
    → list_all is_ascii_digit text ≡ true → result_ok r ≡ decimal_of most text
result_ok-parsed most text r h some short fits digits =
    let small : digits_value 10 text < 10 ^ 19 = digits_value_short digits_are_numerals text 19 digits (omega arith) in
    let value : r ≡ Ok (digits_value 10 text) = parse_gives digits_are_numerals 64 text r h digits some (omega arith) in
    let first : nat_le 1 (length text) ≡ true = grind (arith, nat_tests) in
    let second : nat_le (length text) most ≡ true = grind (arith, nat_tests) in
    let test : (nat_le 1 (length text) && nat_le (length text) most && list_all is_ascii_digit text) ≡ true = both _ _ _ first second digits in
    rw test (ap result_ok value)
