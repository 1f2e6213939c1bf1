-- The parts of an input line.
use Rattle.std.proofs.Common.{◌≡◌, ℕ, zero, suc, ◌+◌, ◌<◌, Bool, true, false, ◌&&◌, cond, nat_lt, nat_le, List, [], ◌∷◌, length, position, take, drop, Some, None, Ok, Err, refl, sym, ap, ◌∙◌, arith}
use Rattle.std.specs.Char.{is_ascii_digit}
use Rattle.std.specs.List.{list_all, position_or_len}
use Rattle.std.specs.Str.{IsAscii, IsUtf8}
use Rattle.std.proofs.lemmas.Bool.Decides.{nat_tests}
use Rattle.std.proofs.lemmas.Str.{IsUtf8-from_ascii}
use Rattle.message.specs.Name.{is_letter}
use Rattle.message.specs.declared.fault.Fault.TheVariants.{SerializationException}
use Rattle.queue_config.specs.Decimal.{decimal_of}
use Rattle.sqs_replay.specs.InputLine.{is_space, cut, moment_read, is_action}

both : (a b : Bool) → (a && b) ≡ true → (a ≡ true) × (b ≡ true)
both true b h = (refl, h)
both false b h = absurd cc

-- a text whose bytes all pass a test that only ASCII passes
IsAscii-from_test : (test : ℕ → Bool) → ((c : ℕ) → test c ≡ true → c < 128) → (text : List ℕ) → list_all test text ≡ true → IsAscii text
IsAscii-from_test test low [] h i = omega arith
IsAscii-from_test test low (c ∷ text) h zero = low c (both (test c) (list_all test text) h).0
IsAscii-from_test test low (c ∷ text) h (suc i) = IsAscii-from_test test low text (both (test c) (list_all test text) h).1 i

letter_low : (c : ℕ) → is_letter c ≡ true → c < 128
letter_low c h = grind (arith, nat_tests)

digit_low : (c : ℕ) → is_ascii_digit c ≡ true → c < 128
digit_low c h = grind (arith, nat_tests)

pub IsUtf8-from_action : (text : List ℕ) → is_action text ≡ true → IsUtf8 text
IsUtf8-from_action text h =
    let letters = both (nat_le 1 (length text) && nat_le (length text) 64) (list_all is_letter text) h in
    IsUtf8-from_ascii text (IsAscii-from_test is_letter letter_low text letters.1)

none_unless : (b : Bool) (n : ℕ) → (b ≡ true → ⊥) → cond b (Some n) None ≡ None
none_unless true n h = absurd (h refl)
none_unless false n h = refl

decimal_of-other : (most : ℕ) (text : List ℕ) → (IsUtf8 text → ⊥) → decimal_of most text ≡ None
decimal_of-other most text h =
    none_unless (nat_le 1 (length text) && nat_le (length text) most && list_all is_ascii_digit text) _ (λ t.
    let digits = both (nat_le 1 (length text) && nat_le (length text) most) (list_all is_ascii_digit text) t in
    h (IsUtf8-from_ascii text (IsAscii-from_test is_ascii_digit digit_low text digits.1)))

-- bytes that are no UTF-8 are no moment
pub moment_of-other : (text : List ℕ) → (IsUtf8 text → ⊥) → moment_read text ≡ Err SerializationException
moment_of-other text h = rw (decimal_of-other 19 text h)

some_place : (b : Bool) (m n : ℕ) → cond b (Some m) None ≡ Some n → (b ≡ true) × (m ≡ n)
some_place true m n e = (refl, cc)
some_place false m n e = absurd cc

-- a text with a space, cut there
pub cut-found : (text : List ℕ) (n : ℕ) → position is_space text ≡ Some n → cut text ≡ Ok (take n text, drop (n + 1) text)
cut-found text n e =
    let found = some_place (nat_lt (position_or_len is_space text) (length text)) (position_or_len is_space text) n e in
    let place : ℕ = position_or_len is_space text in
    let here : position is_space text ≡ Some place = e ∙ ap (λ (k : ℕ). Some k) (sym found.1) in
    rw (found.0, found.1)

pub cut-none : (text : List ℕ) → position is_space text ≡ None → cut text ≡ Err SerializationException
cut-none text e = rw e
