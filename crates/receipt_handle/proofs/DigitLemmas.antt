-- Hex digits of a number: how many, which, what they are worth, and that no others are worth it.
use Rattle.std.proofs.Common.{◌≡◌, ℕ, zero, suc, ◌+◌, ◌-◌, ◌*◌, ◌/◌, ◌%◌, ◌^◌, ◌<◌, ◌≤◌, true, false, inl, inr, List, [], ◌∷◌, ◌++◌, length, take, replicate, get_or, refl, sym, ap, ◌∙◌, append_assoc, arith}
use Rattle.std.specs.List.{list_all}
use Rattle.std.specs.Char.{digit_char, digit_value}
use Rattle.std.specs.Fmt.{digits, digits_onto, padded_integral, format_spec, char_count}
use Rattle.std.specs.Str.Parse.{digits_value}
use Rattle.std.proofs.Math.Nat.{pow-suc}
use Rattle.std.proofs.lemmas.Bool.{and_parts, cases_eq, ne_eqb}
use Rattle.std.proofs.lemmas.Bool.Decides.{nat_tests}
use Rattle.std.proofs.lemmas.Int.Digits.{digits_value_push, digits_value_more}
use Rattle.std.proofs.lemmas.List.{length-append, replicate-append-replicate, append-nil, take_more, take_all}
use Rattle.std.proofs.lemmas.List.Folds.{list_all-append, list_all_more}
use Rattle.std.proofs.lemmas.Str.{digit_value-digit_char}
use Rattle.receipt_handle.specs.Digits.{hex_digits, is_handle_digit}

pub length-hex_digits : (count n : ℕ) → length (hex_digits count n) ≡ count
unfolding hex_digits
length-hex_digits zero n = refl
length-hex_digits (suc count) n =
    let rest = length-hex_digits count (n / 16) in
    omega (arith, length-append (hex_digits count (n / 16)) (digit_char (n % 16) ∷ []), rest)

is_handle_digit-digit_char : (d : ℕ) → d < 16 → is_handle_digit (digit_char d) ≡ true
is_handle_digit-digit_char d small = grind (arith, nat_tests)

pub list_all-hex_digits : (count n : ℕ) → list_all is_handle_digit (hex_digits count n) ≡ true
unfolding hex_digits
list_all-hex_digits zero n = refl
list_all-hex_digits (suc count) n =
    let rest = list_all-hex_digits count (n / 16) in
    let last = is_handle_digit-digit_char (n % 16) (omega arith) in
    rw (list_all-append, rest, last) refl

-- the digits are worth their number, where they hold it
pub digits_value-hex_digits : (count n : ℕ) → n < 16 ^ count → digits_value 16 (hex_digits count n) ≡ n
unfolding hex_digits
digits_value-hex_digits zero n small = omega arith
digits_value-hex_digits (suc count) n small =
    let front : n / 16 < 16 ^ count = omega (arith, pow-suc 16 count) in
    let rest = digits_value-hex_digits count (n / 16) front in
    let last = digit_value-digit_char (n % 16) (omega arith) in
    omega (arith, digits_value_push 16 (hex_digits count (n / 16)) (digit_char (n % 16)), rest, last)

pub digit_char-digit_value : (c : ℕ) → is_handle_digit c ≡ true → (digit_value c < 16) × (digit_char (digit_value c) ≡ c)
digit_char-digit_value c h = (grind (arith, nat_tests), grind (arith, nat_tests))

hex_digits-take : (text : List ℕ) (i : ℕ) → i ≤ length text → list_all is_handle_digit (take i text) ≡ true → hex_digits i (digits_value 16 (take i text)) ≡ take i text
unfolding hex_digits
hex_digits-take text zero within all = refl
hex_digits-take text (suc i) within all =
    let next : suc i ≡ i + 1 = omega arith in
    let c : ℕ = get_or text i 0 in
    let front : ℕ = digits_value 16 (take i text) in
    let parts : (list_all is_handle_digit (take i text) ≡ true) × (is_handle_digit c ≡ true) =
    and_parts _ _ (sym (list_all_more is_handle_digit text i 0 (omega arith)) ∙ ap (λ (k : ℕ). list_all is_handle_digit (take k text)) (sym next) ∙ all) in
    let digit : (digit_value c < 16) × (digit_char (digit_value c) ≡ c) = digit_char-digit_value c parts.1 in
    let value : digits_value 16 (take (suc i) text) ≡ front * 16 + digit_value c = rw next (digits_value_more 16 text i (omega arith)) in
    let high : digits_value 16 (take (suc i) text) / 16 ≡ front = omega (arith, value, digit.0) in
    let low : digits_value 16 (take (suc i) text) % 16 ≡ digit_value c = omega (arith, value, digit.0) in
    let rest = hex_digits-take text i (omega arith) parts.0 in
    ap (λ (v : ℕ). hex_digits i v ++ digit_char (digits_value 16 (take (suc i) text) % 16) ∷ []) high
    ∙ ap (λ (v : ℕ). hex_digits i front ++ digit_char v ∷ []) low
    ∙ ap (λ (d : ℕ). hex_digits i front ++ d ∷ []) digit.1
    ∙ ap (λ (t : List ℕ). t ++ c ∷ []) rest
    ∙ sym (take_more text i 0 (omega arith)) ∙ ap (λ (k : ℕ). take k text) (sym next)

-- and digits are those of the number that they are worth
pub hex_digits-digits_value : (text : List ℕ) → list_all is_handle_digit text ≡ true → hex_digits (length text) (digits_value 16 text) ≡ text
hex_digits-digits_value text all =
    let whole : take (length text) text ≡ text = take_all (length text) text (omega arith) in
    rw whole at (hex_digits-take text (length text) (omega arith) (rw whole all))

hex_digits-zero : (count : ℕ) → hex_digits count 0 ≡ replicate count 48
unfolding hex_digits
hex_digits-zero zero = refl
hex_digits-zero (suc count) =
    let one : count + 1 ≡ suc count = omega arith in
    ap (λ (t : List ℕ). t ++ 48 ∷ []) (hex_digits-zero count) ∙ replicate-append-replicate count 1 48
    ∙ ap (λ (k : ℕ). replicate k 48) one

-- the last digit that `{:x}` writes, and one before which it writes more
digits_onto-last : (j n : ℕ) (acc : List ℕ) → n / 16 ≡ 0 → digits_onto (suc j) 16 false n acc ≡ digit_char (n % 16) ∷ acc
digits_onto-last j n acc none = rw none refl

digits_onto-more : (j n : ℕ) (acc : List ℕ) → (n / 16 ≡ 0 → ⊥) → digits_onto (suc j) 16 false n acc ≡ digits_onto j 16 false (n / 16) (digit_char (n % 16) ∷ acc)
digits_onto-more j n acc some = rw (ne_eqb (n / 16) 0 some) refl

-- zeros before a text, up to a width
zeros_before : ℕ → List ℕ → List ℕ
zeros_before width text = replicate (width - length text) 48 ++ text

padded-last : (k j width n : ℕ) (acc : List ℕ) → n / 16 ≡ 0 → width ≡ suc k + length acc
    → zeros_before width (digits_onto (suc j) 16 false n acc) ≡ hex_digits (suc k) n ++ acc
unfolding hex_digits zeros_before
padded-last k j width n acc none is =
    let c : ℕ = digit_char (n % 16) in
    let zeros : width - length (c ∷ acc) ≡ k = omega arith in
    ap (zeros_before width) (digits_onto-last j n acc none) ∙ ap (λ (w : ℕ). replicate w 48 ++ c ∷ acc) zeros
    ∙ ap (λ (t : List ℕ). t ++ c ∷ acc) (sym (hex_digits-zero k))
    ∙ ap (λ (m : ℕ). hex_digits k m ++ c ∷ acc) (sym none) ∙ sym (append_assoc (hex_digits k (n / 16)) (c ∷ []) acc)

-- what `{:x}` writes, with zeros before it up to a width that holds it
padded-digits_onto : (k j width n : ℕ) (acc : List ℕ) → k ≤ j → n < 16 ^ suc k → width ≡ suc k + length acc
    → zeros_before width (digits_onto (suc j) 16 false n acc) ≡ hex_digits (suc k) n ++ acc
unfolding hex_digits
padded-digits_onto zero j width n acc room small is = padded-last zero j width n acc (omega (arith, pow-suc 16 0)) is
padded-digits_onto (suc k) zero width n acc room small is = absurd (omega arith)
padded-digits_onto (suc k) (suc j) width n acc room small is =
    elim (cases_eq (n / 16) 0) [
      | inl none ↦ padded-last (suc k) (suc j) width n acc none is
      | inr some ↦
          let c : ℕ = digit_char (n % 16) in
          let front : n / 16 < 16 ^ suc k = omega (arith, pow-suc 16 (suc k)) in
          ap (zeros_before width) (digits_onto-more (suc j) n acc some)
          ∙ padded-digits_onto k j width (n / 16) (c ∷ acc) (omega arith) front (omega arith)
          ∙ sym (append_assoc (hex_digits (suc k) (n / 16)) (c ∷ []) acc)
    ]

-- what padding with zeros to sixteen digits gives
padded_integral-zeros : (numeral : List ℕ) → padded_integral (format_spec 32 0 4 16 (2 ^ 64 - 1)) false [] numeral ≡ zeros_before 16 numeral
unfolding padded_integral char_count zeros_before
padded_integral-zeros numeral =
    let none : 16 - length numeral - 0 - 0 ≡ 16 - length numeral = omega arith in
    ap (λ (t : List ℕ). replicate (16 - length numeral - 0 - 0) 48 ++ t) (append-nil numeral) ∙ ap (λ (w : ℕ). replicate w 48 ++ numeral) none

digits-onto : (n : ℕ) → digits 16 false n ≡ digits_onto (suc 63) 16 false n []
unfolding digits
digits-onto n = refl

-- what `{:016x}` writes
pub padded_integral-hex : (n : ℕ) → n < 2 ^ 64 → padded_integral (format_spec 32 0 4 16 (2 ^ 64 - 1)) false [] (digits 16 false n) ≡ hex_digits 16 n
padded_integral-hex n small =
    padded_integral-zeros (digits 16 false n) ∙ ap (zeros_before 16) (digits-onto n)
    ∙ padded-digits_onto 15 63 16 n [] (omega arith) small refl ∙ append-nil (hex_digits 16 n)
