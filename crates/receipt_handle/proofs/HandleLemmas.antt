-- A handle's text holds its three numbers, and no other text does.
use Rattle.std.proofs.Common.{◌≡◌, ℕ, ◌^◌, ◌<◌, ◌≤◌, ◌==◌, Bool, true, false, if◌then◌else◌, List, [], ◌∷◌, ◌++◌, length, take, drop, slice_range, Result, Ok, Err, refl, sym, ap, ◌∙◌, append_assoc, arith}
use Rattle.std.specs.List.{list_all}
use Rattle.std.specs.Str.Parse.{digits_value, AllDigits, IsNumeral, without_leading_plus}
use Rattle.std.proofs.lemmas.Bool.{and_parts, eqb-true}
use Rattle.std.proofs.lemmas.Bool.Decides.{nat_tests}
use Rattle.std.proofs.lemmas.Int.Digits.{digits_value-lt}
use Rattle.std.proofs.lemmas.List.{length-append, length-drop, length-take-le, take-append-drop, drop-drop, take_all, take_at, drop_at}
use Rattle.std.proofs.lemmas.List.Elements.{All-take, All-drop}
use Rattle.std.proofs.lemmas.List.Folds.{list_all-append}
use Rattle.std.proofs.lemmas.List.Sums.{AllPass-from_list_all, list_all-from_AllPass}
use Rattle.message.specs.declared.fault.Fault.{Fault}
use Rattle.message.specs.declared.fault.Fault.TheVariants.{ReceiptHandleIsInvalid}
use Rattle.receipt_handle.specs.declared.handle.Handle.{Handle}
use Rattle.receipt_handle.specs.Digits.{hex_digits, is_handle_digit, is_handle_text}
use Rattle.receipt_handle.specs.Handle.{handle_of, handle_text}
use Rattle.receipt_handle.proofs.DigitLemmas.{length-hex_digits, list_all-hex_digits, digits_value-hex_digits, hex_digits-digits_value, digit_char-digit_value}

-- sixteen digits, as each of the three numbers has
pub record IsPart (part : List ℕ) : Type 0 where
  pub sixteen : length part ≡ 16
  pub digits : list_all is_handle_digit part ≡ true

-- the sixteen from a place on
pub IsPart-take : (text : List ℕ) (start : ℕ) → is_handle_text text ≡ true → start ≤ 32 → IsPart (take 16 (drop start text))
IsPart-take text start is within =
    let both = and_parts (length text == 48) (list_all is_handle_digit text) is in
    let whole : length text ≡ 48 = eqb-true (length text) 48 both.0 in
    let passes = AllPass-from_list_all is_handle_digit text both.1 in
    let P : ℕ → Type 0 = λ c. is_handle_digit c ≡ true in
    record {
      sixteen = length-take-le 16 (drop start text) (omega (arith, length-drop start text));
      digits = list_all-from_AllPass is_handle_digit _ (All-take P 16 (drop start text) (All-drop P start text passes));
    }

-- ---- what `from_str_radix` makes of sixteen digits

AllDigits-from_list_all : (part : List ℕ) → list_all is_handle_digit part ≡ true → AllDigits 16 part
AllDigits-from_list_all [] h = tt
AllDigits-from_list_all (c ∷ part) h =
    let both = and_parts (is_handle_digit c) (list_all is_handle_digit part) h in
    ((digit_char-digit_value c both.0).0, AllDigits-from_list_all part both.1)

pub without_leading_plus-part : (part : List ℕ) → list_all is_handle_digit part ≡ true → without_leading_plus part ≡ part
without_leading_plus-part [] h = refl
without_leading_plus-part (c ∷ part) h =
    let both = and_parts (is_handle_digit c) (list_all is_handle_digit part) h in
    let digit : is_handle_digit c ≡ true = both.0 in
    let no_plus : (c == 43) ≡ false = grind (arith, nat_tests) in
    rw no_plus refl

-- they are a numeral of 64 bits
pub IsNumeral-part : (part : List ℕ) → IsPart part → IsNumeral 16 (without_leading_plus part) × (digits_value 16 (without_leading_plus part) < 2 ^ 64)
IsNumeral-part part is =
    let digits = AllDigits-from_list_all part is.digits in
    let small = rw is.sixteen at (digits_value-lt 16 part digits) in
    let sixteen = is.sixteen in
    rw (without_leading_plus-part part is.digits) ((omega arith, digits), small)

-- ---- texts and handles

-- a part is the digits of what it is worth
hex_digits-part : (part : List ℕ) → IsPart part → hex_digits 16 (digits_value 16 part) ≡ part
hex_digits-part part is = ap (λ (k : ℕ). hex_digits k (digits_value 16 part)) (sym is.sixteen) ∙ hex_digits-digits_value part is.digits

is_handle_text-handle_text : (h : Handle) → is_handle_text (handle_text h) ≡ true
is_handle_text-handle_text h =
    let u : List ℕ = hex_digits 16 h.uid in
    let n : List ℕ = hex_digits 16 h.number in
    let r : List ℕ = hex_digits 16 h.receipt in
    let front = list_all-append is_handle_digit u n in
    let whole : length (u ++ n ++ r) ≡ 48 =
    omega (arith, length-append (u ++ n) r, length-append u n, length-hex_digits 16 h.uid, length-hex_digits 16 h.number, length-hex_digits 16 h.receipt) in
    let digits : list_all is_handle_digit (u ++ n ++ r) ≡ true =
    rw (list_all-append, list_all-append, list_all-hex_digits 16 h.uid, list_all-hex_digits 16 h.number, list_all-hex_digits 16 h.receipt) refl in
    rw (whole, digits) refl

-- the three parts of a text
take-handle_text : (u n r : List ℕ) → length u ≡ 16 → length n ≡ 16 → length r ≡ 16
    → (slice_range (u ++ n ++ r) 0 16 ≡ u) × (slice_range (u ++ n ++ r) 16 32 ≡ n) × (slice_range (u ++ n ++ r) 32 48 ≡ r)
take-handle_text u n r lu ln lr =
    let front : length (u ++ n) ≡ 32 = omega (arith, length-append u n) in (
      rw append_assoc (take_at u (n ++ r) 16 lu),
      rw (append_assoc, drop_at u (n ++ r) 16 lu) (take_at n r 16 ln),
      rw (drop_at (u ++ n) r 32 front) (take_all 16 r (omega arith)),
    )

handle_of-text : (text : List ℕ) → is_handle_text text ≡ true
    → handle_of text ≡ Ok (record { uid = digits_value 16 (slice_range text 0 16); number = digits_value 16 (slice_range text 16 32); receipt = digits_value 16 (slice_range text 32 48) })
handle_of-text text is = rw is refl

pub handle_of-handle_text : (h : Handle) → h.uid < 2 ^ 64 → h.number < 2 ^ 64 → h.receipt < 2 ^ 64 → handle_of (handle_text h) ≡ Ok h
handle_of-handle_text h uid number receipt =
    let parts = take-handle_text (hex_digits 16 h.uid) (hex_digits 16 h.number) (hex_digits 16 h.receipt)
    (length-hex_digits 16 h.uid) (length-hex_digits 16 h.number) (length-hex_digits 16 h.receipt) in
    let make : ℕ → ℕ → ℕ → Result Handle Fault = λ u n r. Ok (record { uid = u; number = n; receipt = r }) in
    let u = ap (digits_value 16) parts.0 ∙ digits_value-hex_digits 16 h.uid uid in
    let n = ap (digits_value 16) parts.1 ∙ digits_value-hex_digits 16 h.number number in
    let r = ap (digits_value 16) parts.2 ∙ digits_value-hex_digits 16 h.receipt receipt in
    handle_of-text (handle_text h) (is_handle_text-handle_text h) ∙ (λ i. make (u i) (n i) (r i))

-- what a text that is read shows
read_parts : (b : Bool) (x h : Handle) → (if b then Ok x else Err ReceiptHandleIsInvalid) ≡ Ok h → (b ≡ true) × (x ≡ h)
read_parts true x h e = (refl, cc)
read_parts false x h e = absurd cc

split : (s : List ℕ) → length s ≡ 48 → s ≡ take 16 s ++ take 16 (drop 16 s) ++ take 16 (drop 32 s)
split s whole =
    let a : List ℕ = take 16 s in
    let b : List ℕ = take 16 (drop 16 s) in
    let last : drop 16 (drop 16 s) ≡ take 16 (drop 32 s) = drop-drop 16 16 s ∙ sym (take_all 16 (drop 32 s) (omega (arith, length-drop 32 s))) in
    sym (take-append-drop 16 s) ∙ ap (λ (t : List ℕ). a ++ t) (sym (take-append-drop 16 (drop 16 s)))
    ∙ sym (append_assoc a b (drop 16 (drop 16 s))) ∙ ap (λ (t : List ℕ). a ++ b ++ t) last

-- a text that is read is the text of its handle
pub text-from_handle_of : (s : List ℕ) (h : Handle) → handle_of s ≡ Ok h → s ≡ handle_text h
text-from_handle_of s h e =
    let x : Handle = record { uid = digits_value 16 (slice_range s 0 16); number = digits_value 16 (slice_range s 16 32); receipt = digits_value 16 (slice_range s 32 48) } in
    let read = read_parts (is_handle_text s) x h e in
    let u = hex_digits-part (take 16 s) (IsPart-take s 0 read.0 (omega arith)) in
    let n = hex_digits-part (take 16 (drop 16 s)) (IsPart-take s 16 read.0 (omega arith)) in
    let r = hex_digits-part (take 16 (drop 32 s)) (IsPart-take s 32 read.0 (omega arith)) in
    let whole = eqb-true (length s) 48 (and_parts (length s == 48) (list_all is_handle_digit s) read.0).0 in
    split s whole ∙ (λ i. (sym u) i ++ (sym n) i ++ (sym r) i) ∙ ap handle_text read.1
