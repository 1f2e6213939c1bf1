-- Input lines as texts: what reading them gives, and that each line of the form is read.
use Rattle.std.proofs.Common.{◌≡◌, ℕ, ◌+◌, ◌<◌, Bool, true, false, ◌&&◌, cond, nat_lt, nat_le, List, [], ◌∷◌, ◌++◌, length, position, take, drop, get_or, Some, None, Result, Ok, Err, is_some, refl, sym, ap, ◌∙◌, subst, arith, append_assoc, length-append}
use Rattle.std.specs.Char.{is_ascii_digit}
use Rattle.std.specs.List.{list_all, position_or_len, before_first, after_first}
use Rattle.std.proofs.lemmas.Bool.Decides.{nat_tests}
use Rattle.std.proofs.lemmas.List.{take_at, drop_at}
use Rattle.std.proofs.lemmas.List.Sums.{split_at_first, passes_at_first}
use Rattle.message.specs.Name.{is_letter}
use Rattle.message.specs.declared.fault.Fault.{Fault}
use Rattle.message.specs.declared.fault.Fault.TheVariants.{SerializationException}
use Rattle.aws_json.specs.Steps.{◌>>=◌}
use Rattle.sqs_replay.specs.InputLine.{LineParts, space, is_space, cut, within_moments, moment_read, is_action, action_of, input_line_of, IsInputLine}

both : (a b : Bool) → (a && b) ≡ true → (a ≡ true) × (b ≡ true)
both true b h = (refl, h)
both false b h = absurd cc

-- ---- what a step of a chain gave

chain_ok : {A B : Type 0} (r : Result A Fault) (next : A → Result B Fault) (y : B) → (r >>= next) ≡ Ok y → (x : A) × (r ≡ Ok x) × (next x ≡ Ok y)
chain_ok (Ok x) next y h = (x, refl, h)
chain_ok (Err fault) next y h = absurd cc

tested_ok : {A : Type 0} (b : Bool) (fault : Fault) (x y : A) → cond b (Ok x) (Err fault) ≡ Ok y → (b ≡ true) × (x ≡ y)
tested_ok true fault x y h = (refl, cc)
tested_ok false fault x y h = absurd cc

some_if : (b : Bool) (n : ℕ) → is_some (cond b (Some n) None) ≡ true → b ≡ true
some_if true n h = refl
some_if false n h = absurd cc

-- ---- a cut text is its parts with a space between

is_space-space : (c : ℕ) → is_space c ≡ true → c ≡ space
is_space-space c h = grind (arith, nat_tests)

cut-text : (text : List ℕ) (parts : List ℕ × List ℕ) → cut text ≡ Ok parts → text ≡ parts.0 ++ space ∷ parts.1
cut-text text parts h =
    let place : ℕ = position_or_len is_space text in
    let found = tested_ok (is_some (position is_space text)) SerializationException (before_first is_space text, after_first is_space text) parts h in
    let inside : nat_lt place (length text) ≡ true = some_if (nat_lt place (length text)) place found.0 in
    let within : place < length text = grind (arith, nat_tests) in
    let here : get_or text place 0 ≡ space = is_space-space _ (passes_at_first is_space text 0 within) in
    split_at_first is_space text 0 within ∙ ap (λ (c : ℕ). before_first is_space text ++ c ∷ after_first is_space text) here
    ∙ ap (λ (p : List ℕ × List ℕ). p.0 ++ space ∷ p.1) found.1

pub input_line_of-form : (line : List ℕ) (parts : LineParts) → input_line_of line ≡ Ok parts → IsInputLine line parts
input_line_of-form line parts h =
    let first = chain_ok (cut line) _ parts h in
    let second = chain_ok (cut first.0.1) _ parts first.2 in
    let third = chain_ok (moment_read first.0.0) _ parts second.2 in
    let fourth = chain_ok (action_of second.0.0) _ parts third.2 in
    let action = tested_ok (is_action second.0.0) SerializationException second.0.0 fourth.0 fourth.1 in
    let given : LineParts = record { at = third.0; action = fourth.0; body = second.0.1 } in
    let is : given ≡ parts = (tested_ok true SerializationException given parts fourth.2).1 in
    let form : IsInputLine line given = record {
      digits = first.0.0;
      text = cut-text line first.0 first.1 ∙ ap (λ (rest : List ℕ). first.0.0 ++ space ∷ rest) (cut-text first.0.1 second.0 second.1)
          ∙ ap (λ (letters : List ℕ). first.0.0 ++ space ∷ (letters ++ space ∷ second.0.1)) action.1;
      moment = third.1;
      action = ap is_action (sym action.1) ∙ action.0;
    } in
    let P : LineParts → Type 0 = λ p. IsInputLine line p in
    subst P is form

-- ---- parts with a space between are cut there

position_or_len-seam : (test : ℕ → Bool) → ((c : ℕ) → test c ≡ true → is_space c ≡ false) → (front rest : List ℕ) → list_all test front ≡ true
    → position_or_len is_space (front ++ space ∷ rest) ≡ length front
position_or_len-seam test apart [] rest h = refl
position_or_len-seam test apart (c ∷ front) rest h =
    let here = both (test c) (list_all test front) h in
    rw (apart c here.0, position_or_len-seam test apart front rest here.1) (omega arith)

cut-seam : (test : ℕ → Bool) → ((c : ℕ) → test c ≡ true → is_space c ≡ false) → (front rest : List ℕ) → list_all test front ≡ true
    → cut (front ++ space ∷ rest) ≡ Ok (front, rest)
cut-seam test apart front rest h =
    let seam : position_or_len is_space (front ++ space ∷ rest) ≡ length front = position_or_len-seam test apart front rest h in
    let size : length (front ++ space ∷ rest) ≡ length front + length (space ∷ rest) = length-append front (space ∷ rest) in
    let within : length front < length (front ++ space ∷ rest) = omega (arith, size) in
    let inside : nat_lt (length front) (length (front ++ space ∷ rest)) ≡ true = grind (arith, nat_tests) in
    let before : take (length front) (front ++ space ∷ rest) ≡ front = take_at front (space ∷ rest) (length front) refl in
    let after : drop (length front + 1) (front ++ space ∷ rest) ≡ rest =
    ap (λ (text : List ℕ). drop (length front + 1) text) (sym (append_assoc front (space ∷ []) rest))
    ∙ drop_at (front ++ space ∷ []) rest (length front + 1) (length-append front (space ∷ [])) in
    rw (seam, inside, before, after)

digit_apart : (c : ℕ) → is_ascii_digit c ≡ true → is_space c ≡ false
digit_apart c h = grind (arith, nat_tests)

letter_apart : (c : ℕ) → is_letter c ≡ true → is_space c ≡ false
letter_apart c h = grind (arith, nat_tests)

digits_alone : (b : Bool) (n m : ℕ) → within_moments (cond b (Some n) None) ≡ Ok m → b ≡ true
digits_alone true n m h = refl
digits_alone false n m h = absurd cc

moment_digits : (text : List ℕ) (m : ℕ) → moment_read text ≡ Ok m → list_all is_ascii_digit text ≡ true
moment_digits text m h =
    let test = digits_alone (nat_le 1 (length text) && nat_le (length text) 19 && list_all is_ascii_digit text) _ m h in
    (both (nat_le 1 (length text) && nat_le (length text) 19) (list_all is_ascii_digit text) test).1

action_letters : (text : List ℕ) → is_action text ≡ true → list_all is_letter text ≡ true
action_letters text h = (both (nat_le 1 (length text) && nat_le (length text) 64) (list_all is_letter text) h).1

pub input_line_of-reads : (line : List ℕ) (parts : LineParts) → IsInputLine line parts → input_line_of line ≡ Ok parts
input_line_of-reads line parts is =
    let digits = cut-seam is_ascii_digit digit_apart is.digits (parts.action ++ space ∷ parts.body) (moment_digits is.digits parts.at is.moment) in
    let letters = cut-seam is_letter letter_apart parts.action parts.body (action_letters parts.action is.action) in
    rw (is.text, digits, letters, is.moment, is.action)
