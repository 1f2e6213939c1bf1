-- What the tests of names and types find in a text.
use Rattle.std.proofs.Common.{◌≡◌, ℕ, suc, ◌+◌, ◌<◌, Bool, true, false, ◌&&◌, ◌||◌, nat_eq, nat_lt, List, [], ◌∷◌, ◌++◌, map, min, length, take, drop, get_or, codes, ◌↔◌, IsTrue, refl, sym, ap, ◌∙◌, arith}
use Rattle.std.specs.Char.{to_ascii_lowercase}
use Rattle.std.specs.Cmp.Lexicographic.{pointwise}
use Rattle.std.specs.Str.{bytes_eq}
use Rattle.std.proofs.lemmas.List.{at_drop_more, take_min, take-append-drop}
use Rattle.std.proofs.lemmas.Bool.Decides.{nat_tests, same_from_decides}
use Rattle.std.proofs.lemmas.Slice.Eq.{bytes_eq-Decides}
use Rattle.message.specs.Attribute.{full_stop, has_two_stops, begins_in_any_case, is_of_type}

-- ---- full stops

-- whether two full stops stand side by side in a text, or one first in it where one stands before it
abbrev pub two_stops_after : Bool → List ℕ → Bool
two_stops_after after [] = false
two_stops_after after (c ∷ rest) = (after && (nat_eq c full_stop)) || has_two_stops (c ∷ rest)

pub two_stops_after-first : (name : List ℕ) → has_two_stops name ≡ two_stops_after false name
two_stops_after-first [] = refl
two_stops_after-first (c ∷ rest) = refl

two_stops_after-cons : (after : Bool) (c : ℕ) (rest : List ℕ) → two_stops_after after (c ∷ rest) ≡ ((after && nat_eq c full_stop) || two_stops_after (nat_eq c full_stop) rest)
two_stops_after-cons after c [] = refl
two_stops_after-cons after c (d ∷ rest) = refl

pub two_stops_after-more : (after : Bool) (name : List ℕ) (i d : ℕ) → i < length name
    → two_stops_after after (drop i name) ≡ ((after && nat_eq (get_or name i d) full_stop) || two_stops_after (nat_eq (get_or name i d) full_stop) (drop (i + 1) name))
two_stops_after-more after name i d h =
    at_drop_more (two_stops_after after) name i d h ∙ two_stops_after-cons after (get_or name i d) (drop (i + 1) name)

-- ---- the front of a name in any case

pub begins-from_test : (r : Bool) (prefix text : List ℕ)
    → (IsTrue r ↔ (map to_ascii_lowercase (take (min (length prefix) (length text)) text) ≡ map to_ascii_lowercase prefix)) → r ≡ begins_in_any_case prefix text
begins-from_test r prefix text h =
    let front = take_min (length prefix) text in
    let k = rw front at h in
    same_from_decides r (begins_in_any_case prefix text) k (bytes_eq-Decides (map to_ascii_lowercase (take (length prefix) text)) (map to_ascii_lowercase prefix))

-- ---- words of types

-- what may follow the word of a type
abbrev pub is_label : List ℕ → Bool
is_label rest = nat_eq (length rest) 0 || (nat_lt 1 (length rest) && nat_eq (get_or rest 0 0) full_stop)

eqb-same : (n : ℕ) → nat_eq n n ≡ true
eqb-same n = grind (arith, nat_tests)

eqb-swap : (m n : ℕ) → nat_eq m n ≡ nat_eq n m
eqb-swap m n = grind (arith, nat_tests)

lt-more : (m n : ℕ) → nat_lt (suc m + 1) (suc n) ≡ nat_lt (m + 1) n
lt-more m n = grind (arith, nat_tests)

of_type-append : (word rest : List ℕ) → is_of_type word (word ++ rest) ≡ is_label rest
of_type-append [] [] = refl
of_type-append [] (c ∷ rest) = grind (arith, nat_tests)
of_type-append (w ∷ word) rest = rw (eqb-same w, lt-more (length word) (length (word ++ rest))) (of_type-append word rest)

of_type-front : (word kind : List ℕ) → pointwise nat_eq (take (length word) kind) word ≡ true → is_of_type word kind ≡ is_label (drop (length word) kind)
of_type-front word kind h =
    let front : take (length word) kind ≡ word = (bytes_eq-Decides (take (length word) kind) word).0 h in
    let whole : kind ≡ word ++ drop (length word) kind = sym (take-append-drop (length word) kind) ∙ ap (λ (xs : List ℕ). xs ++ drop (length word) kind) front in
    ap (is_of_type word) whole ∙ of_type-append word (drop (length word) kind)

-- a word with more than one byte after it
pub of_type-labelled : (word kind rest : List ℕ) → pointwise nat_eq (take (length word) kind) word ≡ true → rest ≡ drop (length word) kind → 1 < length rest
    → nat_eq (get_or rest 0 0) full_stop ≡ is_of_type word kind
of_type-labelled word kind rest h e long =
    let front : is_of_type word kind ≡ is_label rest = of_type-front word kind h ∙ ap is_label (sym e) in
    let more : nat_lt 1 (length rest) ≡ true = grind (arith, nat_tests) in
    let some : nat_eq (length rest) 0 ≡ false = grind (arith, nat_tests) in
    let label : is_label rest ≡ nat_eq (get_or rest 0 0) full_stop = rw (some, more) refl in
    sym (front ∙ label)

neither_way : (b p q r s : Bool) → (b && s) ≡ false → (s ≡ false → (p || (q && r)) ≡ false) → ((b && p) || ((b && q) && r)) ≡ false
neither_way true p q r s h f = f h
neither_way false p q r s h f = refl

pub of_type-other : (word kind : List ℕ) → pointwise nat_eq (take (length word) kind) word ≡ false → is_of_type word kind ≡ false
of_type-other [] kind h = absurd cc
of_type-other (w ∷ word) [] h = refl
of_type-other (w ∷ word) (c ∷ kind) h =
    rw (eqb-swap w c, lt-more (length word) (length kind))
    (neither_way (nat_eq c w) (bytes_eq kind word) (pointwise nat_eq (word ++ codes ".") (take (length (word ++ codes ".")) kind)) (nat_lt (length word + 1) (length kind)) (pointwise nat_eq (take (length word) kind) word) h (of_type-other word kind))
