-- What stands after the start and after the colons of an ARN, and that the name found there is the one of its spelling.
use Rattle.std.proofs.Common.{Bor, ◌≡◌, ◌≢◌, ℕ, ◌+◌, ◌<◌, ◌==◌, Bool, true, false, IsTrue, List, [], ◌∷◌, ◌++◌, length, drop, get_or, Option, Some, None, IfSome, option_map, Ok, Err, nat_eq, refl, ap, sym, subst, ◌∙◌, arith, length-append, length-drop}
use Rattle.std.specs.Prelude.{if◌then◌else◌}
use Rattle.std.specs.List.{starts_with, position_or_len, before_first, after_first}
use Rattle.std.specs.Option.{MatchOption}
use Rattle.std.specs.Result.{result_ok}
use Rattle.std.specs.Str.Pattern.{FindsTextPrefix, StripsPrefix}
use Rattle.std.proofs.lemmas.Bool.{false≢true, false_from_ne_true, leb-true, and_parts}
use Rattle.std.proofs.lemmas.Bool.Decides.{Decides-eqb}
use Rattle.std.proofs.lemmas.List.{append_assoc, drop_at, get_or_append_left, get_or-take, length-take-le}
use Rattle.std.proofs.lemmas.List.Sums.{position_or_len_is, split_at_first, fails_before_first, passes_at_first}
use Rattle.std.proofs.lemmas.Slice.Eq.{starts_is}
use Rattle.std.proofs.Math.Seq.{get_or-append_seam}
use Rattle.message.specs.Name.{is_queue_name, queue_name_of}
use Rattle.message.specs.declared.fault.Fault.{Fault}
use Rattle.queue_config.specs.Policy.{◌>>=◌, arn_start, after_start, after_colon, colon, name_in_arn}
use Rattle.queue_config.specs.private.Policy.{HasNoColon, IsArn}

-- what `strip_prefix` says at this text
pub stripped : (text : List ℕ) (r : Option (Bor (List ℕ))) → MatchOption r (FindsTextPrefix arn_start text None) (λ x. StripsPrefix (FindsTextPrefix arn_start) text x.now)
    → option_map (λ s. s.now) r ≡ after_start text
stripped text None h =
    let other : starts_with nat_eq text arn_start ≡ false = false_from_ne_true _ (λ t. h _ ((starts_is Decides-eqb text arn_start _ refl).0 t)) in
    rw other refl
stripped text (Some x) h =
    let begins : starts_with nat_eq text arn_start ≡ true = (starts_is Decides-eqb text arn_start _ refl).1 _ h.1.1 in
    rw begins (ap Some (h.2 ∙ ap (λ (n : ℕ). drop n text) h.1.0))

-- ---- colons

abbrev is_colon : ℕ → Bool
is_colon c = c == colon

is_colon-true : (c : ℕ) → is_colon c ≡ true → c ≡ colon
is_colon-true c h = (Decides-eqb c colon).0 h

is_colon-false : (c : ℕ) → c ≢ colon → is_colon c ≡ false
is_colon-false c h = false_from_ne_true (is_colon c) (λ t. h (is_colon-true c t))

-- what is left after a colon, if anything is, stands after the first one
before_colon : (text : List ℕ) → 0 < length (after_colon text) → (front : List ℕ) × HasNoColon front × (text ≡ front ++ colon ∷ after_colon text)
before_colon text some =
    let place : position_or_len is_colon text < length text = omega (arith, length-drop (position_or_len is_colon text + 1) text) in
    let split : text ≡ before_first is_colon text ++ (get_or text (position_or_len is_colon text) 0 ∷ after_first is_colon text) = split_at_first is_colon text 0 place in
    let here : get_or text (position_or_len is_colon text) 0 ≡ colon = is_colon-true _ (passes_at_first is_colon text 0 place) in
    let none : HasNoColon (before_first is_colon text) = λ k d within e.
    let before : k < position_or_len is_colon text = omega (arith, length-take-le (position_or_len is_colon text) text) in
    let here : get_or text k d ≡ colon = sym (get_or-take (position_or_len is_colon text) text k d before) ∙ e in
    absurd (false≢true (sym (fails_before_first is_colon text k d before) ∙ (Decides-eqb (get_or text k d) colon).1 here)) in
    (before_first is_colon text, none, split ∙ ap (λ (c : ℕ). before_first is_colon text ++ c ∷ after_colon text) here)

after_colon-front : (front rest : List ℕ) → HasNoColon front → after_colon (front ++ colon ∷ rest) ≡ rest
after_colon-front front rest none =
    let other : (k : ℕ) → k < length front → is_colon (get_or (front ++ colon ∷ rest) k 0) ≡ false = λ k within.
    is_colon-false (get_or (front ++ colon ∷ rest) k 0) (λ e. none k 0 within (sym (get_or_append_left front (colon ∷ rest) 0 k within) ∙ e)) in
    let here : is_colon (get_or (front ++ colon ∷ rest) (length front) 0) ≡ true = (Decides-eqb _ colon).1 (get_or-append_seam front colon rest 0) in
    let place : position_or_len is_colon (front ++ colon ∷ rest) ≡ length front =
    position_or_len_is is_colon (front ++ colon ∷ rest) (length front) 0 (omega (arith, length-append front (colon ∷ rest))) other (λ l. here) in
    let apart : front ++ colon ∷ rest ≡ (front ++ colon ∷ []) ++ rest = sym (append_assoc front (colon ∷ []) rest) in
    ap (λ (n : ℕ). drop (n + 1) (front ++ colon ∷ rest)) place ∙ ap (drop (length front + 1)) apart
    ∙ drop_at (front ++ colon ∷ []) rest (length front + 1) (length-append front (colon ∷ []))

-- ---- the name

is_some_text : (text : List ℕ) → IsTrue (is_queue_name text) → 0 < length text
is_some_text text h = leb-true 1 (length text) (and_parts _ _ (and_parts _ _ h).0).0

named-test : (b : Bool) (text name : List ℕ) (fault : Fault) → result_ok (if b then Ok text else Err fault) ≡ Some name → (b ≡ true) × (text ≡ name)
named-test true text name fault h = (refl, cc)
named-test false text name fault h = absurd cc

named : (text name : List ℕ) → result_ok (queue_name_of text) ≡ Some name → IsTrue (is_queue_name name) × (text ≡ name)
named text name h =
    let parts = named-test (is_queue_name text) text name _ h in
    (subst (λ (t : List ℕ). IsTrue (is_queue_name t)) parts.1 parts.0, parts.1)

started-test : (b : Bool) (text rest : List ℕ) → (if b then Some text else None) ≡ Some rest → (b ≡ true) × (text ≡ rest)
started-test true text rest h = (refl, cc)
started-test false text rest h = absurd cc

started : (text rest : List ℕ) → after_start text ≡ Some rest → text ≡ arn_start ++ rest
started text rest h =
    let parts = started-test (starts_with nat_eq text arn_start) (drop (length arn_start) text) rest h in
    (starts_is Decides-eqb text arn_start _ refl).0 parts.0 ∙ ap (λ (t : List ℕ). arn_start ++ t) parts.1

after_start-rest : (text rest : List ℕ) → text ≡ arn_start ++ rest → after_start text ≡ Some rest
after_start-rest text rest h =
    let begins : starts_with nat_eq text arn_start ≡ true = (starts_is Decides-eqb text arn_start _ refl).1 rest h in
    rw begins (ap Some (ap (drop (length arn_start)) h ∙ drop_at arn_start rest (length arn_start) refl))

some_step : (o : Option (List ℕ)) (next : List ℕ → Option (List ℕ)) (y : List ℕ) → (o >>= next) ≡ Some y → (x : List ℕ) × (o ≡ Some x) × (next x ≡ Some y)
some_step (Some x) next y h = (x, refl, h)
some_step None next y h = absurd cc

joined : (text rest after last region account name : List ℕ) → text ≡ arn_start ++ rest → rest ≡ region ++ colon ∷ after → after ≡ account ++ colon ∷ last → last ≡ name
    → text ≡ arn_start ++ (region ++ colon ∷ (account ++ colon ∷ name))
joined text rest after last region account name one two three four =
    one ∙ ap (λ (t : List ℕ). arn_start ++ t) (two ∙ ap (λ (t : List ℕ). region ++ colon ∷ t) (three ∙ ap (λ (t : List ℕ). account ++ colon ∷ t) four))

longer : (after account last : List ℕ) → after ≡ account ++ colon ∷ last → 0 < length after
longer after account last h = omega (arith, ap length h, length-append account (colon ∷ last))

spelled-rest : (text rest name : List ℕ) → text ≡ arn_start ++ rest → IsTrue (is_queue_name name) → after_colon (after_colon rest) ≡ name
    → (region account : List ℕ) × IsArn text region account name
spelled-rest text rest name start is_name last =
    let some : 0 < length (after_colon (after_colon rest)) = is_some_text _ (subst (λ (t : List ℕ). IsTrue (is_queue_name t)) (sym last) is_name) in
    let account = before_colon (after_colon rest) some in
    let region = before_colon rest (longer (after_colon rest) account.0 (after_colon (after_colon rest)) account.2) in
    let spelling = joined text rest (after_colon rest) (after_colon (after_colon rest)) region.0 account.0 name start region.2 account.2 last in
    (region.0, account.0, record { spelling = spelling; in_region = region.1; in_account = account.1; is_name = is_name })

-- a name that is found is the one of the spelling
spelled : (text name : List ℕ) → name_in_arn text ≡ Some name → (region account : List ℕ) × IsArn text region account name
spelled text name h =
    let step = some_step (after_start text) _ name h in
    let parts = named (after_colon (after_colon step.0)) name step.2 in
    spelled-rest text step.0 name (started text step.0 step.1) parts.0 parts.1

-- a name that is spelled is found
pub found : (text region account name : List ℕ) → IsArn text region account name → name_in_arn text ≡ Some name
found text region account name h =
    let start : after_start text ≡ Some (region ++ colon ∷ (account ++ colon ∷ name)) = after_start-rest text _ h.spelling in
    let last : after_colon (after_colon (region ++ colon ∷ (account ++ colon ∷ name))) ≡ name =
    ap after_colon (after_colon-front region (account ++ colon ∷ name) h.in_region) ∙ after_colon-front account name h.in_account in
    let is_name : is_queue_name name ≡ true = h.is_name in
    ap (λ (o : Option (List ℕ)). o >>= λ rest. result_ok (queue_name_of (after_colon (after_colon rest)))) start
    ∙ ap (λ (t : List ℕ). result_ok (queue_name_of t)) last ∙ rw is_name refl

-- the same of a result that is this name
pub spelled-result : (text : List ℕ) (r : Option (List ℕ)) → r ≡ name_in_arn text → IfSome r (λ name. (region account : List ℕ) × IsArn text region account name)
spelled-result text None h = tt
spelled-result text (Some name) h = spelled text name (sym h)
