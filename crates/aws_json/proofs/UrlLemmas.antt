-- The text after the last slash.
use Rattle.std.proofs.Common.{◌≡◌, ◌≢◌, ℕ, ◌+◌, ◌-◌, ◌<◌, ◌≤◌, ◌==◌, Bool, true, false, not, List, length, get_or, drop, ap, ◌∙◌, arith, length-drop}
use Rattle.std.specs.List.{suffix_len}
use Rattle.std.specs.Str.{NoCharPasses}
use Rattle.std.specs.Str.Pattern.{HasCharAt}
use Rattle.std.proofs.lemmas.Bool.Decides.{nat_tests}
use Rattle.std.proofs.lemmas.List.{get_or-drop}
use Rattle.std.proofs.lemmas.List.Sums.{suffix_len_is}
use Rattle.std.proofs.lemmas.Str.{len_utf8_ascii}
use Rattle.std.proofs.lemmas.Str.Pattern.{NoCharPasses-char}
use Rattle.aws_json.specs.Request.{name_part}

abbrev is_other : ℕ → Bool
is_other c = not (c == 47)

is_other-byte : (c : ℕ) → c ≢ 47 → is_other c ≡ true
is_other-byte c h = grind (arith, nat_tests)

is_other-slash : (c : ℕ) → c ≡ 47 → is_other c ≡ false
is_other-slash c h = grind (arith, nat_tests)

-- each byte from j on is another, where the text from there on has no slash
others_after : (url : List ℕ) (j : ℕ) → NoCharPasses (λ d. d == 47) (drop j url) → (k : ℕ) → j ≤ k → k < length url → is_other (get_or url k 0) ≡ true
others_after url j none k after inside =
    let place : j + (k - j) ≡ k = omega arith in
    let short : k - j < length (drop j url) = omega (arith, length-drop j url) in
    let apart : get_or (drop j url) (k - j) 0 ≢ 47 = NoCharPasses-char 47 (drop j url) (k - j) none (omega arith) short in
    let here : get_or (drop j url) (k - j) 0 ≡ get_or url k 0 = get_or-drop j url (k - j) 0 ∙ ap (λ (n : ℕ). get_or url n 0) place in
    is_other-byte (get_or url k 0) (λ e. apart (here ∙ e))

name_part-from : (url : List ℕ) (j : ℕ) → j ≤ length url → suffix_len is_other url ≡ length url - j → name_part url ≡ drop j url
name_part-from url j within e =
    let place : length url - (length url - j) ≡ j = omega arith in
    ap (λ (n : ℕ). drop (length url - n) url) e ∙ ap (λ (n : ℕ). drop n url) place

-- no slash at all
pub name_part-none : (url : List ℕ) → NoCharPasses (λ d. d == 47) url → name_part url ≡ url
name_part-none url none =
    let others : (k : ℕ) → 0 ≤ k → k < length url → is_other (get_or url k 0) ≡ true = others_after url 0 none in
    name_part-from url 0 (omega arith) (suffix_len_is is_other url 0 0 (omega arith) others (λ h. absurd (omega arith)))

-- the text after a slash, with no slash in it
pub name_part-after : (url : List ℕ) (i j : ℕ) → j ≤ length url → HasCharAt 47 url i j → NoCharPasses (λ d. d == 47) (drop j url) → name_part url ≡ drop j url
name_part-after url i j within at none =
    let ends : j - 1 ≡ i = omega (arith, at.ends, len_utf8_ascii 47 (omega arith)) in
    let slash : get_or url (j - 1) 0 ≡ 47 = ap (λ (n : ℕ). get_or url n 0) ends ∙ at.byte (omega arith) in
    name_part-from url j within (suffix_len_is is_other url j 0 within (others_after url j none) (λ h. is_other-slash _ slash))
