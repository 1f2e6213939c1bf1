-- What the server of the tests answers: how many lines it answered before, and how long this one is. The two laws are members of its impl, which may cite
-- specs/ alone, so they stand here and not in proofs/.
use Rattle.std.specs.Prelude.{◌≡◌, ℕ, ◌+◌, ◌-◌, ◌^◌, ◌<◌, min, Bool, nat_lt, if◌then◌else◌, List, [], ◌∷◌, ◌++◌, length, codes}
use Rattle.std.specs.Fmt.{decimal}
use Rattle.std.proofs.Common.{sym, ap, ◌∙◌}
use Rattle.std.proofs.lemmas.Bool.{lt-ltb}
use Rattle.sqs_replay.specs.Cutting.{longest_line}

-- the count, a space, the length and a line feed
abbrev pub toy_text : ℕ → List ℕ → List ℕ
toy_text count line = if nat_lt longest_line (length line) then codes "too long\n" else decimal count ++ 32 ∷ [] ++ decimal (length line) ++ 10 ∷ []

abbrev pub toy_count : ℕ → List ℕ → ℕ
toy_count count line = if nat_lt longest_line (length line) then count else min (count + 1) (2 ^ 64 - 1)

pub toy_text-beyond : (count : ℕ) (first second : List ℕ) → longest_line < length first → longest_line < length second
    → toy_text count first ≡ toy_text count second
toy_text-beyond count first second one two =
    ap (λ (b : Bool). if b then codes "too long\n" else decimal count ++ 32 ∷ [] ++ decimal (length first) ++ 10 ∷ []) (lt-ltb longest_line (length first) one)
    ∙ sym (ap (λ (b : Bool). if b then codes "too long\n" else decimal count ++ 32 ∷ [] ++ decimal (length second) ++ 10 ∷ [])
    (lt-ltb longest_line (length second) two))

pub toy_count-beyond : (count : ℕ) (first second : List ℕ) → longest_line < length first → longest_line < length second
    → toy_count count first ≡ toy_count count second
toy_count-beyond count first second one two =
    ap (λ (b : Bool). if b then count else min (count + 1) (2 ^ 64 - 1)) (lt-ltb longest_line (length first) one)
    ∙ sym (ap (λ (b : Bool). if b then count else min (count + 1) (2 ^ 64 - 1)) (lt-ltb longest_line (length second) two))
