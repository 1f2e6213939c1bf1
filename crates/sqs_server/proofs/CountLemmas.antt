-- Numbers that are told one after another.
use Rattle.std.proofs.Common.{◌≡◌, ℕ, ◌+◌, List, [], ◌∷◌, ◌++◌, length, length-append, ap, sym, ◌∙◌, arith, rules, append_assoc}
use Rattle.sqs_server.specs.Counts.{told_at, told_from}

-- one number more at the end
pub told-more : (place : ℕ) (counts : List ℕ) (count : ℕ) →
    told_from place (counts ++ count ∷ []) ≡ told_from place counts ++ told_at (place + length counts) count
told-more place [] count = search rules
told-more place (first ∷ counts) count =
    ap (λ rows. told_at place first ++ rows) (told-more (place + 1) counts count)
    ∙ sym (append_assoc (told_at place first) (told_from (place + 1) counts) (told_at (place + 1 + length counts) count))
    ∙ ap (λ p. (told_at place first ++ told_from (place + 1) counts) ++ told_at p count) (omega arith)

-- what is told of some numbers that are as many as a place, and of one more
pub told-next : (place count : ℕ) (before now : List (List ℕ × (ℕ × ℕ))) →
    ((counts : List ℕ) × (length counts ≡ place) × (before ≡ told_from 0 counts)) → now ≡ before ++ told_at place count →
    (counts : List ℕ) × (length counts ≡ place + 1) × (now ≡ told_from 0 counts)
told-next place count before now (counts, long, same) more =
    let longer : length (counts ++ count ∷ []) ≡ place + 1 = length-append counts (count ∷ []) ∙ ap (λ n. n + 1) long in
    let short : place ≡ 0 + length counts = omega (arith, long) in
    let all : now ≡ told_from 0 (counts ++ count ∷ []) =
    more ∙ ap (λ rows. rows ++ told_at place count) same ∙ ap (λ p. told_from 0 counts ++ told_at p count) short ∙ sym (told-more 0 counts count) in
    (counts ++ count ∷ [], longer, all)
