-- How many of the numbers below a count pass a test.
use Rattle.std.proofs.Common.{◌≡◌, ℕ, zero, suc, ◌+◌, ◌<◌, ◌≤◌, Bool, true, false, ◌&&◌, ◌||◌, ◌==◌, nat_eq, inl, inr, List, [], ◌∷◌, count_by, length, get_or, refl, ap, ◌∙◌, arith}
use Rattle.std.specs.List.{range_with_len, All, AllPairs}
use Rattle.std.proofs.lemmas.Bool.{cases_eq}
use Rattle.std.proofs.lemmas.Bool.Decides.{nat_tests}
use Rattle.std.proofs.lemmas.List.Elements.{All-head, All-tail}
use Rattle.std.proofs.lemmas.List.Sums.{sum_by-cons, get_or-le-sum_by, count_by-le-length}
use Rattle.std.proofs.lemmas.List.FromFn.{length-range_with_len, get_or-range_with_len}
use Rattle.queue_core.specs.Messages.{contains_number}
use Rattle.queue_core.specs.private.Slots.{one_if}
use Rattle.queue_core.proofs.CauseLemmas.{AllPairs-head, AllPairs-tail}

-- the numbers from a start on

count-first : (p : ℕ → Bool) (start count : ℕ) → count_by p (range_with_len start (suc count)) ≡ one_if (p start) + count_by p (range_with_len (start + 1) count)
count-first p start count = sum_by-cons (λ n. one_if (p n)) start (range_with_len (start + 1) count)

count_same : (p q : ℕ → Bool) (start count : ℕ) → ((n : ℕ) → start ≤ n → q n ≡ p n) → count_by q (range_with_len start count) ≡ count_by p (range_with_len start count)
count_same p q start zero same = refl
count_same p q start (suc count) same =
    let first : one_if (q start) ≡ one_if (p start) = ap one_if (same start (omega arith)) in
    let rest : count_by q (range_with_len (start + 1) count) ≡ count_by p (range_with_len (start + 1) count) = count_same p q (start + 1) count (λ n h. same n (omega arith)) in
    omega (arith, count-first p start count, count-first q start count)

-- two tests that differ at one of the numbers at most
count_changed_from : (p q : ℕ → Bool) (number start count : ℕ) → start ≤ number → number < start + count → ((n : ℕ) → (n ≡ number → ⊥) → q n ≡ p n)
    → count_by q (range_with_len start count) + one_if (p number) ≡ count_by p (range_with_len start count) + one_if (q number)
count_changed_from p q number start zero from below same = absurd (omega arith)
count_changed_from p q number start (suc count) from below same = elim (cases_eq start number) [
  | inl e ↦
      let at_p : one_if (p start) ≡ one_if (p number) = ap (λ n. one_if (p n)) e in
      let at_q : one_if (q start) ≡ one_if (q number) = ap (λ n. one_if (q n)) e in
      let rest : count_by q (range_with_len (start + 1) count) ≡ count_by p (range_with_len (start + 1) count) = count_same p q (start + 1) count (λ n h. same n (λ f. omega arith)) in
      omega (arith, count-first p start count, count-first q start count)
  | inr n ↦
      let first : one_if (q start) ≡ one_if (p start) = ap one_if (same start n) in
      let rest : count_by q (range_with_len (start + 1) count) + one_if (p number) ≡ count_by p (range_with_len (start + 1) count) + one_if (q number) =
      count_changed_from p q number (start + 1) count (omega arith) (omega arith) same in
      omega (arith, count-first p start count, count-first q start count)
]

count_push : (p : ℕ → Bool) (start count : ℕ) → count_by p (range_with_len start (suc count)) ≡ count_by p (range_with_len start count) + one_if (p (start + count))
count_push p start zero =
    let e : start + 0 ≡ start = omega arith in
    let at : one_if (p (start + 0)) ≡ one_if (p start) = ap (λ n. one_if (p n)) e in
    omega arith
count_push p start (suc count) =
    let e : start + 1 + count ≡ start + suc count = omega arith in
    let at : one_if (p (start + 1 + count)) ≡ one_if (p (start + suc count)) = ap (λ n. one_if (p n)) e in
    omega (arith, count-first p start (suc count), count-first p start count, count_push p (start + 1) count)

-- the numbers below a count

pub count_changed : (p q : ℕ → Bool) (number count : ℕ) → number < count → ((n : ℕ) → (n ≡ number → ⊥) → q n ≡ p n)
    → count_by q (range_with_len 0 count) + one_if (p number) ≡ count_by p (range_with_len 0 count) + one_if (q number)
count_changed p q number count h same = count_changed_from p q number 0 count (omega arith) (omega arith) same

pub count_more : (p : ℕ → Bool) (count : ℕ) → count_by p (range_with_len 0 (count + 1)) ≡ count_by p (range_with_len 0 count) + one_if (p count)
count_more p count =
    let next : count + 1 ≡ suc count = omega arith in
    let last : 0 + count ≡ count = omega arith in
    ap (λ n. count_by p (range_with_len 0 n)) next ∙ count_push p 0 count ∙ ap (λ n. count_by p (range_with_len 0 count) + one_if (p n)) last

pub count_has : (p : ℕ → Bool) (number count : ℕ) → number < count → one_if (p number) ≤ count_by p (range_with_len 0 count)
count_has p number count h =
    let all : length (range_with_len 0 count) ≡ count = length-range_with_len 0 count in
    let zeroth : 0 + number ≡ number = omega arith in
    let at : one_if (p (get_or (range_with_len 0 count) number 0)) ≡ one_if (p number) = ap (λ n. one_if (p n)) (get_or-range_with_len 0 count number 0 h ∙ zeroth) in
    let within : one_if (p (get_or (range_with_len 0 count) number 0)) ≤ count_by p (range_with_len 0 count) = get_or-le-sum_by (λ n. one_if (p n)) (range_with_len 0 count) number 0 (omega arith) in
    omega arith

pub count_upto : (p : ℕ → Bool) (count : ℕ) → count_by p (range_with_len 0 count) ≤ count
count_upto p count = omega (arith, count_by-le-length p (range_with_len 0 count), length-range_with_len 0 count)

-- four tests of which each number passes at most one, and then a fifth
pub count_parts : (p q r s t : ℕ → Bool) (xs : List ℕ) → ((n : ℕ) → one_if (p n) + one_if (q n) + one_if (r n) + one_if (s n) ≤ one_if (t n))
    → count_by p xs + count_by q xs + count_by r xs + count_by s xs ≤ count_by t xs
count_parts p q r s t [] parts = omega arith
count_parts p q r s t (x ∷ xs) parts =
    let rest : count_by p xs + count_by q xs + count_by r xs + count_by s xs ≤ count_by t xs = count_parts p q r s t xs parts in
    let first : one_if (p x) + one_if (q x) + one_if (r x) + one_if (s x) ≤ one_if (t x) = parts x in
    omega (arith, sum_by-cons (λ n. one_if (p n)) x xs, sum_by-cons (λ n. one_if (q n)) x xs, sum_by-cons (λ n. one_if (r n)) x xs, sum_by-cons (λ n. one_if (s n)) x xs, sum_by-cons (λ n. one_if (t n)) x xs)

-- the numbers of a list in which each stands once

pub count_agree : (p q : ℕ → Bool) (count : ℕ) → ((n : ℕ) → q n ≡ p n) → count_by q (range_with_len 0 count) ≡ count_by p (range_with_len 0 count)
count_agree p q count same = count_same p q 0 count (λ n h. same n)

count_none : (p : ℕ → Bool) (start count : ℕ) → ((n : ℕ) → p n ≡ false) → count_by p (range_with_len start count) ≡ 0
count_none p start zero none = refl
count_none p start (suc count) none =
    let first : one_if (p start) ≡ 0 = ap one_if (none start) in
    omega (arith, count-first p start count, count_none p (start + 1) count none)

other : (a b : ℕ) → nat_eq a b ≡ false → (b == a) ≡ false
other a b h = grind (arith, nat_tests)

itself : (a : ℕ) → (a == a) ≡ true
itself a = grind (arith, nat_tests)

apart : (a b : ℕ) → (b ≡ a → ⊥) → (a == b) ≡ false
apart a b h = grind (arith, nat_tests)

or_last : (b : Bool) → (b || true) ≡ true
or_last true = refl
or_last false = refl

lacks : (x : ℕ) (xs : List ℕ) → All (λ y. nat_eq x y ≡ false) xs → contains_number x xs ≡ false
lacks x [] h = refl
lacks x (y ∷ ys) h = ap (λ b. b || contains_number x ys) (other x y (All-head (λ y. nat_eq x y ≡ false) y ys h)) ∙ lacks x ys (All-tail (λ y. nat_eq x y ≡ false) y ys h)

-- those that pass a test are as many as the numbers below a count that stand in the list and pass it
pub count_members : (p : ℕ → Bool) (xs : List ℕ) (count : ℕ) → AllPairs (λ a b. nat_eq a b ≡ false) xs → ((n : ℕ) → contains_number n xs ≡ true → n < count)
    → count_by (λ n. contains_number n xs && p n) (range_with_len 0 count) ≡ count_by p xs
count_members p [] count once below = count_none (λ n. false) 0 count (λ n. refl)
count_members p (x ∷ xs) count once below =
    let here : contains_number x (x ∷ xs) ≡ true = ap (λ b. b || contains_number x xs) (itself x) in
    let later : (n : ℕ) → contains_number n xs ≡ true → n < count = λ n h. below n (ap (λ b. (x == n) || b) h ∙ or_last (x == n)) in
    let rest = count_members p xs count (AllPairs-tail (λ a b. nat_eq a b ≡ false) x xs once) later in
    let changed =
    count_changed (λ n. contains_number n xs && p n) (λ n. contains_number n (x ∷ xs) && p n) x count (below x here) (λ n h. ap (λ b. (b || contains_number n xs) && p n) (apart x n h)) in
    let before : one_if (contains_number x xs && p x) ≡ 0 = ap (λ b. one_if (b && p x)) (lacks x xs (AllPairs-head (λ a b. nat_eq a b ≡ false) x xs once)) in
    let after : one_if (contains_number x (x ∷ xs) && p x) ≡ one_if (p x) = ap (λ b. one_if (b && p x)) here in
    omega (arith, changed, rest, before, after, sum_by-cons (λ n. one_if (p n)) x xs)
