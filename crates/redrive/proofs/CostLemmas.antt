-- What a call of the registry may cost.
use Rattle.std.proofs.Common.{◌≡◌, ℕ, ◌+◌, ◌<◌, ◌≤◌, List, ◌++◌, length, get_or, map, take, drop, Option, sym, ap, subst, ◌∙◌, arith}
use Rattle.std.specs.Prelude.{slice_get, IfSome}
use Rattle.std.proofs.lemmas.Option.{slice_get-get_or}
use Rattle.std.proofs.lemmas.List.Sums.{sum_by_more}
use Rattle.queue_core.specs.Queue.{QueueHistory, at_moment}
use Rattle.queue_core.specs.Cost.{most_ticks}
use Rattle.redrive.specs.House.{House}
use Rattle.redrive.specs.Cost.{moment_ticks}
use Rattle.redrive.proofs.RegistryLemmas.{item-next}

-- one queue more is looked at
pub looked-next : (at : ℕ) (qs now : List QueueHistory) (i : ℕ) (item new : QueueHistory) (begun spent spent' : ℕ) → now ≡ map (λ q. at_moment q at) (take i qs) ++ drop i qs → i < length qs
    → item ≡ get_or now i item → new ≡ at_moment item at → spent ≤ begun + moment_ticks at (take i qs) → spent' ≤ spent + most_ticks (get_or now i item) new → spent' ≤ begun + moment_ticks at (take (i + 1) qs)
looked-next at qs now i item new begun spent spent' is l read changed so_far more =
    let same : item ≡ get_or qs i item = item-next (λ q. at_moment q at) qs now i item is l read in
    let one : most_ticks (get_or now i item) new ≡ most_ticks (get_or qs i item) (at_moment (get_or qs i item) at) =
    ap (λ (q : QueueHistory). most_ticks q new) (sym read) ∙ (ap (λ (r : QueueHistory). most_ticks item r) changed ∙ ap (λ (q : QueueHistory). most_ticks q (at_moment q at)) same) in
    let all : moment_ticks at (take (i + 1) qs) ≡ moment_ticks at (take i qs) + most_ticks (get_or qs i item) (at_moment (get_or qs i item) at) =
    sum_by_more (λ q. most_ticks q (at_moment q at)) qs i item l in
    within spent spent' begun (moment_ticks at (take i qs)) (most_ticks (get_or now i item) new) (most_ticks (get_or qs i item) (at_moment (get_or qs i item) at)) (moment_ticks at (take (i + 1) qs)) so_far more one all
  where
    within : (spent spent' begun a b b' c : ℕ) → spent ≤ begun + a → spent' ≤ spent + b → b ≡ b' → c ≡ a + b' → spent' ≤ begun + c
    within spent spent' begun a b b' c h k same all = omega arith

-- what is so of the queue at a place
pub at-place : {w x : House} (place : ℕ) (q : QueueHistory) (P : QueueHistory → Type 0) → w ≡ x → place < length x.queues → q ≡ get_or w.queues place q → P q → IfSome (slice_get x.queues place) P
at-place {w} {x} place q P same l is h =
    let within : place < length w.queues = subst (λ (w : House). place < length w.queues) (sym same) l in
    subst (λ (w : House). IfSome (slice_get w.queues place) P) same
    (subst (λ (o : Option QueueHistory). IfSome o P) (sym (slice_get-get_or w.queues place q within)) (subst P is h))

-- the queue at a place is changed
pub done-at : {w x : House} (place : ℕ) (q new : QueueHistory) (change : QueueHistory → QueueHistory) (ticks ticks' : ℕ) → w ≡ x → place < length x.queues → q ≡ get_or w.queues place q → new ≡ change q
    → ticks' ≤ ticks + most_ticks q new → IfSome (slice_get x.queues place) (λ q. ticks' ≤ ticks + most_ticks q (change q))
done-at {w} {x} place q new change ticks ticks' same l is changed cost =
    at-place place q (λ q. ticks' ≤ ticks + most_ticks q (change q)) same l is (subst (λ (r : QueueHistory). ticks' ≤ ticks + most_ticks q r) changed cost)
