-- Where a receive stops, without the steps that lead there. How many may leave by one receive is this project's own.
use Rattle.std.specs.Prelude.{◌≡◌, ◌<◌, ◌⊎◌, ℕ, not, filter, length, List, ◌∷◌, ◌++◌}
use Rattle.queue_core.specs.declared.facts.Candidate.{Candidate}
use Rattle.queue_core.specs.States.{receive_order}
use Rattle.queue_core.specs.Queue.{QueueHistory, offer_limit, is_exhausted}

-- how many of these messages may be received once more, so that a receive which comes to them offers them
abbrev pub offers_among : QueueHistory → List Candidate → ℕ
offers_among q candidates = length (filter (λ c. not (is_exhausted q c)) candidates)

-- how many of them were received as often as the policy allows, so that they leave
abbrev pub departures_among : QueueHistory → List Candidate → ℕ
departures_among q candidates = length (filter (λ c. is_exhausted q c) candidates)

-- a receive that asks for so many comes to the first of the visible messages, in order, and leaves the rest as they are: before each message
-- that it comes to it has fewer than it may offer, and fewer than 100 that leave; and it leaves a message as it is only where one of both is reached
pub record StopsBetween (q : QueueHistory) (maximum : ℕ) (come rest : List Candidate) : Type 0 where
  pub order : come ++ rest ≡ receive_order q.lines q.clock
  pub fewer_offers : (before after : List Candidate) (c : Candidate) → come ≡ before ++ c ∷ after → offers_among q before < offer_limit q maximum
  pub fewer_departures : (before after : List Candidate) (c : Candidate) → come ≡ before ++ c ∷ after → departures_among q before < 100
  pub enough : (after : List Candidate) (c : Candidate) → rest ≡ c ∷ after
      → (offers_among q come ≡ offer_limit q maximum) ⊎ (departures_among q come ≡ 100)
