-- What a queue's index costs, said of the queue: as time passes, and behind an event.
use Rattle.std.proofs.Common.{◌≡◌, ℕ, ◌+◌, ◌*◌, max, refl, ap, ◌∙◌, arith}
use Rattle.std.specs.Prelude.{nat_eq}
use Rattle.indexmap.specs.IndexMap.{IsUnique}
use Rattle.message.specs.Content.{ContentText}
use Rattle.journal.specs.declared.entry.Event.{Event}
use Rattle.queue_core.specs.declared.index.MessageIndex.{MessageIndex}
use Rattle.queue_core.specs.Queue.{QueueHistory, at_moment, with_event, waiting_count}
use Rattle.queue_core.specs.private.Tally.{births}
use Rattle.queue_core.specs.private.Indexed.{IsIndexOf}
use Rattle.queue_core.specs.Standing.{StandsFor}
use Rattle.queue_core.specs.private.Spending.{weight, queue_weight, event_adds, left_count, Costs, HasCome, HasAdded}
use Rattle.queue_core.proofs.costs.BoundLemmas.{weight-is, kept-is, kept-upto}
use Rattle.queue_core.proofs.checkpoints.StandingCountLemmas.{weight_same, kept_same}
use Rattle.queue_core.proofs.indexed.QuestionLemmas.{left_for_counted}

module _ (q : QueueHistory) (x : MessageIndex) (is : IsIndexOf q.lines q.clock x) (unique : IsUnique nat_eq x.records) where
  pub has_come : (at t t' : ℕ) (y : MessageIndex) → IsIndexOf q.lines (max q.clock at) y → Costs 0 0 t x t' y → HasCome t q t' (at_moment q at)
  has_come at t t' y behind costs =
      let was = kept-is q x is unique in
      record {
        at = at;
        later = record { uid = refl; name = refl; in_flight = refl; clock = refl; summary = refl };
        kept = omega (arith, was, costs.kept, kept-upto (at_moment q at) y behind);
        spent = λ c below.
            let spent = costs.spent c (omega (arith, was, below)) in
            let before : 2 * (c + 1) * weight x.indices ≡ 2 * (c + 1) * queue_weight q = ap (λ (w : ℕ). 2 * (c + 1) * w) (weight-is q x is) in
            let after : 2 * (c + 1) * weight y.indices ≡ 2 * (c + 1) * queue_weight (at_moment q at) = ap (λ (w : ℕ). 2 * (c + 1) * w) (weight-is (at_moment q at) y behind) in
            omega (arith, spent, before, after);
      }

  pub has_added : (event : Event ContentText) (t t' : ℕ) (y : MessageIndex) → IsIndexOf (with_event q event).lines q.clock y
      → Costs (births event) (event_adds (left_count x) event) t x t' y → HasAdded event t q t' (with_event q event)
  has_added event t t' y behind costs =
      λ c below.
      let was = kept-is q x is unique in
      let spent = costs.spent c (omega (arith, was, below)) in
      let counts : left_count x ≡ (λ target. waiting_count q target) = λ i. λ target. left_for_counted q x is target i in
      let adds : 2 * (c + 1) * event_adds (left_count x) event ≡ 2 * (c + 1) * event_adds (λ target. waiting_count q target) event = ap (λ (w : ℕ → ℕ). 2 * (c + 1) * event_adds w event) counts in
      let before : 2 * (c + 1) * weight x.indices ≡ 2 * (c + 1) * queue_weight q = ap (λ (w : ℕ). 2 * (c + 1) * w) (weight-is q x is) in
      let after : 2 * (c + 1) * weight y.indices ≡ 2 * (c + 1) * queue_weight (with_event q event) = ap (λ (w : ℕ). 2 * (c + 1) * w) (weight-is (with_event q event) y behind) in
      omega (arith, spent, adds, before, after)

-- what a queue has come to is what one that stands for it has come to
pub come_alike : (t t' : ℕ) (p q w : QueueHistory) → StandsFor w q → HasCome t p t' q → HasCome t p t' w
come_alike t t' p q w same come =
    let weight = weight_same w q same in
    record {
      at = come.at;
      later = record {
        uid = same.uid ∙ come.later.uid;
        name = same.name ∙ come.later.name;
        in_flight = same.in_flight ∙ come.later.in_flight;
        clock = same.clock ∙ come.later.clock;
        summary = same.summary ∙ come.later.summary;
      };
      kept = omega (arith, come.kept, kept_same w q same);
      spent = λ c below.
          let spent = come.spent c below in
          let after : 2 * (c + 1) * queue_weight w ≡ 2 * (c + 1) * queue_weight q = ap (λ (n : ℕ). 2 * (c + 1) * n) weight in
          omega (arith, spent, after);
    }
