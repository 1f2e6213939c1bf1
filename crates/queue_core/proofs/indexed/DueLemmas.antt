-- No message is due, and none was sent, before the least moment.
use Rattle.std.proofs.Common.{◌≡◌, ℕ, ◌<◌, ◌≤◌, Bool, true, false, not, ◌&&◌, Option, Some, None, refl, ap, ◌∙◌, arith}
use Rattle.std.specs.Prelude.{nat_eq, nat_le, nat_lt, if◌then◌else◌, option_map}
use Rattle.std.specs.FinMap as finite
use Rattle.std.proofs.lemmas.Bool.{and_left, and_right, or_parts, ltb-false, lt-leb}
use Rattle.journal.specs.Order.{is_before}
use Rattle.deadline_heap.specs.Deadlines.{IsFirst}
use Rattle.queue_core.specs.declared.record.Record.{Record}
use Rattle.queue_core.specs.declared.index.MessageIndex.{MessageIndex}
use Rattle.queue_core.specs.private.Slots.{is_hidden_stay, is_left_stay, due_in, sent_in}
use Rattle.queue_core.specs.private.Records.{records_in, HasIndices}
use Rattle.queue_core.specs.private.Settling.{is_due, was_sent_by}

no_less : (a p : ℕ × ℕ) → is_before a p ≡ false → p.0 ≤ a.0
no_less a p h = let parts = or_parts (nat_lt a.0 p.0) (nat_eq a.0 p.0 && nat_lt a.1 p.1) h in ltb-false a.0 p.0 parts.0

module _ (x : MessageIndex) (p : ℕ × ℕ) (n : ℕ) (r : Record) (has : HasIndices x) (is : records_in x n ≡ Some r) where
  not_due : (at : ℕ) → IsFirst x.indices.due.moments (Some p) → at < p.0 → (b : Bool) → is_hidden_stay r.slot.stay ≡ b → is_due at r ≡ false
  not_due at first later false e = and_left (is_hidden_stay r.slot.stay) (nat_le r.slot.due at) e
  not_due at first later true e =
      let there : finite.get x.indices.due.moments n ≡ Some r.slot.due =
      has.indices.due n ∙ ap (λ (o : Option Record). due_in (option_map (λ q. q.slot) o)) is ∙ ap (λ b. if b then Some r.slot.due else None) e in
      let least = no_less (r.slot.due, n) p (first.1 n r.slot.due there) in
      and_right (is_hidden_stay r.slot.stay) (nat_le r.slot.due at) (lt-leb r.slot.due at (omega arith))

  not_sent : (moment : ℕ) → IsFirst x.indices.sent.moments (Some p) → moment < p.0 → (b : Bool) → is_left_stay r.slot.stay ≡ b → was_sent_by moment r ≡ false
  not_sent moment first later true e = and_left (not (is_left_stay r.slot.stay)) (nat_le r.first_send_time moment) (ap not e)
  not_sent moment first later false e =
      let there : finite.get x.indices.sent.moments n ≡ Some r.slot.sent =
      has.indices.sent n ∙ ap (λ (o : Option Record). sent_in (option_map (λ q. q.slot) o)) is ∙ ap (λ b. if b then None else Some r.slot.sent) e in
      let least = no_less (r.slot.sent, n) p (first.1 n r.slot.sent there) in
      let same = has.sent n r is in
      and_right (not (is_left_stay r.slot.stay)) (nat_le r.first_send_time moment) (lt-leb r.first_send_time moment (omega arith))

pub none_due : (x : MessageIndex) (p : ℕ × ℕ) (at : ℕ) → HasIndices x → IsFirst x.indices.due.moments (Some p) → at < p.0
    → (n : ℕ) (r : Record) → records_in x n ≡ Some r → is_due at r ≡ false
none_due x p at has first later n r is = not_due x p n r has is at first later (is_hidden_stay r.slot.stay) refl

pub none_sent : (x : MessageIndex) (p : ℕ × ℕ) (moment : ℕ) → HasIndices x → IsFirst x.indices.sent.moments (Some p) → moment < p.0
    → (n : ℕ) (r : Record) → records_in x n ≡ Some r → was_sent_by moment r ≡ false
none_sent x p moment has first later n r is = not_sent x p n r has is moment first later (is_left_stay r.slot.stay) refl
