-- A queue that is closed and taken out.
use Rattle.std.proofs.Common.{◌≡◌, ◌≢◌, ℕ, true, List, ◌∷◌, Option, Some, None, Result, Ok, Err, refl, sym, ◌∙◌, eqb-true}
use Rattle.std.specs.Prelude.{nat_eq, OnOk, IfOk}
use Rattle.std.specs.List.{position}
use Rattle.std.specs.Option.{option_map, option_map_or}
use Rattle.std.proofs.lemmas.Bool.{or_right, ne_eqb}
use Rattle.message.specs.declared.fault.Fault.{Fault}
use Rattle.message.specs.declared.fault.Fault.TheVariants.{QueueDoesNotExist}
use Rattle.message.specs.Fault.{Meets}
use Rattle.queue_core.specs.Messages.{is_closed}
use Rattle.queue_core.specs.Queue.{QueueHistory}
use Rattle.queue_core.proofs.PushLemmas.{closed-push}
use Rattle.redrive.specs.House.{House, queue_of_uid, closed_queue, take_answer, without_queue}
use Rattle.redrive.specs.History.{journal_of, closed_journal}
use Rattle.redrive.proofs.KeyedLemmas.{find-passes, find-without, find-without_other, find-no_position}

pub closed_queue-closed : (q : QueueHistory) (at : ℕ) → is_closed (closed_queue q at).lines ≡ true
closed_queue-closed q at = closed-push q.lines _ ∙ or_right (is_closed q.lines) true refl

pub take-absent_answer : (w : House) (uid at : ℕ) → position (λ q. nat_eq q.uid uid) w.queues ≡ None → take_answer w uid at ≡ Err QueueDoesNotExist
take-absent_answer w uid at h = rw (find-no_position (λ (q : QueueHistory). q.uid) uid w.queues h) refl

-- ---- what becomes of the journals

taken-journal : (w new : House) (uid at : ℕ) (q : QueueHistory) (deleted : List QueueHistory) (o : Option QueueHistory) → queue_of_uid w uid ≡ o
    → Ok q ≡ option_map_or (λ q. Ok (closed_queue q at)) o (Err QueueDoesNotExist) → new ≡ without_queue w uid
    → journal_of (record { house = new; deleted = q ∷ deleted }) uid ≡ option_map (λ old. closed_journal old at) o
taken-journal w new uid at q deleted None here is left = absurd cc
taken-journal w new uid at q deleted (Some old) here is left =
    let same : q ≡ closed_queue old at = cc in
    let own : nat_eq old.uid uid ≡ true = find-passes (λ q. nat_eq q.uid uid) w.queues old here in
    rw (left, find-without (λ (q : QueueHistory). q.uid) uid w.queues, same, own) refl

pub journal-taken : (w new : House) (uid at : ℕ) (q : QueueHistory) (deleted : List QueueHistory) → Ok q ≡ take_answer w uid at → new ≡ without_queue w uid
    → journal_of (record { house = new; deleted = q ∷ deleted }) uid ≡ option_map (λ old. closed_journal old at) (queue_of_uid w uid)
journal-taken w new uid at q deleted is left = taken-journal w new uid at q deleted (queue_of_uid w uid) refl is left

other-journals : (w new : House) (uid at : ℕ) (q : QueueHistory) (deleted : List QueueHistory) (other : ℕ) (o : Option QueueHistory) → other ≢ uid → queue_of_uid w uid ≡ o
    → Ok q ≡ option_map_or (λ q. Ok (closed_queue q at)) o (Err QueueDoesNotExist) → new ≡ without_queue w uid
    → journal_of (record { house = new; deleted = q ∷ deleted }) other ≡ journal_of (record { house = w; deleted = deleted }) other
other-journals w new uid at q deleted other None differs here is left = absurd cc
other-journals w new uid at q deleted other (Some old) differs here is left =
    let same : q ≡ closed_queue old at = cc in
    let own : old.uid ≡ uid = eqb-true old.uid uid (find-passes (λ q. nat_eq q.uid uid) w.queues old here) in
    rw (left, find-without_other (λ (q : QueueHistory). q.uid) uid other differs w.queues, same, ne_eqb old.uid other (λ e. differs (sym e ∙ own))) refl

pub journals-others : (w new : House) (uid at : ℕ) (q : QueueHistory) (deleted : List QueueHistory) (other : ℕ) → other ≢ uid → Ok q ≡ take_answer w uid at → new ≡ without_queue w uid
    → journal_of (record { house = new; deleted = q ∷ deleted }) other ≡ journal_of (record { house = w; deleted = deleted }) other
journals-others w new uid at q deleted other differs is left = other-journals w new uid at q deleted other (queue_of_uid w uid) differs refl is left

-- the queue that is handed over, with the house that is left
pub journal-handed : (w new : House) (uid at : ℕ) (r : Result QueueHistory Fault) → Meets r (take_answer w uid at) → OnOk r (new ≡ without_queue w uid)
    → IfOk r (λ q. (deleted : List QueueHistory) → journal_of (record { house = new; deleted = q ∷ deleted }) uid ≡ option_map (λ old. closed_journal old at) (queue_of_uid w uid))
journal-handed w new uid at (Ok q) is left = λ deleted. journal-taken w new uid at q deleted is left
journal-handed w new uid at (Err fault) is left = tt

pub journals-kept : (w new : House) (uid at : ℕ) (r : Result QueueHistory Fault) → Meets r (take_answer w uid at) → OnOk r (new ≡ without_queue w uid)
    → IfOk r (λ q. (deleted : List QueueHistory) (other : ℕ) → other ≢ uid
    → journal_of (record { house = new; deleted = q ∷ deleted }) other ≡ journal_of (record { house = w; deleted = deleted }) other)
journals-kept w new uid at (Ok q) is left = λ deleted other differs. journals-others w new uid at q deleted other differs is left
journals-kept w new uid at (Err fault) is left = tt
