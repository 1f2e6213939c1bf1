-- Every parcel of a queue is moved, or the last move is refused.
use Rattle.std.proofs.Common.{◌≡◌, ℕ, zero, suc, ◌≤◌, Bool, true, false, List, Option, Some, None, Result, Ok, Err, refl, sym, ap, subst, inl, inr, ◌∙◌, arith, length}
use Rattle.std.specs.Prelude.{◌⊎◌, option_and_then}
use Rattle.std.specs.Option.{option_map_or, ForSome}
use Rattle.std.proofs.lemmas.Bool.{false≢true}
use Rattle.std.proofs.lemmas.Option.{same_Some}
use Rattle.message.specs.declared.fault.Fault.{Fault}
use Rattle.queue_core.specs.declared.parcel.Parcel.{Parcel}
use Rattle.queue_core.specs.declared.reply.Reply.{Reply}
use Rattle.queue_core.specs.Messages.{message_count, pending_transfers}
use Rattle.queue_core.specs.Queue.{QueueHistory, first_parcel_of}
use Rattle.queue_core.specs.Legal.{IsLegal}
use Rattle.queue_core.proofs.SoundLemmas.{IsSound}
use Rattle.queue_core.proofs.LegalSoundLemmas.{sound_legal}
use Rattle.redrive.specs.declared.moved.Moved.{Moved}
use Rattle.redrive.specs.declared.moved.Moved.TheVariants as moved
use Rattle.redrive.specs.House.{House, found_uid, queue_of_uid, first_parcel_in, delivery_of, arrive_answer, house_after_command, needs_confirmation, answer_of_halves, confirm_answer, move_answer, IsMoved}
use Rattle.redrive.proofs.MovingLemmas.{needs-Ok, IsMoved-confirmed}
use Rattle.redrive.proofs.AnswerLemmas.{meets-itself}
use Rattle.redrive.proofs.WaitingLemmas.{moved-fewer, waiting-count, none-handed, none-waiting}
use Rattle.sqs_replay.specs.declared.answer.Timed.{Timed}
use Rattle.sqs_replay.specs.Moves.{house_between, house_after_move, goes_on, some_moves, message_count_in, all_moves, WasRefused}
use Rattle.sqs_replay.specs.Served.{asked_of, asked_served, line_served, moves_after, queue_of_asked, house_of_line}

-- ---- one move that is answered exactly

module _ (w : House) (source at : ℕ) where
  abbrev half : Result Moved Fault
  half = arrive_answer w source at

  module _ (sound : (s : QueueHistory) → queue_of_uid w source ≡ Some s → IsSound s.lines s.clock) where
    -- whichever of its halves there are
    exact-by : (x : Moved) (b : Bool) → needs_confirmation half ≡ b → move_answer w source at ≡ Ok x → IsMoved w source at (Ok x) (house_after_move w source at)
    exact-by x false e is = record {
      handed_over = half;
      between = house_between w source at;
      meets = meets-itself half;
      first_half = record { exact = λ h. refl; left = refl };
      second_half = λ h. absurd (false≢true (sym e ∙ h));
      no_second_half = λ h. (sym is ∙ rw e refl, rw e refl);
    }
    exact-by x true e is =
        let yes = needs-Ok half e in
        let between : House = house_between w source at in
        let answered : move_answer w source at ≡ answer_of_halves half (confirm_answer between source at) = rw e refl in
        IsMoved-confirmed w between (house_after_move w source at) source at sound half (meets-itself half) (record { exact = λ h. refl; left = refl }) yes.0 (Ok x) (confirm_answer between source at) yes.1
        (ap needs_confirmation (sym yes.1) ∙ e) (meets-itself (confirm_answer between source at)) (λ h. refl)
        (sym is ∙ answered ∙ ap (λ (a : Result Moved Fault). answer_of_halves a (confirm_answer between source at)) yes.1) (rw e refl)

    exact : (x : Moved) → move_answer w source at ≡ Ok x → IsMoved w source at (Ok x) (house_after_move w source at)
    exact x is = exact-by x (needs_confirmation half) refl is

  -- where it finds no parcel, no hand-over did
  none-half : (b : Bool) → needs_confirmation half ≡ b → move_answer w source at ≡ Ok moved.None → (half ≡ Ok moved.None) × (needs_confirmation half ≡ false)
  none-half false e is = (sym (rw e refl) ∙ is, e)
  none-half true e is = absurd (by_answer (confirm_answer (house_between w source at) source at) (sym (rw e refl) ∙ is)) where
    by_answer : (confirmed : Result Reply Fault) → answer_of_halves half confirmed ≡ Ok moved.None → ⊥
    by_answer (Ok reply) h = false≢true (sym (ap needs_confirmation h) ∙ e)
    by_answer (Err fault) h = cc

  none-left : (s : QueueHistory) → queue_of_uid w source ≡ Some s → move_answer w source at ≡ Ok moved.None → first_parcel_in (house_after_move w source at) source ≡ None
  none-left s here is =
      let parts = none-half (needs_confirmation half) refl is in
      let none : first_parcel_in w source ≡ None = none-handed w source at s here (sym parts.0) in
      let left : house_after_move w source at ≡ w =
      rw parts.1 (ap (λ (o : Option Parcel). option_map_or (λ p. house_after_command w (delivery_of w source p).uid at (delivery_of w source p).command half) o w) none) in
      ap (λ (v : House). first_parcel_in v source) left ∙ none

-- ---- one after another

abbrev Ends : House → ℕ → ℕ → House → Type 0
Ends w source at left = (first_parcel_in left source ≡ None) ⊎ WasRefused w source at left

module _ (source at : ℕ) where
  one-more : (w left : House) → goes_on (move_answer w source at) ≡ true → Ends (house_after_move w source at) source at left → Ends w source at left
  one-more w left on (inl none) = inl none
  one-more w left on (inr r) =
      let same : some_moves (suc r.moved) w source at ≡ some_moves r.moved (house_after_move w source at) source at = rw on refl in
      inr (record {
        moved = suc r.moved;
        fault = r.fault;
        refused = subst (λ (v : House). move_answer v source at ≡ Err r.fault) (sym same) r.refused;
        last = subst (λ (v : House). left ≡ house_after_move v source at) (sym same) r.last;
      })

  -- so many moves are enough
  abbrev Enough : ℕ → Type 0
  Enough n = (w : House) (s : QueueHistory) → queue_of_uid w source ≡ Some s → IsSound s.lines s.clock → length (pending_transfers s.lines) ≤ n → Ends w source at (some_moves n w source at)

  next : (n : ℕ) → Enough n → (w : House) (s : QueueHistory) → queue_of_uid w source ≡ Some s → IsSound s.lines s.clock → length (pending_transfers s.lines) ≤ suc n
      → (x : Moved) → move_answer w source at ≡ Ok x → goes_on (Ok x) ≡ true → (x ≡ moved.None → ⊥) → Ends w source at (some_moves (suc n) w source at)
  next n rest w s here sound few x is on some =
      let went : goes_on (move_answer w source at) ≡ true = ap goes_on is ∙ on in
      let left = moved-fewer w source at s here sound (house_after_move w source at) x (exact w source at (λ s' there. subst (λ (r : QueueHistory). IsSound r.lines r.clock) (same_Some s s' (sym here ∙ there)) sound) x is) some in
      let less = left.less.fewer in
      subst (Ends w source at) (sym (rw went refl))
      (one-more w (some_moves n (house_after_move w source at) source at) went
      (rest (house_after_move w source at) left.queue left.there left.less.sound (omega arith)))

  by_answer : (n : ℕ) → Enough n → (w : House) (s : QueueHistory) → queue_of_uid w source ≡ Some s → IsSound s.lines s.clock → length (pending_transfers s.lines) ≤ suc n
      → (r : Result Moved Fault) → move_answer w source at ≡ r → Ends w source at (some_moves (suc n) w source at)
  by_answer n rest w s here sound few (Ok moved.None) is =
      let ends : goes_on (move_answer w source at) ≡ false = ap goes_on is in
      inl (rw ends (none-left w source at s here is))
  by_answer n rest w s here sound few (Ok moved.Arrived) is = next n rest w s here sound few moved.Arrived is refl (λ e. absurd cc)
  by_answer n rest w s here sound few (Ok moved.Again) is = next n rest w s here sound few moved.Again is refl (λ e. absurd cc)
  by_answer n rest w s here sound few (Ok moved.Orphaned) is = next n rest w s here sound few moved.Orphaned is refl (λ e. absurd cc)
  by_answer n rest w s here sound few (Err fault) is =
      let ends : goes_on (move_answer w source at) ≡ false = ap goes_on is in
      inr (record { moved = 0; fault = fault; refused = is; last = rw ends refl })

  enough : (n : ℕ) → Enough n
  enough zero w s here sound few = inl (ap (λ (o : Option QueueHistory). option_and_then (λ q. first_parcel_of q) o) here ∙ none-waiting s few)
  enough (suc n) w s here sound few = by_answer n (enough n) w s here sound few (move_answer w source at) refl

pub all-moved : (w : House) (source at : ℕ) → ForSome (queue_of_uid w source) (λ q. IsLegal q) → Ends w source at (all_moves w source at)
all-moved w source at legal = by_queue (queue_of_uid w source) refl where
  by_queue : (o : Option QueueHistory) → queue_of_uid w source ≡ o → Ends w source at (all_moves w source at)
  by_queue None is =
      let count : message_count_in w source ≡ 0 = ap (λ (o : Option QueueHistory). option_map_or (λ q. message_count q.lines) o 0) is in
      inl (ap (λ (n : ℕ). first_parcel_in (some_moves n w source at) source) count ∙ ap (λ (o : Option QueueHistory). option_and_then (λ q. first_parcel_of q) o) is)
  by_queue (Some s) is =
      let count : message_count_in w source ≡ message_count s.lines = ap (λ (o : Option QueueHistory). option_map_or (λ q. message_count q.lines) o 0) is in
      let all : Ends w source at (some_moves (message_count s.lines) w source at) = enough source at (message_count s.lines) w s is (sound_legal s (legal s is)) (waiting-count s (legal s is)) in
      subst (λ (n : ℕ). Ends w source at (some_moves n w source at)) (sym count) all

-- ---- behind a line

pub line-moved : (w : House) (line name : List ℕ) (timed : Timed) (uid : ℕ) → asked_of line ≡ Ok timed → queue_of_asked timed.asked ≡ Some name
    → found_uid (asked_served w timed.at timed.asked).house name ≡ Some uid
    → ForSome (queue_of_uid (asked_served w timed.at timed.asked).house uid) (λ q. IsLegal q)
    → Ends (asked_served w timed.at timed.asked).house uid timed.at (house_of_line w line)
line-moved w line name timed uid read named found legal =
    let answered : House = (asked_served w timed.at timed.asked).house in
    let left : house_of_line w line ≡ all_moves answered uid timed.at =
    ap (λ (t : Result Timed Fault). (line_served w t).house) read
    ∙ ap (λ (o : Option (List ℕ)). moves_after answered timed.at o) named
    ∙ ap (λ (o : Option ℕ). option_map_or (λ uid. all_moves answered uid timed.at) o answered) found in
    subst (λ (v : House). Ends answered uid timed.at v) (sym left) (all-moved answered uid timed.at legal)
