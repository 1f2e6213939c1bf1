-- A legal journal stays legal as the clock moves on and as an entry that a command adds is added.
use Rattle.std.proofs.Common.{◌≡◌, ℕ, ◌-◌, ◌+◌, ◌≤◌, ◌<◌, max, Bool, true, false, cond, inl, inr, List, [], ◌∷◌, ◌++◌, Option, Some, None, Result, Ok, Err, refl, sym, ap, ◌∙◌, subst, append_assoc, arith}
use Rattle.std.specs.Prelude.{◌⊎◌, OnOk, OnErr, nat_lt, nat_le, unwrap_or}
use Rattle.std.proofs.lemmas.List.{append-nil}
use Rattle.std.proofs.lemmas.Bool.{false≢true, or_parts}
use Rattle.std.proofs.lemmas.Bool.Decides.{nat_tests}
use Rattle.message.specs.declared.fault.Fault.{Fault}
use Rattle.message.specs.declared.fault.Fault.TheVariants.{InvalidParameterValue, OverLimit, ReceiptHandleIsInvalid}
use Rattle.message.specs.Content.{ContentText, content_size}
use Rattle.queue_config.specs.Settings.{QueueSettings, RequestedAttributes, settings_with}
use Rattle.receipt_handle.specs.declared.handle.Handle.{Handle}
use Rattle.journal.specs.declared.entry.Entry.{Entry}
use Rattle.journal.specs.declared.entry.Event.{Event}
use Rattle.journal.specs.declared.entry.Event.TheVariants.{Sent, Arrived, Changed, Deleted, DeletedAgain, Purged, Set, Settled, Orphaned, Refused, Closed}
use Rattle.journal.specs.Journal.{Lines, with_line}
use Rattle.queue_core.specs.declared.command.Command.{Command}
use Rattle.queue_core.specs.declared.command.Command.TheVariants.{Send, Receive, Change, Delete, Purge}
use Rattle.queue_core.specs.declared.command.Command.TheVariants as commands
use Rattle.queue_core.specs.declared.parcel.Parcel.{Parcel}
use Rattle.queue_core.specs.declared.offers.Offer.{Offer}
use Rattle.queue_core.specs.declared.reply.Reply.TheVariants as replies
use Rattle.metric_window.specs.declared.gauges.Gauges.{Gauges}
use Rattle.queue_core.specs.Messages.{settings_of, created_time, modified_time, closes, is_closed, has_accepted}
use Rattle.queue_core.specs.States.{gauges_of}
use Rattle.queue_core.specs.Queue.{QueueHistory, Outcome, at_moment, is_at_limit, is_full, first_refusal, with_room, wants_open, unless_some, rebases, done, send_outcome, receive_outcome, change_outcome, delete_outcome, close_outcome, arrive_outcome, is_pending, settle_outcome, orphan_outcome, waiting_count, in_flight_count, offered_candidates, offers_of, received_event, change_refusal, is_valid_handle, holds_live, outcome_in, with_event, with_optional_event, wants_room_alone, look_of}
use Rattle.queue_core.specs.Legal.{IsOrdered, IsAllowedIn, IsCausedIn, AreCaused, BeginsAndFollows, IsWhole, GoesOn, IsLegal}
use Rattle.queue_core.specs.private.Kept.{IsKept}
use Rattle.journal.specs.Weight.{event_weight, weight_of}
use Rattle.std.proofs.lemmas.List.Sums.{sum_by-cons, sum_by-append}
use Rattle.queue_core.proofs.PushLemmas.{closed-push}
use Rattle.queue_core.proofs.commands.InPlaceLemmas.{in_place, added_in}
use Rattle.queue_core.proofs.CauseLemmas.{about-caused}
use Rattle.queue_core.proofs.AloneLemmas.{event_weight-alone}

pub not_after : (from clock : ℕ) (lines : List (Entry ContentText)) → IsOrdered from lines clock → from ≤ clock
not_after from clock [] h = h
not_after from clock (e ∷ es) h = omega (arith, h.0, not_after e.at clock es h.1)

pub IsOrdered-later : (from : ℕ) (lines : List (Entry ContentText)) (clock later : ℕ) → clock ≤ later → IsOrdered from lines clock → IsOrdered from lines later
IsOrdered-later from [] clock later h p = omega arith
IsOrdered-later from (e ∷ es) clock later h p = (p.0, IsOrdered-later e.at es clock later h p.1)

pub IsOrdered-push : (from : ℕ) (lines : List (Entry ContentText)) (clock : ℕ) (event : Event ContentText) → IsOrdered from lines clock
    → IsOrdered from (lines ++ record { at = clock; event = event } ∷ []) clock
IsOrdered-push from [] clock event p = (p, omega arith)
IsOrdered-push from (e ∷ es) clock event p = (p.0, IsOrdered-push e.at es clock event p.1)

AreCaused-push : (q : QueueHistory) (before es : List (Entry ContentText)) (x : Entry ContentText) → AreCaused q before es
    → IsCausedIn (record q { clock = x.at; lines = before ++ es }) x.event → AreCaused q before (es ++ x ∷ [])
AreCaused-push q before [] x h k =
    (subst (λ (lines : List (Entry ContentText)). IsCausedIn (record q { clock = x.at; lines = lines }) x.event) (append-nil before) k, tt)
AreCaused-push q before (e ∷ es) x h k =
    (h.0, AreCaused-push q (before ++ e ∷ []) es x h.1 (subst (λ (lines : List (Entry ContentText)). IsCausedIn (record q { clock = x.at; lines = lines }) x.event) (sym (append_assoc before (e ∷ []) es)) k))

BeginsAndFollows-push : (q : QueueHistory) (lines : List (Entry ContentText)) (x : Entry ContentText) → BeginsAndFollows q lines
    → IsCausedIn (record q { clock = x.at; lines = lines }) x.event → BeginsAndFollows q (lines ++ x ∷ [])
BeginsAndFollows-push q [] x h k = absurd h
BeginsAndFollows-push q (e ∷ es) x h k = (h.0, AreCaused-push q (e ∷ []) es x h.1 k)

pub IsKept-later : (q : QueueHistory) (limit at : ℕ) → IsKept q limit → IsKept (at_moment q at) limit
IsKept-later q limit at h = record {
  room = h.room;
  within = h.within;
  place_left = h.place_left;
  legal = record { ordered = IsOrdered-later 0 q.lines q.clock (max q.clock at) (omega arith) h.legal.ordered; caused = h.legal.caused };
}

below_limit : (q : QueueHistory) → is_at_limit q ≡ false → weight_of q.lines < q.limits.max_lines
below_limit q room = grind (arith, nat_tests)

-- ---- what causes an event

-- the queue is open, and its journal has room, or the event closes the queue
record HasPlace (q : QueueHistory) (event : Event ContentText) : Type 0 where
  unclosed : is_closed q.lines ≡ false
  room : closes event ≡ false → is_at_limit q ≡ false

not_both : {X : Type 0} (o : Option X) (x : X) → o ≡ None → o ≡ Some x → ⊥
not_both None x n h = absurd cc
not_both (Some y) x n h = absurd cc

unlimited-by : (limit : Bool) (refusal : Option Fault) → refusal ≡ None → unless_some refusal limit ≡ false → limit ≡ false
unlimited-by limit refusal none h = sym (ap (λ (r : Option Fault). unless_some r limit) none) ∙ h

by_first_refusal : (q : QueueHistory) (closed full : Bool) → is_closed q.lines ≡ closed → is_full q ≡ full → (outcome : Outcome) (event : Event ContentText)
    → (with_room q outcome).event ≡ Some event → unless_some (first_refusal q) (is_at_limit q) ≡ false → HasPlace q event
by_first_refusal q true full c f outcome event h k = absurd (not_both (with_room q outcome).event event (rw c refl) h)
by_first_refusal q false true c f outcome event h k = absurd (not_both (with_room q outcome).event event (rw (c, f) refl) h)
by_first_refusal q false false c f outcome event h k = record { unclosed = c; room = λ _. unlimited-by (is_at_limit q) (first_refusal q) (rw (c, f) refl) k }

HasPlace-with_room : (q : QueueHistory) (outcome : Outcome) (event : Event ContentText) → (with_room q outcome).event ≡ Some event
    → unless_some (first_refusal q) (is_at_limit q) ≡ false → HasPlace q event
HasPlace-with_room q outcome event h k = by_first_refusal q (is_closed q.lines) (is_full q) refl refl outcome event h k

HasPlace-close : (q : QueueHistory) (closed : Bool) → is_closed q.lines ≡ closed → (event : Event ContentText) → (close_outcome q).event ≡ Some event → HasPlace q event
HasPlace-close q true c event h = absurd (not_both (close_outcome q).event event (rw c refl) h)
HasPlace-close q false c event h =
    record { unclosed = c; room = λ other. absurd (let e : (close_outcome q).event ≡ Some Closed = rw c refl in let d : Closed ≡ event = cc in false≢true (sym other ∙ ap closes (sym d))) }

-- an open queue below its limit
pub record OpenFor (q : QueueHistory) : Type 0 where
  pub unclosed : is_closed q.lines ≡ false
  pub below : is_at_limit q ≡ false

open-with_room : (q : QueueHistory) (closed full : Bool) → is_closed q.lines ≡ closed → is_full q ≡ full → (outcome : Outcome) (event : Event ContentText)
    → (with_room q outcome).event ≡ Some event → unless_some (first_refusal q) (is_at_limit q) ≡ false → OpenFor q
open-with_room q true full c f outcome event h k = absurd (not_both (with_room q outcome).event event (rw c refl) h)
open-with_room q false true c f outcome event h k = absurd (not_both (with_room q outcome).event event (rw (c, f) refl) h)
open-with_room q false false c f outcome event h k = record { unclosed = c; below = unlimited-by (is_at_limit q) (first_refusal q) (rw (c, f) refl) k }

-- a command that a closed queue or a full journal refuses, and which adds an event in its place
pub open_for : (q : QueueHistory) (command : Command) (event : Event ContentText) → (outcome_in q command).event ≡ Some event → rebases q command ≡ false → wants_open command ≡ true → OpenFor q
open_for q (Send content delay) event h k o = open-with_room q (is_closed q.lines) (is_full q) refl refl (send_outcome q content delay) event h k
open_for q (Receive maximum timeout) event h k o = open-with_room q (is_closed q.lines) (is_full q) refl refl (receive_outcome q maximum timeout) event h k
open_for q (Change handle timeout) event h k o = open-with_room q (is_closed q.lines) (is_full q) refl refl (change_outcome q handle timeout) event h k
open_for q (Delete handle) event h k o = open-with_room q (is_closed q.lines) (is_full q) refl refl (delete_outcome q handle) event h k
open_for q Purge event h k o = open-with_room q (is_closed q.lines) (is_full q) refl refl (done Purged) event h k
open_for q (commands.Set wish target) event h k o = open-with_room q (is_closed q.lines) (is_full q) refl refl (done (Set (settings_with (settings_of q.lines) wish target))) event h k
open_for q (commands.Arrive parcel) event h k o = open-with_room q (is_closed q.lines) (is_full q) refl refl (arrive_outcome q parcel) event h k
open_for q (commands.Settle number) event h k o = open-with_room q (is_closed q.lines) (is_full q) refl refl (settle_outcome q number) event h k
open_for q (commands.Orphan target) event h k o = open-with_room q (is_closed q.lines) (is_full q) refl refl (orphan_outcome q target) event h k
open_for q commands.Close event h k o = absurd (false≢true o)
open_for q commands.Look event h k o = absurd (false≢true o)
open_for q commands.FirstParcel event h k o = absurd (false≢true o)

HasPlace-added : (q : QueueHistory) (command : Command) (event : Event ContentText) → (outcome_in q command).event ≡ Some event → rebases q command ≡ false → HasPlace q event
HasPlace-added q (Send content delay) event h k = HasPlace-with_room q (send_outcome q content delay) event h k
HasPlace-added q (Receive maximum timeout) event h k = HasPlace-with_room q (receive_outcome q maximum timeout) event h k
HasPlace-added q (Change handle timeout) event h k = HasPlace-with_room q (change_outcome q handle timeout) event h k
HasPlace-added q (Delete handle) event h k = HasPlace-with_room q (delete_outcome q handle) event h k
HasPlace-added q Purge event h k = HasPlace-with_room q (done Purged) event h k
HasPlace-added q (commands.Set wish target) event h k = HasPlace-with_room q (done (Set (settings_with (settings_of q.lines) wish target))) event h k
HasPlace-added q (commands.Arrive parcel) event h k = HasPlace-with_room q (arrive_outcome q parcel) event h k
HasPlace-added q (commands.Settle number) event h k = HasPlace-with_room q (settle_outcome q number) event h k
HasPlace-added q (commands.Orphan target) event h k = HasPlace-with_room q (orphan_outcome q target) event h k
HasPlace-added q commands.FirstParcel event h k = absurd cc
HasPlace-added q commands.Close event h k = HasPlace-close q (is_closed q.lines) refl event h
HasPlace-added q commands.Look event h k = absurd cc

HasPlace-caused : (q : QueueHistory) (event : Event ContentText) → IsCausedIn q event → HasPlace q event
HasPlace-caused q event k = HasPlace-added q k.command event (added_in q event k) k.in_place

-- ---- one entry more

pub weight-push : (lines : List (Entry ContentText)) (e : Entry ContentText) → weight_of (lines ++ e ∷ []) ≡ weight_of lines + event_weight e.event
weight-push lines e = sum_by-append (λ (x : Entry ContentText). event_weight x.event) lines (e ∷ []) ∙ ap (λ (n : ℕ). weight_of lines + n) (sum_by-cons (λ (x : Entry ContentText). event_weight x.event) e [] ∙ (let none : event_weight e.event + 0 ≡ event_weight e.event = omega arith in none))

-- the entry that closes the queue takes the last place, and every other leaves it
place_left-push : (q : QueueHistory) (event : Event ContentText) → HasPlace q event → is_closed (q.lines ++ record { at = q.clock; event = event } ∷ []) ≡ false
    → event_weight event ≡ 1 → weight_of (q.lines ++ record { at = q.clock; event = event } ∷ []) ≤ q.limits.max_lines
place_left-push q event place unclosed one =
    let still_open = or_parts (is_closed q.lines) (closes event) (sym (closed-push q.lines (record { at = q.clock; event = event })) ∙ unclosed) in
    let below = below_limit q (place.room still_open.1) in
    omega (arith, below, one, weight-push q.lines (record { at = q.clock; event = event }))

allowed-spare : (q : QueueHistory) (n : ℕ) (command : Command) → IsAllowedIn q command → IsAllowedIn (record q { spare = n }) command
allowed-spare q n (Send content delay) h = h
allowed-spare q n (Receive maximum timeout) h = h
allowed-spare q n (Change handle timeout) h = h
allowed-spare q n (Delete handle) h = h
allowed-spare q n Purge h = h
allowed-spare q n (commands.Set wish target) h = h
allowed-spare q n (commands.Arrive parcel) h = h
allowed-spare q n (commands.Settle number) h = h
allowed-spare q n (commands.Orphan target) h = h
allowed-spare q n commands.Close h = h
allowed-spare q n commands.Look h = h
allowed-spare q n commands.FirstParcel h = h

-- an event that a command adds where no checkpoint comes before it
pub caused_in : (q : QueueHistory) (event : Event ContentText) (command : Command) → IsAllowedIn q command → (outcome_in q command).event ≡ Some event → rebases q command ≡ false → IsCausedIn q event
caused_in q event command allowed added place = record {
  command = command;
  allowed = allowed;
  added = ap (λ (o : Outcome). o.event) (in_place q command place) ∙ added;
  in_place = place;
}

outcome-spare : (q : QueueHistory) (n : ℕ) (command : Command) → (outcome_in (record q { spare = n }) command).event ≡ (outcome_in q command).event
outcome-spare q n (Send content delay) = refl
outcome-spare q n (Receive maximum timeout) = refl
outcome-spare q n (Change handle timeout) = refl
outcome-spare q n (Delete handle) = refl
outcome-spare q n Purge = refl
outcome-spare q n (commands.Set wish target) = refl
outcome-spare q n (commands.Arrive parcel) = refl
outcome-spare q n (commands.Settle number) = refl
outcome-spare q n (commands.Orphan target) = refl
outcome-spare q n commands.Close = refl
outcome-spare q n commands.Look = refl
outcome-spare q n commands.FirstParcel = refl

caused-spare : (q : QueueHistory) (n : ℕ) (event : Event ContentText) → IsCausedIn q event → IsCausedIn (record q { spare = n }) event
caused-spare q n event h = caused_in (record q { spare = n }) event h.command (allowed-spare q n h.command h.allowed) (outcome-spare q n h.command ∙ added_in q event h) h.in_place

all_caused-spare : (q : QueueHistory) (n : ℕ) (before es : List (Entry ContentText)) → AreCaused q before es → AreCaused (record q { spare = n }) before es
all_caused-spare q n before [] h = tt
all_caused-spare q n before (e ∷ es) h = (caused-spare (record q { clock = e.at; lines = before }) n e.event h.0, all_caused-spare q n (before ++ e ∷ []) es h.1)

-- ---- legal journals

begins-spare : (q : QueueHistory) (n : ℕ) (lines : List (Entry ContentText)) → BeginsAndFollows q lines → BeginsAndFollows (record q { spare = n }) lines
begins-spare q n [] h = absurd h
begins-spare q n (e ∷ es) h = (h.0, all_caused-spare q n (e ∷ []) es h.1)

goes-spare : (q : QueueHistory) (n : ℕ) (lines : List (Entry ContentText)) → GoesOn q lines → GoesOn (record q { spare = n }) lines
goes-spare q n [] h = absurd h
goes-spare q n (e ∷ es) h = (h.0, all_caused-spare q n (e ∷ []) es h.1)

caused-spare_all : (q : QueueHistory) (n : ℕ) (lines : List (Entry ContentText)) → BeginsAndFollows q lines ⊎ GoesOn q lines
    → BeginsAndFollows (record q { spare = n }) lines ⊎ GoesOn (record q { spare = n }) lines
caused-spare_all q n lines (inl h) = inl (begins-spare q n lines h)
caused-spare_all q n lines (inr h) = inr (goes-spare q n lines h)

pub kept-spare : (q : QueueHistory) (limit n : ℕ) → IsKept q limit → IsKept (record q { spare = n }) limit
kept-spare q limit n h = record {
  room = h.room;
  within = h.within;
  place_left = h.place_left;
  legal = record { ordered = h.legal.ordered; caused = caused-spare_all q n q.lines h.legal.caused };
}

GoesOn-push : (q : QueueHistory) (lines : List (Entry ContentText)) (x : Entry ContentText) → GoesOn q lines → IsCausedIn (record q { clock = x.at; lines = lines }) x.event → GoesOn q (lines ++ x ∷ [])
GoesOn-push q [] x h k = absurd h
GoesOn-push q (e ∷ es) x h k = (h.0, AreCaused-push q (e ∷ []) es x h.1 k)

caused-push : (q : QueueHistory) (lines : List (Entry ContentText)) (x : Entry ContentText) → BeginsAndFollows q lines ⊎ GoesOn q lines → IsCausedIn (record q { clock = x.at; lines = lines }) x.event
    → BeginsAndFollows q (lines ++ x ∷ []) ⊎ GoesOn q (lines ++ x ∷ [])
caused-push q lines x (inl h) k = inl (BeginsAndFollows-push q lines x h k)
caused-push q lines x (inr h) k = inr (GoesOn-push q lines x h k)

pub legal_behind : (q : QueueHistory) (event : Event ContentText) → IsLegal q → IsCausedIn q event → IsLegal (with_event q event)
legal_behind q event legal k = record {
  ordered = IsOrdered-push 0 q.lines q.clock event legal.ordered;
  caused = caused-spare_all q (q.spare - 1) (q.lines ++ record { at = q.clock; event = event } ∷ []) (caused-push q q.lines (record { at = q.clock; event = event }) legal.caused k);
}

pub whole_behind : (q : QueueHistory) (event : Event ContentText) → IsWhole q → IsCausedIn q event → IsWhole (with_event q event)
whole_behind q event whole k = record {
  ordered = IsOrdered-push 0 q.lines q.clock event whole.ordered;
  caused = begins-spare q (q.spare - 1) (q.lines ++ record { at = q.clock; event = event } ∷ []) (BeginsAndFollows-push q q.lines (record { at = q.clock; event = event }) whole.caused k);
}

pub whole_later : (q : QueueHistory) (at : ℕ) → IsWhole q → IsWhole (at_moment q at)
whole_later q at whole = record { ordered = IsOrdered-later 0 q.lines q.clock (max q.clock at) (omega arith) whole.ordered; caused = whole.caused }

-- an event of a command weighs 1
pub event_weight-caused : (q : QueueHistory) (event : Event ContentText) → IsCausedIn q event → event_weight event ≡ 1
event_weight-caused q event k = event_weight-alone event (about-caused q event k).alone

IsKept-with_event : (q : QueueHistory) (limit : ℕ) (event : Event ContentText) → IsKept q limit → (k : IsCausedIn q event) → IsKept (with_event q event) limit
IsKept-with_event q limit event h k =
    let place = HasPlace-caused q event k in
    let one = event_weight-caused q event k in
    record {
      room = h.room;
      within = (let below = h.place_left place.unclosed in omega (arith, below, one, weight-push q.lines (record { at = q.clock; event = event })));
      place_left = λ unclosed. place_left-push q event place unclosed one;
      legal = legal_behind q event h.legal k;
    }

-- and so what comes of a command has a place in the journal
pub place-left : (q : QueueHistory) (limit : ℕ) (event : Event ContentText) → IsKept q limit → IsCausedIn q event → weight_of q.lines < limit
place-left q limit event h k =
    let below = h.place_left (HasPlace-caused q event k).unclosed in
    omega (arith, below, h.room)

-- after a push that may have been refused
pub IsKept-pushed : {X : Type 0} (q : QueueHistory) (old new : Lines) (event : Event ContentText) (r : Result X Fault) → q.lines ≡ old.lines
    → OnOk r (new ≡ with_line old (record { at = q.clock; event = event })) → OnErr r (new ≡ old) → IsKept q old.limit → IsCausedIn q event
    → IsKept (record q { lines = new.lines; spare = new.spare }) new.limit
IsKept-pushed q old new event (Ok x) e ok err h k =
    rw (ok, ← e) (kept-spare (with_event q event) old.limit (old.spare - 1) (IsKept-with_event q old.limit event h k))
IsKept-pushed q old new event (Err fault) e ok err h k = rw (err, ← e) (kept-spare q old.limit old.spare h)

-- what each command adds to an open journal with room
module _ (q : QueueHistory) (room : first_refusal q ≡ None) where
  pub event-too_large : (content : ContentText) (delay : Option ℕ) → nat_lt (settings_of q.lines).maximum_message_size (content_size content) ≡ true
      → (outcome_in q (Send content delay)).event ≡ Some (Refused InvalidParameterValue)
  event-too_large content delay large = rw (room, large) refl

  pub event-sent : (content : ContentText) (delay : Option ℕ) → nat_lt (settings_of q.lines).maximum_message_size (content_size content) ≡ false
      → (outcome_in q (Send content delay)).event ≡ Some (Sent (unwrap_or delay (settings_of q.lines).delay_seconds) content)
  event-sent content delay fits = rw (room, fits) refl

  pub event-over_limit : (maximum : ℕ) (timeout : Option ℕ) → nat_le q.limits.in_flight (in_flight_count q) ≡ true → (outcome_in q (Receive maximum timeout)).event ≡ Some (Refused OverLimit)
  event-over_limit maximum timeout full = rw (room, full) refl

  pub event-received : (maximum : ℕ) (timeout : Option ℕ) → nat_le q.limits.in_flight (in_flight_count q) ≡ false
      → (outcome_in q (Receive maximum timeout)).event ≡ Some (received_event q maximum timeout)
  event-received maximum timeout free = rw (room, free) refl

  pub reply-received : (maximum : ℕ) (timeout : Option ℕ) → nat_le q.limits.in_flight (in_flight_count q) ≡ false
      → (outcome_in q (Receive maximum timeout)).reply ≡ Ok (replies.Received (offers_of q (offered_candidates q maximum)))
  reply-received maximum timeout free = rw (room, free) refl

  -- the same for the queue under another expression
  pub answer-received : (there : QueueHistory) (maximum : ℕ) (timeout : Option ℕ) (offers : List Offer) → q ≡ there → nat_le q.limits.in_flight (in_flight_count q) ≡ false
      → offers ≡ offers_of q (offered_candidates q maximum) → Ok (replies.Received offers) ≡ (outcome_in there (Receive maximum timeout)).reply
  answer-received there maximum timeout offers is free e =
      subst (λ (r : QueueHistory). Ok (replies.Received offers) ≡ (outcome_in r (Receive maximum timeout)).reply) is
      (ap (λ (os : List Offer). Ok (replies.Received os)) e ∙ sym (reply-received maximum timeout free))

  pub state-received : (there new : QueueHistory) (maximum : ℕ) (timeout : Option ℕ) (event : Event ContentText) → q ≡ there → nat_le q.limits.in_flight (in_flight_count q) ≡ false
      → event ≡ received_event q maximum timeout → new ≡ with_event q event → new ≡ with_optional_event there (outcome_in there (Receive maximum timeout)).event
  state-received there new maximum timeout event is free e after =
      subst (λ (r : QueueHistory). new ≡ with_optional_event r (outcome_in r (Receive maximum timeout)).event) is
      (after ∙ ap (λ (x : Event ContentText). with_event q x) e ∙ ap (λ (o : Option (Event ContentText)). with_optional_event q o) (sym (event-received maximum timeout free)))

  -- it wants more than its place
  pub more-received : {X : Type 0} (there : QueueHistory) (maximum : ℕ) (timeout : Option ℕ) → q ≡ there → nat_le q.limits.in_flight (in_flight_count q) ≡ false
      → wants_room_alone (outcome_in there (Receive maximum timeout)) ≡ true → X
  more-received there maximum timeout is free alone =
      let more : wants_room_alone (outcome_in q (Receive maximum timeout)) ≡ false = rw (room, free) refl in
      absurd (false≢true (sym more ∙ subst (λ (r : QueueHistory). wants_room_alone (outcome_in r (Receive maximum timeout)) ≡ true) (sym is) alone))

  pub event-change_refused : (h : Handle) (timeout : ℕ) (fault : Fault) → change_refusal q h timeout ≡ Some fault → (outcome_in q (Change h timeout)).event ≡ Some (Refused fault)
  event-change_refused h timeout fault e = rw (room, e) refl

  pub event-changed : (h : Handle) (timeout : ℕ) → change_refusal q h timeout ≡ None → (outcome_in q (Change h timeout)).event ≡ Some (Changed h.number timeout)
  event-changed h timeout e = rw (room, e) refl

  pub event-invalid : (h : Handle) → is_valid_handle q h ≡ false → (outcome_in q (Delete h)).event ≡ Some (Refused ReceiptHandleIsInvalid)
  event-invalid h e = rw (room, e) refl

  pub event-deleted : (h : Handle) → is_valid_handle q h ≡ true → (outcome_in q (Delete h)).event ≡ Some (cond (holds_live q h) (Deleted h.number) DeletedAgain)
  event-deleted h e = rw (room, e) refl

  pub event-purged : (outcome_in q Purge).event ≡ Some Purged
  event-purged = rw room refl

  pub event-set : (wish : RequestedAttributes) (target : ℕ) → (outcome_in q (commands.Set wish target)).event ≡ Some (Set (settings_with (settings_of q.lines) wish target))
  event-set wish target = rw room refl

  pub event-arrived : (parcel : Parcel) → has_accepted q.lines parcel.origin.uid parcel.origin.number ≡ false
      → (outcome_in q (commands.Arrive parcel)).event ≡ Some (Arrived parcel.origin parcel.content)
  event-arrived parcel e = rw (room, e) refl

  pub event-settled : (number : ℕ) → is_pending q number ≡ true → (outcome_in q (commands.Settle number)).event ≡ Some (Settled number)
  event-settled number e = rw (room, e) refl

  pub event-orphaned : (target : ℕ) → (outcome_in q (commands.Orphan target)).event ≡ Some (Orphaned target)
  event-orphaned target = rw room refl

  pub answer-orphaned : (there : QueueHistory) (target count : ℕ) → q ≡ there → count ≡ waiting_count q target → Ok (replies.Orphaned count) ≡ (outcome_in there (commands.Orphan target)).reply
  answer-orphaned there target count is e = subst (λ (r : QueueHistory). Ok (replies.Orphaned count) ≡ (outcome_in r (commands.Orphan target)).reply) is (rw (room, e) refl)

pub event-closed : (q : QueueHistory) → is_closed q.lines ≡ false → (outcome_in q commands.Close).event ≡ Some Closed
event-closed q unclosed = rw unclosed refl

-- the parts of a look
pub look_of-parts : (q : QueueHistory) (gauges : Gauges) (settings : QueueSettings) (created modified lines clock : ℕ) (closed : Bool) → gauges ≡ gauges_of q.lines q.clock → settings ≡ settings_of q.lines
    → created ≡ created_time q.lines → modified ≡ modified_time q.lines → lines ≡ weight_of q.lines → clock ≡ q.clock → closed ≡ is_closed q.lines
    → record { gauges = gauges; settings = settings; created = created; modified = modified; lines = lines; clock = clock; closed = closed } ≡ look_of q
look_of-parts q gauges settings created modified lines clock closed a b c d e f g = rw (a, b, c, d, e, f, g) refl
