-- What a journal tells of one message, what an event makes of that, and that the message's record follows it.
use Rattle.std.proofs.Common.{◌≡◌, ℕ, ◌+◌, ◌*◌, Bool, true, false, not, cond, ◌&&◌, ◌||◌, Option, Some, None, refl, sym, ap, subst, ◌∙◌}
use Rattle.std.specs.Prelude.{nat_le, unwrap_or}
use Rattle.std.proofs.Math.Bool.{and-false, and-true}
use Rattle.std.proofs.lemmas.Bool.{false≢true}
use Rattle.std.proofs.lemmas.Option.{none-some, same_Some}
use Rattle.message.specs.Content.{ContentText}
use Rattle.journal.specs.declared.entry.Event.{Event}
use Rattle.journal.specs.declared.entry.Event.TheVariants.{Set}
use Rattle.queue_config.specs.Settings.{QueueSettings}
use Rattle.queue_core.specs.declared.facts.Message.{Message}
use Rattle.queue_core.specs.declared.facts.Course.{Course}
use Rattle.queue_core.specs.declared.facts.Status.{Status}
use Rattle.queue_core.specs.declared.facts.Status.TheVariants.{Present, Removed, Waiting, Transferred}
use Rattle.queue_core.specs.Messages.{effect_of, contains_number, offers_number, loses, closes, closes_period, status_after, returns, due_after, course_after, first_of_both, is_present_status, awaits_status}
use Rattle.queue_core.specs.declared.slot.Stay.{Stay}
use Rattle.queue_core.specs.declared.slot.Stay.TheVariants.{Hidden, Shown, Left}
use Rattle.queue_core.specs.declared.record.Record.{Record}
use Rattle.queue_core.specs.private.Slots.{is_left_stay}
use Rattle.queue_core.specs.private.Records.{with_stay, with_parts, hidden_until, tried, received_at, back_at, has_run_out, offered_after, rescheduled_after, here_after, left_after, record_after_stay, record_after}
use Rattle.queue_core.specs.private.Recorded.{runs_out_by, notes_end, IsStanding}
use Rattle.queue_core.proofs.PushLemmas.{or_false}

-- what a journal tells of a message that it has
pub record Told : Type 0 where
  pub content : Option ContentText
  pub first_receive : Option ℕ
  pub last_receive : ℕ
  pub fresh : Bool
  pub tries : ℕ
  pub course : Course

-- a record says what is told of a message
pub record IsTold (m : Message) (t : Told) (r : Record) : Type 0 where
  pub content : t.content ≡ Some r.content
  pub enqueue_time : r.enqueue_time ≡ m.enqueue_time
  pub first_send_time : r.first_send_time ≡ m.first_send_time
  pub origin : r.origin ≡ m.origin
  pub first_receive : r.first_receive ≡ t.first_receive
  pub last_receive : r.last_receive ≡ t.last_receive
  pub fresh : r.slot.is_fresh ≡ t.fresh
  pub tries : r.slot.tries ≡ t.tries
  pub returned : r.slot.is_returned ≡ t.course.returned
  pub standing : IsStanding r.slot.stay r.slot.due t.course

-- a message that stands so, and has expired or not, is not live and does not wait for its dead-letter queue
abbrev pub IsGone : Status → Bool → Type 0
IsGone status expired = ((is_present_status status && not expired) ≡ false) × (awaits_status status ≡ false)

-- ---- tests

first-none : (o : Option ℕ) → first_of_both o None ≡ o
first-none None = refl
first-none (Some x) = refl

first-some : (at : ℕ) (o : Option ℕ) → Some (unwrap_or o at) ≡ first_of_both o (Some at)
first-some at None = refl
first-some at (Some x) = refl

-- what is there unless a test holds
pub there_unless : {A : Type 0} (b : Bool) (x y : A) → cond b None (Some x) ≡ Some y → (b ≡ false) × (x ≡ y)
there_unless true x y h = absurd (none-some y h)
there_unless false x y h = (refl, same_Some x y h)

pub gone_if : {A : Type 0} (b : Bool) (x : A) → cond b None (Some x) ≡ None → b ≡ true
gone_if true x h = refl
gone_if false x h = absurd (none-some x (sym h))

-- however a record stands, its due time is the message's
due_of : (stay : Stay) (due : ℕ) (c : Course) → IsStanding stay due c → c.due ≡ due
due_of Hidden due c h = h.1
due_of Shown due c h = h.1
due_of (Left target ran_out) due c h = h.1

-- ---- a message that is there, by what an event does to it

module _ (m : Message) (t : Told) (r : Record) (is : IsTold m t r) where
  -- the record of the same message with other receives and in another place
  pub told-with : (u : Told) (x : Record) → u.content ≡ t.content → x.first_receive ≡ u.first_receive → x.last_receive ≡ u.last_receive → x.slot.is_fresh ≡ u.fresh
      → x.slot.tries ≡ u.tries → x.slot.is_returned ≡ u.course.returned → IsStanding x.slot.stay x.slot.due u.course → IsTold m u (with_parts x.first_receive x.last_receive x.slot r)
  told-with u x content first_receive last_receive fresh tries returned standing = record {
    content = content ∙ is.content;
    enqueue_time = is.enqueue_time;
    first_send_time = is.first_send_time;
    origin = is.origin;
    first_receive = first_receive;
    last_receive = last_receive;
    fresh = fresh;
    tries = tries;
    returned = returned;
    standing = standing;
  }

  offered-told : (at : ℕ) (b : Bool)
      → IsTold m (record t { first_receive = first_of_both t.first_receive (cond b (Some at) None); last_receive = cond b at t.last_receive; fresh = t.fresh && not b; tries = cond b (tried t.tries) t.tries })
      (cond b (received_at at r) r)
  offered-told at true = told-with _ (received_at at r) refl (ap (λ (o : Option ℕ). Some (unwrap_or o at)) is.first_receive ∙ first-some at t.first_receive) refl (sym (and-false t.fresh)) (ap tried is.tries) is.returned is.standing
  offered-told at false = told-with _ r refl (is.first_receive ∙ sym (first-none t.first_receive)) is.last_receive (is.fresh ∙ sym (and-true t.fresh)) is.tries is.returned is.standing

  module _ (present : t.course.status ≡ Present) where
    rescheduled-told : (due : ℕ) (b : Bool) → IsTold m (record t { course = record t.course { due = cond b due t.course.due } }) (cond b (hidden_until due r) r)
    rescheduled-told due true = told-with _ (hidden_until due r) refl is.first_receive is.last_receive is.fresh is.tries is.returned (present, refl)
    rescheduled-told due false = is

    departed-told : (target : ℕ) (b : Bool)
        → IsTold m (record t { course = record t.course { status = cond b (Waiting target) Present } }) (cond b (with_stay (Left target false) r) r)
    departed-told target true = told-with _ (with_stay (Left target false) r) refl is.first_receive is.last_receive is.fresh is.tries is.returned (refl, due_of r.slot.stay r.slot.due t.course is.standing)
    departed-told target false = subst (λ (s : Status). IsTold m (record t { course = record t.course { status = s } }) r) present is

-- ---- one event, by the settings in force until then, at its time

-- what is told of a message after it
abbrev pub told_after : ℕ → Event ContentText → Message → Told → Told
told_after at event m t = record {
  content = t.content;
  first_receive = first_of_both t.first_receive (cond (offers_number m.number event) (Some at) None);
  last_receive = cond (offers_number m.number event) at t.last_receive;
  fresh = (t.fresh && not (offers_number m.number event)) && not (returns t.course.status event);
  tries = cond (offers_number m.number event) (tried t.tries) t.tries;
  course = course_after m.number t.course (record { at = at; event = event });
}

-- what brings a message back closes no period
lost-open : (target : ℕ) (event : Event ContentText) → loses target event ≡ true → closes_period event ≡ false
lost-open target (Set settings) h = absurd (false≢true h)
lost-open target event h = refl

-- ---- whether a message has expired behind an event: it had before, or the event ends the period and it has by the retention behind it

-- one that is there and had not
ends-here : (expired closed by behind : Bool) → expired ≡ by → by ≡ false → (closed ≡ false → behind ≡ by) → (expired || (closed && behind)) ≡ behind
ends-here expired true by behind e u k = ap (λ (b : Bool). b || behind) (e ∙ u)
ends-here expired false by behind e u k = ap (λ (b : Bool). b || false) (e ∙ u) ∙ sym (k refl ∙ u)

-- one that comes back
ends-back : (expired closed by behind : Bool) → expired ≡ by → closed ≡ false → (closed ≡ false → behind ≡ by) → (expired || (closed && behind)) ≡ behind
ends-back expired true by behind e c k = absurd (false≢true (sym c))
ends-back expired false by behind e c k = ap (λ (b : Bool). b || false) e ∙ or_false by ∙ sym (k refl)

-- one that stays away
ends-left : (expired closed noted by behind : Bool) → expired ≡ (noted || by) → (closed ≡ false → behind ≡ by) → (expired || (closed && behind)) ≡ ((noted || (closed && by)) || behind)
ends-left expired true noted by behind e k = ap (λ (b : Bool). b || behind) e
ends-left expired false true by behind e k = ap (λ (b : Bool). b || false) e
ends-left expired false false by behind e k = ap (λ (b : Bool). b || false) e ∙ or_false by ∙ sym (k refl)

module _ (s : QueueSettings) (at : ℕ) (event : Event ContentText) (m : Message) (t : Told) where
  abbrev here_told : Told
  here_told = record t {
    first_receive = first_of_both t.first_receive (cond (offers_number m.number event) (Some at) None);
    last_receive = cond (offers_number m.number event) at t.last_receive;
    fresh = t.fresh && not (offers_number m.number event);
    tries = cond (offers_number m.number event) (tried t.tries) t.tries;
    course = record t.course {
      status = cond (contains_number m.number (effect_of event).departures) (Waiting (effect_of event).target) Present;
      due = due_after m.number t.course.due at event;
    };
  }

  -- a message that is there and that the event does not remove
  here-same : t.course.status ≡ Present → (effect_of event).removes m.number ≡ false → here_told ≡ told_after at event m t
  here-same present unremoved =
      let status : here_told.course.status ≡ status_after m.number t.course.status event = rw (present, unremoved) refl in
      let returned : returns t.course.status event ≡ false = rw present refl in
      let fresh : (t.fresh && not (offers_number m.number event)) ≡ (told_after at event m t).fresh = rw returned (sym (and-true (t.fresh && not (offers_number m.number event)))) in
      let due : here_told.course.due ≡ (told_after at event m t).course.due = rw returned refl in
      let back : t.course.returned ≡ (told_after at event m t).course.returned = rw returned refl in
      λ i. record {
        content = t.content;
        first_receive = here_told.first_receive;
        last_receive = here_told.last_receive;
        fresh = fresh i;
        tries = here_told.tries;
        course = record { status = status i; due = due i; returned = back i };
      }

  module _ (r : Record) where
    abbrev kept_here : Record
    kept_here = rescheduled_after at event m.number (offered_after at event m.number r)

    abbrev here_record : Record
    here_record = cond (contains_number m.number (effect_of event).departures) (with_stay (Left (effect_of event).target false) kept_here) kept_here

    abbrev left_record : ℕ → Bool → Record
    left_record target ran_out = with_stay (Left target (ran_out || (closes_period event && has_run_out s.retention_seconds at r))) r

    abbrev left_by : ℕ → Bool → Bool → Bool → Bool → Option Record
    left_by target lost ran_out confirmed closed = cond lost (cond ran_out None (Some (back_at at r))) (cond confirmed None (cond closed None (Some (left_record target ran_out))))

  module _ (r : Record) (is : IsTold m t r) where
    ran-same : has_run_out s.retention_seconds at r ≡ runs_out_by s at m
    ran-same = ap (λ sent. nat_le (sent + 1000 * s.retention_seconds) at) is.first_send_time

    offered-notes : (b : Bool) → notes_end (cond b (received_at at r) r).slot.stay ≡ notes_end r.slot.stay
    offered-notes true = refl
    offered-notes false = refl

    rescheduled-notes : (due : ℕ) (b : Bool) (x : Record) → notes_end x.slot.stay ≡ false → notes_end (cond b (hidden_until due x) x).slot.stay ≡ false
    rescheduled-notes due true x h = refl
    rescheduled-notes due false x h = h

    departed-notes : (target : ℕ) (b : Bool) (x : Record) → notes_end x.slot.stay ≡ false → notes_end (cond b (with_stay (Left target false) x) x).slot.stay ≡ false
    departed-notes target true x h = refl
    departed-notes target false x h = h

    here-notes : notes_end r.slot.stay ≡ false → notes_end (here_record r).slot.stay ≡ false
    here-notes h =
        departed-notes (effect_of event).target (contains_number m.number (effect_of event).departures) (kept_here r)
        (rescheduled-notes (at + 1000 * (effect_of event).timeout) (contains_number m.number (effect_of event).rescheduled) (offered_after at event m.number r) (offered-notes (offers_number m.number event) ∙ h))

    here-told : t.course.status ≡ Present → IsTold m here_told (here_record r)
    here-told present =
        let offered = offered-told m t r is at (offers_number m.number event) in
        let rescheduled = rescheduled-told m _ _ offered present (at + 1000 * (effect_of event).timeout) (contains_number m.number (effect_of event).rescheduled) in
        departed-told m _ _ rescheduled present (effect_of event).target (contains_number m.number (effect_of event).departures)

    here-next : (after : Record) → t.course.status ≡ Present → here_after at event m.number r ≡ Some after → IsTold m (told_after at event m t) after
    here-next after present h =
        let there = there_unless ((effect_of event).removes m.number) (here_record r) after h in
        subst (IsTold m (told_after at event m t)) there.1 (subst (λ (u : Told). IsTold m u (here_record r)) (here-same present there.0) (here-told present))

    -- a message that has left
    module _ (target : ℕ) (waiting : t.course.status ≡ Waiting target) (unoffered : offers_number m.number event ≡ false) (unmoved : contains_number m.number (effect_of event).rescheduled ≡ false) where
      left-first : r.first_receive ≡ first_of_both t.first_receive (cond (offers_number m.number event) (Some at) None)
      left-first = is.first_receive ∙ rw unoffered (sym (first-none t.first_receive))

      left-last : r.last_receive ≡ cond (offers_number m.number event) at t.last_receive
      left-last = is.last_receive ∙ rw unoffered refl

      left-tries : r.slot.tries ≡ cond (offers_number m.number event) (tried t.tries) t.tries
      left-tries = is.tries ∙ rw unoffered refl

      back-told : loses target event ≡ true → IsTold m (told_after at event m t) (back_at at r)
      back-told lost =
          told-with m t r is (told_after at event m t) (back_at at r) refl left-first left-last (rw (waiting, lost) (sym (and-false (t.fresh && not (offers_number m.number event)))))
          left-tries (rw (waiting, lost) refl) (rw (waiting, lost) refl, rw (waiting, lost) refl)

      stays-told : (ran_out : Bool) → loses target event ≡ false → (effect_of event).confirms m.number ≡ false → closes event ≡ false
          → IsTold m (told_after at event m t) (left_record r target ran_out)
      stays-told ran_out unlost unconfirmed unclosed =
          told-with m t r is (told_after at event m t) (left_record r target ran_out) refl left-first left-last
          (is.fresh ∙ rw (waiting, unlost, unoffered) (sym (and-true (t.fresh && true) ∙ and-true t.fresh))) left-tries (is.returned ∙ rw (waiting, unlost) refl)
          (rw (waiting, unlost, unconfirmed, unclosed) refl, rw (waiting, unlost, unmoved) (due_of r.slot.stay r.slot.due t.course is.standing))

      left-next : (ran_out : Bool) (after : Record) → left_after s at event m.number target ran_out r ≡ Some after → IsTold m (told_after at event m t) after
      left-next ran_out after h = by_tests (loses target event) ran_out ((effect_of event).confirms m.number) (closes event) refl refl refl h
        where
          by_tests : (lost ran_out confirmed closed : Bool) → loses target event ≡ lost → (effect_of event).confirms m.number ≡ confirmed → closes event ≡ closed
              → left_by r target lost ran_out confirmed closed ≡ Some after
              → IsTold m (told_after at event m t) after
          by_tests true true confirmed closed e g k is_after = absurd (none-some after is_after)
          by_tests true false confirmed closed e g k is_after = subst (IsTold m (told_after at event m t)) (same_Some _ after is_after) (back-told e)
          by_tests false ran_out true closed e g k is_after = absurd (none-some after is_after)
          by_tests false ran_out false true e g k is_after = absurd (none-some after is_after)
          by_tests false ran_out false false e g k is_after = subst (IsTold m (told_after at event m t)) (same_Some _ after is_after) (stays-told ran_out e g k)

    -- the record after the event says what is told then
    pub told-next : (after : Record) → ((target : ℕ) → t.course.status ≡ Waiting target → offers_number m.number event ≡ false)
        → ((target : ℕ) → t.course.status ≡ Waiting target → contains_number m.number (effect_of event).rescheduled ≡ false)
        → record_after s at event m.number r ≡ Some after → IsTold m (told_after at event m t) after
    told-next after unoffered unmoved h = by_stay r.slot.stay is.standing h
      where
        by_stay : (stay : Stay) → IsStanding stay r.slot.due t.course → record_after_stay s at event m.number stay r ≡ Some after → IsTold m (told_after at event m t) after
        by_stay Hidden stands k = here-next after stands.0 k
        by_stay Shown stands k = here-next after stands.0 k
        by_stay (Left target ran_out) stands k = left-next target stands.0 (unoffered target stands.0) (unmoved target stands.0) ran_out after k

    -- and a message that loses its record is not there, or has expired, and does not wait
    pub told-gone : (expired : Bool) → (notes_end r.slot.stay ≡ true → expired ≡ true) → record_after s at event m.number r ≡ None → IsGone (told_after at event m t).course.status expired
    told-gone expired ended h = by_stay r.slot.stay is.standing ended h
      where
        stands_as : (status : Status) → (told_after at event m t).course.status ≡ status → IsGone status expired → IsGone (told_after at event m t).course.status expired
        stands_as status e k = rw e k

        by_tests : (target : ℕ) → t.course.status ≡ Waiting target → (lost ran_out confirmed closed : Bool) → loses target event ≡ lost → (ran_out ≡ true → expired ≡ true)
            → (effect_of event).confirms m.number ≡ confirmed → closes event ≡ closed → left_by r target lost ran_out confirmed closed ≡ None
            → IsGone (told_after at event m t).course.status expired
        by_tests target waiting true true confirmed closed e f g k is_none = stands_as Present (rw (waiting, e) refl) (ap not (f refl), refl)
        by_tests target waiting true false confirmed closed e f g k is_none = absurd (none-some (back_at at r) (sym is_none))
        by_tests target waiting false ran_out true closed e f g k is_none = stands_as Transferred (rw (waiting, e, g) refl) (refl, refl)
        by_tests target waiting false ran_out false true e f g k is_none = stands_as Removed (rw (waiting, e, g, k) refl) (refl, refl)
        by_tests target waiting false ran_out false false e f g k is_none = absurd (none-some _ (sym is_none))

        by_removal : t.course.status ≡ Present → here_after at event m.number r ≡ None → IsGone (told_after at event m t).course.status expired
        by_removal present k =
            let removed = gone_if ((effect_of event).removes m.number) (here_record r) k in
            stands_as Removed (rw (present, removed) refl) (refl, refl)

        by_stay : (stay : Stay) → IsStanding stay r.slot.due t.course → (notes_end stay ≡ true → expired ≡ true) → record_after_stay s at event m.number stay r ≡ None
            → IsGone (told_after at event m t).course.status expired
        by_stay Hidden stands f k = by_removal stands.0 k
        by_stay Shown stands f k = by_removal stands.0 k
        by_stay (Left target ran_out) stands f k = by_tests target stands.0 (loses target event) ran_out ((effect_of event).confirms m.number) (closes event) refl f refl refl k

    -- and whether the message has expired: by the retention that was in force where that is over, or by the one behind the event
    pub expired-next : (expired behind : Bool) → expired ≡ (notes_end r.slot.stay || runs_out_by s at m) → (not (is_left_stay r.slot.stay) && has_run_out s.retention_seconds at r) ≡ false
        → (closes_period event ≡ false → behind ≡ runs_out_by s at m) → (after : Record) → record_after s at event m.number r ≡ Some after
        → (expired || (closes_period event && behind)) ≡ (notes_end after.slot.stay || behind)
    expired-next expired behind e u k after h = by_stay r.slot.stay refl e u h
      where
        here : notes_end r.slot.stay ≡ false → expired ≡ runs_out_by s at m → has_run_out s.retention_seconds at r ≡ false → here_after at event m.number r ≡ Some after
            → (expired || (closes_period event && behind)) ≡ (notes_end after.slot.stay || behind)
        here unnoted f unexpired is_after =
            let there = there_unless ((effect_of event).removes m.number) (here_record r) after is_after in
            let noted : notes_end after.slot.stay ≡ false = ap (λ (x : Record). notes_end x.slot.stay) (sym there.1) ∙ here-notes unnoted in
            ends-here expired (closes_period event) (runs_out_by s at m) behind f (sym ran-same ∙ unexpired) k ∙ ap (λ (b : Bool). b || behind) (sym noted)

        by_tests : (target : ℕ) (lost noted confirmed closed : Bool) → loses target event ≡ lost → expired ≡ (noted || runs_out_by s at m) → left_by r target lost noted confirmed closed ≡ Some after
            → (expired || (closes_period event && behind)) ≡ (notes_end after.slot.stay || behind)
        by_tests target true true confirmed closed lost f is_after = absurd (none-some after is_after)
        by_tests target true false confirmed closed lost f is_after =
            ends-back expired (closes_period event) (runs_out_by s at m) behind f (lost-open target event lost) k ∙ ap (λ (x : Record). notes_end x.slot.stay || behind) (same_Some (back_at at r) after is_after)
        by_tests target false noted true closed lost f is_after = absurd (none-some after is_after)
        by_tests target false noted false true lost f is_after = absurd (none-some after is_after)
        by_tests target false noted false false lost f is_after =
            ends-left expired (closes_period event) noted (runs_out_by s at m) behind f k ∙ ap (λ (b : Bool). (noted || (closes_period event && b)) || behind) (sym ran-same)
            ∙ ap (λ (x : Record). notes_end x.slot.stay || behind) (same_Some (left_record r target noted) after is_after)

        by_stay : (stay : Stay) → r.slot.stay ≡ stay → expired ≡ (notes_end stay || runs_out_by s at m) → (not (is_left_stay stay) && has_run_out s.retention_seconds at r) ≡ false
            → record_after_stay s at event m.number stay r ≡ Some after → (expired || (closes_period event && behind)) ≡ (notes_end after.slot.stay || behind)
        by_stay Hidden same f unexpired is_after = here (ap notes_end same) f unexpired is_after
        by_stay Shown same f unexpired is_after = here (ap notes_end same) f unexpired is_after
        by_stay (Left target ran_out) same f unexpired is_after =
            by_tests target (loses target event) ran_out ((effect_of event).confirms m.number) (closes event) refl f is_after

-- a message without a record, which neither is live nor waits, and does not leave by the event: it is so after it
pub untold : (number : ℕ) (event : Event ContentText) (status : Status) (expired later : Bool) → IsGone status expired
    → (expired ≡ true → later ≡ true) → contains_number number (effect_of event).departures ≡ false
    → IsGone (status_after number status event) later
untold number event Present true later gone lasts stays =
    (rw (lasts refl) (and-false (is_present_status (status_after number Present event))), by_test ((effect_of event).removes number))
  where
    by_test : (removed : Bool) → awaits_status (cond removed Removed (cond (contains_number number (effect_of event).departures) (Waiting (effect_of event).target) Present)) ≡ false
    by_test true = refl
    by_test false = rw stays refl
untold number event Present false later gone lasts stays = absurd (false≢true (sym gone.0))
untold number event Removed expired later gone lasts stays = (refl, refl)
untold number event (Waiting target) expired later gone lasts stays = absurd (false≢true (sym gone.1))
untold number event Transferred expired later gone lasts stays = by_test (closes event)
  where
    by_test : (closed : Bool) → IsGone (cond closed Removed Transferred) later
    by_test true = (refl, refl)
    by_test false = (refl, refl)
