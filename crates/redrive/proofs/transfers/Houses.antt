-- What each step of the registry does to the view.
use Rattle.std.proofs.Common.{◌≡◌, ℕ, ◌≤◌, Bool, true, false, cond, List, [], ◌∷◌, Option, Some, None, Result, Ok, Err, refl, sym, ap, subst, inl, inr, ◌∙◌, arith, eqb-true, unwrap_or}
use Rattle.std.specs.Prelude.{⊤, ◌⊎◌, MatchBool, nat_eq, is_some, option_and_then}
use Rattle.std.specs.List.{find, Contains}
use Rattle.std.specs.Option.{option_map, option_map_or, option_or}
use Rattle.std.proofs.lemmas.Bool.{ne_eqb, false≢true, eq-eqb}
use Rattle.std.proofs.lemmas.Option.{none-some, same_Some, option_and_then_some}
use Rattle.message.specs.declared.fault.Fault.{Fault}
use Rattle.message.specs.declared.fault.Fault.TheVariants.{QueueDoesNotExist, InvalidAttributeValue, UnsupportedOperation}
use Rattle.message.specs.Content.{ContentText}
use Rattle.message.specs.Fault.{Meets, is_out_of_memory}
use Rattle.queue_config.specs.AlarmRules.{Rule}
use Rattle.queue_config.specs.Settings.{QueueSettings, default_settings, settings_with}
use Rattle.journal.specs.declared.entry.Event.{Event}
use Rattle.journal.specs.declared.entry.Event.TheVariants.{Opened, Arrived, Received, Deleted, Set, Settled, Orphaned, Closed, Base}
use Rattle.queue_core.specs.declared.command.Command.{Command}
use Rattle.queue_core.specs.declared.command.Command.TheVariants as commands
use Rattle.queue_core.specs.declared.facts.Message.{Message}
use Rattle.queue_core.specs.declared.parcel.Parcel.{Parcel}
use Rattle.queue_core.specs.Messages.{message_id, pending_transfers, has_accepted}
use Rattle.queue_core.specs.States.{message_numbered}
use Rattle.queue_core.specs.Queue.{QueueHistory, at_moment, first_parcel_of}
use Rattle.queue_core.specs.Whole.{whole_after}
use Rattle.queue_core.specs.Kept.{opened_queue}
use Rattle.redrive.specs.declared.steps.HouseReply.TheVariants as replies
use Rattle.redrive.specs.declared.steps.HouseStep.{HouseStep}
use Rattle.redrive.specs.declared.steps.HouseStep.TheVariants as steps
use Rattle.redrive.specs.House.{House, queue_of_uid, has_queue, with_queue, next_queue, with_queue_changed, without_queue, closed_queue, taken_alone, is_internal, may_set, step_refusal, first_parcel_in, AddressedCommand, is_accepted, accepted_number, target_uid, opens_queue, house_at_moment}
use Rattle.redrive.specs.History.{AllQueues, journal_of, was_accepted}
use Rattle.redrive.specs.HouseSteps.{HouseAnswer, as_house_reply, HouseChange, Act, perform_act, hand_over_act, confirm_act, act_of}
use Rattle.redrive.specs.HouseSteps as run
use Rattle.redrive.specs.HistorySteps.{HistoryStep, Own, Settle, settled_number}
use Rattle.redrive.specs.WholeSteps.{with_command, whole_changed, whole_after_step}
use Rattle.redrive.proofs.transfers.Journals.{Line, Lines, more}
use Rattle.redrive.proofs.transfers.Views.{View, view_of, IsSettling, IsStep, Grows, IsOpened, Change, Stays, Steps, Opens, Closes, by_uid}
use Rattle.redrive.proofs.KeyedLemmas.{find-map, find-passes, find-without, find-without_other}
use Rattle.redrive.proofs.RegistryLemmas.{whole_after-uid, changed-queue, changed-none, without-none}
use Rattle.redrive.proofs.AnswerLemmas.{no_queue}
use Rattle.redrive.proofs.StepLemmas.{opened-queue}
use Rattle.redrive.proofs.transfers.Commands.{IsAdded, whole_event, whole_after-lines, IsOwn, own-at, arrived-at, settled-at, orphaned-at, some_first, handed}

-- ---- finding queues

pub uid_of_open : (w : House) (u : ℕ) (q : QueueHistory) → queue_of_uid w u ≡ Some q → q.uid ≡ u
uid_of_open w u q h = eqb-true q.uid u (find-passes (λ q. nat_eq q.uid u) w.queues q h)

-- ---- the view of a registry, by what is found of a uid

abbrev journal_found : Option QueueHistory → Option QueueHistory → Lines
journal_found there deleted = unwrap_or (option_map (λ q. q.lines) (option_or there deleted)) []

-- a queue is changed: nothing else is
module _ (all : AllQueues) (uid : ℕ) (change : QueueHistory → QueueHistory) (keeps : (q : QueueHistory) → (change q).uid ≡ q.uid) where
  abbrev changed : AllQueues
  changed = record { house = with_queue_changed all.house uid change; deleted = all.deleted }

  found-here : (q : QueueHistory) → queue_of_uid all.house uid ≡ Some q → queue_of_uid changed.house uid ≡ Some (change q)
  found-here q h = changed-queue all.house uid uid change true keeps (eq-eqb uid uid refl) ∙ ap (option_map change) h

  found-other : (u : ℕ) → (u ≡ uid → ⊥) → queue_of_uid changed.house u ≡ queue_of_uid all.house u
  found-other u differs = changed-queue all.house uid u change false keeps (ne_eqb uid u (λ e. differs (sym e)))

  open-if : (b : Bool) (o : Option QueueHistory) → is_some (cond b (option_map change o) o) ≡ is_some o
  open-if true None = refl
  open-if true (Some q) = refl
  open-if false o = refl

  open-changed : (u : ℕ) → has_queue changed.house u ≡ has_queue all.house u
  open-changed u = ap is_some (changed-queue all.house uid u change (nat_eq uid u) keeps refl) ∙ open-if (nat_eq uid u) (queue_of_uid all.house u)

  lines-other : (u : ℕ) → (u ≡ uid → ⊥) → (view_of changed).lines u ≡ (view_of all).lines u
  lines-other u differs = ap (λ (o : Option QueueHistory). journal_found o (find (λ q. nat_eq q.uid u) all.deleted)) (found-other u differs)

pub lines_there : (all : AllQueues) (u : ℕ) (q : QueueHistory) → queue_of_uid all.house u ≡ Some q → (view_of all).lines u ≡ q.lines
lines_there all u q h = ap (λ (o : Option QueueHistory). journal_found o (find (λ q. nat_eq q.uid u) all.deleted)) h

pub open_there : (all : AllQueues) (u : ℕ) (q : QueueHistory) → queue_of_uid all.house u ≡ Some q → (view_of all).is_open u ≡ true
open_there all u q h = ap is_some h

-- no uid from the next one on was ever used
pub record IsFresh (all : AllQueues) : Type 0 where
  pub none_there : (u : ℕ) → all.house.next_uid ≤ u → queue_of_uid all.house u ≡ None
  pub none_deleted : (u : ℕ) → all.house.next_uid ≤ u → find (λ q. nat_eq q.uid u) all.deleted ≡ None

-- what a step does, and that the next uids are still unused
pub record LeadsTo (ending : ℕ → Type 0) (all after : AllQueues) : Type 0 where
  pub change : Change ending (view_of all) (view_of after)
  pub fresh : IsFresh after

nothing-led : {ending : ℕ → Type 0} → (all : AllQueues) → IsFresh all → LeadsTo ending all all
nothing-led all fresh = record { change = Stays (λ u. refl) (λ u. refl); fresh = fresh }

same-led : {ending : ℕ → Type 0} → (all : AllQueues) (w : House) → w ≡ all.house → IsFresh all → LeadsTo ending all (record { house = w; deleted = all.deleted })
same-led {ending} all w same fresh = subst (λ (w : House). LeadsTo ending all (record { house = w; deleted = all.deleted })) (sym same) (nothing-led all fresh)

-- ---- a queue that is changed

module _ (all : AllQueues) (uid : ℕ) (change : QueueHistory → QueueHistory) (keeps : (q : QueueHistory) → (change q).uid ≡ q.uid) (fresh : IsFresh all) where
  fresh-changed : IsFresh (changed all uid change keeps)
  fresh-changed = record {
    none_there = λ u l. no_queue (queue_of_uid (with_queue_changed all.house uid change) u) (open-changed all uid change keeps u ∙ ap is_some (fresh.none_there u l));
    none_deleted = fresh.none_deleted;
  }

  lines-changed : (q : QueueHistory) → queue_of_uid all.house uid ≡ Some q → (view_of (changed all uid change keeps)).lines uid ≡ (change q).lines
  lines-changed q h = ap (λ (o : Option QueueHistory). journal_found o (find (λ q. nat_eq q.uid uid) all.deleted)) (found-here all uid change keeps q h)

  led-same : {ending : ℕ → Type 0} → (q : QueueHistory) → queue_of_uid all.house uid ≡ Some q → (change q).lines ≡ q.lines → LeadsTo ending all (changed all uid change keeps)
  led-same q h same = record {
    change = Stays (λ u. by_uid u uid (λ w. (view_of (changed all uid change keeps)).lines w ≡ (view_of all).lines w) (lines-changed q h ∙ (same ∙ sym (lines_there all uid q h)))
        (λ differs. lines-other all uid change keeps u differs)) (open-changed all uid change keeps);
    fresh = fresh-changed;
  }

  led-more : {ending : ℕ → Type 0} → (q : QueueHistory) (e : Line) → queue_of_uid all.house uid ≡ Some q → (change q).lines ≡ more q.lines e → IsStep (view_of all) uid e.event → LeadsTo ending all (changed all uid change keeps)
  led-more q e h is step = record {
    change = Steps uid e (record { here = lines-changed q h ∙ (is ∙ ap (λ (ls : Lines). more ls e) (sym (lines_there all uid q h))); others = lines-other all uid change keeps })
        (open-changed all uid change keeps) (open_there all uid q h) step;
    fresh = fresh-changed;
  }

-- what a command adds to the journal of the queue of a uid is a step
abbrev Says : AllQueues → ℕ → ℕ → Command → Type 0
Says all at uid command =
    (q : QueueHistory) (event : Event ContentText) → queue_of_uid all.house uid ≡ Some q → whole_event q at command ≡ Some event → IsStep (view_of all) uid event

-- a command comes to the queue of a uid, if there is one
module _ {T : Type 0} (all : AllQueues) (uid at : ℕ) (command : Command) (answer : Result T Fault) (fresh : IsFresh all) (says : Says all at uid command) where
  command-added : {ending : ℕ → Type 0} → (q : QueueHistory) → queue_of_uid all.house uid ≡ Some q
      → ((whole_after q at command answer).lines ≡ q.lines) ⊎ IsAdded (whole_event q at command) q.lines (whole_after q at command answer).lines
      → LeadsTo ending all (with_command all uid at command answer)
  command-added q h (inl same) = led-same all uid (λ q. whole_after q at command answer) (whole_after-uid at command answer) fresh q h same
  command-added q h (inr a) = led-more all uid (λ q. whole_after q at command answer) (whole_after-uid at command answer) fresh q a.line h a.is (says q a.line.event h a.added)

  command-found : {ending : ℕ → Type 0} → (o : Option QueueHistory) → queue_of_uid all.house uid ≡ o → LeadsTo ending all (with_command all uid at command answer)
  command-found None h = same-led all (with_queue_changed all.house uid (λ q. whole_after q at command answer)) (changed-none all.house uid (λ q. whole_after q at command answer) h) fresh
  command-found (Some q) h = command-added q h (whole_after-lines q at command answer)

  command-led : {ending : ℕ → Type 0} → LeadsTo ending all (with_command all uid at command answer)
  command-led = command-found (queue_of_uid all.house uid) refl

-- ---- performing a command

same-not_internal : (a b c : Bool) (f g h : Fault) → cond a (cond b (Some f) (cond c None (Some g))) (Some h) ≡ None → b ≡ false
same-not_internal false b c f g h e = absurd cc
same-not_internal true true c f g h e = absurd cc
same-not_internal true false c f g h e = refl

own-step : (v : View) (u : ℕ) (event : Event ContentText) → IsOwn (v.lines u) event → IsStep v u event
own-step v u (Opened uid settings) h = h
own-step v u (Arrived origin content) h = absurd h
own-step v u (Received timeout offered leaving target) h = h
own-step v u (Settled number) h = absurd h
own-step v u (Orphaned target) h = absurd h
own-step v u Closed h = h
own-step v u (Base base) h = h
own-step v u event h = h

performed-says : (all : AllQueues) (uid at : ℕ) (command : Command) → step_refusal all.house uid command ≡ None → Says all at uid command
performed-says all uid at command e q event h added =
    let external : is_internal command ≡ false = same-not_internal (has_queue all.house uid) (is_internal command) (may_set all.house uid command) UnsupportedOperation InvalidAttributeValue QueueDoesNotExist e in
    own-step (view_of all) uid event (subst (λ (ls : Lines). IsOwn ls event) (sym (lines_there all uid q h)) (own-at q at event command external added))

-- ---- handing over, and confirming

-- the first parcel of the queue of a uid
record IsParcelOf (all : AllQueues) (source : ℕ) (p : Parcel) : Type 0 where
  uid : p.origin.uid ≡ source
  there : (view_of all).is_open source ≡ true
  message : Message
  numbered : message_numbered ((view_of all).lines source) p.origin.number ≡ Some message
  named : message_id source message ≡ p.origin.id
  pending : Contains (pending_transfers ((view_of all).lines source)) (record { number = p.origin.number; target = p.target })

parcel_of_found : (all : AllQueues) (source : ℕ) (o : Option QueueHistory) (p : Parcel) → queue_of_uid all.house source ≡ o → option_and_then (λ q. first_parcel_of q) o ≡ Some p → IsParcelOf all source p
parcel_of_found all source None p e h = absurd (none-some p h)
parcel_of_found all source (Some q) p e h =
    let x = handed q p h in
    let u : q.uid ≡ source = uid_of_open all.house source q e in
    let ls : q.lines ≡ (view_of all).lines source = sym (lines_there all source q e) in
    record {
      uid = x.uid ∙ u;
      there = open_there all source q e;
      message = x.message;
      numbered = subst (λ (l : Lines). message_numbered l p.origin.number ≡ Some x.message) ls x.numbered;
      named = subst (λ (k : ℕ). message_id k x.message ≡ p.origin.id) u x.named;
      pending = subst (λ (l : Lines). Contains (pending_transfers l) (record { number = p.origin.number; target = p.target })) ls (some_first q.lines (record { number = p.origin.number; target = p.target }) x.first);
    }

module _ (all : AllQueues) (source at : ℕ) (p : Parcel) (its : IsParcelOf all source p) where
  arrival-says : Says all at p.target (commands.Arrive p)
  arrival-says q event h added =
      let a = arrived-at q at event p added in
      let back : source ≡ p.origin.uid = sym its.uid in
      subst (IsStep (view_of all) p.target) (sym a.is)
      (record {
        there = subst (λ (u : ℕ). (view_of all).is_open u ≡ true) back its.there;
        message = its.message;
        numbered = subst (λ (u : ℕ). message_numbered ((view_of all).lines u) p.origin.number ≡ Some its.message) back its.numbered;
        named = subst (λ (u : ℕ). message_id u its.message ≡ p.origin.id) back its.named;
        pending = subst (λ (u : ℕ). Contains (pending_transfers ((view_of all).lines u)) (record { number = p.origin.number; target = p.target })) back its.pending;
        unaccepted = ap (λ (ls : Lines). has_accepted ls p.origin.uid p.origin.number) (lines_there all p.target q h) ∙ a.first;
      })

  delivered-says : (b : Bool) → has_queue all.house p.target ≡ b → let d : AddressedCommand = cond b (record { uid = p.target; command = commands.Arrive p }) (record { uid = source; command = commands.Orphan p.target }) in
      Says all at d.uid d.command
  delivered-says true e = arrival-says
  delivered-says false e = λ q event h added. subst (IsStep (view_of all) source) (sym (orphaned-at q at event p.target added)) e

  accepted-there : (o : Option QueueHistory) → queue_of_uid all.house p.target ≡ o → option_map_or (λ q. has_accepted q.lines p.origin.uid p.origin.number) o false ≡ true
      → has_accepted ((view_of all).lines p.target) source p.origin.number ≡ true
  accepted-there None e h = absurd (false≢true h)
  accepted-there (Some q) e h =
      ap (λ (ls : Lines). has_accepted ls source p.origin.number) (lines_there all p.target q e) ∙ subst (λ (u : ℕ). has_accepted q.lines u p.origin.number ≡ true) its.uid h

accepted-ever : (o : Option Lines) (u n : ℕ) → option_map_or (λ lines. has_accepted lines u n) o false ≡ true → has_accepted (unwrap_or o []) u n ≡ true
accepted-ever None u n h = h
accepted-ever (Some lines) u n h = h

-- the number of the first parcel, where its queue has accepted it
module _ (all : AllQueues) (source at : ℕ) (accepted : Parcel → Bool)
    (known : (p : Parcel) → IsParcelOf all source p → accepted p ≡ true → has_accepted ((view_of all).lines p.target) source p.origin.number ≡ true) where
  settled-says : (n : ℕ) → option_and_then (λ p. cond (accepted p) (Some p.origin.number) None) (first_parcel_in all.house source) ≡ Some n → Says all at source (commands.Settle n)
  settled-says n h =
      option_and_then_some (λ p. cond (accepted p) (Some p.origin.number) None) (first_parcel_in all.house source) n h
      (λ p first k. by_test p (parcel_of_found all source (queue_of_uid all.house source) p refl first) (accepted p) refl k)
    where
      by_test : (p : Parcel) → IsParcelOf all source p → (b : Bool) → accepted p ≡ b → cond b (Some p.origin.number) None ≡ Some n → Says all at source (commands.Settle n)
      by_test p its true e is q event h added =
          subst (IsStep (view_of all) source) (sym (settled-at q at event n added))
          (subst (λ (k : ℕ). IsSettling (view_of all) source k) (same_Some p.origin.number n is) (record { target = p.target; pending = its.pending; accepted = known p its e }))
      by_test p its false e is q event h added = absurd (none-some n is)

-- ---- opening a queue

module _ (all : AllQueues) (at : ℕ) (name : List ℕ) (settings : QueueSettings) (rules : List Rule) (fresh : IsFresh all) where
  abbrev pub opened : QueueHistory
  opened = opened_queue all.house.next_uid name settings all.house.limits rules at

  abbrev pub opening : Line
  opening = record { at = at; event = Opened all.house.next_uid settings }

  abbrev pub with_opened : AllQueues
  with_opened = record { house = with_queue all.house opened; deleted = all.deleted }

  found-others : (u : ℕ) → (u ≡ all.house.next_uid → ⊥) → queue_of_uid with_opened.house u ≡ queue_of_uid all.house u
  found-others u differs = opened-queue all.house u opened false (ne_eqb all.house.next_uid u (λ e. differs (sym e))) (fresh.none_there all.house.next_uid (omega arith))

  found-opened : queue_of_uid with_opened.house all.house.next_uid ≡ Some opened
  found-opened = opened-queue all.house all.house.next_uid opened true (eq-eqb all.house.next_uid all.house.next_uid refl) (fresh.none_there all.house.next_uid (omega arith))

  unused : (view_of all).lines all.house.next_uid ≡ []
  unused =
      ap (λ (o : Option QueueHistory). journal_found o (find (λ q. nat_eq q.uid all.house.next_uid) all.deleted)) (fresh.none_there all.house.next_uid (omega arith))
      ∙ ap (λ (o : Option QueueHistory). journal_found None o) (fresh.none_deleted all.house.next_uid (omega arith))

  pub opened-grows : Grows (view_of all) (view_of with_opened) all.house.next_uid opening
  opened-grows = record {
    here = ap (λ (o : Option QueueHistory). journal_found o (find (λ q. nat_eq q.uid all.house.next_uid) all.deleted)) found-opened ∙ ap (λ (ls : Lines). more ls opening) (sym unused);
    others = λ u differs. ap (λ (o : Option QueueHistory). journal_found o (find (λ q. nat_eq q.uid u) all.deleted)) (found-others u differs);
  }

  pub opened-is : IsOpened (view_of all) (view_of with_opened) all.house.next_uid opening
  opened-is = record { unused = unused; was_shut = ap is_some (fresh.none_there all.house.next_uid (omega arith)); settings = settings; opening = refl; others = λ u differs. ap is_some (found-others u differs) }

  pub opened-fresh : IsFresh with_opened
  opened-fresh = record {
    none_there = λ u l. found-others u (λ e. absurd (omega arith)) ∙ fresh.none_there u (omega arith);
    none_deleted = λ u l. fresh.none_deleted u (omega arith);
  }

  opened-led : {ending : ℕ → Type 0} → LeadsTo ending all with_opened
  opened-led = record { change = Opens all.house.next_uid opening opened-grows opened-is; fresh = opened-fresh }

-- ---- closing a queue

module _ (all : AllQueues) (uid at : ℕ) (fresh : IsFresh all) where
  found-left : (u : ℕ) → (u ≡ uid → ⊥) → queue_of_uid (without_queue all.house uid) u ≡ queue_of_uid all.house u
  found-left u differs = find-without_other (λ (q : QueueHistory). q.uid) uid u differs all.house.queues

  found-out : queue_of_uid (without_queue all.house uid) uid ≡ None
  found-out = find-without (λ (q : QueueHistory). q.uid) uid all.house.queues

  none-left : (u : ℕ) → queue_of_uid all.house u ≡ None → queue_of_uid (without_queue all.house uid) u ≡ None
  none-left u h =
      by_uid u uid (λ w. queue_of_uid (without_queue all.house uid) w ≡ None) found-out (λ differs. found-left u differs ∙ h)

  module _ (q : QueueHistory) (here : queue_of_uid all.house uid ≡ Some q) where
    abbrev closed : AllQueues
    closed = record { house = without_queue all.house uid; deleted = closed_queue q at ∷ all.deleted }

    its_uid : q.uid ≡ uid
    its_uid = uid_of_open all.house uid q here

    deleted-others : (u : ℕ) → (u ≡ uid → ⊥) → find (λ q. nat_eq q.uid u) closed.deleted ≡ find (λ q. nat_eq q.uid u) all.deleted
    deleted-others u differs = ap (λ b. cond b (Some (closed_queue q at)) (find (λ q. nat_eq q.uid u) all.deleted)) (ne_eqb q.uid u (λ e. differs (sym e ∙ its_uid)))

    deleted-here : find (λ q. nat_eq q.uid uid) closed.deleted ≡ Some (closed_queue q at)
    deleted-here = ap (λ b. cond b (Some (closed_queue q at)) (find (λ q. nat_eq q.uid uid) all.deleted)) (eq-eqb q.uid uid its_uid)

    abbrev closing_line : Line
    closing_line = record { at = (at_moment q at).clock; event = Closed }

    lines-others : (u : ℕ) → (u ≡ uid → ⊥) → (view_of closed).lines u ≡ (view_of all).lines u
    lines-others u differs =
        ap (λ (o : Option QueueHistory). journal_found o (find (λ q. nat_eq q.uid u) closed.deleted)) (found-left u differs)
        ∙ ap (λ (o : Option QueueHistory). journal_found (queue_of_uid all.house u) o) (deleted-others u differs)

    lines-here : (view_of closed).lines uid ≡ more ((view_of all).lines uid) closing_line
    lines-here =
        ap (λ (o : Option QueueHistory). journal_found o (find (λ q. nat_eq q.uid uid) closed.deleted)) found-out
        ∙ (ap (λ (o : Option QueueHistory). journal_found None o) deleted-here ∙ ap (λ (ls : Lines). more ls closing_line) (sym (lines_there all uid q here)))

    closed-led : {ending : ℕ → Type 0} → ending uid → LeadsTo ending all closed
    closed-led ends = record {
      change = Closes uid closing_line (record { here = lines-here; others = lines-others })
          (record { was_open = open_there all uid q here; is_closed = ap is_some found-out; closing = refl; others = λ u differs. ap is_some (found-left u differs) }) ends;
      fresh = record {
        none_there = λ u l. none-left u (fresh.none_there u l);
        none_deleted = λ u l. deleted-others u (λ e. none-some q (sym (fresh.none_there u l) ∙ subst (λ (w : ℕ). queue_of_uid all.house w ≡ Some q) (sym e) here)) ∙ fresh.none_deleted u l;
      };
    }

-- ---- time

time-led : {ending : ℕ → Type 0} → (all : AllQueues) (at : ℕ) → IsFresh all → LeadsTo ending all (record { house = house_at_moment all.house at; deleted = all.deleted })
time-led all at fresh = record {
  change = Stays (λ u. lines-moved u (queue_of_uid all.house u) (found-moved u)) (λ u. ap is_some (found-moved u) ∙ open-moved (queue_of_uid all.house u));
  fresh = record { none_there = λ u l. found-moved u ∙ ap (option_map (λ q. at_moment q at)) (fresh.none_there u l); none_deleted = fresh.none_deleted };
}
  where
    found-moved : (u : ℕ) → queue_of_uid (house_at_moment all.house at) u ≡ option_map (λ q. at_moment q at) (queue_of_uid all.house u)
    found-moved u = find-map (λ q. nat_eq q.uid u) (λ q. at_moment q at) (λ q. refl) all.house.queues

    open-moved : (o : Option QueueHistory) → is_some (option_map (λ q. at_moment q at) o) ≡ is_some o
    open-moved None = refl
    open-moved (Some q) = refl

    same-journal : (o d : Option QueueHistory) → journal_found (option_map (λ q. at_moment q at) o) d ≡ journal_found o d
    same-journal None d = refl
    same-journal (Some q) d = refl

    lines-moved : (u : ℕ) (o : Option QueueHistory) → queue_of_uid (house_at_moment all.house at) u ≡ option_map (λ q. at_moment q at) o
        → journal_found (queue_of_uid (house_at_moment all.house at) u) (find (λ q. nat_eq q.uid u) all.deleted) ≡ journal_found o (find (λ q. nat_eq q.uid u) all.deleted)
    lines-moved u o e = ap (λ (x : Option QueueHistory). journal_found x (find (λ q. nat_eq q.uid u) all.deleted)) e ∙ same-journal o (find (λ q. nat_eq q.uid u) all.deleted)

-- ---- every change

module _ (ending : ℕ → Type 0) (all : AllQueues) (at : ℕ) where
  -- what is to be known of a change: what its command adds is a step, and the queue that it closes is known to end
  abbrev Fits : HouseChange → HouseAnswer → Type 0
  Fits (run.Performs uid command) answer = Says all at uid command
  Fits (run.Closes uid) answer = (q : QueueHistory) → queue_of_uid all.house uid ≡ Some q → is_out_of_memory answer ≡ false → ending uid
  Fits change answer = ⊤

  opened-by : (name : List ℕ) (settings : QueueSettings) (failed : Bool) → IsFresh all
      → LeadsTo ending all (record { house = cond failed all.house (with_queue all.house (next_queue all.house at name settings [])); deleted = all.deleted })
  opened-by name settings true fresh = nothing-led all fresh
  opened-by name settings false fresh = opened-led all at name settings [] fresh

  closed-by : (uid : ℕ) (failed : Bool) (o : Option QueueHistory) → queue_of_uid all.house uid ≡ o → ((q : QueueHistory) → queue_of_uid all.house uid ≡ Some q → failed ≡ false → ending uid) → IsFresh all
      → LeadsTo ending all (record {
        house = cond failed (with_queue_changed all.house uid (λ q. at_moment q at)) (without_queue all.house uid);
        deleted = cond failed all.deleted (option_map_or (λ q. closed_queue q at ∷ all.deleted) o all.deleted);
      })
  closed-by uid true None here ends fresh = same-led all (with_queue_changed all.house uid (λ q. at_moment q at)) (changed-none all.house uid (λ q. at_moment q at) here) fresh
  closed-by uid true (Some q) here ends fresh = led-same all uid (λ q. at_moment q at) (λ q. refl) fresh q here refl
  closed-by uid false None here ends fresh = same-led all (without_queue all.house uid) (without-none all.house uid here) fresh
  closed-by uid false (Some q) here ends fresh = closed-led all uid at fresh q here (ends q here refl)

  change-led : (change : HouseChange) (answer : HouseAnswer) → IsFresh all → Fits change answer → LeadsTo ending all (whole_changed all at change answer)
  change-led run.Nothing answer fresh fits = nothing-led all fresh
  change-led (run.Performs uid command) answer fresh fits = command-led all uid at command answer fresh fits
  change-led (run.Opens name settings) answer fresh fits = opened-by name settings (is_out_of_memory answer) fresh
  change-led (run.Closes uid) answer fresh fits = closed-by uid (is_out_of_memory answer) (queue_of_uid all.house uid) refl fits fresh
  change-led run.Passes answer fresh fits = time-led all at fresh

-- ---- every step

-- whether a step with this answer deletes the queue of a uid
abbrev pub IsDeletion : HouseStep → HouseAnswer → ℕ → Type 0
IsDeletion (steps.Delete at own) (Ok reply) uid = own ≡ uid
IsDeletion step answer uid = ⊥

pub deletion-known : (at uid : ℕ) (answer : HouseAnswer) (o : Option QueueHistory) (q : QueueHistory) → o ≡ Some q → is_out_of_memory answer ≡ false
    → Meets answer (as_house_reply replies.Deleted (taken_alone o at)) → IsDeletion (steps.Delete at uid) answer uid
deletion-known at uid (Ok reply) o q here e meets = refl
deletion-known at uid (Err fault) o q here e meets =
    let is : ◌≡◌ {A = HouseAnswer} (Err fault) (as_house_reply replies.Deleted (taken_alone o at)) =
    subst (λ (b : Bool). MatchBool b ⊤ (◌≡◌ {A = HouseAnswer} (Err fault) (as_house_reply replies.Deleted (taken_alone o at)))) e meets in
    let same : ◌≡◌ {A = HouseAnswer} (Err fault) (Ok (replies.Deleted (closed_queue q at))) = is ∙ ap (λ (o : Option QueueHistory). as_house_reply replies.Deleted (taken_alone o at)) here in
    absurd cc

module _ (ending : ℕ → Type 0) (all : AllQueues) (answer : HouseAnswer) (at uid : ℕ) where
  abbrev FitsAct : Act → Type 0
  FitsAct act = Fits ending all act.at act.change answer

  created-fits : (opens : Bool) (name : List ℕ) (settings : QueueSettings) → Fits ending all at (cond opens (run.Opens name settings) run.Nothing) answer
  created-fits true name settings = tt
  created-fits false name settings = tt

  performed-fits : (command : Command) (o : Option Fault) → step_refusal all.house uid command ≡ o → FitsAct (perform_act at uid command o)
  performed-fits command (Some fault) e = tt
  performed-fits command None e = performed-says all uid at command e

  handed-fits : (o : Option Parcel) → first_parcel_in all.house uid ≡ o → FitsAct (hand_over_act all.house at uid o)
  handed-fits None e = tt
  handed-fits (Some p) e = delivered-says all uid at p (parcel_of_found all uid (queue_of_uid all.house uid) p refl e) (has_queue all.house p.target) refl

  confirmed-fits : (o : Option ℕ) → ((n : ℕ) → o ≡ Some n → Says all at uid (commands.Settle n)) → FitsAct (confirm_act at uid o)
  confirmed-fits None says = tt
  confirmed-fits (Some n) says = says n refl

-- a deletion that finds the queue and memory is answered as done
abbrev pub Ends : AllQueues → HistoryStep → HouseAnswer → Type 0
Ends all (Own (steps.Delete at uid)) answer = (q : QueueHistory) → queue_of_uid all.house uid ≡ Some q → is_out_of_memory answer ≡ false → IsDeletion (steps.Delete at uid) answer uid
Ends all step answer = ⊤

step-fits : (all : AllQueues) (step : HouseStep) (answer : HouseAnswer) → Ends all (Own step) answer → Fits (IsDeletion step answer) all (act_of all.house step).at (act_of all.house step).change answer
step-fits all (steps.Create at name wish) answer ends = created-fits (IsDeletion (steps.Create at name wish) answer) all answer at 0 (opens_queue all.house name wish) name (settings_with default_settings wish (target_uid all.house wish))
step-fits all (steps.Delete at uid) answer ends = ends
step-fits all (steps.Perform at uid command) answer ends = performed-fits (IsDeletion (steps.Perform at uid command) answer) all answer at uid command (step_refusal all.house uid command) refl
step-fits all (steps.HandOver at source) answer ends = handed-fits (IsDeletion (steps.HandOver at source) answer) all answer at source (first_parcel_in all.house source) refl
step-fits all (steps.Confirm at source) answer ends =
    confirmed-fits (IsDeletion (steps.Confirm at source) answer) all answer at source (accepted_number all.house source)
    (settled-says all source at (λ p. is_accepted all.house p) (λ p its h. accepted-there all source at p its (queue_of_uid all.house p.target) refl h))
step-fits all (steps.Advance at) answer ends = tt

-- ---- every step of everything

abbrev pub IsEnding : HistoryStep → HouseAnswer → ℕ → Type 0
IsEnding (Own step) answer uid = IsDeletion step answer uid
IsEnding (Settle at source) answer uid = ⊥

pub history-led : (all : AllQueues) (step : HistoryStep) (answer : HouseAnswer) → IsFresh all → Ends all step answer → LeadsTo (IsEnding step answer) all (whole_after_step all step answer)
history-led all (Own step) answer fresh h = change-led (IsDeletion step answer) all (act_of all.house step).at (act_of all.house step).change answer fresh (step-fits all step answer h)
history-led all (Settle at source) answer fresh h =
    change-led (IsEnding (Settle at source) answer) all (confirm_act at source (settled_number all source)).at (confirm_act at source (settled_number all source)).change answer fresh
    (confirmed-fits (IsEnding (Settle at source) answer) all answer at source (settled_number all source)
    (settled-says all source at (λ p. was_accepted all p.target p.origin.uid p.origin.number)
    (λ p its h. subst (λ (u : ℕ). has_accepted ((view_of all).lines p.target) u p.origin.number ≡ true) its.uid (accepted-ever (journal_of all p.target) p.origin.uid p.origin.number h))))
