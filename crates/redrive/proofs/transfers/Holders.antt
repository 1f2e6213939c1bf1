-- Who holds a message: no two numbers of open queues hold one of the same id.
use Rattle.std.proofs.Common.{◌≡◌, ℕ, ◌≤◌, ◌<◌, Bool, true, false, ◌&&◌, cond, [], Option, Some, None, refl, sym, ap, subst, inl, inr, ◌∙◌, arith, eqb-true, eq-eqb}
use Rattle.std.specs.Prelude.{⊤, ◌⊎◌, nat_eq}
use Rattle.std.specs.Option.{option_map_or}
use Rattle.std.proofs.lemmas.Bool.{cases_eq, and_parts, or_right, false≢true}
use Rattle.std.proofs.lemmas.Option.{none-some, same_Some}
use Rattle.message.specs.declared.id.MessageId.{MessageId}
use Rattle.message.specs.Content.{ContentText}
use Rattle.journal.specs.declared.entry.Event.{Event}
use Rattle.journal.specs.declared.entry.Event.TheVariants.{Opened, Sent, Arrived, Orphaned, Closed, Base}
use Rattle.journal.specs.declared.entry.Origin.{Origin}
use Rattle.queue_core.specs.declared.facts.Message.{Message}
use Rattle.queue_core.specs.declared.facts.Status.{Status}
use Rattle.queue_core.specs.declared.facts.Status.TheVariants.{Present, Removed, Waiting, Transferred}
use Rattle.queue_core.specs.Messages.{Birth, effect_of, contains_number, messages, message_count, own_id, message_id, status_after, course_of, loses, accepts, has_accepted}
use Rattle.queue_core.specs.States.{message_numbered}
use Rattle.redrive.specs.Places.{status_numbered, came_from}
use Rattle.queue_core.proofs.PushLemmas.{slice_get-only, IsNew, numbered-below, numbered-cases, numbered-kept, count-push, accepted-push}
use Rattle.redrive.proofs.transfers.Journals.{Line, Lines, more, Stands, stands_from, stands_gives, stands_once, stands_kept, Stood, Before, New, stood, Came, accepted_came, Begins, begun, unbegun}
use Rattle.queue_core.proofs.Scans.{StandsAlone}
use Rattle.redrive.proofs.transfers.Views.{View, IsArrival, IsSettling, IsStep, step_alone, Grows, IsOpened, IsClosed, Change, Stays, Steps, Opens, Closes, by_uid, by_growth}
use Rattle.redrive.proofs.transfers.Fates.{open_stays, confirmed-settling, HasFates, accepted_from, Keeps, keeps-same, keeps-grown, pending-waits, fates-opened, fates-after}

-- ---- messages that begin with a step

-- where a message that begins comes from: it was sent to the queue, or it came by a transfer
pub data Beginning (v : View) (u : ℕ) (m : Message) : Type 0 where
  WasSent : m.origin ≡ None → Beginning v u m
  HasCome : (origin : Origin) → m.origin ≡ Some origin → IsArrival v u origin → Beginning v u m

-- a message that was not there before
pub record IsBorn (v v' : View) (u n : ℕ) (m : Message) : Type 0 where
  pub its_number : m.number ≡ n
  pub last : n ≡ message_count (v.lines u)
  pub counted : n < message_count (v'.lines u)
  pub beginning : Beginning v u m

-- the messages after a step are those before it, and those that begin with it
pub record Continues (v v' : View) : Type 0 where
  pub kept : (u n : ℕ) (m : Message) → message_numbered (v.lines u) n ≡ Some m → message_numbered (v'.lines u) n ≡ Some m
  pub born : (u n : ℕ) (m : Message) → message_numbered (v'.lines u) n ≡ Some m → (message_numbered (v.lines u) n ≡ Some m) ⊎ IsBorn v v' u n m
  pub count : (u : ℕ) → message_count (v.lines u) ≤ message_count (v'.lines u)

beginning-step : (v : View) (u : ℕ) (event : Event ContentText) (b : Birth ContentText) (m : Message) → IsStep v u event → Begins event b → m.origin ≡ b.origin → Beginning v u m
beginning-step v u (Sent delay content) b m step h o = WasSent (o ∙ sym (ap (λ (x : Birth ContentText). x.origin) (slice_get-only _ b h.0 h.1).1))
beginning-step v u (Arrived origin content) b m step h o = HasCome origin (o ∙ sym (ap (λ (x : Birth ContentText). x.origin) (slice_get-only _ b h.0 h.1).1)) step
beginning-step v u (Base base) b m step h o = absurd step
beginning-step v u event b m step h o = absurd (unbegun event b refl h)

module _ (v v' : View) where
  continues-same : ((w : ℕ) → v'.lines w ≡ v.lines w) → Continues v v'
  continues-same same = record {
    kept = λ u n m h. subst (λ (ls : Lines). message_numbered ls n ≡ Some m) (sym (same u)) h;
    born = λ u n m h. inl (subst (λ (ls : Lines). message_numbered ls n ≡ Some m) (same u) h);
    count = λ u. subst (λ (ls : Lines). message_count (v.lines u) ≤ message_count ls) (sym (same u)) (omega arith);
  }

  module _ (u : ℕ) (e : Line) (g : Grows v v' u e) where
    kept-grown : (w n : ℕ) (m : Message) → message_numbered (v.lines w) n ≡ Some m → message_numbered (v'.lines w) n ≡ Some m
    kept-grown w n m = by_growth v v' u e g (λ one other. message_numbered one n ≡ Some m → message_numbered other n ≡ Some m) (numbered-kept (v.lines u) e n m) (λ ls h. h) w

    count-grown : (w : ℕ) → message_count (v.lines w) ≤ message_count (v'.lines w)
    count-grown w = by_growth v v' u e g (λ one other. message_count one ≤ message_count other) (omega (arith, count-push (v.lines u) e)) (λ ls. omega arith) w

    -- where it is known how what the entry begins comes to be
    module _ (says : (b : Birth ContentText) (m : Message) → Begins e.event b → m.origin ≡ b.origin → Beginning v u m) (alone : StandsAlone e.event) where
      born-cases : (n : ℕ) (m : Message) → message_numbered (v'.lines u) n ≡ Some m → (message_numbered (v.lines u) n ≡ Some m) ⊎ IsNew (v.lines u) e n m
          → (message_numbered (v.lines u) n ≡ Some m) ⊎ IsBorn v v' u n m
      born-cases n m is (inl h) = inl h
      born-cases n m is (inr h) =
          let b = begun (v.lines u) e n m alone h in
          inr (record {
            its_number = b.its_number;
            last = b.last;
            counted = numbered-below (v'.lines u) n m is;
            beginning = says b.birth m b.begins b.origin;
          })

      born-here : (n : ℕ) (m : Message) → message_numbered (v'.lines u) n ≡ Some m → (message_numbered (v.lines u) n ≡ Some m) ⊎ IsBorn v v' u n m
      born-here n m is = born-cases n m is (numbered-cases (v.lines u) e n m (subst (λ (ls : Lines). message_numbered ls n ≡ Some m) g.here is))

      born-grown : (w n : ℕ) (m : Message) → message_numbered (v'.lines w) n ≡ Some m → (message_numbered (v.lines w) n ≡ Some m) ⊎ IsBorn v v' w n m
      born-grown w n m =
          by_uid w u (λ i. message_numbered (v'.lines i) n ≡ Some m → (message_numbered (v.lines i) n ≡ Some m) ⊎ IsBorn v v' i n m) (born-here n m)
          (λ differs h. inl (subst (λ (ls : Lines). message_numbered ls n ≡ Some m) (g.others w differs) h))

      continues-grown : Continues v v'
      continues-grown = record { kept = kept-grown; born = born-grown; count = count-grown }

  no-birth : (event other : Event ContentText) → event ≡ other → (effect_of other).births ≡ [] → (u : ℕ) (b : Birth ContentText) (m : Message) → Begins event b → m.origin ≡ b.origin → Beginning v u m
  no-birth event other e h u b m k o = absurd (unbegun event b (ap (λ (x : Event ContentText). (effect_of x).births) e ∙ h) k)

  pub continues-opened : (u : ℕ) (e : Line) → Grows v v' u e → IsOpened v v' u e → Continues v v'
  continues-opened u e g o = continues-grown u e g (no-birth e.event (Opened u o.settings) o.opening refl u) (ap (λ (x : Event ContentText). (effect_of x).since) o.opening)

  pub continues-after : {ending : ℕ → Type 0} → Change ending v v' → Continues v v'
  continues-after (Stays lines gates) = continues-same lines
  continues-after (Steps u e g gates here step) = continues-grown u e g (λ b m h o. beginning-step v u e.event b m step h o) (step_alone v u e.event step)
  continues-after (Opens u e g o) = continues-opened u e g o
  continues-after (Closes u e g c ends) = continues-grown u e g (no-birth e.event Closed c.closing refl u) (ap (λ (x : Event ContentText). (effect_of x).since) c.closing)

-- ---- what is so of all ids, and of where messages come from

-- an id is that of a message of the queue which it names, or was there
abbrev pub AreCounted : View → Type 0
AreCounted v = (u n : ℕ) (m : Message) → message_numbered (v.lines u) n ≡ Some m → (message_id u m).number < message_count (v.lines (message_id u m).uid)

-- the message at its origin
pub record IsKnown (v : View) (o : Origin) : Type 0 where
  pub message : Message
  pub numbered : message_numbered (v.lines o.uid) o.number ≡ Some message
  pub named : message_id o.uid message ≡ o.id

abbrev pub AreKnown : View → Type 0
AreKnown v = (u n : ℕ) (m : Message) (o : Origin) → message_numbered (v.lines u) n ≡ Some m → m.origin ≡ Some o → IsKnown v o

-- the id of a message with an origin, and of one without
id-came : (u : ℕ) (m : Message) (o : Origin) → m.origin ≡ Some o → message_id u m ≡ o.id
id-came u m o h = ap (λ (x : Option Origin). option_map_or (λ origin. origin.id) x (own_id u m.number)) h

id-sent : (u n : ℕ) (m : Message) → m.origin ≡ None → m.number ≡ n → message_id u m ≡ own_id u n
id-sent u n m h k = ap (λ (x : Option Origin). option_map_or (λ origin. origin.id) x (own_id u m.number)) h ∙ ap (λ (i : ℕ). own_id u i) k

module _ (v v' : View) (on : Continues v v') where
  counted-id : (id : MessageId) → id.number < message_count (v.lines id.uid) → id.number < message_count (v'.lines id.uid)
  counted-id id h = let more_now = on.count id.uid in omega arith

  counted-born : AreCounted v → (u n : ℕ) (m : Message) → IsBorn v v' u n m → Beginning v u m → (message_id u m).number < message_count (v'.lines (message_id u m).uid)
  counted-born counted u n m b (WasSent h) = subst (λ (id : MessageId). id.number < message_count (v'.lines id.uid)) (sym (id-sent u n m h b.its_number)) b.counted
  counted-born counted u n m b (HasCome o h a) =
      subst (λ (id : MessageId). id.number < message_count (v'.lines id.uid)) (a.named ∙ sym (id-came u m o h))
      (counted-id (message_id o.uid a.message) (counted o.uid o.number a.message a.numbered))

  counted-cases : AreCounted v → (u n : ℕ) (m : Message) → (message_numbered (v.lines u) n ≡ Some m) ⊎ IsBorn v v' u n m → (message_id u m).number < message_count (v'.lines (message_id u m).uid)
  counted-cases counted u n m (inl h) = counted-id (message_id u m) (counted u n m h)
  counted-cases counted u n m (inr b) = counted-born counted u n m b b.beginning

  pub counted-on : AreCounted v → AreCounted v'
  counted-on counted u n m h = counted-cases counted u n m (on.born u n m h)

  known-kept : (o : Origin) → IsKnown v o → IsKnown v' o
  known-kept o k = record { message = k.message; numbered = on.kept o.uid o.number k.message k.numbered; named = k.named }

  known-born : (u : ℕ) (m : Message) (o : Origin) → m.origin ≡ Some o → Beginning v u m → IsKnown v' o
  known-born u m o h (WasSent k) = absurd (none-some o (sym k ∙ h))
  known-born u m o h (HasCome other k a) =
      subst (IsKnown v') (same_Some other o (sym k ∙ h)) (known-kept other (record { message = a.message; numbered = a.numbered; named = a.named }))

  known-cases : AreKnown v → (u n : ℕ) (m : Message) (o : Origin) → m.origin ≡ Some o → (message_numbered (v.lines u) n ≡ Some m) ⊎ IsBorn v v' u n m → IsKnown v' o
  known-cases known u n m o k (inl h) = known-kept o (known u n m o h k)
  known-cases known u n m o k (inr b) = known-born u m o k b.beginning

  pub known-on : AreKnown v → AreKnown v'
  known-on known u n m o h k = known-cases known u n m o k (on.born u n m h)

-- ---- what is transferred was accepted

pub record WasTaken (v : View) (u n : ℕ) : Type 0 where
  pub target : ℕ
  pub accepted : has_accepted (v.lines target) u n ≡ true

abbrev pub AreTaken : View → Type 0
AreTaken v = (u n : ℕ) (m : Message) → v.is_open u ≡ true → Stands (v.lines u) n m Transferred → WasTaken v u n

present_on : (n : ℕ) (event : Event ContentText) → status_after n Present event ≡ Transferred → ⊥
present_on n event h = by_tests ((effect_of event).removes n) (contains_number n (effect_of event).departures) h
  where
    by_tests : (a b : Bool) → cond a Removed (cond b (Waiting (effect_of event).target) Present) ≡ Transferred → ⊥
    by_tests true b k = cc
    by_tests false true k = cc
    by_tests false false k = cc

waiting_on : (n target : ℕ) (event : Event ContentText) → status_after n (Waiting target) event ≡ Transferred → (effect_of event).confirms n ≡ true
waiting_on n target event h = by_tests (loses target event) ((effect_of event).confirms n) ((effect_of event).closes) h
  where
    by_tests : (a b c : Bool) → cond a Present (cond b Transferred (cond c Removed (Waiting target))) ≡ Transferred → b ≡ true
    by_tests true b c k = absurd cc
    by_tests false true c k = refl
    by_tests false false true k = absurd cc
    by_tests false false false k = absurd cc

module _ (v : View) (u n : ℕ) (e : Line) (step : IsStep v u e.event) where
  taken-before : AreTaken v → v.is_open u ≡ true → (m : Message) (was : Status) → Stands (v.lines u) n m was → status_after n was e.event ≡ Transferred → WasTaken v u n
  taken-before taken here m Present s h = absurd (present_on n e.event h)
  taken-before taken here m Removed s h = absurd cc
  taken-before taken here m (Waiting target) s h =
      let settling : IsSettling v u n = confirmed-settling v u n e.event step (waiting_on n target e.event h) in
      record { target = settling.target; accepted = settling.accepted }
  taken-before taken here m Transferred s h = taken u n m here s

  taken-by : AreTaken v → v.is_open u ≡ true → (m : Message) → Stood (v.lines u) e n m Transferred → WasTaken v u n
  taken-by taken here m (Before was s h) = taken-before taken here m was s h
  taken-by taken here m (New new h) = absurd cc

module _ (v v' : View) where
  taken-kept : Keeps v v' → (u n : ℕ) → WasTaken v u n → WasTaken v' u n
  taken-kept keeps u n t = record { target = t.target; accepted = keeps u t.target n t.accepted }

  taken-same : Keeps v v' → AreTaken v → (u n : ℕ) (m : Message) → v'.lines u ≡ v.lines u → v.is_open u ≡ true → Stands (v'.lines u) n m Transferred → WasTaken v' u n
  taken-same keeps taken u n m same here s = taken-kept keeps u n (taken u n m here (subst (λ (ls : Lines). Stands ls n m Transferred) same s))

  nothing-stands : (e : Line) (lines : Lines) (n : ℕ) (m : Message) (s : Status) → lines ≡ [] → (effect_of e.event).births ≡ [] → StandsAlone e.event → Stands (more lines e) n m s → ⊥
  nothing-stands e lines n m s empty none alone h =
      no_message (numbered-cases [] e n m (subst (λ (ls : Lines). message_numbered (more ls e) n ≡ Some m) empty h.numbered))
    where
      no_message : (message_numbered {C = ContentText} [] n ≡ Some m) ⊎ IsNew [] e n m → ⊥
      no_message (inl k) = none-some m k
      no_message (inr k) = let b = begun [] e n m alone k in unbegun e.event b.birth none b.begins

  opened-empty : (u : ℕ) (e : Line) → Grows v v' u e → IsOpened v v' u e → (n : ℕ) (m : Message) (s : Status) → Stands (v'.lines u) n m s → ⊥
  opened-empty u e g o n m s h =
      nothing-stands e (v.lines u) n m s o.unused (ap (λ (x : Event ContentText). (effect_of x).births) o.opening) (ap (λ (x : Event ContentText). (effect_of x).since) o.opening)
      (subst (λ (ls : Lines). Stands ls n m s) g.here h)

  pub taken-opened : (u : ℕ) (e : Line) → Grows v v' u e → IsOpened v v' u e → AreTaken v → AreTaken v'
  taken-opened u e g o taken w n m there =
      by_uid w u (λ i. Stands (v'.lines i) n m Transferred → WasTaken v' i n) (λ s. absurd (opened-empty u e g o n m Transferred s))
      (λ differs s. taken-same (keeps-grown v v' u e g) taken w n m (g.others w differs) (sym (o.others w differs) ∙ there) s)

  pub taken-after : {ending : ℕ → Type 0} → Change ending v v' → AreTaken v → AreTaken v'
  taken-after (Stays lines gates) taken = λ u n m there s. taken-same (keeps-same v v' lines) taken u n m (lines u) (sym (gates u) ∙ there) s
  taken-after (Steps u e g gates here step) taken = λ w n m there.
      by_uid w u (λ i. Stands (v'.lines i) n m Transferred → WasTaken v' i n)
      (λ s. taken-kept (keeps-grown v v' u e g) u n
      (taken-by v u n e step taken here m (stood (v.lines u) e n m Transferred (step_alone v u e.event step) (subst (λ (ls : Lines). Stands ls n m Transferred) g.here s))))
      (λ differs s. taken-same (keeps-grown v v' u e g) taken w n m (g.others w differs) (sym (gates w) ∙ there) s)
  taken-after (Opens u e g o) taken = taken-opened u e g o taken
  taken-after (Closes u e g c ends) taken = λ w n m.
      by_uid w u (λ i. v'.is_open i ≡ true → Stands (v'.lines i) n m Transferred → WasTaken v' i n) (λ there s. absurd (false≢true (sym c.is_closed ∙ there)))
      (λ differs there s. taken-same (keeps-grown v v' u e g) taken w n m (g.others w differs) (sym (c.others w differs) ∙ there) s)

-- ---- all that a view keeps

pub record IsSound (v : View) : Type 0 where
  pub fates : HasFates v
  pub counted : AreCounted v
  pub known : AreKnown v
  pub taken : AreTaken v

module _ (v v' : View) where
  pub sound-opened : (u : ℕ) (e : Line) → Grows v v' u e → IsOpened v v' u e → IsSound v → IsSound v'
  sound-opened u e g o s = record {
    fates = fates-opened v v' u e g o s.fates;
    counted = counted-on v v' (continues-opened v v' u e g o) s.counted;
    known = known-on v v' (continues-opened v v' u e g o) s.known;
    taken = taken-opened v v' u e g o s.taken;
  }

  pub sound-after : {ending : ℕ → Type 0} → Change ending v v' → IsSound v → IsSound v'
  sound-after change s = record {
    fates = fates-after v v' change s.fates;
    counted = counted-on v v' (continues-after v v' change) s.counted;
    known = known-on v v' (continues-after v v' change) s.known;
    taken = taken-after v v' change s.taken;
  }

-- ---- who holds a message

-- a number of an open queue holds its message where that is present, or was removed, or waits for a queue that is not open or has not accepted it
abbrev pub Holds : View → ℕ → ℕ → Status → Type 0
Holds v u n Present = ⊤
Holds v u n Removed = ⊤
Holds v u n (Waiting target) = (v.is_open target ≡ false) ⊎ (has_accepted (v.lines target) u n ≡ false)
Holds v u n Transferred = ⊥

pub record Holder (v : View) (id : MessageId) (u n : ℕ) : Type 0 where
  pub there : v.is_open u ≡ true
  pub message : Message
  pub status : Status
  pub stands : Stands (v.lines u) n message status
  pub named : message_id u message ≡ id
  pub holds : Holds v u n status

-- each message has one holder at most
abbrev pub HasOneHolder : View → Type 0
HasOneHolder v = (id : MessageId) (u n w k : ℕ) → Holder v id u n → Holder v id w k → (u ≡ w) × (n ≡ k)

module _ (v v' : View) (keeps : Keeps v v') (u n : ℕ) where
  unaccepted-before : (target : ℕ) (b : Bool) → has_accepted (v.lines target) u n ≡ b → has_accepted (v'.lines target) u n ≡ false → has_accepted (v.lines target) u n ≡ false
  unaccepted-before target true e h = absurd (false≢true (sym h ∙ keeps u target n e))
  unaccepted-before target false e h = e

  holds-before : ((target : ℕ) → v'.is_open target ≡ false → v.is_open target ≡ false) → (s : Status) → Holds v' u n s → Holds v u n s
  holds-before gates Present h = tt
  holds-before gates Removed h = tt
  holds-before gates (Waiting target) (inl h) = inl (gates target h)
  holds-before gates (Waiting target) (inr h) = inr (unaccepted-before target (has_accepted (v.lines target) u n) refl h)
  holds-before gates Transferred h = absurd h

  -- a holder whose journal stays was one
  holder-same : ((target : ℕ) → v'.is_open target ≡ false → v.is_open target ≡ false) → (id : MessageId) → v'.lines u ≡ v.lines u → v.is_open u ≡ true → Holder v' id u n → Holder v id u n
  holder-same gates id same here h = record {
    there = here;
    message = h.message;
    status = h.status;
    stands = subst (λ (ls : Lines). Stands ls n h.message h.status) same h.stands;
    named = h.named;
    holds = holds-before gates h.status h.holds;
  }

-- ---- an entry more in an open queue

-- where a holder of a new message comes from
pub data Newcomer (v v' : View) (id : MessageId) (u : ℕ) : Type 0 where
  SentNow : id ≡ own_id u (message_count (v.lines u)) → Newcomer v v' id u
  CameNow : (origin : Origin) → Holder v id origin.uid origin.number → (m : Message) → Stands (v'.lines origin.uid) origin.number m (Waiting u)
      → has_accepted (v'.lines u) origin.uid origin.number ≡ true → Newcomer v v' id u

pub data Ancestor (v v' : View) (u : ℕ) (id : MessageId) (w n : ℕ) : Type 0 where
  Same : Holder v id w n → Ancestor v v' u id w n
  Newly : w ≡ u → n ≡ message_count (v.lines u) → Newcomer v v' id u → Ancestor v v' u id w n

lost-shut : (v : View) (u target : ℕ) (event : Event ContentText) → IsStep v u event → loses target event ≡ true → v.is_open target ≡ false
lost-shut v u target (Orphaned other) step h = subst (λ (i : ℕ). v.is_open i ≡ false) (eqb-true other target h) step
lost-shut v u target event step h = absurd (false≢true h)

waits_at_birth : (n target : ℕ) (event : Event ContentText) (b : Birth ContentText) → Begins event b → status_after n (Waiting target) event ≡ Waiting target
waits_at_birth n target (Sent delay content) b h = refl
waits_at_birth n target (Arrived origin content) b h = refl
waits_at_birth n target (Base base) b h = refl
waits_at_birth n target event b h = absurd (unbegun event b refl h)

accepts_its_origin : (event : Event ContentText) (b : Birth ContentText) (o : Origin) → StandsAlone event → Begins event b → b.origin ≡ Some o → accepts o.uid o.number event ≡ true
accepts_its_origin (Base base) b o alone h k = absurd cc
accepts_its_origin (Sent delay content) b o alone h k = absurd (none-some o (ap (λ (x : Birth ContentText). x.origin) (slice_get-only _ b h.0 h.1).1 ∙ k))
accepts_its_origin (Arrived origin content) b o alone h k =
    let same : origin ≡ o = same_Some origin o (ap (λ (x : Birth ContentText). x.origin) (slice_get-only _ b h.0 h.1).1 ∙ k) in
    rw (eq-eqb origin.uid o.uid (ap (λ (x : Origin). x.uid) same), eq-eqb origin.number o.number (ap (λ (x : Origin). x.number) same)) refl
accepts_its_origin event b o alone h k = absurd (unbegun event b refl h)

module _ (v v' : View) (u : ℕ) (e : Line) (g : Grows v v' u e) (gates : (w : ℕ) → v'.is_open w ≡ v.is_open w) (here : v.is_open u ≡ true) (step : IsStep v u e.event) (sound : IsSound v) where
  keeps : Keeps v v'
  keeps = keeps-grown v v' u e g

  shut-before : (target : ℕ) → v'.is_open target ≡ false → v.is_open target ≡ false
  shut-before target h = sym (gates target) ∙ h

  waiting-before : (n target : ℕ) (a b c : Bool) → loses target e.event ≡ a → c ≡ false → Holds v' u n (cond a Present (cond b Transferred (cond c Removed (Waiting target)))) → Holds v u n (Waiting target)
  waiting-before n target true b c k shut h = inl (lost-shut v u target e.event step k)
  waiting-before n target false true c k shut h = absurd h
  waiting-before n target false false true k shut h = absurd (false≢true (sym shut))
  waiting-before n target false false false k shut h = holds-before v v' keeps u n shut-before (Waiting target) h

  transferred-before : (n : ℕ) (c : Bool) → c ≡ false → Holds v' u n (cond c Removed Transferred) → ⊥
  transferred-before n true shut h = absurd (false≢true (sym shut))
  transferred-before n false shut h = h

  holds-was : (n : ℕ) (was : Status) → Holds v' u n (status_after n was e.event) → Holds v u n was
  holds-was n Present h = tt
  holds-was n Removed h = tt
  holds-was n (Waiting target) h = waiting-before n target (loses target e.event) ((effect_of e.event).confirms n) ((effect_of e.event).closes) refl (open_stays v u e.event step) h
  holds-was n Transferred h = absurd (transferred-before n ((effect_of e.event).closes) (open_stays v u e.event step) h)

  -- the message at an origin waits, before and after
  stays-waiting : (o : Origin) (b : Birth ContentText) → Begins e.event b → (m : Message) → Stands (v.lines o.uid) o.number m (Waiting u) → Stands (v'.lines o.uid) o.number m (Waiting u)
  stays-waiting o b birth m s =
      elim (cases_eq o.uid u) [
        | inl same ↦ subst (λ (i : ℕ). Stands (v'.lines i) o.number m (Waiting u)) (sym same)
            (subst (λ (ls : Lines). Stands ls o.number m (Waiting u)) (sym g.here)
            (subst (λ (s : Status). Stands (more (v.lines u) e) o.number m s) (waits_at_birth o.number u e.event b birth)
            (stands_kept (v.lines u) e o.number m (Waiting u) (subst (λ (i : ℕ). Stands (v.lines i) o.number m (Waiting u)) same s))))
        | inr differs ↦ subst (λ (ls : Lines). Stands ls o.number m (Waiting u)) (sym (g.others o.uid differs)) s
      ]

  origin-waits : (o : Origin) → IsArrival v u o → (m : Message) × Stands (v.lines o.uid) o.number m (Waiting u)
  origin-waits o a =
      stands_from (v.lines o.uid) o.number (Waiting u)
      (pending-waits (accepted_from v o.uid) (v.lines o.uid) (record { number = o.number; target = u }) (sound.fates o.uid a.there) a.pending)

  newcomer : (id : MessageId) (n : ℕ) (m : Message) (b : Birth ContentText) → Begins e.event b → m.origin ≡ b.origin → m.number ≡ message_count (v.lines u) → message_id u m ≡ id → Beginning v u m
      → Newcomer v v' id u
  newcomer id n m b birth origin number named (WasSent h) = SentNow (sym named ∙ id-sent u (message_count (v.lines u)) m h number)
  newcomer id n m b birth origin number named (HasCome o h a) =
      let w = origin-waits o a in
      let same : w.0 ≡ a.message = same_Some w.0 a.message (sym w.1.numbered ∙ a.numbered) in
      CameNow o
      (record {
        there = a.there;
        message = w.0;
        status = Waiting u;
        stands = w.1;
        named = ap (message_id o.uid) same ∙ (a.named ∙ (sym (id-came u m o h) ∙ named));
        holds = inr a.unaccepted;
      })
      w.0 (stays-waiting o b birth w.0 w.1)
      (ap (λ (ls : Lines). has_accepted ls o.uid o.number) g.here
      ∙ (accepted-push (v.lines u) e o.uid o.number ∙ or_right (has_accepted (v.lines u) o.uid o.number) (accepts o.uid o.number e.event) (accepts_its_origin e.event b o (step_alone v u e.event step) birth (sym origin ∙ h))))

  ancestor-here : (id : MessageId) (n : ℕ) (m : Message) (s : Status) → message_id u m ≡ id → Holds v' u n s → Stood (v.lines u) e n m s → Ancestor v v' u id u n
  ancestor-here id n m s named holds (Before was stands is) =
      Same (record { there = here; message = m; status = was; stands = stands; named = named; holds = holds-was n was (subst (Holds v' u n) (sym is) holds) })
  ancestor-here id n m s named holds (New new is) =
      let b = begun (v.lines u) e n m (step_alone v u e.event step) new in
      Newly refl b.last (newcomer id n m b.birth b.begins b.origin (b.its_number ∙ b.last) named (beginning-step v u e.event b.birth m step b.begins b.origin))

  ancestor : (id : MessageId) (w n : ℕ) → Holder v' id w n → Ancestor v v' u id w n
  ancestor id w n h =
      elim (cases_eq w u) [
        | inl same ↦ subst (λ (i : ℕ). Ancestor v v' u id i n) (sym same)
            (ancestor-here id n h.message h.status (subst (λ (i : ℕ). message_id i h.message ≡ id) same h.named) (subst (λ (i : ℕ). Holds v' i n h.status) same h.holds)
            (stood (v.lines u) e n h.message h.status (step_alone v u e.event step) (subst (λ (ls : Lines). Stands ls n h.message h.status) g.here (subst (λ (i : ℕ). Stands (v'.lines i) n h.message h.status) same h.stands))))
        | inr differs ↦ Same (holder-same v v' keeps w n shut-before id (g.others w differs) (sym (gates w) ∙ h.there) h)
      ]

  -- a message that is held already does not begin anew
  held-not_new : HasOneHolder v → (id : MessageId) (w n : ℕ) → Holder v' id w n → Holder v id w n → Newcomer v v' id u → ⊥
  held-not_new one id w n h' h (SentNow is) =
      let below : id.number < message_count (v.lines id.uid) =
      subst (λ (i : MessageId). i.number < message_count (v.lines i.uid)) h.named (sound.counted w n h.message h.stands.numbered) in
      let self : message_count (v.lines u) < message_count (v.lines u) = subst (λ (i : MessageId). i.number < message_count (v.lines i.uid)) is below in
      omega arith
  held-not_new one id w n h' h (CameNow o came m waits accepted) =
      let same = one id w n o.uid o.number h came in
      still_holds (subst (λ (i : ℕ). Holder v' id o.uid i) same.1 (subst (λ (i : ℕ). Holder v' id i n) same.0 h'))
    where
      no_hold : Holds v' o.uid o.number (Waiting u) → ⊥
      no_hold (inl shut) = false≢true (sym (shut-before u shut) ∙ here)
      no_hold (inr not) = false≢true (sym not ∙ accepted)

      still_holds : Holder v' id o.uid o.number → ⊥
      still_holds k =
          no_hold (subst (Holds v' o.uid o.number) (stands_once (v'.lines o.uid) o.number k.message m k.status (Waiting u) k.stands waits) k.holds)

  one-by : HasOneHolder v → (id : MessageId) (a n w k : ℕ) → Holder v' id a n → Holder v' id w k → Ancestor v v' u id a n → Ancestor v v' u id w k → (a ≡ w) × (n ≡ k)
  one-by one id a n w k h h' (Same x) (Same y) = one id a n w k x y
  one-by one id a n w k h h' (Same x) (Newly p q new) = absurd (held-not_new one id a n h x new)
  one-by one id a n w k h h' (Newly p q new) (Same y) = absurd (held-not_new one id w k h' y new)
  one-by one id a n w k h h' (Newly p q new) (Newly r s other) = (p ∙ sym r, q ∙ sym s)

  one-stepped : HasOneHolder v → HasOneHolder v'
  one-stepped one id a n w k h h' = one-by one id a n w k h h' (ancestor id a n h) (ancestor id w k h')

-- ---- a queue that is closed

-- a message that came to the queue of a uid waits for it at its source, and a queue has accepted it from there
pub record Relays (v : View) (u : ℕ) : Type 0 where
  pub source : ℕ
  pub number : ℕ
  pub there : v.is_open source ≡ true
  pub waits : status_numbered (v.lines source) number ≡ Some (Waiting u)
  pub own_number : ℕ
  pub message : Message
  pub numbered : message_numbered (v.lines u) own_number ≡ Some message
  pub came : came_from source number message ≡ true
  pub next : ℕ
  pub gone_on : has_accepted (v.lines next) u own_number ≡ true

data LastAncestor (v : View) (u : ℕ) (id : MessageId) (w n : ℕ) : Type 0 where
  SameAs : Holder v id w n → LastAncestor v u id w n
  TakenFrom : (k : ℕ) (m : Message) → message_numbered (v.lines u) k ≡ Some m → came_from w n m ≡ true → Holder v id u k → LastAncestor v u id w n

came_origin : (w n : ℕ) (o : Option Origin) → option_map_or (λ o. nat_eq o.uid w && nat_eq o.number n) o false ≡ true → (origin : Origin) × (o ≡ Some origin) × (origin.uid ≡ w) × (origin.number ≡ n)
came_origin w n None h = absurd (false≢true h)
came_origin w n (Some o) h = let k = and_parts (nat_eq o.uid w) (nat_eq o.number n) h in (o, refl, eqb-true o.uid w k.0, eqb-true o.number n k.1)

module _ (v v' : View) (u : ℕ) (e : Line) (g : Grows v v' u e) (c : IsClosed v v' u e) (sound : IsSound v) (spared : Relays v u → ⊥) where
  -- the number under which a message came that waits for the queue holds it
  holds-for : (w n : ℕ) (m : Message) → v.is_open w ≡ true → Stands (v.lines w) n m (Waiting u) → (k : ℕ) (y : Message) → message_numbered (v.lines u) k ≡ Some y → came_from w n y ≡ true
      → (s : Status) → Stands (v.lines u) k y s → Holds v u k s
  holds-for w n m there stands k y numbered came Present s = tt
  holds-for w n m there stands k y numbered came Removed s = tt
  holds-for w n m there stands k y numbered came (Waiting target) s = inr (not_gone (has_accepted (v.lines target) u k) refl)
    where
      not_gone : (b : Bool) → has_accepted (v.lines target) u k ≡ b → has_accepted (v.lines target) u k ≡ false
      not_gone true h =
          absurd (spared (record {
            source = w;
            number = n;
            there = there;
            waits = stands_gives (v.lines w) n m (Waiting u) stands;
            own_number = k;
            message = y;
            numbered = numbered;
            came = came;
            next = target;
            gone_on = h;
          }))
      not_gone false h = h
  holds-for w n m there stands k y numbered came Transferred s =
      let t : WasTaken v u k = sound.taken u k y c.was_open s in
      spared (record {
        source = w;
        number = n;
        there = there;
        waits = stands_gives (v.lines w) n m (Waiting u) stands;
        own_number = k;
        message = y;
        numbered = numbered;
        came = came;
        next = t.target;
        gone_on = t.accepted;
      })

  taken-over : (id : MessageId) (w n : ℕ) (m : Message) → v.is_open w ≡ true → Stands (v.lines w) n m (Waiting u) → message_id w m ≡ id → Came (messages (v.lines u)) w n → LastAncestor v u id w n
  taken-over id w n m there stands named came =
      let o = came_origin w n came.message.origin came.came in
      let known : IsKnown v o.0 = sound.known u came.place came.message o.0 came.numbered o.1 in
      let at : message_numbered (v.lines w) n ≡ Some known.message =
      subst (λ (i : ℕ). message_numbered (v.lines i) n ≡ Some known.message) o.2
      (subst (λ (i : ℕ). message_numbered (v.lines o.0.uid) i ≡ Some known.message) o.3 known.numbered) in
      let same : known.message ≡ m = same_Some known.message m (sym at ∙ stands.numbered) in
      let its_id : o.0.id ≡ id = sym known.named ∙ (ap (λ (i : ℕ). message_id i known.message) o.2 ∙ (ap (message_id w) same ∙ named)) in
      let s : Stands (v.lines u) came.place came.message (course_of (v.lines u) came.message).status = record { numbered = came.numbered; status = refl } in
      TakenFrom came.place came.message came.numbered came.came
      (record {
        there = c.was_open;
        message = came.message;
        status = (course_of (v.lines u) came.message).status;
        stands = s;
        named = id-came u came.message o.0 o.1 ∙ its_id;
        holds = holds-for w n m there stands came.place came.message came.numbered came.came (course_of (v.lines u) came.message).status s;
      })

  shut-others : (target : ℕ) → (target ≡ u → ⊥) → v'.is_open target ≡ false → v.is_open target ≡ false
  shut-others target differs h = sym (c.others target differs) ∙ h

  module _ (id : MessageId) (w n : ℕ) (m : Message) (there : v.is_open w ≡ true) (named : message_id w m ≡ id) where
    as-before : (s : Status) → Stands (v.lines w) n m s → Holds v w n s → LastAncestor v u id w n
    as-before s stands holds = SameAs (record { there = there; message = m; status = s; stands = stands; named = named; holds = holds })

    waited-for : (b : Bool) → has_accepted (v.lines u) w n ≡ b → Stands (v.lines w) n m (Waiting u) → LastAncestor v u id w n
    waited-for true h stands = taken-over id w n m there stands named (accepted_came (v.lines u) w n (sound.fates u c.was_open).0 h)
    waited-for false h stands = as-before (Waiting u) stands (inr h)

    waited-other : (target : ℕ) → (target ≡ u → ⊥) → Stands (v.lines w) n m (Waiting target) → Holds v' w n (Waiting target) → LastAncestor v u id w n
    waited-other target differs stands (inl h) = as-before (Waiting target) stands (inl (shut-others target differs h))
    waited-other target differs stands (inr h) =
        as-before (Waiting target) stands (inr (unaccepted-before v v' (keeps-grown v v' u e g) w n target (has_accepted (v.lines target) w n) refl h))

    last-by : (s : Status) → Stands (v.lines w) n m s → Holds v' w n s → LastAncestor v u id w n
    last-by Present stands h = as-before Present stands tt
    last-by Removed stands h = as-before Removed stands tt
    last-by (Waiting target) stands h =
        elim (cases_eq target u) [
          | inl same ↦ waited-for (has_accepted (v.lines u) w n) refl (subst (λ (i : ℕ). Stands (v.lines w) n m (Waiting i)) same stands)
          | inr differs ↦ waited-other target differs stands h
        ]
    last-by Transferred stands h = absurd h

  not-closed : (w : ℕ) → v'.is_open w ≡ true → w ≡ u → ⊥
  not-closed w there same = false≢true (sym c.is_closed ∙ subst (λ (i : ℕ). v'.is_open i ≡ true) same there)

  last-ancestor : (id : MessageId) (w n : ℕ) → Holder v' id w n → LastAncestor v u id w n
  last-ancestor id w n h =
      let differs : w ≡ u → ⊥ = not-closed w h.there in
      last-by id w n h.message (sym (c.others w differs) ∙ h.there) h.named h.status (subst (λ (ls : Lines). Stands ls n h.message h.status) (g.others w differs) h.stands) h.holds

  one-at-end : HasOneHolder v → (id : MessageId) (a n w k : ℕ) → (a ≡ u → ⊥) → (w ≡ u → ⊥) → LastAncestor v u id a n → LastAncestor v u id w k → (a ≡ w) × (n ≡ k)
  one-at-end one id a n w k not_a not_w (SameAs x) (SameAs y) = one id a n w k x y
  one-at-end one id a n w k not_a not_w (SameAs x) (TakenFrom i m is came y) = absurd (not_a (one id a n u i x y).0)
  one-at-end one id a n w k not_a not_w (TakenFrom i m is came x) (SameAs y) = absurd (not_w (one id w k u i y x).0)
  one-at-end one id a n w k not_a not_w (TakenFrom i m is came x) (TakenFrom j y at come z) =
      let place : i ≡ j = (one id u i u j x z).1 in
      let same : m ≡ y = same_Some m y (sym is ∙ (ap (λ (p : ℕ). message_numbered (v.lines u) p) place ∙ at)) in
      let o = came_origin a n m.origin came in
      let p = came_origin w k m.origin (subst (λ (x : Message). came_from w k x ≡ true) (sym same) come) in
      let origin : o.0 ≡ p.0 = same_Some o.0 p.0 (sym o.1 ∙ p.1) in
      (sym o.2 ∙ (ap (λ (x : Origin). x.uid) origin ∙ p.2), sym o.3 ∙ (ap (λ (x : Origin). x.number) origin ∙ p.3))

  one-closed : HasOneHolder v → HasOneHolder v'
  one-closed one id a n w k h h' = one-at-end one id a n w k (not-closed a h.there) (not-closed w h'.there) (last-ancestor id a n h) (last-ancestor id w k h')

-- ---- every step

module _ (v v' : View) where
  module _ (u : ℕ) (e : Line) (g : Grows v v' u e) (o : IsOpened v v' u e) where
    shut-opened : (target : ℕ) → v'.is_open target ≡ false → v.is_open target ≡ false
    shut-opened target h =
        by_uid target u (λ i. v.is_open i ≡ false) o.was_shut (λ differs. sym (o.others target differs) ∙ h)

    holder-opened : (id : MessageId) (w n : ℕ) → Holder v' id w n → Holder v id w n
    holder-opened id w n h =
        elim (cases_eq w u) [
          | inl same ↦ absurd (opened-empty v v' u e g o n h.message h.status (subst (λ (i : ℕ). Stands (v'.lines i) n h.message h.status) same h.stands))
          | inr differs ↦ holder-same v v' (keeps-grown v v' u e g) w n shut-opened id (g.others w differs) (sym (o.others w differs) ∙ h.there) h
        ]

    pub one-opened : HasOneHolder v → HasOneHolder v'
    one-opened one id a n w k h h' = one id a n w k (holder-opened id a n h) (holder-opened id w k h')

  pub one-after : {ending : ℕ → Type 0} → Change ending v v' → IsSound v → ((u : ℕ) → v.is_open u ≡ true → ending u → Relays v u → ⊥) → HasOneHolder v → HasOneHolder v'
  one-after (Stays lines gates) sound spared one = λ id a n w k h h'.
      one id a n w k
      (holder-same v v' (keeps-same v v' lines) a n (λ target h. sym (gates target) ∙ h) id (lines a) (sym (gates a) ∙ h.there) h)
      (holder-same v v' (keeps-same v v' lines) w k (λ target h. sym (gates target) ∙ h) id (lines w) (sym (gates w) ∙ h'.there) h')
  one-after (Steps u e g gates here step) sound spared one = one-stepped v v' u e g gates here step sound one
  one-after (Opens u e g o) sound spared one = one-opened u e g o one
  one-after (Closes u e g c ends) sound spared one = one-closed v v' u e g c sound (spared u c.was_open ends) one
