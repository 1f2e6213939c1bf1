-- The laws of dead letters, over every list of steps.
use Rattle.std.proofs.Common.{◌≡◌, ℕ, suc, ◌≤◌, true, false, List, [], ◌∷◌, map, drop, Option, Some, None, Ok, refl, sym, ap, subst, inl, inr, ◌∙◌, unwrap_or, arith}
use Rattle.std.specs.Prelude.{is_some}
use Rattle.std.specs.Option.{option_map_or}
use Rattle.std.proofs.lemmas.Bool.{false≢true}
use Rattle.std.proofs.lemmas.Option.{none-some, same_Some}
use Rattle.message.specs.declared.id.MessageId.{MessageId}
use Rattle.queue_config.specs.Config.{Configuration}
use Rattle.queue_core.specs.declared.facts.Message.{Message}
use Rattle.queue_core.specs.declared.facts.Status.{Status}
use Rattle.queue_core.specs.declared.facts.Status.TheVariants.{Present, Waiting}
use Rattle.queue_core.specs.declared.facts.Transfer.{Transfer}
use Rattle.queue_core.specs.Messages.{course_of, has_accepted}
use Rattle.queue_core.specs.States.{message_numbered}
use Rattle.queue_core.specs.Queue.{QueueHistory}
use Rattle.redrive.specs.declared.steps.HouseStep.{HouseStep}
use Rattle.redrive.specs.declared.steps.HouseStep.TheVariants as steps
use Rattle.redrive.specs.House.{new_house, queue_of_uid}
use Rattle.redrive.specs.History.{AllQueues, journal_of}
use Rattle.redrive.specs.HouseSteps.{HouseAnswer, all_after, AreHouseAnswers, history_after}
use Rattle.redrive.specs.HistorySteps.{HistoryStep, Own, AreHistoryAnswers, after_history_steps}
use Rattle.redrive.specs.WholeSteps.{whole_after_step, whole_after_steps}
use Rattle.redrive.specs.Places.{first_history, acceptance_count, EachAcceptedOnce, HasFate, EachHasItsFate, status_numbered, IsNumbered, IsStanding, IsInTransit, Standing, InTransit, EachHasOnePlace, came_from, IsRelay, IsSpared, NoRelayDeleted}
use Rattle.queue_core.proofs.PendingLemmas.{live-present}
use Rattle.redrive.proofs.transfers.Journals.{Lines, Stands, stands_gives}
use Rattle.redrive.proofs.transfers.Views.{View, view_of, Change}
use Rattle.redrive.proofs.transfers.Houses.{IsEnding, uid_of_open, lines_there, open_there}
use Rattle.redrive.proofs.transfers.Fates.{Fate, AreFates, accepted_from, HasFates, fates-opened, fates-after}
use Rattle.redrive.proofs.transfers.Holders.{IsSound, sound-opened, sound-after, Holds, Holder, HasOneHolder, Relays, one-opened, one-after}
use Rattle.redrive.proofs.transfers.Once.{IsOnce, once-opened, once-after}
use Rattle.redrive.proofs.transfers.Runs.{AreEnding, Begins, begins, through, through_spared}

journal-lines : (all : AllQueues) (uid : ℕ) (lines : Lines) → journal_of all uid ≡ Some lines → (view_of all).lines uid ≡ lines
journal-lines all uid lines h = ap (λ (o : Option Lines). unwrap_or o []) h

-- the keys of all that a journal accepts are distinct
keys_once : (config : Configuration) (at : ℕ) (steps : List HistoryStep) (answers : List HouseAnswer) → AreEnding (first_history config at) steps answers
    → IsOnce (view_of (whole_after_steps (first_history config at) steps answers))
keys_once config at steps answers are =
    let b : Begins IsOnce (new_house config at) = begins IsOnce (λ v v' u e g o h. once-opened v v' u e g o h) (λ u s n. omega arith) config at in
    through IsOnce (λ all step answer change h. once-after _ _ change h) (first_history config at) steps answers are b.fresh b.so

pub accepted_once : (config : Configuration) (at : ℕ) (steps : List HistoryStep) (answers : List HouseAnswer) → AreEnding (first_history config at) steps answers
    → EachAcceptedOnce (whole_after_steps (first_history config at) steps answers)
accepted_once config at steps answers are uid source number lines is =
    let all : AllQueues = whole_after_steps (first_history config at) steps answers in
    subst (λ (ls : Lines). acceptance_count ls source number ≤ 1) (journal-lines all uid lines is) (keys_once config at steps answers are uid source number)

accepted-lines : (o : Option Lines) (u n : ℕ) → has_accepted (unwrap_or o []) u n ≡ true → option_map_or (λ lines. has_accepted lines u n) o false ≡ true
accepted-lines None u n h = h
accepted-lines (Some lines) u n h = h

module _ (all : AllQueues) (uid : ℕ) (q : QueueHistory) (here : queue_of_uid all.house uid ≡ Some q) (t : Transfer) (later : Lines) where
  fate-told : Fate (accepted_from (view_of all) uid) q.lines t later → HasFate all q t later
  fate-told (inl h) = inl h
  fate-told (inr (inl h)) =
      inr (inl (record {
        entry = h.entry;
        ended = h.ended;
        confirmed = h.confirmed;
        transferred = h.transferred;
        accepted = accepted-lines (journal_of all t.target) q.uid t.number
            (subst (λ (u : ℕ). has_accepted ((view_of all).lines t.target) u t.number ≡ true) (sym (uid_of_open all.house uid q here)) h.accepted_there);
      }))
  fate-told (inr (inr h)) = inr (inr h)

pub each_has_its_fate : (config : Configuration) (at : ℕ) (steps : List HistoryStep) (answers : List HouseAnswer) → AreEnding (first_history config at) steps answers
    → EachHasItsFate (whole_after_steps (first_history config at) steps answers)
each_has_its_fate config at steps answers are uid place t q here d =
    let b : Begins HasFates (new_house config at) = begins HasFates (λ v v' u e g o h. fates-opened v v' u e g o h) (λ u h. absurd (false≢true h)) config at in
    let all : AllQueues = whole_after_steps (first_history config at) steps answers in
    let fates : HasFates (view_of all) =
    through HasFates (λ all step answer change h. fates-after _ _ change h) (first_history config at) steps answers are b.fresh b.so in
    fate-told all uid q here t (drop (suc place) q.lines)
    ((subst (AreFates (accepted_from (view_of all) uid)) (lines_there all uid q here) (fates uid (open_there all uid q here))).1 place t d)

-- ---- one place

not_accepted-lines : (o : Option Lines) (u n : ℕ) → option_map_or (λ lines. has_accepted lines u n) o false ≡ false → has_accepted (unwrap_or o []) u n ≡ false
not_accepted-lines None u n h = h
not_accepted-lines (Some lines) u n h = h

module _ (all : AllQueues) (uid : ℕ) where
  there_open : (o : Option QueueHistory) → queue_of_uid all.house uid ≡ o → is_some o ≡ true → (q : QueueHistory) × (queue_of_uid all.house uid ≡ Some q)
  there_open None e h = absurd (false≢true h)
  there_open (Some q) e h = (q, e)

  pub queue_there : (view_of all).is_open uid ≡ true → (q : QueueHistory) × (queue_of_uid all.house uid ≡ Some q)
  queue_there h = there_open (queue_of_uid all.house uid) refl h

-- a relay of the view is one of the registry
relay_told : (all : AllQueues) (uid : ℕ) → (view_of all).is_open uid ≡ true → Relays (view_of all) uid → IsRelay all uid
relay_told all uid here r =
    let source = queue_there all r.source r.there in
    let own = queue_there all uid here in
    record {
      source = r.source;
      number = r.number;
      source_queue = source.0;
      source_there = source.1;
      waits = subst (λ (ls : Lines). status_numbered ls r.number ≡ Some (Waiting uid)) (lines_there all r.source source.0 source.1) r.waits;
      queue = own.0;
      there = own.1;
      own_number = r.own_number;
      came = ap (λ (o : Option Message). option_map_or (λ m. came_from r.source r.number m) o false)
          (subst (λ (ls : Lines). message_numbered ls r.own_number ≡ Some r.message) (lines_there all uid own.0 own.1) r.numbered)
          ∙ r.came;
      next = r.next;
      gone_on = accepted-lines (journal_of all r.next) uid r.own_number r.gone_on;
    }

spared_told : (all : AllQueues) (step : HistoryStep) (answer : HouseAnswer) → IsSpared all step answer → (uid : ℕ) → (view_of all).is_open uid ≡ true → IsEnding step answer uid → Relays (view_of all) uid → ⊥
spared_told all (Own (steps.Delete at own)) (Ok reply) spared uid here is r = spared (subst (IsRelay all) (sym is) (relay_told all uid here r))
spared_told all step answer spared uid here is r = absurd is

-- what holds a place holds the message
record IsHeld (all : AllQueues) : Type 0 where
  sound : IsSound (view_of all)
  one : HasOneHolder (view_of all)

held-after : (all : AllQueues) (step : HistoryStep) (answer : HouseAnswer) → Change (IsEnding step answer) (view_of all) (view_of (whole_after_step all step answer)) → IsSpared all step answer → IsHeld all → IsHeld (whole_after_step all step answer)
held-after all step answer change spared h = record {
  sound = sound-after (view_of all) (view_of (whole_after_step all step answer)) change h.sound;
  one = one-after (view_of all) (view_of (whole_after_step all step answer)) change h.sound (spared_told all step answer spared) h.one;
}

holder_of : (all : AllQueues) (id : MessageId) (uid n : ℕ) (q : QueueHistory) (m : Message) (s : Status) → IsNumbered all id uid n q m → (course_of q.lines m).status ≡ s → Holds (view_of all) uid n s → Holder (view_of all) id uid n
holder_of all id uid n q m s h status holds = record {
  there = open_there all uid q h.there;
  message = m;
  status = s;
  stands = subst (λ (ls : Lines). Stands ls n m s) (sym (lines_there all uid q h.there)) (record { numbered = h.numbered; status = status });
  named = h.named;
  holds = holds;
}

standing-holder : (all : AllQueues) (id : MessageId) (uid n : ℕ) → IsStanding all id uid n → Holder (view_of all) id uid n
standing-holder all id uid n h = holder_of all id uid n h.queue h.message Present h.here (live-present h.queue.lines h.queue.clock h.message h.live) tt

transit-holder : (all : AllQueues) (id : MessageId) (uid n : ℕ) → IsInTransit all id uid n → Holder (view_of all) id uid n
transit-holder all id uid n h = holder_of all id uid n h.queue h.message (Waiting h.target) h.here h.waits (inr (not_accepted-lines (journal_of all h.target) uid n h.unaccepted))

-- what stands is not in transit
not-both : (all : AllQueues) (id : MessageId) (uid n : ℕ) → IsStanding all id uid n → IsInTransit all id uid n → ⊥
not-both all id uid n h k =
    let q : h.queue ≡ k.queue = same_Some h.queue k.queue (sym h.here.there ∙ k.here.there) in
    let present : status_numbered h.queue.lines n ≡ Some Present =
    stands_gives h.queue.lines n h.message Present (record { numbered = h.here.numbered; status = live-present h.queue.lines h.queue.clock h.message h.live }) in
    let waits : status_numbered k.queue.lines n ≡ Some (Waiting k.target) = stands_gives k.queue.lines n k.message (Waiting k.target) (record { numbered = k.here.numbered; status = k.waits }) in
    let same : Present ≡ Waiting k.target = same_Some Present (Waiting k.target) (sym present ∙ (ap (λ (x : QueueHistory). status_numbered x.lines n) q ∙ waits)) in
    cc

one_place : (all : AllQueues) → HasOneHolder (view_of all) → EachHasOnePlace all
one_place all one id (Standing u n) (Standing w k) h h' =
    let s = one id u n w k (standing-holder all id u n h) (standing-holder all id w k h') in
    ap (λ (i : ℕ). Standing i n) s.0 ∙ ap (Standing w) s.1
one_place all one id (Standing u n) (InTransit w k) h h' =
    let s = one id u n w k (standing-holder all id u n h) (transit-holder all id w k h') in
    absurd (not-both all id w k (subst (IsStanding all id w) s.1 (subst (λ (i : ℕ). IsStanding all id i n) s.0 h)) h')
one_place all one id (InTransit u n) (Standing w k) h h' =
    let s = one id u n w k (transit-holder all id u n h) (standing-holder all id w k h') in
    absurd (not-both all id w k h' (subst (IsInTransit all id w) s.1 (subst (λ (i : ℕ). IsInTransit all id i n) s.0 h)))
one_place all one id (InTransit u n) (InTransit w k) h h' =
    let s = one id u n w k (transit-holder all id u n h) (transit-holder all id w k h') in
    ap (λ (i : ℕ). InTransit i n) s.0 ∙ ap (InTransit w) s.1

abbrev IsWell : View → Type 0
IsWell v = IsSound v × HasOneHolder v

pub each_has_one_place : (config : Configuration) (at : ℕ) (steps : List HistoryStep) (answers : List HouseAnswer) → AreEnding (first_history config at) steps answers
    → NoRelayDeleted (first_history config at) steps answers → EachHasOnePlace (whole_after_steps (first_history config at) steps answers)
each_has_one_place config at steps answers are spared =
    let nothing : IsSound (record { is_open = λ u. false; lines = λ u. [] }) = record {
      fates = λ u h. absurd (false≢true h);
      counted = λ u n m h. absurd (none-some m h);
      known = λ u n m o h k. absurd (none-some m h);
      taken = λ u n m h s. absurd (false≢true h);
    } in
    let b : Begins IsWell (new_house config at) =
    begins IsWell (λ v v' u e g o h. (sound-opened v v' u e g o h.0, one-opened v v' u e g o h.1)) (nothing, λ id u n w k h h'. absurd (false≢true h.there)) config at in
    let held : IsHeld (whole_after_steps (first_history config at) steps answers) =
    through_spared IsHeld held-after (first_history config at) steps answers are spared b.fresh (record { sound = b.so.0; one = b.so.1 }) in
    one_place (whole_after_steps (first_history config at) steps answers) held.one

-- ---- the registry's own steps

pub own-answered : (all : AllQueues) (steps : List HouseStep) (answers : List HouseAnswer) → AreHouseAnswers all.house steps answers → AreHistoryAnswers all (map Own steps) answers
own-answered all [] [] h = tt
own-answered all [] (answer ∷ answers) h = absurd h
own-answered all (step ∷ steps) [] h = absurd h
own-answered all (step ∷ steps) (answer ∷ answers) h = (h.0, own-answered (all_after all step answer) steps answers h.1)

pub own-left : (all : AllQueues) (steps : List HouseStep) (answers : List HouseAnswer) → after_history_steps all (map Own steps) answers ≡ history_after all steps answers
own-left all [] answers = refl
own-left all (step ∷ steps) [] = refl
own-left all (step ∷ steps) (answer ∷ answers) = own-left (all_after all step answer) steps answers
