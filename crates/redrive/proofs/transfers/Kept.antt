-- The laws of dead letters of what a registry has: of journals of which a checkpoint may be the first entry. They follow from those of the whole journals that these stand for.
use Rattle.std.proofs.Common.{◌≡◌, ℕ, ◌≤◌, Bool, true, false, ◌&&◌, cond, List, Option, Some, None, refl, sym, ap, subst, ◌∙◌}
use Rattle.std.specs.Prelude.{count_by, ◌==◌, option_and_then}
use Rattle.std.specs.Option.{option_map, option_map_or}
use Rattle.std.specs.List.{find}
use Rattle.std.proofs.lemmas.Option.{none-some, same_Some}
use Rattle.message.specs.Content.{ContentText}
use Rattle.message.specs.declared.id.MessageId.{MessageId}
use Rattle.journal.specs.declared.base.TransferKey.{TransferKey}
use Rattle.journal.specs.declared.entry.Entry.{Entry}
use Rattle.journal.specs.declared.entry.Origin.{Origin}
use Rattle.queue_config.specs.Config.{Configuration}
use Rattle.queue_core.specs.declared.facts.Message.{Message}
use Rattle.queue_core.specs.declared.facts.Status.{Status}
use Rattle.queue_core.specs.declared.facts.Status.TheVariants.{Present, Removed, Waiting, Transferred}
use Rattle.queue_core.specs.Accepted.{accepted_keys}
use Rattle.queue_core.specs.Messages.{message_id, own_id, course_of}
use Rattle.queue_core.specs.Queue.{QueueHistory}
use Rattle.queue_core.specs.States.{is_live, message_numbered}
use Rattle.queue_core.specs.Summary.{KnownMessage, Summary, known_message, known_where, known_at, summary_of}
use Rattle.queue_core.proofs.PendingLemmas.{live-present}
use Rattle.queue_core.proofs.WholeLemmas.{AreAlike}
use Rattle.redrive.specs.House.{queue_of_uid}
use Rattle.redrive.specs.History.{AllQueues, queue_ever, journal_of, was_accepted}
use Rattle.redrive.specs.HistorySteps.{HistoryStep, AreHistoryAnswers, after_history_steps}
use Rattle.redrive.specs.WholeSteps.{whole_after_steps}
use Rattle.redrive.specs.HouseSteps.{HouseAnswer}
use Rattle.redrive.specs.Places.{first_history, acceptance_count, EachAcceptedOnce, IsNumbered, IsStanding, IsInTransit, Place, Standing, InTransit, IsPlaceOf, EachHasOnePlace, NoRelayDeleted}
use Rattle.redrive.proofs.transfers.Journals.{Lines}
use Rattle.redrive.proofs.transfers.Laws.{accepted_once, each_has_one_place}
use Rattle.redrive.proofs.transfers.Twins.{FoundAlike, AreTwins, uid_alike, ever_alike, was_accepted_alike, history_twins}

-- what stands behind an answer
then_some : {A B : Type 0} (f : A → Option B) (o : Option A) (y : B) → option_and_then f o ≡ Some y → (x : A) × (o ≡ Some x) × (f x ≡ Some y)
then_some f None y h = absurd (none-some y h)
then_some f (Some x) y h = (x, refl, h)

-- ---- one message

-- where a message stands that is known with the dead-letter queue of a uid, or with none
abbrev StandsFor : Lines → ℕ → Message → Option ℕ → Type 0
StandsFor lines clock m None = is_live lines clock m ≡ true
StandsFor lines clock m (Some target) = (course_of lines m).status ≡ Waiting target

module _ (lines : Lines) (clock : ℕ) (m : Message) where
  known_from : (target : Option ℕ) → StandsFor lines clock m target → known_where lines clock (course_of lines m).status m ≡ Some (known_message lines clock target m)
  known_from None live =
      ap (λ (s : Status). known_where lines clock s m) (live-present lines clock m live)
      ∙ ap (λ (b : Bool). cond b (Some (known_message lines clock None m)) None) live
  known_from (Some target) waits = ap (λ (s : Status). known_where lines clock s m) waits

  known_back : (k : KnownMessage) (s : Status) → (course_of lines m).status ≡ s → known_where lines clock s m ≡ Some k → (known_message lines clock k.target m ≡ k) × StandsFor lines clock m k.target
  known_back k Present e h = by_live (is_live lines clock m) refl h
    where
      by_live : (b : Bool) → is_live lines clock m ≡ b → cond b (Some (known_message lines clock None m)) None ≡ Some k → (known_message lines clock k.target m ≡ k) × StandsFor lines clock m k.target
      by_live true live h =
          let same : known_message lines clock None m ≡ k = same_Some (known_message lines clock None m) k h in
          let target : None ≡ k.target = ap (λ (x : KnownMessage). x.target) same in
          (subst (λ (t : Option ℕ). known_message lines clock t m ≡ k) target same, subst (λ (t : Option ℕ). StandsFor lines clock m t) target live)
      by_live false live h = absurd (none-some k h)
  known_back k (Waiting own) e h =
      let same : known_message lines clock (Some own) m ≡ k = same_Some (known_message lines clock (Some own) m) k h in
      let target : Some own ≡ k.target = ap (λ (x : KnownMessage). x.target) same in
      (subst (λ (t : Option ℕ). known_message lines clock t m ≡ k) target same, subst (λ (t : Option ℕ). StandsFor lines clock m t) target e)
  known_back k Removed e h = absurd (none-some k h)
  known_back k Transferred e h = absurd (none-some k h)

-- in the whole journal the same message stands so, under the same number
record IsThere (w : QueueHistory) (uid n : ℕ) (target : Option ℕ) (m : Message) : Type 0 where
  message : Message
  numbered : message_numbered w.lines n ≡ Some message
  named : message_id uid message ≡ message_id uid m
  stands : StandsFor w.lines w.clock message target

same_id : (uid : ℕ) (m k : Message) → m.number ≡ k.number → m.origin ≡ k.origin → message_id uid m ≡ message_id uid k
same_id uid m k number origin = λ i. option_map_or (λ (o : Origin). o.id) (origin i) (own_id uid (number i))

there_too : (q w : QueueHistory) (uid n : ℕ) (m : Message) (target : Option ℕ) → AreAlike q w → message_numbered q.lines n ≡ Some m → StandsFor q.lines q.clock m target → IsThere w uid n target m
there_too q w uid n m target alike numbered stands =
    let k : KnownMessage = known_message q.lines q.clock target m in
    let known : known_at q.lines q.clock n ≡ Some k =
    ap (option_and_then (λ m. known_where q.lines q.clock (course_of q.lines m).status m)) numbered ∙ known_from q.lines q.clock m target stands in
    let same : known_at w.lines w.clock n ≡ Some k = sym (ap (λ (s : Summary). s.known n) alike.stands.summary) ∙ known in
    let found = then_some (λ m. known_where w.lines w.clock (course_of w.lines m).status m) (message_numbered w.lines n) k same in
    let back = known_back w.lines w.clock found.0 k (course_of w.lines found.0).status refl found.2 in
    record {
      message = found.0;
      numbered = found.1;
      named = same_id uid found.0 m (ap (λ (x : KnownMessage). x.number) back.0) (ap (λ (x : KnownMessage). x.origin) back.0);
      stands = back.1;
    }

-- ---- everything

found_too : (o p : Option QueueHistory) (q : QueueHistory) → FoundAlike o p → o ≡ Some q → (w : QueueHistory) × (p ≡ Some w) × AreAlike q w
found_too None p q alike e = absurd (none-some q e)
found_too (Some x) None q alike e = absurd alike
found_too (Some x) (Some w) q alike e = (w, refl, subst (λ (y : QueueHistory). AreAlike y w) (same_Some x q e) alike)

lines_of : (o : Option QueueHistory) (lines : Lines) → option_map (λ (q : QueueHistory). q.lines) o ≡ Some lines → (q : QueueHistory) × (o ≡ Some q) × (q.lines ≡ lines)
lines_of None lines e = absurd (none-some lines e)
lines_of (Some q) lines e = (q, refl, same_Some q.lines lines e)

module _ (all whole : AllQueues) (twins : AreTwins all whole) where
  accepted_too : EachAcceptedOnce whole → EachAcceptedOnce all
  accepted_too once uid source number lines is =
      let own = lines_of (queue_ever all uid) lines is in
      let other = found_too (queue_ever all uid) (queue_ever whole uid) own.0 (ever_alike all whole twins uid) own.1 in
      let w : QueueHistory = other.0 in
      let few : acceptance_count w.lines source number ≤ 1 = once uid source number w.lines (ap (option_map (λ (q : QueueHistory). q.lines)) other.1) in
      let keys : accepted_keys w.lines ≡ accepted_keys lines = sym (ap (λ (s : Summary). s.accepted) other.2.stands.summary) ∙ ap (λ (ls : Lines). accepted_keys ls) own.2 in
      subst (λ (ks : List TransferKey). count_by (λ key. (key.uid == source) && (key.number == number)) ks ≤ 1) keys few

  module _ (id : MessageId) (uid n : ℕ) where
    module _ (q : QueueHistory) (m : Message) (here : IsNumbered all id uid n q m) where
      abbrev other : (w : QueueHistory) × (queue_of_uid whole.house uid ≡ Some w) × AreAlike q w
      other = found_too (queue_of_uid all.house uid) (queue_of_uid whole.house uid) q (uid_alike all whole twins uid) here.there

      module _ (target : Option ℕ) (stands : StandsFor q.lines q.clock m target) where
        abbrev too : IsThere other.0 uid n target m
        too = there_too q other.0 uid n m target other.2 here.numbered stands

        numbered_too : IsNumbered whole id uid n other.0 too.message
        numbered_too = record { there = other.1; numbered = too.numbered; named = too.named ∙ here.named }

    standing_too : IsStanding all id uid n → IsStanding whole id uid n
    standing_too h = record {
      queue = (other h.queue h.message h.here).0;
      message = (too h.queue h.message h.here None h.live).message;
      here = numbered_too h.queue h.message h.here None h.live;
      live = (too h.queue h.message h.here None h.live).stands;
    }

    transit_too : IsInTransit all id uid n → IsInTransit whole id uid n
    transit_too h = record {
      queue = (other h.queue h.message h.here).0;
      message = (too h.queue h.message h.here (Some h.target) h.waits).message;
      here = numbered_too h.queue h.message h.here (Some h.target) h.waits;
      target = h.target;
      waits = (too h.queue h.message h.here (Some h.target) h.waits).stands;
      unaccepted = sym (was_accepted_alike all whole twins h.target uid n) ∙ h.unaccepted;
    }

  place_too : (id : MessageId) (place : Place) → IsPlaceOf all id place → IsPlaceOf whole id place
  place_too id (Standing uid n) h = standing_too id uid n h
  place_too id (InTransit uid n) h = transit_too id uid n h

  places_too : EachHasOnePlace whole → EachHasOnePlace all
  places_too one id here there h h' = one id here there (place_too id here h) (place_too id there h')

-- ---- the laws

pub accepted_once_there : (config : Configuration) (at : ℕ) (steps : List HistoryStep) (answers : List HouseAnswer) → AreHistoryAnswers (first_history config at) steps answers
    → EachAcceptedOnce (after_history_steps (first_history config at) steps answers)
accepted_once_there config at steps answers are =
    let t = history_twins config at steps answers are in
    accepted_too (after_history_steps (first_history config at) steps answers) (whole_after_steps (first_history config at) steps answers) t.twins (accepted_once config at steps answers t.ending)

pub one_place_there : (config : Configuration) (at : ℕ) (steps : List HistoryStep) (answers : List HouseAnswer) → AreHistoryAnswers (first_history config at) steps answers
    → NoRelayDeleted (first_history config at) steps answers → EachHasOnePlace (after_history_steps (first_history config at) steps answers)
one_place_there config at steps answers are spared =
    let t = history_twins config at steps answers are in
    places_too (after_history_steps (first_history config at) steps answers) (whole_after_steps (first_history config at) steps answers) t.twins
    (each_has_one_place config at steps answers t.ending spared)
