-- Everything that a registry ever had beside the same with whole journals: each queue stands for the one with its whole journal, whatever the steps are.
use Rattle.std.proofs.Common.{◌≡◌, ℕ, ◌+◌, ◌<◌, Bool, true, false, not, cond, ◌&&◌, ◌||◌, ◌^◌, List, [], ◌∷◌, ◌++◌, map, length, Option, Some, None, Result, Ok, Err, refl, sym, ap, subst, ◌∙◌, arith, unwrap_or}
use Rattle.std.specs.Prelude.{⊤, MatchBool, fold, filter, nat_eq, nat_le, is_some, option_and_then}
use Rattle.std.specs.List.{find, All, IsDistinct}
use Rattle.std.specs.Option.{option_map, option_map_or, option_or}
use Rattle.std.specs.Str.{bytes_eq}
use Rattle.std.proofs.lemmas.Bool.{false≢true}
use Rattle.std.proofs.lemmas.List.Elements.{All-nil, All-push, All-map, All-filter, All-weaker}
use Rattle.message.specs.declared.fault.Fault.{Fault}
use Rattle.message.specs.declared.fault.Fault.TheVariants.{QueueDoesNotExist, InvalidAttributeValue, UnsupportedOperation}
use Rattle.message.specs.Fault.{Meets, is_out_of_memory}
use Rattle.queue_config.specs.Settings.{QueueSettings, RequestedAttributes, default_settings, settings_with}
use Rattle.queue_config.specs.AlarmRules.{Rule}
use Rattle.queue_config.specs.Config.{Configuration, rules_of}
use Rattle.queue_config.specs.declared.config.ConfiguredAlarm.{ConfiguredAlarm}
use Rattle.queue_config.specs.declared.config.ConfiguredQueue.{ConfiguredQueue}
use Rattle.queue_core.specs.declared.command.Command.{Command}
use Rattle.queue_core.specs.declared.command.Command.TheVariants as commands
use Rattle.queue_core.specs.declared.parcel.Parcel.{Parcel}
use Rattle.queue_core.specs.declared.reply.Reply.{Reply}
use Rattle.queue_core.specs.declared.reply.Reply.TheVariants as told
use Rattle.queue_core.specs.Messages.{has_accepted}
use Rattle.queue_core.specs.Kept.{opened_queue}
use Rattle.queue_core.specs.Queue.{QueueHistory, at_moment, outcome_at, after_answer, first_parcel_of}
use Rattle.queue_core.specs.Whole.{is_journal_full, whole_after}
use Rattle.queue_core.proofs.WholeLemmas.{AreAlike, later, alike_after, opened_alike, closed_then, accepted_alike, parcel_alike}
use Rattle.redrive.specs.declared.steps.HouseReply.{HouseReply}
use Rattle.redrive.specs.declared.steps.HouseReply.TheVariants as replies
use Rattle.redrive.specs.declared.steps.HouseStep.TheVariants as steps
use Rattle.redrive.specs.House.{House, empty_house, with_queue, next_queue, queue_of_uid, queue_named, has_queue, found_uid, named_target, target_uid, may_name_target, has_no_place, opens_queue, is_internal, may_set, step_refusal, reply_alone, queue_answer, with_queue_changed, without_queue, closed_queue, AddressedCommand, delivery_of, moved_of, first_parcel_in, is_accepted, accepted_number, house_at_moment}
use Rattle.redrive.specs.History.{AllQueues, queue_ever, was_accepted}
use Rattle.redrive.specs.HouseSteps.{HouseAnswer, as_house_reply, HouseChange, Nothing, Performs, Opens, Closes, Passes, Act, perform_act, hand_over_act, confirm_act, answer_of_act, all_changed}
use Rattle.redrive.specs.HistorySteps.{HistoryStep, Own, Settle, settled_number, act_in_history, IsHistoryAnswer, AreHistoryAnswers, after_history_step, after_history_steps}
use Rattle.redrive.specs.WholeSteps.{with_command, whole_changed, whole_after_step, whole_after_steps, StandsIn, StandForWhole}
use Rattle.redrive.specs.Places.{first_history}
use Rattle.redrive.proofs.KeyedLemmas.{IsDistinct-push, IsDistinct-filter, map-key, find-unused}
use Rattle.redrive.proofs.RegistryLemmas.{after_answer-uid, at_uid-keeps}
use Rattle.redrive.proofs.HistoryLemmas.{differs-found}
use Rattle.redrive.proofs.transfers.Houses.{Ends, deletion-known}
use Rattle.redrive.proofs.transfers.Runs.{AreEnding}

-- ---- lists of queues

abbrev pub AllAlike : List QueueHistory → List QueueHistory → Type 0
AllAlike [] [] = ⊤
AllAlike [] (w ∷ ws) = ⊥
AllAlike (q ∷ qs) [] = ⊥
AllAlike (q ∷ qs) (w ∷ ws) = AreAlike q w × AllAlike qs ws

-- one is found in both, or in neither
abbrev pub FoundAlike : Option QueueHistory → Option QueueHistory → Type 0
FoundAlike None None = ⊤
FoundAlike None (Some w) = ⊥
FoundAlike (Some q) None = ⊥
FoundAlike (Some q) (Some w) = AreAlike q w

module _ (p : QueueHistory → Bool) (same : (q w : QueueHistory) → AreAlike q w → p q ≡ p w) where
  found_alike : (qs ws : List QueueHistory) → AllAlike qs ws → FoundAlike (find p qs) (find p ws)
  found_alike [] [] h = tt
  found_alike [] (w ∷ ws) h = absurd h
  found_alike (q ∷ qs) [] h = absurd h
  found_alike (q ∷ qs) (w ∷ ws) h =
      subst (λ (b : Bool). FoundAlike (cond (p q) (Some q) (find p qs)) (cond b (Some w) (find p ws))) (same q w h.0) (by_test (p q) (found_alike qs ws h.1))
    where
      by_test : (b : Bool) → FoundAlike (find p qs) (find p ws) → FoundAlike (cond b (Some q) (find p qs)) (cond b (Some w) (find p ws))
      by_test true rest = h.0
      by_test false rest = rest

  filtered_alike : (qs ws : List QueueHistory) → AllAlike qs ws → AllAlike (filter p qs) (filter p ws)
  filtered_alike [] [] h = tt
  filtered_alike [] (w ∷ ws) h = absurd h
  filtered_alike (q ∷ qs) [] h = absurd h
  filtered_alike (q ∷ qs) (w ∷ ws) h =
      subst (λ (b : Bool). AllAlike (cond (p q) (q ∷ filter p qs) (filter p qs)) (cond b (w ∷ filter p ws) (filter p ws))) (same q w h.0) (by_test (p q) (filtered_alike qs ws h.1))
    where
      by_test : (b : Bool) → AllAlike (filter p qs) (filter p ws) → AllAlike (cond b (q ∷ filter p qs) (filter p qs)) (cond b (w ∷ filter p ws) (filter p ws))
      by_test true rest = (h.0, rest)
      by_test false rest = rest

mapped_alike : (f g : QueueHistory → QueueHistory) → ((q w : QueueHistory) → AreAlike q w → AreAlike (f q) (g w)) → (qs ws : List QueueHistory) → AllAlike qs ws → AllAlike (map f qs) (map g ws)
mapped_alike f g each [] [] h = tt
mapped_alike f g each [] (w ∷ ws) h = absurd h
mapped_alike f g each (q ∷ qs) [] h = absurd h
mapped_alike f g each (q ∷ qs) (w ∷ ws) h = (each q w h.0, mapped_alike f g each qs ws h.1)

pushed_alike : (qs ws : List QueueHistory) (q w : QueueHistory) → AllAlike qs ws → AreAlike q w → AllAlike (qs ++ q ∷ []) (ws ++ w ∷ [])
pushed_alike [] [] q w h k = (k, tt)
pushed_alike [] (x ∷ xs) q w h k = absurd h
pushed_alike (x ∷ xs) [] q w h k = absurd h
pushed_alike (x ∷ xs) (y ∷ ys) q w h k = (h.0, pushed_alike xs ys q w h.1 k)

length_alike : (qs ws : List QueueHistory) → AllAlike qs ws → length qs ≡ length ws
length_alike [] [] h = refl
length_alike [] (w ∷ ws) h = absurd h
length_alike (q ∷ qs) [] h = absurd h
length_alike (q ∷ qs) (w ∷ ws) h = let rest = length_alike qs ws h.1 in omega (arith, rest)

abbrev uid_of : QueueHistory → ℕ
uid_of q = q.uid

-- one queue is changed in both
changed_alike : (uid : ℕ) (f g : QueueHistory → QueueHistory) (qs ws : List QueueHistory) → AllAlike qs ws → IsDistinct nat_eq (map uid_of qs)
    → ((q w : QueueHistory) → AreAlike q w → find (λ q. nat_eq q.uid uid) qs ≡ Some q → AreAlike (f q) (g w))
    → AllAlike (map (λ q. cond (nat_eq q.uid uid) (f q) q) qs) (map (λ w. cond (nat_eq w.uid uid) (g w) w) ws)
unfolding IsDistinct
changed_alike uid f g [] [] h own each = tt
changed_alike uid f g [] (w ∷ ws) h own each = absurd h
changed_alike uid f g (q ∷ qs) [] h own each = absurd h
changed_alike uid f g (q ∷ qs) (w ∷ ws) h own each = by_test (nat_eq q.uid uid) refl (λ each'. changed_alike uid f g qs ws h.1 own.1 each')
  where
    there : (b : Bool) → nat_eq q.uid uid ≡ b → nat_eq w.uid uid ≡ b
    there b e = ap (λ (u : ℕ). nat_eq u uid) (sym h.0.stands.uid) ∙ e

    by_test : (b : Bool) → nat_eq q.uid uid ≡ b
        → (((q' w' : QueueHistory) → AreAlike q' w' → find (λ q. nat_eq q.uid uid) qs ≡ Some q' → AreAlike (f q') (g w'))
        → AllAlike (map (λ q. cond (nat_eq q.uid uid) (f q) q) qs) (map (λ w. cond (nat_eq w.uid uid) (g w) w) ws))
        → AreAlike (cond (nat_eq q.uid uid) (f q) q) (cond (nat_eq w.uid uid) (g w) w) × AllAlike (map (λ q. cond (nat_eq q.uid uid) (f q) q) qs) (map (λ w. cond (nat_eq w.uid uid) (g w) w) ws)
    by_test true e rest = (
      subst (λ (b : Bool). AreAlike (cond b (f q) q) (cond (nat_eq w.uid uid) (g w) w)) (sym e)
          (subst (λ (b : Bool). AreAlike (f q) (cond b (g w) w)) (sym (there true e)) (each q w h.0 (ap (λ (b : Bool). cond b (Some q) (find (λ q. nat_eq q.uid uid) qs)) e))),
      rest (λ q' w' k found. absurd (false≢true (sym (differs-found q.uid uid [] qs q' own.0 found) ∙ e))),
    )
    by_test false e rest = (
      subst (λ (b : Bool). AreAlike (cond b (f q) q) (cond (nat_eq w.uid uid) (g w) w)) (sym e)
          (subst (λ (b : Bool). AreAlike q (cond b (g w) w)) (sym (there false e)) h.0),
      rest (λ q' w' k found. each q' w' k (ap (λ (b : Bool). cond b (Some q) (find (λ q. nat_eq q.uid uid) qs)) e ∙ found)),
    )

-- ---- what is told of what is found

some_alike : (o p : Option QueueHistory) → FoundAlike o p → is_some o ≡ is_some p
some_alike None None h = refl
some_alike None (Some w) h = absurd h
some_alike (Some q) None h = absurd h
some_alike (Some q) (Some w) h = refl

module _ {X : Type 0} (f : QueueHistory → X) (same : (q w : QueueHistory) → AreAlike q w → f q ≡ f w) where
  told_alike : (none : X) (o p : Option QueueHistory) → FoundAlike o p → option_map_or f o none ≡ option_map_or f p none
  told_alike none None None h = refl
  told_alike none None (Some w) h = absurd h
  told_alike none (Some q) None h = absurd h
  told_alike none (Some q) (Some w) h = same q w h

  map_alike : (o p : Option QueueHistory) → FoundAlike o p → option_map f o ≡ option_map f p
  map_alike None None h = refl
  map_alike None (Some w) h = absurd h
  map_alike (Some q) None h = absurd h
  map_alike (Some q) (Some w) h = ap Some (same q w h)

then_alike : {X : Type 0} (f : QueueHistory → Option X) → ((q w : QueueHistory) → AreAlike q w → f q ≡ f w) → (o p : Option QueueHistory) → FoundAlike o p → option_and_then f o ≡ option_and_then f p
then_alike f same None None h = refl
then_alike f same None (Some w) h = absurd h
then_alike f same (Some q) None h = absurd h
then_alike f same (Some q) (Some w) h = same q w h

or_alike : (a b c d : Option QueueHistory) → FoundAlike a b → FoundAlike c d → FoundAlike (option_or a c) (option_or b d)
or_alike None None c d h k = k
or_alike None (Some w) c d h k = absurd h
or_alike (Some q) None c d h k = absurd h
or_alike (Some q) (Some w) c d h k = h

-- ---- the two histories

pub record AreTwins (all whole : AllQueues) : Type 0 where
  pub limits : all.house.limits ≡ whole.house.limits
  pub next : all.house.next_uid ≡ whole.house.next_uid
  pub there : AllAlike all.house.queues whole.house.queues
  pub gone : AllAlike all.deleted whole.deleted
  pub own : IsDistinct nat_eq (map uid_of all.house.queues)
  pub used : All (λ q. q.uid < all.house.next_uid) all.house.queues

module _ (all whole : AllQueues) (h : AreTwins all whole) where
  pub uid_alike : (uid : ℕ) → FoundAlike (queue_of_uid all.house uid) (queue_of_uid whole.house uid)
  uid_alike uid = found_alike (λ q. nat_eq q.uid uid) (λ q w k. ap (λ (u : ℕ). nat_eq u uid) k.stands.uid) all.house.queues whole.house.queues h.there

  pub gone_alike : (uid : ℕ) → FoundAlike (find (λ q. nat_eq q.uid uid) all.deleted) (find (λ q. nat_eq q.uid uid) whole.deleted)
  gone_alike uid = found_alike (λ q. nat_eq q.uid uid) (λ q w k. ap (λ (u : ℕ). nat_eq u uid) k.stands.uid) all.deleted whole.deleted h.gone

  named_alike : (name : List ℕ) → FoundAlike (queue_named all.house name) (queue_named whole.house name)
  named_alike name = found_alike (λ q. bytes_eq q.name name) (λ q w k. ap (λ (n : List ℕ). bytes_eq n name) k.stands.name) all.house.queues whole.house.queues h.there

  has_alike : (uid : ℕ) → has_queue all.house uid ≡ has_queue whole.house uid
  has_alike uid = some_alike (queue_of_uid all.house uid) (queue_of_uid whole.house uid) (uid_alike uid)

  name_alike : (name : List ℕ) → is_some (queue_named all.house name) ≡ is_some (queue_named whole.house name)
  name_alike name = some_alike (queue_named all.house name) (queue_named whole.house name) (named_alike name)

  found_uid_alike : (name : List ℕ) → found_uid all.house name ≡ found_uid whole.house name
  found_uid_alike name = map_alike (λ q. q.uid) (λ q w k. k.stands.uid) (queue_named all.house name) (queue_named whole.house name) (named_alike name)

  parcel_in_alike : (source : ℕ) → first_parcel_in all.house source ≡ first_parcel_in whole.house source
  parcel_in_alike source = then_alike (λ q. first_parcel_of q) (λ q w k. parcel_alike q w k) (queue_of_uid all.house source) (queue_of_uid whole.house source) (uid_alike source)

  is_accepted_alike : (p : Parcel) → is_accepted all.house p ≡ is_accepted whole.house p
  is_accepted_alike p =
      told_alike (λ q. has_accepted q.lines p.origin.uid p.origin.number) (λ q w k. accepted_alike q w k p.origin.uid p.origin.number) false
      (queue_of_uid all.house p.target) (queue_of_uid whole.house p.target) (uid_alike p.target)

  pub ever_alike : (uid : ℕ) → FoundAlike (queue_ever all uid) (queue_ever whole uid)
  ever_alike uid =
      or_alike (queue_of_uid all.house uid) (queue_of_uid whole.house uid) (find (λ q. nat_eq q.uid uid) all.deleted) (find (λ q. nat_eq q.uid uid) whole.deleted) (uid_alike uid) (gone_alike uid)

  pub was_accepted_alike : (uid source number : ℕ) → was_accepted all uid source number ≡ was_accepted whole uid source number
  was_accepted_alike uid source number = by_found (queue_ever all uid) (queue_ever whole uid) (ever_alike uid)
    where
      by_found : (o p : Option QueueHistory) → FoundAlike o p
          → option_map_or (λ lines. has_accepted lines source number) (option_map (λ (q : QueueHistory). q.lines) o) false
          ≡ option_map_or (λ lines. has_accepted lines source number) (option_map (λ (q : QueueHistory). q.lines) p) false
      by_found None None k = refl
      by_found None (Some w) k = absurd k
      by_found (Some q) None k = absurd k
      by_found (Some q) (Some w) k = accepted_alike q w k source number

  -- ---- what a step does

  target_alike : (wish : RequestedAttributes) → target_uid all.house wish ≡ target_uid whole.house wish
  target_alike wish = λ i. option_map_or (λ name. unwrap_or (found_uid_alike name i) 0) (named_target wish) 0

  may_name_alike : (name : List ℕ) (wish : RequestedAttributes) → may_name_target all.house name wish ≡ may_name_target whole.house name wish
  may_name_alike own wish = λ i. option_map_or (λ name. not (bytes_eq name own) && name_alike name i) (named_target wish) true

  no_place_alike : has_no_place all.house ≡ has_no_place whole.house
  no_place_alike = λ i. nat_le 1000 (length_alike all.house.queues whole.house.queues h.there i) || nat_le (2 ^ 62) (h.next i)

  opens_alike : (name : List ℕ) (wish : RequestedAttributes) → opens_queue all.house name wish ≡ opens_queue whole.house name wish
  opens_alike name wish =
      (λ i. may_name_alike name wish i && option_map_or (λ (q : QueueHistory). false) (queue_named all.house name) (not (no_place_alike i)))
      ∙ ap (λ (b : Bool). may_name_target whole.house name wish && b)
      (told_alike (λ q. false) (λ q w k. refl) (not (has_no_place whole.house)) (queue_named all.house name) (queue_named whole.house name) (named_alike name))

  may_set_alike : (uid : ℕ) (command : Command) → may_set all.house uid command ≡ may_set whole.house uid command
  may_set_alike uid (commands.Set wish target) =
      λ i. option_map_or (λ name. not (nat_eq target uid) && option_map_or (λ u. nat_eq u target) (found_uid_alike name i) false) (named_target wish) true
  may_set_alike uid command = refl

  refusal_alike : (uid : ℕ) (command : Command) → step_refusal all.house uid command ≡ step_refusal whole.house uid command
  refusal_alike uid command =
      λ i.
      cond (has_alike uid i) (cond (is_internal command) (Some UnsupportedOperation) (cond (may_set_alike uid command i) None (Some InvalidAttributeValue))) (Some QueueDoesNotExist)

  delivery_alike : (source : ℕ) (p : Parcel) → delivery_of all.house source p ≡ delivery_of whole.house source p
  delivery_alike source p =
      ap (λ (b : Bool). let d : AddressedCommand = cond b (record { uid = p.target; command = commands.Arrive p }) (record { uid = source; command = commands.Orphan p.target }) in d) (has_alike p.target)

  accepted_number_alike : (source : ℕ) → accepted_number all.house source ≡ accepted_number whole.house source
  accepted_number_alike source = λ i. option_and_then (λ p. cond (is_accepted_alike p i) (Some p.origin.number) None) (parcel_in_alike source i)

  settled_number_alike : (source : ℕ) → settled_number all source ≡ settled_number whole source
  settled_number_alike source =
      λ i. option_and_then (λ p. cond (was_accepted_alike p.target p.origin.uid p.origin.number i) (Some p.origin.number) None) (parcel_in_alike source i)

  abbrev Does : Act → HouseChange
  Does act = act.change

  handed_alike : (at source : ℕ) (o : Option Parcel) → Does (hand_over_act all.house at source o) ≡ Does (hand_over_act whole.house at source o)
  handed_alike at source None = refl
  handed_alike at source (Some p) = λ i. Performs (delivery_alike source p i).uid (delivery_alike source p i).command

  change_alike : (step : HistoryStep) → Does (act_in_history all step) ≡ Does (act_in_history whole step)
  change_alike (Own (steps.Create at name wish)) = λ i. cond (opens_alike name wish i) (Opens name (settings_with default_settings wish (target_alike wish i))) Nothing
  change_alike (Own (steps.Delete at uid)) = refl
  change_alike (Own (steps.Perform at uid command)) = ap (λ (r : Option Fault). Does (perform_act at uid command r)) (refusal_alike uid command)
  change_alike (Own (steps.HandOver at source)) =
      ap (λ (o : Option Parcel). Does (hand_over_act all.house at source o)) (parcel_in_alike source) ∙ handed_alike at source (first_parcel_in whole.house source)
  change_alike (Own (steps.Confirm at source)) = ap (λ (o : Option ℕ). Does (confirm_act at source o)) (accepted_number_alike source)
  change_alike (Own (steps.Advance at)) = refl
  change_alike (Settle at source) = ap (λ (o : Option ℕ). Does (confirm_act at source o)) (settled_number_alike source)

-- ---- the moment of a step

performed-at : (at uid : ℕ) (command : Command) (r : Option Fault) → (perform_act at uid command r).at ≡ at
performed-at at uid command None = refl
performed-at at uid command (Some fault) = refl

handed-at : (w : House) (at source : ℕ) (o : Option Parcel) → (hand_over_act w at source o).at ≡ at
handed-at w at source None = refl
handed-at w at source (Some p) = refl

confirmed-at : (at source : ℕ) (o : Option ℕ) → (confirm_act at source o).at ≡ at
confirmed-at at source None = refl
confirmed-at at source (Some n) = refl

moment_of : HistoryStep → ℕ
moment_of (Own (steps.Create at name wish)) = at
moment_of (Own (steps.Delete at uid)) = at
moment_of (Own (steps.Perform at uid command)) = at
moment_of (Own (steps.HandOver at source)) = at
moment_of (Own (steps.Confirm at source)) = at
moment_of (Own (steps.Advance at)) = at
moment_of (Settle at source) = at

act-at : (all : AllQueues) (step : HistoryStep) → (act_in_history all step).at ≡ moment_of step
unfolding moment_of
act-at all (Own (steps.Create at name wish)) = refl
act-at all (Own (steps.Delete at uid)) = refl
act-at all (Own (steps.Perform at uid command)) = performed-at at uid command (step_refusal all.house uid command)
act-at all (Own (steps.HandOver at source)) = handed-at all.house at source (first_parcel_in all.house source)
act-at all (Own (steps.Confirm at source)) = confirmed-at at source (accepted_number all.house source)
act-at all (Own (steps.Advance at)) = refl
act-at all (Settle at source) = confirmed-at at source (settled_number all source)

-- ---- a change in both

-- an answer says that the journal is full where the queue of the uid refuses the command for that
abbrev ToldIn : {T : Type 0} → AllQueues → ℕ → ℕ → Command → Result T Fault → Type 0
ToldIn all uid at command answer =
    (q : QueueHistory) → queue_of_uid all.house uid ≡ Some q → is_out_of_memory answer ≡ false → is_journal_full answer ≡ is_journal_full (outcome_at q at command).reply

abbrev Tells : AllQueues → ℕ → HouseChange → HouseAnswer → Type 0
Tells all at (Performs uid command) answer = ToldIn all uid at command answer
Tells all at change answer = ⊤

module _ (all whole : AllQueues) (h : AreTwins all whole) where
  -- one queue is changed
  changed_twins : (uid : ℕ) (f g : QueueHistory → QueueHistory) → ((q : QueueHistory) → (f q).uid ≡ q.uid)
      → ((q w : QueueHistory) → AreAlike q w → queue_of_uid all.house uid ≡ Some q → AreAlike (f q) (g w))
      → AreTwins (record all { house = with_queue_changed all.house uid f }) (record whole { house = with_queue_changed whole.house uid g })
  changed_twins uid f g keeps each =
      let at_uid : QueueHistory → QueueHistory = λ q. cond (nat_eq q.uid uid) (f q) q in
      let kept : (q : QueueHistory) → (at_uid q).uid ≡ q.uid = λ q. at_uid-keeps (λ q. q.uid) (nat_eq q.uid uid) q (f q) (keeps q) in
      record {
        limits = h.limits;
        next = h.next;
        there = changed_alike uid f g all.house.queues whole.house.queues h.there h.own each;
        gone = h.gone;
        own = subst (λ (us : List ℕ). IsDistinct nat_eq us) (sym (map-key nat_eq uid_of at_uid kept all.house.queues)) h.own;
        used = All-map (λ q. q.uid < all.house.next_uid) at_uid all.house.queues
            (All-weaker (λ q. q.uid < all.house.next_uid) (λ q. (at_uid q).uid < all.house.next_uid) (λ q l. rw (kept q) l) all.house.queues h.used);
      }

  commanded_twins : {T : Type 0} (uid at : ℕ) (command : Command) (answer : Result T Fault) → ToldIn all uid at command answer
      → AreTwins (record all { house = with_queue_changed all.house uid (λ q. after_answer q at command answer) }) (with_command whole uid at command answer)
  commanded_twins uid at command answer told =
      changed_twins uid (λ q. after_answer q at command answer) (λ w. whole_after w at command answer) (after_answer-uid at command answer)
      (λ q w k here. alike_after q w k at command answer (told q here))

  opened_twins : (at : ℕ) (name : List ℕ) (settings : QueueSettings) (rules : List Rule)
      → AreTwins (record all { house = with_queue all.house (next_queue all.house at name settings rules) }) (record whole { house = with_queue whole.house (next_queue whole.house at name settings rules) })
  opened_twins at name settings rules =
      let opened : QueueHistory = next_queue all.house at name settings rules in
      record {
        limits = h.limits;
        next = ap (λ (n : ℕ). n + 1) h.next;
        there = pushed_alike all.house.queues whole.house.queues opened (next_queue whole.house at name settings rules) h.there
            (subst (λ (q : QueueHistory). AreAlike opened q) (λ i. opened_queue (h.next i) name settings (h.limits i) rules at) (opened_alike all.house.next_uid name settings all.house.limits rules at));
        gone = h.gone;
        own = IsDistinct-push nat_eq uid_of all.house.queues opened h.own (find-unused uid_of all.house.next_uid all.house.queues h.used);
        used = All-push (λ q. q.uid < all.house.next_uid + 1) all.house.queues opened (All-weaker (λ q. q.uid < all.house.next_uid) (λ q. q.uid < all.house.next_uid + 1) (λ q l. omega arith) all.house.queues h.used) (omega arith);
      }

  opened-by : (at : ℕ) (name : List ℕ) (settings : QueueSettings) (failed : Bool)
      → AreTwins (record { house = cond failed all.house (with_queue all.house (next_queue all.house at name settings [])); deleted = all.deleted })
      (record { house = cond failed whole.house (with_queue whole.house (next_queue whole.house at name settings [])); deleted = whole.deleted })
  opened-by at name settings true = h
  opened-by at name settings false = opened_twins at name settings []

  closed-by : (uid at : ℕ) (failed : Bool) (o p : Option QueueHistory) → FoundAlike o p
      → AreTwins (record {
        house = cond failed (with_queue_changed all.house uid (λ q. at_moment q at)) (without_queue all.house uid);
        deleted = cond failed all.deleted (option_map_or (λ q. closed_queue q at ∷ all.deleted) o all.deleted);
      }) (record {
        house = cond failed (with_queue_changed whole.house uid (λ q. at_moment q at)) (without_queue whole.house uid);
        deleted = cond failed whole.deleted (option_map_or (λ q. closed_queue q at ∷ whole.deleted) p whole.deleted);
      })
  closed-by uid at true o p found = changed_twins uid (λ q. at_moment q at) (λ w. at_moment w at) (λ q. refl) (λ q w k here. later q w at k)
  closed-by uid at false o p found = record {
    limits = h.limits;
    next = h.next;
    there = filtered_alike (λ q. not (nat_eq q.uid uid)) (λ q w k. ap (λ (u : ℕ). not (nat_eq u uid)) k.stands.uid) all.house.queues whole.house.queues h.there;
    gone = by_found o p found;
    own = IsDistinct-filter nat_eq uid_of (λ q. not (nat_eq q.uid uid)) all.house.queues h.own;
    used = All-filter (λ q. not (nat_eq q.uid uid)) (λ q. q.uid < all.house.next_uid) all.house.queues h.used;
  }
    where
      by_found : (o p : Option QueueHistory) → FoundAlike o p
          → AllAlike (option_map_or (λ q. closed_queue q at ∷ all.deleted) o all.deleted) (option_map_or (λ q. closed_queue q at ∷ whole.deleted) p whole.deleted)
      by_found None None k = h.gone
      by_found None (Some w) k = absurd k
      by_found (Some q) None k = absurd k
      by_found (Some q) (Some w) k = (closed_then (at_moment q at) (at_moment w at) (later q w at k), h.gone)

  passed : (at : ℕ) → AreTwins (record all { house = house_at_moment all.house at }) (record whole { house = house_at_moment whole.house at })
  passed at = record {
    limits = h.limits;
    next = h.next;
    there = mapped_alike (λ q. at_moment q at) (λ w. at_moment w at) (λ q w k. later q w at k) all.house.queues whole.house.queues h.there;
    gone = h.gone;
    own = subst (λ (us : List ℕ). IsDistinct nat_eq us) (sym (map-key nat_eq uid_of (λ q. at_moment q at) (λ q. refl) all.house.queues)) h.own;
    used = All-map (λ q. q.uid < all.house.next_uid) (λ q. at_moment q at) all.house.queues
        (All-weaker (λ q. q.uid < all.house.next_uid) (λ q. (at_moment q at).uid < all.house.next_uid) (λ q l. l) all.house.queues h.used);
  }

  both_changed : (at : ℕ) (change : HouseChange) (answer : HouseAnswer) → Tells all at change answer → AreTwins (all_changed all at change answer) (whole_changed whole at change answer)
  both_changed at Nothing answer told = h
  both_changed at (Performs uid command) answer told = commanded_twins uid at command answer told
  both_changed at (Opens name settings) answer told = opened-by at name settings (is_out_of_memory answer)
  both_changed at (Closes uid) answer told = closed-by uid at (is_out_of_memory answer) (queue_of_uid all.house uid) (queue_of_uid whole.house uid) (uid_alike all whole h uid)
  both_changed at Passes answer told = passed at

-- ---- what an answer tells

met_told : {T : Type 0} (answer wanted : Result T Fault) → Meets answer wanted → is_out_of_memory answer ≡ false → is_journal_full answer ≡ is_journal_full wanted
met_told answer wanted h memory = ap is_journal_full (subst (λ (b : Bool). MatchBool b ⊤ (answer ≡ wanted)) memory h)

house_full : (f : Reply → HouseReply) (r : Result Reply Fault) → is_journal_full (as_house_reply f r) ≡ is_journal_full r
house_full f (Ok reply) = refl
house_full f (Err fault) = refl

-- what meets a queue's reply
met_reply : (f : Reply → HouseReply) (answer : HouseAnswer) (r : Result Reply Fault) → Meets answer (as_house_reply f r) → is_out_of_memory answer ≡ false → is_journal_full answer ≡ is_journal_full r
met_reply f answer r h memory = met_told answer (as_house_reply f r) h memory ∙ house_full f r

-- the reply of the queue that is found
alone_full : (o : Option QueueHistory) (q : QueueHistory) (at : ℕ) (command : Command) → o ≡ Some q → is_journal_full (reply_alone o at command) ≡ is_journal_full (outcome_at q at command).reply
alone_full o q at command here = ap (λ (o : Option QueueHistory). is_journal_full (reply_alone o at command)) here

module _ (all : AllQueues) (at : ℕ) (answer : HouseAnswer) where
  created_tells : (opens : Bool) (name : List ℕ) (settings : QueueSettings) → Tells all at (cond opens (Opens name settings) Nothing) answer
  created_tells true name settings = tt
  created_tells false name settings = tt

  performed_tells : (uid : ℕ) (command : Command) (r : Option Fault)
      → Meets answer (answer_of_act all.house (perform_act at uid command r)) → Tells all (perform_act at uid command r).at (perform_act at uid command r).change answer
  performed_tells uid command (Some fault) meets = tt
  performed_tells uid command None meets = λ q here memory.
      met_reply replies.Performed answer (reply_alone (queue_of_uid all.house uid) at command) meets memory ∙ alone_full (queue_of_uid all.house uid) q at command here

  confirmed_tells : (source : ℕ) (o : Option ℕ)
      → Meets answer (answer_of_act all.house (confirm_act at source o)) → Tells all (confirm_act at source o).at (confirm_act at source o).change answer
  confirmed_tells source None meets = tt
  confirmed_tells source (Some n) meets = λ q here memory.
      met_reply replies.Confirmed answer (reply_alone (queue_of_uid all.house source) at (commands.Settle n)) meets memory ∙ alone_full (queue_of_uid all.house source) q at (commands.Settle n) here

  settled_tells : (source : ℕ) (o : Option ℕ)
      → Meets answer (as_house_reply replies.Confirmed (option_map_or (λ number. queue_answer all.house source at (commands.Settle number)) o (Ok (told.Settled false))))
      → Tells all (confirm_act at source o).at (confirm_act at source o).change answer
  settled_tells source None meets = tt
  settled_tells source (Some n) meets = λ q here memory.
      met_told answer (as_house_reply replies.Confirmed (queue_answer all.house source at (commands.Settle n))) meets memory
      ∙ house_full replies.Confirmed (queue_answer all.house source at (commands.Settle n)) ∙ alone_full (queue_of_uid all.house source) q at (commands.Settle n) here

handed_tells : (all : AllQueues) (at source : ℕ) (answer : HouseAnswer) (o : Option Parcel) → Meets answer (answer_of_act all.house (hand_over_act all.house at source o))
    → Tells all (hand_over_act all.house at source o).at (hand_over_act all.house at source o).change answer
handed_tells all at source answer None meets = tt
handed_tells all at source answer (Some p) meets = λ q here memory.
    let d : AddressedCommand = delivery_of all.house source p in
    met_reply (λ reply. replies.HandedOver (moved_of reply)) answer (reply_alone (queue_of_uid all.house d.uid) at d.command) meets memory
    ∙ alone_full (queue_of_uid all.house d.uid) q at d.command here

step_tells : (all : AllQueues) (step : HistoryStep) (answer : HouseAnswer) → IsHistoryAnswer all step answer → Tells all (act_in_history all step).at (act_in_history all step).change answer
step_tells all (Own (steps.Create at name wish)) answer h = created_tells all at answer (opens_queue all.house name wish) name (settings_with default_settings wish (target_uid all.house wish))
step_tells all (Own (steps.Delete at uid)) answer h = tt
step_tells all (Own (steps.Perform at uid command)) answer h = performed_tells all at answer uid command (step_refusal all.house uid command) h.meets
step_tells all (Own (steps.HandOver at source)) answer h = handed_tells all at source answer (first_parcel_in all.house source) h.meets
step_tells all (Own (steps.Confirm at source)) answer h = confirmed_tells all at answer source (accepted_number all.house source) h.meets
step_tells all (Own (steps.Advance at)) answer h = tt
step_tells all (Settle at source) answer h = settled_tells all at answer source (settled_number all source) h

-- ---- a step

found_there : (o p : Option QueueHistory) (w : QueueHistory) → FoundAlike o p → p ≡ Some w → (q : QueueHistory) × (o ≡ Some q)
found_there (Some q) p w found e = (q, refl)
found_there None (Some v) w found e = absurd found
found_there None None w found e = absurd cc

step_ends : (all whole : AllQueues) (step : HistoryStep) (answer : HouseAnswer) → AreTwins all whole → IsHistoryAnswer all step answer → Ends whole step answer
step_ends all whole (Own (steps.Delete at uid)) answer h are = λ w here memory.
    let q = found_there (queue_of_uid all.house uid) (queue_of_uid whole.house uid) w (uid_alike all whole h uid) here in
    deletion-known at uid answer (queue_of_uid all.house uid) q.0 q.1 memory are.meets
step_ends all whole (Own (steps.Create at name wish)) answer h are = tt
step_ends all whole (Own (steps.Perform at uid command)) answer h are = tt
step_ends all whole (Own (steps.HandOver at source)) answer h are = tt
step_ends all whole (Own (steps.Confirm at source)) answer h are = tt
step_ends all whole (Own (steps.Advance at)) answer h are = tt
step_ends all whole (Settle at source) answer h are = tt

step_twins : (all whole : AllQueues) (step : HistoryStep) (answer : HouseAnswer) → AreTwins all whole → IsHistoryAnswer all step answer
    → AreTwins (after_history_step all step answer) (whole_after_step whole step answer)
step_twins all whole step answer h are =
    subst (λ (x : AllQueues). AreTwins (after_history_step all step answer) x)
    (λ i. whole_changed whole ((act-at all step ∙ sym (act-at whole step)) i) (change_alike all whole h step i) answer)
    (both_changed all whole h (act_in_history all step).at (act_in_history all step).change answer (step_tells all step answer are))

-- ---- a list of steps

pub record StayTwins (all whole : AllQueues) (steps : List HistoryStep) (answers : List HouseAnswer) : Type 0 where
  pub ending : AreEnding whole steps answers
  pub twins : AreTwins (after_history_steps all steps answers) (whole_after_steps whole steps answers)

pub steps_twins : (all whole : AllQueues) (steps : List HistoryStep) (answers : List HouseAnswer) → AreTwins all whole → AreHistoryAnswers all steps answers → StayTwins all whole steps answers
steps_twins all whole [] [] h are = record { ending = tt; twins = h }
steps_twins all whole [] (answer ∷ answers) h are = absurd are
steps_twins all whole (step ∷ steps) [] h are = absurd are
steps_twins all whole (step ∷ steps) (answer ∷ answers) h are =
    let rest = steps_twins (after_history_step all step answer) (whole_after_step whole step answer) steps answers (step_twins all whole step answer h are.0) are.1 in
    record { ending = (step_ends all whole step answer h are.0, rest.ending); twins = rest.twins }

-- ---- the beginning

begun_twins : (at : ℕ) (alarms : List ConfiguredAlarm) (queues : List ConfiguredQueue) (w : House) → AreTwins (record { house = w; deleted = [] }) (record { house = w; deleted = [] })
    → let v : House = fold (λ w q. with_queue w (next_queue w at q.name q.settings (rules_of alarms w.next_uid))) w queues in AreTwins (record { house = v; deleted = [] }) (record { house = v; deleted = [] })
begun_twins at alarms [] w h = h
begun_twins at alarms (q ∷ queues) w h =
    begun_twins at alarms queues (with_queue w (next_queue w at q.name q.settings (rules_of alarms w.next_uid)))
    (opened_twins (record { house = w; deleted = [] }) (record { house = w; deleted = [] }) h at q.name q.settings (rules_of alarms w.next_uid))

pub first_twins : (config : Configuration) (at : ℕ) → AreTwins (first_history config at) (first_history config at)
unfolding IsDistinct
first_twins config at =
    begun_twins at config.alarms config.queues (empty_house config.limits)
    (record { limits = refl; next = refl; there = tt; gone = tt; own = tt; used = All-nil (λ q. q.uid < 1) })

pub history_twins : (config : Configuration) (at : ℕ) (steps : List HistoryStep) (answers : List HouseAnswer) → AreHistoryAnswers (first_history config at) steps answers
    → StayTwins (first_history config at) (first_history config at) steps answers
history_twins config at steps answers are = steps_twins (first_history config at) (first_history config at) steps answers (first_twins config at) are

stands_in : (o p : Option QueueHistory) → FoundAlike o p → StandsIn o p
stands_in None None h = tt
stands_in None (Some w) h = absurd h
stands_in (Some q) None h = absurd h
stands_in (Some q) (Some w) h = h.stands

pub stand_for_whole : (config : Configuration) (at : ℕ) (steps : List HistoryStep) (answers : List HouseAnswer) → AreHistoryAnswers (first_history config at) steps answers
    → StandForWhole (after_history_steps (first_history config at) steps answers) (whole_after_steps (first_history config at) steps answers)
stand_for_whole config at steps answers are =
    let all : AllQueues = after_history_steps (first_history config at) steps answers in
    let whole : AllQueues = whole_after_steps (first_history config at) steps answers in
    let twins : AreTwins all whole = (history_twins config at steps answers are).twins in
    record {
      there = λ uid. stands_in (queue_of_uid all.house uid) (queue_of_uid whole.house uid) (uid_alike all whole twins uid);
      deleted = λ uid. stands_in (find (λ q. nat_eq q.uid uid) all.deleted) (find (λ q. nat_eq q.uid uid) whole.deleted) (gone_alike all whole twins uid);
    }
