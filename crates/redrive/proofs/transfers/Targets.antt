-- No queue is its own dead-letter queue.
use Rattle.std.proofs.Common.{◌≡◌, ℕ, ◌+◌, ◌<◌, arith, Bool, true, false, not, ◌&&◌, cond, List, [], ◌∷◌, ◌++◌, length, get_or, append_assoc, Option, Some, None, unwrap_or, Result, Ok, refl, sym, ap, subst, inl, inr, ◌∙◌, eqb-true}
use Rattle.std.specs.Prelude.{⊤, nat_eq, is_some, option_map, IfSome, fold}
use Rattle.std.specs.List.{position, All}
use Rattle.std.specs.Option.{option_map_or, ForSome}
use Rattle.std.specs.Str.{bytes_eq}
use Rattle.std.proofs.lemmas.Bool.{and_parts, false≢true, ne_eqb, not-true}
use Rattle.std.proofs.lemmas.List.{length-append}
use Rattle.std.proofs.lemmas.List.Elements.{All-nil, All-head, All-tail, All-cons, All-append, All-filter, All-weaker, All-map}
use Rattle.std.proofs.lemmas.List.Quantifiers.{position-Some}
use Rattle.std.proofs.lemmas.Option.{none-some, same_Some}
use Rattle.message.specs.declared.fault.Fault.{Fault}
use Rattle.message.specs.declared.fault.Fault.TheVariants.{QueueDoesNotExist, UnsupportedOperation, InvalidAttributeValue}
use Rattle.message.specs.Content.{ContentText}
use Rattle.message.specs.Fault.{is_out_of_memory}
use Rattle.queue_config.specs.Config.{Configuration, names_of, HasTarget, AreConfigured, rules_of}
use Rattle.queue_config.specs.Settings.{QueueSettings, RequestedAttributes, default_settings, settings_with, policy_without, policy_with}
use Rattle.queue_config.specs.declared.config.ConfiguredAlarm.{ConfiguredAlarm}
use Rattle.queue_config.specs.declared.config.ConfiguredQueue.{ConfiguredQueue}
use Rattle.queue_config.specs.declared.policy.RedrivePolicy.{RedrivePolicy}
use Rattle.queue_config.specs.declared.policy.RequestedPolicy.{RequestedPolicy}
use Rattle.journal.specs.declared.entry.Event.{Event}
use Rattle.queue_core.specs.declared.command.Command.{Command}
use Rattle.queue_core.specs.declared.command.Command.TheVariants as commands
use Rattle.queue_core.specs.declared.parcel.Parcel.{Parcel}
use Rattle.queue_core.specs.Messages.{settings_after, settings_of}
use Rattle.queue_core.specs.Queue.{QueueHistory, at_moment, outcome_in, reached, outcome_at, after_answer, rebased_where}
use Rattle.redrive.specs.declared.steps.HouseReply.TheVariants as replies
use Rattle.redrive.specs.declared.steps.HouseStep.{HouseStep}
use Rattle.redrive.specs.declared.steps.HouseStep.TheVariants as steps
use Rattle.redrive.specs.House.{House, empty_house, with_queue, next_queue, new_house, queue_named, found_uid, has_queue, target_uid, may_name_target, may_set, is_internal, step_refusal, has_target, with_queue_changed, house_after_command, without_queue, first_parcel_in, AddressedCommand, accepted_number}
use Rattle.redrive.specs.HouseSteps.{HouseAnswer, HouseChange, Nothing, Performs, Opens, Closes, Passes, perform_act, hand_over_act, confirm_act, act_of, house_changed, house_after, house_after_all}
use Rattle.queue_core.proofs.CauseLemmas.{IsSoOfAdded, added}
use Rattle.queue_core.proofs.PushLemmas.{settings_from-push}
use Rattle.redrive.proofs.KeyedLemmas.{find-holds}
use Rattle.redrive.proofs.RegistryLemmas.{after_answer-uid}
use Rattle.redrive.proofs.transfers.Journals.{Lines}
use Rattle.redrive.proofs.transfers.Commands.{if_some-at, reached-lines, after_answer-lines, acting}

-- whether the policy names the queue of a uid
abbrev names_uid : ℕ → Option RedrivePolicy → Bool
names_uid u policy = option_map_or (λ p. nat_eq p.target u) policy false

abbrev Asked : Type 0
Asked = Option (Option RequestedPolicy)

abbrev asked_name : Asked → Option (List ℕ)
asked_name asked = unwrap_or (option_map (λ policy. option_map (λ p. p.name) policy) asked) None

-- ---- one entry more

-- no policy is asked for that names the queue of the uid
abbrev Sets : ℕ → Command → Type 0
Sets u command = (policy : Option RedrivePolicy) (wish : RequestedAttributes) (target : ℕ) → command ≡ commands.Set wish target → names_uid u policy ≡ false → names_uid u (policy_with policy wish.redrive_policy target) ≡ false

without-policy : (u lost : ℕ) (policy : Option RedrivePolicy) → names_uid u policy ≡ false → names_uid u (policy_without policy lost) ≡ false
without-policy u lost None h = refl
without-policy u lost (Some p) h = by_test (nat_eq p.target lost)
  where
    by_test : (b : Bool) → names_uid u (cond b None (Some p)) ≡ false
    by_test true = refl
    by_test false = h

module _ (q : QueueHistory) (u : ℕ) (h : names_uid u (settings_of q.lines).redrive_policy ≡ false) where
  -- an event after which the policy does not name the queue of the uid
  abbrev AimsBy : Event ContentText → Type 0
  AimsBy event = names_uid u (settings_after (settings_of q.lines) event).redrive_policy ≡ false

  aims-each : (command : Command) → Sets u command → IsSoOfAdded q AimsBy command
  aims-each (commands.Change handle timeout) sets = λ unrefused. h
  aims-each (commands.Delete handle) sets = (h, h)
  aims-each (commands.Set wish target) sets = sets (settings_of q.lines).redrive_policy wish target refl h
  aims-each (commands.Arrive parcel) sets = λ first. h
  aims-each (commands.Settle number) sets = λ pending. h
  aims-each (commands.Orphan target) sets = without-policy u target (settings_of q.lines).redrive_policy h
  aims-each commands.FirstParcel sets = tt
  aims-each commands.Look sets = tt
  aims-each command sets = h

  aims : (command : Command) → Sets u command → IfSome (outcome_in q command).event AimsBy
  aims command sets = added AimsBy q (λ fault. h) command (aims-each command sets)

-- a checkpoint keeps the settings
acting-settings : (q : QueueHistory) (at : ℕ) (command : Command) → settings_of (acting q at command).lines ≡ settings_of q.lines
acting-settings q at command = by_place (outcome_at q at command).rebases (reached q at command) ∙ ap (λ (ls : Lines). settings_of ls) (reached-lines q at command)
  where
    by_place : (b : Bool) (r : QueueHistory) → settings_of (rebased_where b r).lines ≡ settings_of r.lines
    by_place true r = refl
    by_place false r = refl

left-aims : {T : Type 0} → (q : QueueHistory) (u at : ℕ) (command : Command) (answer : Result T Fault) → Sets u command → has_target u q ≡ false → has_target u (after_answer q at command answer) ≡ false
left-aims q u at command answer sets h =
    let there : names_uid u (settings_of (acting q at command).lines).redrive_policy ≡ false =
    subst (λ (s : QueueSettings). names_uid u s.redrive_policy ≡ false) (sym (acting-settings q at command)) h in
    elim (after_answer-lines q at command answer) [
      | inl same ↦ subst (λ (ls : Lines). names_uid u (settings_of ls).redrive_policy ≡ false) (sym same) h
      | inr rest ↦ elim rest [
        | inl same ↦ subst (λ (ls : Lines). names_uid u (settings_of ls).redrive_policy ≡ false) (sym same) there
        | inr a ↦ subst (λ (ls : Lines). names_uid u (settings_of ls).redrive_policy ≡ false) (sym a.is)
            (subst (λ (s : QueueSettings). names_uid u s.redrive_policy ≡ false) (sym (settings_from-push default_settings (acting q at command).lines a.line))
            (if_some-at (λ event. names_uid u (settings_after (settings_of (acting q at command).lines) event).redrive_policy ≡ false) (outcome_at q at command).event a.line.event
            (aims (acting q at command) u there command sets) a.added))
      ]
    ]

-- ---- the queues of a registry

-- its uid is below the next one, and its policy does not name it
abbrev IsAimed : ℕ → QueueHistory → Type 0
IsAimed n q = (q.uid < n) × (has_target q.uid q ≡ false)

abbrev AreAimed : House → Type 0
AreAimed w = All (λ q. IsAimed w.next_uid q) w.queues

either-aimed : (b : Bool) (x y : House) → AreAimed x → AreAimed y → AreAimed (cond b x y)
either-aimed true x y h k = h
either-aimed false x y h k = k

changed-aimed : (w : House) (uid : ℕ) (change : QueueHistory → QueueHistory) → ((q : QueueHistory) → q.uid ≡ uid → IsAimed w.next_uid q → IsAimed w.next_uid (change q)) → AreAimed w → AreAimed (with_queue_changed w uid change)
changed-aimed w uid change f h =
    All-map (λ q. IsAimed w.next_uid q) (λ q. cond (nat_eq q.uid uid) (change q) q) w.queues
    (All-weaker (λ q. IsAimed w.next_uid q) (λ q. IsAimed w.next_uid (cond (nat_eq q.uid uid) (change q) q)) (λ q k. by_test q k (nat_eq q.uid uid) refl) w.queues h)
  where
    by_test : (q : QueueHistory) → IsAimed w.next_uid q → (b : Bool) → nat_eq q.uid uid ≡ b → IsAimed w.next_uid (cond b (change q) q)
    by_test q k true e = f q (eqb-true q.uid uid e) k
    by_test q k false e = k

module _ {T : Type 0} (w : House) (at : ℕ) (answer : Result T Fault) (h : AreAimed w) where
  commanded : (uid : ℕ) (command : Command) → Sets uid command → AreAimed (house_after_command w uid at command answer)
  commanded uid command sets =
      changed-aimed w uid (λ q. after_answer q at command answer)
      (λ q is k.
      let u : (after_answer q at command answer).uid ≡ q.uid = after_answer-uid at command answer q in (
        subst (λ (i : ℕ). i < w.next_uid) (sym u) k.0,
        subst (λ (i : ℕ). has_target i (after_answer q at command answer) ≡ false) (sym u)
            (left-aims q q.uid at command answer (subst (λ (i : ℕ). Sets i command) (sym is) sets) k.1),
      )) h

-- ---- settings that are asked for

asked-other : (u target : ℕ) (policy : Option RedrivePolicy) (asked : Asked) (found : List ℕ → Bool) → names_uid u policy ≡ false
    → option_map_or (λ name. not (nat_eq target u) && found name) (asked_name asked) true ≡ true → names_uid u (policy_with policy asked target) ≡ false
asked-other u target policy None found h may = h
asked-other u target policy (Some None) found h may = refl
asked-other u target policy (Some (Some asked)) found h may = not-true (nat_eq target u) (and_parts (not (nat_eq target u)) (found asked.name) may).0

may_be_set : (there internal may : Bool) (f g k : Fault) → cond there (cond internal (Some f) (cond may None (Some g))) (Some k) ≡ None → may ≡ true
may_be_set false internal may f g k e = absurd cc
may_be_set true true may f g k e = absurd cc
may_be_set true false true f g k e = refl
may_be_set true false false f g k e = absurd cc

performed-sets : (w : House) (uid : ℕ) (command : Command) → step_refusal w uid command ≡ None → Sets uid command
performed-sets w uid command e policy wish target is h =
    let may : may_set w uid command ≡ true = may_be_set (has_queue w uid) (is_internal command) (may_set w uid command) UnsupportedOperation InvalidAttributeValue QueueDoesNotExist e in
    asked-other uid target policy wish.redrive_policy (λ name. option_map_or (λ u. nat_eq u target) (found_uid w name) false) h
    (subst (λ (c : Command). may_set w uid c ≡ true) is may)

-- ---- opening

module _ (w : House) (at : ℕ) (h : AreAimed w) where
  opened : (q : QueueHistory) → q.uid ≡ w.next_uid → has_target w.next_uid q ≡ false → AreAimed (with_queue w q)
  opened q is other =
      All-append (λ q. IsAimed (w.next_uid + 1) q) w.queues (q ∷ [])
      (All-weaker (λ q. IsAimed w.next_uid q) (λ q. IsAimed (w.next_uid + 1) q) (λ q k. (let l : q.uid < w.next_uid = k.0 in omega arith, k.1)) w.queues h)
      (All-cons (λ q. IsAimed (w.next_uid + 1) q) q [] (omega arith, subst (λ (i : ℕ). has_target i q ≡ false) (sym is) other) (All-nil _))

  found-other : (o : Option QueueHistory) (name : List ℕ) → queue_named w name ≡ o → is_some o ≡ true → nat_eq (unwrap_or (option_map (λ q. q.uid) o) 0) w.next_uid ≡ false
  found-other None name e there = absurd (false≢true there)
  found-other (Some q) name e there =
      let below : q.uid < w.next_uid = (find-holds (λ q. bytes_eq q.name name) (λ q. IsAimed w.next_uid q) w.queues q h e).0 in
      ne_eqb q.uid w.next_uid (λ same. absurd (omega arith))

  created-other : (own : List ℕ) (asked : Asked) → option_map_or (λ name. not (bytes_eq name own) && is_some (queue_named w name)) (asked_name asked) true ≡ true
      → names_uid w.next_uid (policy_with None asked (option_map_or (λ name. unwrap_or (found_uid w name) 0) (asked_name asked) 0)) ≡ false
  created-other own None may = refl
  created-other own (Some None) may = refl
  created-other own (Some (Some asked)) may =
      found-other (queue_named w asked.name) asked.name refl (and_parts (not (bytes_eq asked.name own)) (is_some (queue_named w asked.name)) may).1

-- ---- every step

-- a command sets no policy that names its queue, and a queue opens with none
abbrev Aims : House → HouseChange → Type 0
Aims w (Performs uid command) = Sets uid command
Aims w (Opens name settings) = names_uid w.next_uid settings.redrive_policy ≡ false
Aims w change = ⊤

module _ (w : House) (at : ℕ) (h : AreAimed w) where
  after_change : (change : HouseChange) (answer : HouseAnswer) → Aims w change → AreAimed (house_changed w at change answer)
  after_change Nothing answer aims = h
  after_change (Performs uid command) answer aims = commanded w at answer h uid command aims
  after_change (Opens name settings) answer aims =
      either-aimed (is_out_of_memory answer) w (with_queue w (next_queue w at name settings [])) h (opened w at h (next_queue w at name settings []) refl aims)
  after_change (Closes uid) answer aims =
      either-aimed (is_out_of_memory answer) (with_queue_changed w uid (λ q. at_moment q at)) (without_queue w uid) (changed-aimed w uid (λ q. at_moment q at) (λ q is k. k) h)
      (All-filter (λ q. not (nat_eq q.uid uid)) (λ q. IsAimed w.next_uid q) w.queues h)
  after_change Passes answer aims =
      All-map (λ q. IsAimed w.next_uid q) (λ q. at_moment q at) w.queues (All-weaker (λ q. IsAimed w.next_uid q) (λ q. IsAimed w.next_uid (at_moment q at)) (λ q k. k) w.queues h)

  created-aims : (name : List ℕ) (wish : RequestedAttributes) (may place : Bool) → may_name_target w name wish ≡ may
      → Aims w (cond (may && place) (Opens name (settings_with default_settings wish (target_uid w wish))) Nothing)
  created-aims name wish false place e = tt
  created-aims name wish true false e = tt
  created-aims name wish true true e = created-other w at h name wish.redrive_policy e

module _ (w : House) (at : ℕ) where
  performed-aims : (uid : ℕ) (command : Command) (o : Option Fault) → step_refusal w uid command ≡ o → Aims w (perform_act at uid command o).change
  performed-aims uid command (Some fault) e = tt
  performed-aims uid command None e = performed-sets w uid command e

  delivered-aims : (source : ℕ) (p : Parcel) (b : Bool) → let d : AddressedCommand = cond b (record { uid = p.target; command = commands.Arrive p }) (record { uid = source; command = commands.Orphan p.target }) in Sets d.uid d.command
  delivered-aims source p true = λ policy wish target is k. absurd cc
  delivered-aims source p false = λ policy wish target is k. absurd cc

  handed-aims : (source : ℕ) (o : Option Parcel) → Aims w (hand_over_act w at source o).change
  handed-aims source None = tt
  handed-aims source (Some p) = delivered-aims source p (has_queue w p.target)

  confirmed-aims : (source : ℕ) (o : Option ℕ) → Aims w (confirm_act at source o).change
  confirmed-aims source None = tt
  confirmed-aims source (Some n) = λ policy wish target is k. absurd cc

step-aims : (w : House) (step : HouseStep) → AreAimed w → Aims w (act_of w step).change
step-aims w (steps.Create at name wish) h = created-aims w at h name wish (may_name_target w name wish) _ refl
step-aims w (steps.Delete at uid) h = tt
step-aims w (steps.Perform at uid command) h = performed-aims w at uid command (step_refusal w uid command) refl
step-aims w (steps.HandOver at source) h = handed-aims w at source (first_parcel_in w source)
step-aims w (steps.Confirm at source) h = confirmed-aims w at source (accepted_number w source)
step-aims w (steps.Advance at) h = tt

after_step : (w : House) (step : HouseStep) (answer : HouseAnswer) → AreAimed w → AreAimed (house_after w step answer)
after_step w step answer h = after_change w (act_of w step).at h (act_of w step).change answer (step-aims w step h)

after_all : (w : House) (steps : List HouseStep) (answers : List HouseAnswer) → AreAimed w → AreAimed (house_after_all w steps answers)
after_all w [] answers h = h
after_all w (step ∷ steps) [] h = h
after_all w (step ∷ steps) (answer ∷ answers) h = after_all (house_after w step answer) steps answers (after_step w step answer h)

-- ---- the configured queues

at_end : (xs ys : List (List ℕ)) (x : List ℕ) → get_or (xs ++ x ∷ ys) (length xs) x ≡ x
at_end [] ys x = refl
at_end (z ∷ xs) ys x = at_end xs ys x

module _ (names before rest : List (List ℕ)) (own : List ℕ) (is : names ≡ before ++ own ∷ rest) (u : ℕ) (next : u ≡ length before + 1) where
  placed-other : (name : List ℕ) (target : ℕ) (o : Option ℕ) → position (λ other. bytes_eq name other) names ≡ o → option_map (λ place. place + 1) o ≡ Some target → bytes_eq name own ≡ false → nat_eq target u ≡ false
  placed-other name target None e told other = absurd (none-some target told)
  placed-other name target (Some place) e told other =
      let at : place + 1 ≡ target = same_Some (place + 1) target told in
      ne_eqb target u (λ same.
      let here : place ≡ length before = omega arith in
      let passes : bytes_eq name (get_or names place own) ≡ true = (position-Some (λ other. bytes_eq name other) names place own e).1 in
      let read : get_or names place own ≡ own = ap (λ (k : ℕ). get_or names k own) here ∙ (ap (λ (ns : List (List ℕ)). get_or ns (length before) own) is ∙ at_end before rest own) in
      absurd (false≢true (sym other ∙ (ap (λ (n : List ℕ). bytes_eq name n) (sym read) ∙ passes))))

  configured-other : (policy : Option RedrivePolicy) → ForSome policy (λ policy. HasTarget names own policy) → names_uid u policy ≡ false
  configured-other None h = refl
  configured-other (Some p) h = let t = h p refl in placed-other p.name p.target (position (λ other. bytes_eq p.name other) names) refl t.target t.other

abbrev AreTargets : List (List ℕ) → List ConfiguredQueue → Type 0
AreTargets names queues = All (λ queue. ForSome queue.settings.redrive_policy (λ policy. HasTarget names queue.name policy)) queues

begun : (names : List (List ℕ)) (at : ℕ) (alarms : List ConfiguredAlarm) (queues : List ConfiguredQueue) (before : List (List ℕ)) (w : House) → names ≡ before ++ names_of queues → w.next_uid ≡ length before + 1 → AreTargets names queues → AreAimed w
    → AreAimed (fold (λ w q. with_queue w (next_queue w at q.name q.settings (rules_of alarms w.next_uid))) w queues)
begun names at alarms [] before w is next targets h = h
begun names at alarms (q ∷ queues) before w is next targets h =
    let P : ConfiguredQueue → Type 0 = λ queue. ForSome queue.settings.redrive_policy (λ policy. HasTarget names queue.name policy) in
    let other : names_uid w.next_uid q.settings.redrive_policy ≡ false =
    configured-other names before (names_of queues) q.name is w.next_uid next q.settings.redrive_policy (All-head P q queues targets) in
    begun names at alarms queues (before ++ q.name ∷ []) (with_queue w (next_queue w at q.name q.settings (rules_of alarms w.next_uid))) (is ∙ sym (append_assoc before (q.name ∷ []) (names_of queues)))
    (rw length-append (omega arith)) (All-tail P q queues targets) (opened w at h (next_queue w at q.name q.settings (rules_of alarms w.next_uid)) refl other)

pub none_its_own : (config : Configuration) (at : ℕ) (steps : List HouseStep) (answers : List HouseAnswer) → AreConfigured config.queues
    → All (λ q. has_target q.uid q ≡ false) (house_after_all (new_house config at) steps answers).queues
none_its_own config at steps answers configured =
    let w : House = house_after_all (new_house config at) steps answers in
    let h : AreAimed w =
    after_all (new_house config at) steps answers (begun (names_of config.queues) at config.alarms config.queues [] (empty_house config.limits) refl refl configured.targets (All-nil _)) in
    All-weaker (λ q. IsAimed w.next_uid q) (λ q. has_target q.uid q ≡ false) (λ q k. k.1) w.queues h
