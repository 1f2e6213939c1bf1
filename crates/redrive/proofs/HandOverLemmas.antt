-- The first half of a move: which queue the parcel goes to, and what that queue answers without memory.
use Rattle.std.proofs.Common.{◌≡◌, ℕ, Bool, true, false, cond, Option, Some, None, Result, Ok, Err, refl, sym, ap, subst, ◌∙◌}
use Rattle.std.specs.Prelude.{MatchBool, ⊤, ◌||◌, is_some, option_map, option_and_then}
use Rattle.std.specs.Option.{option_map_or}
use Rattle.std.proofs.lemmas.Bool.{false≢true, eq-eqb}
use Rattle.std.proofs.lemmas.Option.{none-some, same_Some}
use Rattle.message.specs.declared.fault.Fault.{Fault}
use Rattle.message.specs.declared.fault.Fault.TheVariants.{OutOfMemory}
use Rattle.message.specs.Fault.{Meets, is_out_of_memory}
use Rattle.message.specs.Content.{ContentText}
use Rattle.journal.specs.declared.entry.Event.{Event}
use Rattle.journal.specs.declared.entry.Origin.{Origin}
use Rattle.queue_core.specs.declared.command.Command.{Command}
use Rattle.queue_core.specs.declared.command.Command.TheVariants.{Arrive, Orphan}
use Rattle.queue_core.specs.declared.parcel.Parcel.{Parcel}
use Rattle.queue_core.specs.declared.parcel.Arrival.{Arrival}
use Rattle.queue_core.specs.declared.reply.Reply.{Reply}
use Rattle.queue_core.specs.declared.reply.Reply.TheVariants as replies
use Rattle.queue_core.specs.Queue.{QueueHistory, Outcome, at_moment, rebased_where, outcome_of, outcome_at, takes_memory, hands_over, reply_without_memory, with_optional_event, after_answer, as_reply, first_parcel_of}
use Rattle.redrive.specs.declared.moved.Moved.{Moved}
use Rattle.redrive.specs.House.{House, queue_of_uid, has_queue, queue_answer, takes_memory_in, with_queue_changed, house_after_command, first_parcel_in, delivery_of, as_moved, hand_over_answer, hand_over_takes_memory, house_after_hand_over, IsRegistry}
use Rattle.queue_core.specs.Cost.{most_ticks}
use Rattle.redrive.specs.Cost.{change_ticks, command_ticks, hand_over_ticks}
use Rattle.redrive.proofs.PlaceLemmas.{changed-alike}
use Rattle.redrive.proofs.RegistryLemmas.{changed-queue}
use Rattle.redrive.proofs.AnswerLemmas.{meets-itself}

-- ---- the parcel that waits first

-- what its origin and its queue are told of
pub record IsFirst (w : House) (source : ℕ) (origin : Origin) (target : ℕ) : Type 0 where
  pub parcel : Parcel
  pub first : first_parcel_in w source ≡ Some parcel
  pub from : parcel.origin ≡ origin
  pub goes_to : parcel.target ≡ target

first-of : (o : Option Parcel) (origin : Origin) (target : ℕ) → option_map {U = Origin × ℕ} (λ p. (p.origin, p.target)) o ≡ Some (origin, target)
    → (p : Parcel) × ((o ≡ Some p) × ((p.origin ≡ origin) × (p.target ≡ target)))
first-of None origin target h = absurd cc
first-of (Some p) origin target h =
    let same = same_Some (p.origin, p.target) (origin, target) h in
    (p, (refl, (ap (λ x. x.0) same, ap (λ x. x.1) same)))

pub is-first : (w : House) (source : ℕ) (origin : Origin) (target : ℕ) → option_map {U = Origin × ℕ} (λ p. (p.origin, p.target)) (first_parcel_in w source) ≡ Some (origin, target)
    → IsFirst w source origin target
is-first w source origin target h =
    let found = first-of (first_parcel_in w source) origin target h in
    record { parcel = found.0; first = found.1.0; from = found.1.1.0; goes_to = found.1.1.1 }

-- ---- a hand-over, by the command that it is

-- the parcel is handed over by this command in the queue of this uid
pub record IsDelivery (w : House) (source uid : ℕ) (command : Command) : Type 0 where
  pub parcel : Parcel
  pub there : has_queue w source ≡ true
  pub first : first_parcel_in w source ≡ Some parcel
  pub uid_is : (delivery_of w source parcel).uid ≡ uid
  pub command_is : (delivery_of w source parcel).command ≡ command

module _ (w : House) (source uid : ℕ) (command : Command) (d : IsDelivery w source uid command) (at : ℕ) where
  pub delivered-answer : hand_over_answer w source at ≡ as_moved (queue_answer w uid at command)
  delivered-answer = rw (d.first, d.uid_is, d.command_is) refl

  pub delivered-takes : hand_over_takes_memory w source at ≡ takes_memory_in w uid at command
  delivered-takes = rw (d.first, d.uid_is, d.command_is) refl

  pub delivered-left : {T : Type 0} (answer : Result T Fault) → house_after_hand_over w source at answer ≡ house_after_command w uid at command answer
  delivered-left answer = rw (d.first, d.uid_is, d.command_is) refl

  pub delivered-ticks : {T : Type 0} (answer : Result T Fault) → hand_over_ticks w source at answer ≡ command_ticks w uid at command answer
  delivered-ticks answer =
      ap (λ (o : Option Parcel). option_map_or (λ p. command_ticks w (delivery_of w source p).uid at (delivery_of w source p).command answer) o 0) d.first
      ∙ (ap (λ (u : ℕ). command_ticks w u at (delivery_of w source d.parcel).command answer) d.uid_is ∙ ap (λ (k : Command). command_ticks w uid at k answer) d.command_is)

module _ (w : House) (source : ℕ) (there : has_queue w source ≡ true) (origin : Origin) (target : ℕ) (f : IsFirst w source origin target) where
  pub orphan-delivery : has_queue w target ≡ false → IsDelivery w source source (Orphan target)
  orphan-delivery gone =
      let absent : has_queue w f.parcel.target ≡ false = ap (has_queue w) f.goes_to ∙ gone in
      record { parcel = f.parcel; there = there; first = f.first; uid_is = rw absent refl; command_is = rw absent (ap Orphan f.goes_to) }

  pub arrive-delivery : has_queue w target ≡ true → IsDelivery w source target (Arrive f.parcel)
  arrive-delivery here =
      let present : has_queue w f.parcel.target ≡ true = ap (has_queue w) f.goes_to ∙ here in
      record { parcel = f.parcel; there = there; first = f.first; uid_is = rw present f.goes_to; command_is = rw present refl }

  pub parcel-delivery : (p : Parcel) → ◌≡◌ {A = Result (Option Parcel) Fault} (Ok (Some p)) (Ok (first_parcel_in w source)) → has_queue w target ≡ true → IsDelivery w source target (Arrive p)
  parcel-delivery p made here =
      let is : first_parcel_in w source ≡ Some p = cc in
      let same : f.parcel ≡ p = same_Some f.parcel p (sym f.first ∙ is) in
      subst (λ (p : Parcel). IsDelivery w source target (Arrive p)) same (arrive-delivery here)

  -- a parcel that waits can be made
  pub parcel-there : ◌≡◌ {A = Result (Option Parcel) Fault} (Ok None) (Ok (first_parcel_in w source)) → ⊥
  parcel-there made =
      let is : first_parcel_in w source ≡ None = cc in
      none-some f.parcel (sym is ∙ f.first)

-- ---- what its queue answers without memory

-- where an outcome makes no checkpoint and adds no entry the queue is as it was
no-entry : (failed rebases : Bool) (q : QueueHistory) (event : Option (Event ContentText)) (hands : Bool) → ((rebases || is_some event) || hands) ≡ false → cond failed q (with_optional_event (rebased_where rebases q) event) ≡ q
no-entry true rebases q event hands h = refl
no-entry false false q None hands h = refl
no-entry false false q (Some event) hands h = absurd cc
no-entry false true q event hands h = absurd cc

told : (takes : Bool) (reply answer : Result Reply Fault) → cond takes None (Some reply) ≡ Some answer → (takes ≡ false) × (reply ≡ answer)
told true reply answer h = absurd (none-some answer h)
told false reply answer h = (refl, same_Some reply answer h)

untold : (takes : Bool) (reply : Result Reply Fault) → cond takes None (Some reply) ≡ None → takes ≡ true
untold true reply h = refl
untold false reply h = absurd (none-some reply (sym h))

module _ (at : ℕ) (p : Parcel) where
  abbrev asked : QueueHistory → Outcome
  asked q = outcome_at q at (Arrive p)

  takes-untold : (o : Option QueueHistory) → is_some o ≡ true → option_and_then (λ q. reply_without_memory (asked q)) o ≡ None → option_map_or (λ q. takes_memory (asked q)) o false ≡ true
  takes-untold None there h = absurd (false≢true there)
  takes-untold (Some q) there h = untold (takes_memory (asked q)) (asked q).reply h

  told-by : (o : Option QueueHistory) (answer : Result Reply Fault) → option_and_then (λ q. reply_without_memory (asked q)) o ≡ Some answer
      → (q : QueueHistory) × ((o ≡ Some q) × ((takes_memory (asked q) ≡ false) × ((asked q).reply ≡ answer)))
  told-by None answer h = absurd (none-some answer h)
  told-by (Some q) answer h = (q, (refl, told (takes_memory (asked q)) (asked q).reply answer h))

  module _ (w : House) (source target : ℕ) (there : has_queue w source ≡ true) (first : first_parcel_in w source ≡ Some p) (goes_to : p.target ≡ target) where
    delivery : has_queue w target ≡ true → IsDelivery w source target (Arrive p)
    delivery here =
        arrive-delivery w source there p.origin target (record { parcel = p; first = first; from = refl; goes_to = goes_to }) here

    pub takes-asked : has_queue w target ≡ true → None ≡ option_and_then (λ q. reply_without_memory (asked q)) (queue_of_uid w target) → hand_over_takes_memory w source at ≡ true
    takes-asked here none = delivered-takes w source target (Arrive p) (delivery here) at ∙ takes-untold (queue_of_uid w target) here (sym none)

    module _ (here : has_queue w target ≡ true) (answer : Result Reply Fault) (is : Some answer ≡ option_and_then (λ q. reply_without_memory (asked q)) (queue_of_uid w target)) where
      pub answer-asked : as_moved answer ≡ hand_over_answer w source at
      answer-asked =
          let t = told-by (queue_of_uid w target) answer (sym is) in
          sym (delivered-answer w source target (Arrive p) (delivery here) at ∙ rw t.1.0 (ap as_moved t.1.1.1))

      pub left-asked : {T : Type 0} (r : Result T Fault) → IsRegistry w → with_queue_changed w target (λ q. at_moment q at) ≡ house_after_hand_over w source at r
      left-asked r registry =
          let t = told-by (queue_of_uid w target) answer (sym is) in
          changed-alike w target t.0 t.1.0 (λ q. at_moment q at) (λ q. after_answer q at (Arrive p) r) registry
          (sym (no-entry (is_out_of_memory r) (asked t.0).rebases (at_moment t.0 at) (asked t.0).event (hands_over (asked t.0).reply) t.1.1.0))
          ∙ sym (delivered-left w source target (Arrive p) (delivery here) at r)

      pub ticks-asked : {T : Type 0} (r : Result T Fault) → change_ticks w target (λ q. at_moment q at) ≡ hand_over_ticks w source at r
      ticks-asked r =
          let t = told-by (queue_of_uid w target) answer (sym is) in
          ap (λ (o : Option QueueHistory). option_map_or (λ q. most_ticks q (at_moment q at)) o 0) t.1.0
          ∙ (ap (λ (left : QueueHistory). most_ticks t.0 left) (sym (no-entry (is_out_of_memory r) (asked t.0).rebases (at_moment t.0 at) (asked t.0).event (hands_over (asked t.0).reply) t.1.1.0))
          ∙ (sym (ap (λ (o : Option QueueHistory). option_map_or (λ q. most_ticks q (after_answer q at (Arrive p) r)) o 0) t.1.0)
          ∙ sym (delivered-ticks w source target (Arrive p) (delivery here) at r)))

-- ---- what is answered for a parcel for which there is no memory

-- what a queue answers at a moment is what it answers at its clock, once it has come there
come-there : (at : ℕ) (p : Parcel) (o : Option QueueHistory) → option_and_then (λ q. reply_without_memory (outcome_of q (Arrive p))) (option_map (λ q. at_moment q at) o) ≡ option_and_then (λ q. reply_without_memory (outcome_at q at (Arrive p))) o
come-there at p None = refl
come-there at p (Some q) = refl

module _ (w : House) (source at : ℕ) (there : has_queue w source ≡ true) (origin : Origin) (target : ℕ) (f : IsFirst w source origin target) (here : has_queue w target ≡ true) (between : House) (came : between ≡ with_queue_changed w target (λ q. at_moment q at)) (o : Option (Result Arrival Fault))
    (tells : (parcel : Parcel) → parcel.origin ≡ origin → option_map (λ answer. as_reply (λ x. replies.Arrived x) answer) o
    ≡ option_and_then (λ q. reply_without_memory (outcome_of q (Arrive parcel))) (queue_of_uid between target)) where
  told-there : option_map (λ answer. as_reply (λ x. replies.Arrived x) answer) o ≡ option_and_then (λ q. reply_without_memory (outcome_at q at (Arrive f.parcel))) (queue_of_uid w target)
  told-there =
      tells f.parcel f.from
      ∙ ap (λ (o : Option QueueHistory). option_and_then (λ q. reply_without_memory (outcome_of q (Arrive f.parcel))) o)
      (ap (λ (v : House). queue_of_uid v target) came ∙ changed-queue w target target (λ q. at_moment q at) true (λ q. refl) (eq-eqb target target refl))
      ∙ come-there at f.parcel (queue_of_uid w target)

  -- it is one to accept, or a checkpoint comes first
  pub wanted : o ≡ None → hand_over_takes_memory w source at ≡ true
  wanted none =
      takes-asked at f.parcel w source target there f.first f.goes_to here
      (sym (ap (λ (o : Option (Result Arrival Fault)). option_map (λ answer. as_reply (λ x. replies.Arrived x) answer) o) none) ∙ told-there)

  module _ (answer : Result Arrival Fault) (is : o ≡ Some answer) where
    told-so : Some (as_reply (λ x. replies.Arrived x) answer) ≡ option_and_then (λ q. reply_without_memory (outcome_at q at (Arrive f.parcel))) (queue_of_uid w target)
    told-so = sym (ap (λ (o : Option (Result Arrival Fault)). option_map (λ answer. as_reply (λ x. replies.Arrived x) answer) o) is) ∙ told-there

    pub answered : (moved : Result Moved Fault) → moved ≡ as_moved (as_reply (λ x. replies.Arrived x) answer) → moved ≡ hand_over_answer w source at
    answered moved e = e ∙ answer-asked at f.parcel w source target there f.first f.goes_to here (as_reply (λ x. replies.Arrived x) answer) told-so

    pub answered-meets : (moved : Result Moved Fault) → moved ≡ as_moved (as_reply (λ x. replies.Arrived x) answer) → Meets moved (hand_over_answer w source at)
    answered-meets moved e = subst (λ (h : Result Moved Fault). Meets moved h) (answered moved e) (meets-itself moved)

    pub answered-ticks : {T : Type 0} (r : Result T Fault) → change_ticks w target (λ q. at_moment q at) ≡ hand_over_ticks w source at r
    answered-ticks r = ticks-asked at f.parcel w source target there f.first f.goes_to here (as_reply (λ x. replies.Arrived x) answer) told-so r

    pub answered-left : {T : Type 0} (r : Result T Fault) → IsRegistry w → between ≡ house_after_hand_over w source at r
    answered-left r registry = came ∙ left-asked at f.parcel w source target there f.first f.goes_to here (as_reply (λ x. replies.Arrived x) answer) told-so r registry

-- ---- where no memory is found for a parcel that its queue wants

same_memory : (T U : Type 0) (fault : Fault) → is_out_of_memory {T = T} (Err fault) ≡ is_out_of_memory {T = U} (Err fault)
same_memory T U OutOfMemory = refl
same_memory T U fault = refl

-- a refusal in the place of a value that there is says that memory ran out
pub ran-out : {T : Type 0} (fault : Fault) (x : T) → Meets (Err fault) (Ok x) → is_out_of_memory {T = Moved} (Err fault) ≡ true
ran-out {T} fault x h = same_memory Moved T fault ∙ by_test (is_out_of_memory {T = T} (Err fault)) h where
  by_test : (b : Bool) → MatchBool b ⊤ (◌≡◌ {A = Result T Fault} (Err fault) (Ok x)) → b ≡ true
  by_test true h = refl
  by_test false h = absurd cc

module _ (w : House) (source at : ℕ) (target : ℕ) (p : Parcel) (d : IsDelivery w source target (Arrive p)) (fault : Fault) (memory : is_out_of_memory {T = Moved} (Err fault) ≡ true) where
  pub unmade-left : (new : House) → new ≡ with_queue_changed w target (λ q. at_moment q at) → new ≡ house_after_hand_over {T = Moved} w source at (Err fault)
  unmade-left new e =
      e ∙ ap (λ (b : Bool). with_queue_changed w target (λ q. cond b (at_moment q at) (with_optional_event (rebased_where (outcome_at q at (Arrive p)).rebases (at_moment q at)) (outcome_at q at (Arrive p)).event))) (sym memory)
      ∙ sym (delivered-left w source target (Arrive p) d at {T = Moved} (Err fault))

  pub unmade-ticks : change_ticks w target (λ q. at_moment q at) ≡ hand_over_ticks {T = Moved} w source at (Err fault)
  unmade-ticks =
      ap (λ (b : Bool). change_ticks w target (λ q. cond b (at_moment q at) (with_optional_event (rebased_where (outcome_at q at (Arrive p)).rebases (at_moment q at)) (outcome_at q at (Arrive p)).event))) (sym memory)
      ∙ sym (delivered-ticks w source target (Arrive p) d at {T = Moved} (Err fault))

no-parcel : (w : House) (source : ℕ) → has_queue w source ≡ false → first_parcel_in w source ≡ None
no-parcel w source h = by_found (queue_of_uid w source) h where
  by_found : (o : Option QueueHistory) → is_some o ≡ false → option_and_then (λ q. first_parcel_of q) o ≡ None
  by_found None h = refl
  by_found (Some q) h = absurd cc

-- a hand-over of a queue that is not there leaves everything as it was
pub absent-left : (w : House) (source at : ℕ) (answer : Result Moved Fault) → has_queue w source ≡ false → w ≡ house_after_hand_over w source at answer
absent-left w source at answer gone = rw (no-parcel w source gone) refl
