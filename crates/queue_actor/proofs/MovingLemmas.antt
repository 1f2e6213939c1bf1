-- Calls by which an actor moves its queue's dead letters, one behind another.
use Rattle.std.proofs.Common.{◌≡◌, ◌⊎◌, ℕ, le_refl, le_trans, Bool, true, false, MatchBool, List, [], ◌∷◌, ◌++◌, Option, Some, None, Result, Ok, Err, is_ok, refl, sym, ◌∙◌, ap, subst, inl, inr, append_assoc, append-nil, rules}
use Rattle.message.specs.declared.fault.Fault.{Fault}
use Rattle.message.specs.declared.fault.Fault.TheVariants.{Spent, QueueDoesNotExist}
use Rattle.queue_core.specs.declared.command.Command.{Command}
use Rattle.queue_core.specs.declared.command.Command.TheVariants as commands
use Rattle.queue_core.specs.declared.parcel.Parcel.{Parcel}
use Rattle.queue_core.specs.declared.reply.Reply.{Reply}
use Rattle.desk.specs.declared.view.Call.{Call}
use Rattle.desk.specs.History.{call}
use Rattle.desk.specs.Views.{Pass, HasCalled, IsSpent, IsKnown}
use Rattle.queue_actor.specs.Answered.{Answered}
use Rattle.queue_actor.specs.declared.parcels.Delivery.{Delivery}
use Rattle.queue_actor.specs.declared.parcels.Delivery.TheVariants as deliveries
use Rattle.queue_actor.specs.Calling.{HasAsked, HasEnded, HasMade, IsMove, AreMoves, HasMoved, HasMovedOne, HasArrived, HasMissed, parcel_in}

some_none : {A : Type 0} {x : A} → ◌≡◌ {A = Option A} None (Some x) → ⊥
some_none same = search (rules, same)

true_false : true ≡ false → ⊥
true_false same = search (rules, same)

-- no call
pub made_nothing : (Are : List Call → Type 0) (k : Pass) → Are [] → HasMade Are k k
made_nothing Are k none = record {
  same_desk = refl;
  same_start = refl;
  same_number = refl;
  counted = le_refl k.begun;
  goes_on = ([], sym (append-nil k.seen));
  calls = [];
  own = sym (append-nil k.mine);
  made = none;
}

-- one call
pub made_one : (Are : List Call → Type 0) (before : Pass) (at : ℕ) (command : Command) (reply : Result Reply Fault) (after : Pass)
    → HasCalled before at command reply after → Are (call before.number at command reply ∷ []) → HasMade Are before after
made_one Are before at command reply after h is =
    let c : Call = call before.number at command reply in
    record {
      same_desk = h.same_desk;
      same_start = h.same_start;
      same_number = h.same_number;
      counted = h.counted;
      goes_on = (h.between ++ c ∷ [], h.history ∙ append_assoc before.seen h.between (c ∷ []));
      calls = c ∷ [];
      own = h.own;
      made = is;
    }

-- calls behind calls
pub made_both : (First Second Both : List Call → Type 0) (a b c : Pass) (first : HasMade First a b) (second : HasMade Second b c) → Both (first.calls ++ second.calls) → HasMade Both a c
made_both First Second Both a b c first second is = record {
  same_desk = second.same_desk ∙ first.same_desk;
  same_start = second.same_start ∙ first.same_start;
  same_number = second.same_number ∙ first.same_number;
  counted = le_trans first.counted second.counted;
  goes_on = (first.goes_on.0 ++ second.goes_on.0, second.goes_on.1 ∙ ap (λ seen. seen ++ second.goes_on.0) first.goes_on.1 ∙ append_assoc a.seen first.goes_on.0 second.goes_on.0);
  calls = first.calls ++ second.calls;
  own = second.own ∙ ap (λ mine. mine ++ second.calls) first.own ∙ append_assoc a.mine first.calls second.calls;
  made = is;
}

-- where the desk is spent nothing more is known, but that it is
ended : (b c : Pass) → IsSpent b c → HasEnded c
ended b c spent = ap (λ k. k.begun) spent.1

spent_made : (Are : List Call → Type 0) (a b c : Pass) → IsSpent b c → HasMade Are a b → HasMade Are a c
spent_made Are a b c spent h = subst (λ k. HasMade Are a k) (sym spent.1) (record {
  same_desk = h.same_desk;
  same_start = h.same_start;
  same_number = h.same_number;
  counted = le_trans h.counted spent.0;
  goes_on = h.goes_on;
  calls = h.calls;
  own = h.own;
  made = h.made;
})

no_parcel_spent : (reply : Result Reply Fault) (parcel : Parcel) → reply ≡ Err Spent → parcel_in reply ≡ Some parcel → ⊥
no_parcel_spent reply parcel spent there = some_none (sym (ap parcel_in spent) ∙ there)

ok_err : {A B : Type 0} {x : A} {e : B} → Ok x ≡ Err e → ⊥
ok_err same = search (rules, same)

-- what was accepted was called
pub accepted_call : (b : Pass) (at : ℕ) (command : Command) (reply : Reply) (c : Pass) → HasAsked b at command (Ok reply) c → HasCalled b at command (Ok reply) c
accepted_call b at command reply c (inl h) = h
accepted_call b at command reply c (inr h) = absurd (ok_err h.0)

-- an answer that is good shows that a parcel arrived
pub has_arrived : (at : ℕ) (parcel : Parcel) (answer : Answered) (before : Pass) → before.start.uid ≡ parcel.target
    → HasAsked before at (commands.Arrive parcel) answer.reply answer.pass → IsKnown answer.pass → (reply : Result Reply Fault) → answer.reply ≡ reply → is_ok reply ≡ true → HasArrived at parcel answer
has_arrived at parcel answer before uid asked known (Ok reply) is good = record {
  before = before;
  reply = reply;
  uid = uid;
  accepted = is;
  called = accepted_call before at (commands.Arrive parcel) reply answer.pass (subst (λ r. HasAsked before at (commands.Arrive parcel) r answer.pass) is asked);
  known = known;
}
has_arrived at parcel answer before uid asked known (Err fault) is good = absurd (true_false (sym good))

gone_spent : QueueDoesNotExist ≡ Spent → ⊥
gone_spent same = search (rules, same)

err_same : {A B : Type 0} {e f : B} → ◌≡◌ {A = Result A B} (Err e) (Err f) → e ≡ f
err_same same = search (rules, same)

-- what a closed queue answered was called
closed_call : (b : Pass) (at : ℕ) (command : Command) (c : Pass) → HasAsked b at command (Err QueueDoesNotExist) c → HasCalled b at command (Err QueueDoesNotExist) c
closed_call b at command c (inl h) = h
closed_call b at command c (inr h) = absurd (gone_spent (err_same h.0))

-- an answer that a queue is closed shows that a parcel came too late
pub has_missed : (at : ℕ) (parcel : Parcel) (answer : Answered) (before : Pass) → before.start.uid ≡ parcel.target
    → HasAsked before at (commands.Arrive parcel) answer.reply answer.pass → IsKnown answer.pass → answer.reply ≡ Err QueueDoesNotExist → HasMissed at parcel answer
has_missed at parcel answer before uid asked known is = record {
  before = before;
  uid = uid;
  closed = is;
  called = closed_call before at (commands.Arrive parcel) answer.pass (subst (λ r. HasAsked before at (commands.Arrive parcel) r answer.pass) is asked);
  known = known;
}

module _ {T : Type 0} (told : ℕ → Parcel → Delivery T → Type 0) where
  -- dead letters that were moved, each with both calls
  abbrev pub AreWholeMoves : ℕ → List Call → Type 0
  AreWholeMoves at [] = Unit {0}
  AreWholeMoves at (c ∷ []) = ⊥
  AreWholeMoves at (c ∷ (d ∷ rest)) = IsMove told at c d × (is_ok d.reply ≡ true) × AreWholeMoves at rest

  moves_behind : (at : ℕ) (over : Type 0) (xs ys : List Call) → AreWholeMoves at xs → AreMoves told at over ys → AreMoves told at over (xs ++ ys)
  moves_behind at over [] ys whole then = then
  moves_behind at over (c ∷ []) ys whole then = absurd whole
  moves_behind at over (c ∷ (d ∷ rest)) ys whole then =
      (whole.0, subst (λ good. MatchBool good (AreMoves told at over (rest ++ ys)) (rest ++ ys ≡ [])) (sym whole.1) (moves_behind at over rest ys whole.2 then))

  whole_behind : (at : ℕ) (xs ys : List Call) → AreWholeMoves at xs → AreWholeMoves at ys → AreWholeMoves at (xs ++ ys)
  whole_behind at [] ys whole then = then
  whole_behind at (c ∷ []) ys whole then = absurd whole
  whole_behind at (c ∷ (d ∷ rest)) ys whole then = (whole.0, whole.1, whole_behind at rest ys whole.2 then)

  -- a question for the first parcel, that is told none
  pub moved_none : (at : ℕ) (a : Pass) (reply : Result Reply Fault) (b : Pass) → HasAsked a at commands.FirstParcel reply b → parcel_in reply ≡ None → HasMoved told at a b
  moved_none at a reply b (inl h) none =
      made_one (λ calls. AreMoves told at (HasEnded b) calls) a at commands.FirstParcel reply b h (record { time = refl; asked = refl; stops = inl none })
  moved_none at a reply b (inr h) none =
      spent_made (λ calls. AreMoves told at (HasEnded b) calls) a a b h.1 (made_nothing (λ calls. AreMoves told at (HasEnded b) calls) a (ended a b h.1))

  -- a question for the first parcel, that is told one which is refused
  pub moved_refused : (at : ℕ) (a : Pass) (reply : Result Reply Fault) (b : Pass) (parcel : Parcel) → HasAsked a at commands.FirstParcel reply b
      → parcel_in reply ≡ Some parcel → told at parcel deliveries.Refused → HasMoved told at a b
  moved_refused at a reply b parcel (inl h) there refused =
      made_one (λ calls. AreMoves told at (HasEnded b) calls) a at commands.FirstParcel reply b h
      (record { time = refl; asked = refl; stops = inr (inr (parcel, there, refused)) })
  moved_refused at a reply b parcel (inr h) there refused = absurd (no_parcel_spent reply parcel h.0 there)

  -- what is asked where a parcel was delivered
  abbrev pub Confirms : ℕ → Parcel → Command → Type 0
  Confirms at parcel command = ((receipt : T) × told at parcel (deliveries.Accepted receipt) × (command ≡ commands.Settle parcel.origin.number))
      ⊎ ((shown : Option T) × told at parcel (deliveries.Gone shown) × (command ≡ commands.Orphan parcel.target))

  -- a parcel was told and moved, by two calls
  both_calls : (Are : List Call → Type 0) (at : ℕ) (a b c : Pass) (command : Command) (first second : Result Reply Fault)
      → HasCalled a at commands.FirstParcel first b → HasCalled b at command second c
      → Are (call a.number at commands.FirstParcel first ∷ call b.number at command second ∷ []) → HasMade Are a c
  unfolding made_one
  both_calls Are at a b c command first second h k is =
      let one = made_one (λ calls. calls ≡ call a.number at commands.FirstParcel first ∷ []) a at commands.FirstParcel first b h refl in
      let two = made_one (λ calls. calls ≡ call b.number at command second ∷ []) b at command second c k refl in
      made_both _ _ Are a b c one two is

  pub moved_asked : (at : ℕ) (a b c : Pass) (parcel : Parcel) (command : Command) (first second : Result Reply Fault) (good : Bool) → good ≡ is_ok second
      → HasAsked a at commands.FirstParcel first b → parcel_in first ≡ Some parcel → HasAsked b at command second c → Confirms at parcel command
      → MatchBool good (HasMovedOne told at a c) (HasMoved told at a c)
  moved_asked at a b c parcel command first second good same (inr h) there asked is = absurd (no_parcel_spent first parcel h.0 there)
  moved_asked at a b c parcel command first second true same (inl h) there (inl k) is =
      both_calls (λ calls. (asks moves : Call) × (calls ≡ asks ∷ moves ∷ []) × IsMove told at asks moves × (is_ok moves.reply ≡ true)) at a b c command first second h k (
        call a.number at commands.FirstParcel first,
        call b.number at command second,
        refl,
        record { times = (refl, refl); asked = refl; parcel = parcel; there = there; moved = is },
        sym same,
      )
  moved_asked at a b c parcel command first second true same (inl h) there (inr k) is = absurd (true_false (same ∙ ap is_ok k.0))
  moved_asked at a b c parcel command first second false same (inl h) there (inl k) is =
      both_calls (λ calls. AreMoves told at (HasEnded c) calls) at a b c command first second h k (
        record { times = (refl, refl); asked = refl; parcel = parcel; there = there; moved = is },
        subst (λ good. MatchBool good (HasEnded c) (◌≡◌ {A = List Call} [] [])) same refl,
      )
  moved_asked at a b c parcel command first second false same (inl h) there (inr k) is =
      spent_made (λ calls. AreMoves told at (HasEnded c) calls) a b c k.1
      (made_one (λ calls. AreMoves told at (HasEnded c) calls) a at commands.FirstParcel first b h (record { time = refl; asked = refl; stops = inr (inl (ended b c k.1)) }))

  -- one that was moved is moved
  one_is_moved : (at : ℕ) (a b : Pass) → HasMovedOne told at a b → HasMade (λ calls. AreWholeMoves at calls) a b
  one_is_moved at a b h = record {
    same_desk = h.same_desk;
    same_start = h.same_start;
    same_number = h.same_number;
    counted = h.counted;
    goes_on = h.goes_on;
    calls = h.calls;
    own = h.own;
    made = subst (λ calls. AreWholeMoves at calls) (sym h.made.2) (h.made.3, h.made.4, tt);
  }

  -- one more behind those that were moved
  pub whole_and_one : (at : ℕ) (a b c : Pass) → HasMade (λ calls. AreWholeMoves at calls) a b → HasMovedOne told at b c → HasMade (λ calls. AreWholeMoves at calls) a c
  whole_and_one at a b c h one =
      let k = one_is_moved at b c one in
      made_both _ _ (λ calls. AreWholeMoves at calls) a b c h k (whole_behind at h.calls k.calls h.made k.made)

  -- the last calls behind those that moved
  pub whole_and_last : (at : ℕ) (a b c : Pass) → HasMade (λ calls. AreWholeMoves at calls) a b → HasMoved told at b c → HasMoved told at a c
  whole_and_last at a b c h last = made_both _ _ (λ calls. AreMoves told at (HasEnded c) calls) a b c h last (moves_behind at (HasEnded c) h.calls last.calls h.made last.made)
