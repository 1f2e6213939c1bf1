use Rattle.std.proofs.Common.{◌≡◌, ◌≤◌, ℕ, ◌+◌, ◌++◌, [], ◌∷◌, List, length, Option, Some, None, Ok, refl, subst, sym, ap, ◌∙◌, arith}
use Rattle.message.specs.Content.{ContentText}
use Rattle.journal.specs.declared.entry.Entry.{Entry}
use Rattle.journal.specs.Journal.{Lines}
use Rattle.journal.specs.Weight.{weight_of}
use Rattle.queue_core.specs.declared.watch.Watch.{Watch}
use Rattle.queue_core.specs.Queue.{QueueHistory}
use Rattle.std.specs.Prelude.{option_to_list}
use Rattle.std.specs.Option.{OnSome}
use Rattle.std.specs.List.{filter_map}
use Rattle.queue_core.specs.declared.record.Record.{Record}
use Rattle.queue_core.specs.private.Records.{record_of_birth, IsReady}
use Rattle.queue_core.specs.Messages.{Birth, effect_of, message_count}
use Rattle.queue_core.specs.Legal.{IsCausedIn}
use Rattle.queue_core.specs.private.Kept.{IsKept}
use Rattle.queue_core.specs.private.Tally.{births, Tallies}
use Rattle.queue_core.specs.private.Indexed.{IsIndexOf}
use Rattle.queue_core.specs.Accepted.{accepted_keys}
use Rattle.queue_core.specs.private.Accepted.{AreAccepted}
use Rattle.queue_core.specs.Summary.{summary_of}
use Rattle.metric_window.specs.Flows.{minute_of}
use Rattle.queue_core.specs.private.Watched.{IsWatchAt}
use Rattle.queue_core.proofs.LegalSoundLemmas.{sound_legal, kept_few}
use Rattle.queue_core.proofs.CauseLemmas.{about-caused}
use Rattle.queue_core.proofs.AloneLemmas.{alone-caused}
use Rattle.queue_core.proofs.commands.LegalLemmas.{place-left, kept-spare, IsKept-pushed}
use Rattle.queue_core.proofs.entries.TallyLemmas.{tallies-push, GoesOn}
use Rattle.queue_core.proofs.indexed.IndexLemmas.{same-index, can_apply, event-index}
use Rattle.queue_core.proofs.minutes.WatchLemmas.{watch-pushed}
use Rattle.queue_core.proofs.entries.AcceptedLemmas.{accepted-same, accepted-noted, unheld-caused}
use Rattle.queue_core.specs.Cost.{most_ticks}
use Rattle.queue_core.specs.private.Spending.{event_adds, left_count, HasCome}
use Rattle.queue_core.proofs.costs.BoundLemmas.{kept-is, bound-later, bound-event}
use Rattle.queue_core.proofs.costs.SpendingLemmas.{costs_behind}
use Rattle.queue_core.proofs.costs.CostLemmas.{has_added}
use Rattle.queue_core.proofs.state.QueueState.add.Goals as goal

pub after-tally-requires-clause-alone : goal.after-tally-requires-clause-alone
after-tally-requires-clause-alone c = alone-caused c.args.self.now c.args.event c.requires

pub record_born-requires : goal.record_born-requires
record_born-requires c = record { alone = alone-caused c.args.self.now c.args.event c.requires }

pub make_room-requires-clause-alone : goal.make_room-requires-clause-alone
make_room-requires-clause-alone c = alone-caused c.args.self.now c.args.event c.requires

pub make_place-requires : goal.make_place-requires
make_place-requires c = record { alone = alone-caused c.args.self.now c.args.event c.requires }

pub note-requires-clause-alone : goal.note-requires-clause-alone
note-requires-clause-alone c = alone-caused c.args.self.now c.args.event c.requires

pub make_room-requires-clause-few : goal.make_room-requires-clause-few
make_room-requires-clause-few c =
    let q : QueueHistory = record { uid = c.self.inside.uid; name = c.self.inside.name; limits = c.self.inside.limits; rules = c.self.inside.rules.items; clock = c.self.inside.clock; lines = c.self.inside.journal.lines; spare = c.self.inside.journal.spare } in
    let kept = kept-is q c.self.inside.index c.self.invariant.2 c.len-kept.ensures.unique in
    let weight = ap (λ (q : QueueHistory). weight_of q.lines) c.self.view_is in
    omega (arith, kept, kept_few q c.self.invariant.0.legal, weight, c.messages_so_far.ensures.weight)

-- where no entry is added, nothing but room differs
pub invariant_of-self : goal.invariant_of-self
invariant_of-self c = (
  c.self.invariant.0,
  c.self.invariant.1,
  same-index c.self.inside.journal.lines c.self.inside.clock c.self.inside.index c.self.invariant.2 c.make_room.new.self c.make_room.ensures.same c.make_room.ensures.indexed,
  c.self.invariant.3,
  c.self.invariant.4,
)

pub invariant_of-self-in_err-make_place : goal.invariant_of-self-in_err-make_place
invariant_of-self-in_err-make_place c = (
  c.self.invariant.0,
  c.self.invariant.1,
  same-index c.self.inside.journal.lines c.self.inside.clock c.self.inside.index c.self.invariant.2 c.make_room.new.self c.make_room.ensures.same c.make_room.ensures.indexed,
  accepted-same c.self.inside.journal.lines c.self.inside.accepted c.make_place.new.self c.self.invariant.3 c.make_place.ensures.same,
  c.self.invariant.4,
)

pub invariant_of-self-in_err-reserve : goal.invariant_of-self-in_err-reserve
invariant_of-self-in_err-reserve c =
    let lines = ap (λ (j : Lines). j.lines) c.reserve.ensures.lines in
    let limit = ap (λ (j : Lines). j.limit) c.reserve.ensures.lines in
    let index = same-index c.self.inside.journal.lines c.self.inside.clock c.self.inside.index c.self.invariant.2 c.make_room.new.self c.make_room.ensures.same c.make_room.ensures.indexed in
    let accepted = accepted-same c.self.inside.journal.lines c.self.inside.accepted c.make_place.new.self c.self.invariant.3 c.make_place.ensures.same in
    let q : QueueHistory = record { uid = c.self.inside.uid; name = c.self.inside.name; limits = c.self.inside.limits; rules = c.self.inside.rules.items; clock = c.self.inside.clock; lines = c.self.inside.journal.lines; spare = c.self.inside.journal.spare } in
    rw (lines, limit) (kept-spare q c.self.inside.journal.limit c.reserve.new.self.spare c.self.invariant.0, c.self.invariant.1, index, accepted, c.self.invariant.4)

-- ---- the event

pub apply-requires-clause-about : goal.apply-requires-clause-about
apply-requires-clause-about c =
    let q : QueueHistory = record { uid = c.self.inside.uid; name = c.self.inside.name; limits = c.self.inside.limits; rules = c.self.inside.rules.items; clock = c.self.inside.clock; lines = c.self.inside.journal.lines; spare = c.self.inside.journal.spare } in
    let caused = subst (λ (q : QueueHistory). IsCausedIn q c.args.event) (sym c.self.view_is) c.requires in
    let index = same-index q.lines q.clock c.self.inside.index c.self.invariant.2 c.make_room.new.self c.make_room.ensures.same c.make_room.ensures.indexed in
    can_apply q c.args.event caused c.make_room.new.self index c.in_ok-make_room.ensures.room

-- where a message begins, there is room for it
ready_born : (ready : Type 0) (at : ℕ) (born : Option Record) (bs : List (Birth ContentText)) → option_to_list born ≡ filter_map (record_of_birth at) bs → (1 ≤ length bs → ready) → OnSome born ready
ready_born ready at None bs is f = tt
ready_born ready at (Some r) [] is f = absurd cc
ready_born ready at (Some r) (b ∷ bs) is f = f (omega arith)

pub apply-requires-clause-ready : goal.apply-requires-clause-ready
apply-requires-clause-ready c =
    ready_born (IsReady c.make_room.new.self) _ c.in_ok-born.born (effect_of c.args.event).births c.in_ok-born.ensures.ok c.in_ok-make_room.ensures.ready

-- a transfer that the event brings was not accepted before
pub note-requires-clause-first : goal.note-requires-clause-first
note-requires-clause-first c =
    let q : QueueHistory = record { uid = c.self.inside.uid; name = c.self.inside.name; limits = c.self.inside.limits; rules = c.self.inside.rules.items; clock = c.self.inside.clock; lines = c.self.inside.journal.lines; spare = c.self.inside.journal.spare } in
    let caused = subst (λ (q : QueueHistory). IsCausedIn q c.args.event) (sym c.self.view_is) c.requires in
    unheld-caused q c.args.event c.make_place.new.self caused (accepted-same q.lines c.self.inside.accepted c.make_place.new.self c.self.invariant.3 c.make_place.ensures.same)

pub invariant_of-self-2 : goal.invariant_of-self-2
invariant_of-self-2 c =
    let q : QueueHistory = record { uid = c.self.inside.uid; name = c.self.inside.name; limits = c.self.inside.limits; rules = c.self.inside.rules.items; clock = c.self.inside.clock; lines = c.self.inside.journal.lines; spare = c.self.inside.journal.spare } in
    let entry : Entry ContentText = record { at = q.clock; event = c.args.event } in
    let caused = subst (λ (q : QueueHistory). IsCausedIn q c.args.event) (sym c.self.view_is) c.requires in
    let index = same-index q.lines q.clock c.self.inside.index c.self.invariant.2 c.make_room.new.self c.make_room.ensures.same c.make_room.ensures.indexed in
    let old : c.reserve.new.self.lines ≡ q.lines = ap (λ (j : Lines). j.lines) c.reserve.ensures.lines in
    let limit : c.reserve.new.self.limit ≡ c.self.inside.journal.limit = ap (λ (j : Lines). j.limit) c.reserve.ensures.lines in
    let pushed : c.push_reserved.new.self.lines ≡ c.reserve.new.self.lines ++ entry ∷ [] = ap (λ (j : Lines). j.lines) c.push_reserved.ensures in
    let lines : c.push_reserved.new.self.lines ≡ q.lines ++ entry ∷ [] = pushed ∙ ap (λ (es : List (Entry ContentText)). es ++ entry ∷ []) old in
    let kept =
    IsKept-pushed {X = ℕ} q c.reserve.new.self c.push_reserved.new.self c.args.event (Ok 0) (sym old) c.push_reserved.ensures tt (subst (λ limit. IsKept q limit) (sym limit) c.self.invariant.0) caused in
    let goes : GoesOn c.self.inside.tally c.after-tally.result (message_count q.lines) entry = record {
      settings = c.after-tally.ensures.settings;
      created = c.after-tally.ensures.created;
      modified = c.after-tally.ensures.modified;
      closed = c.after-tally.ensures.closed;
      messages = c.after-tally.ensures.messages ∙ ap (λ n. n + births c.args.event) (c.messages_so_far.ensures.count ∙ sym (ap (λ (q : QueueHistory). message_count q.lines) c.self.view_is));
    } in
    let tallies = tallies-push q.lines q.clock entry c.self.inside.tally c.after-tally.result (sound_legal q c.self.invariant.0.legal).begun (alone-caused q c.args.event caused) c.self.invariant.1 goes in
    let watch : Watch = record { window = c.count.new.self; alarms = c.self.inside.watch.alarms } in
    let behind =
    event-index q c.args.event c.self.inside.tally.settings _ c.make_room.new.self c.apply.new.self c.settle.new.self (sound_legal q c.self.invariant.0.legal) caused index c.self.invariant.1.settings
    (record { indexed = c.apply.ensures.indexed; records = c.apply.ensures.records; receives = c.apply.ensures.receives; leaving = c.apply.ensures.leaving })
    (ap (λ t. t.settings.retention_seconds) c.tally.view_is ∙ ap (λ s. s.retention_seconds) tallies.settings)
    (record { indices = c.settle.ensures.indices; records = c.settle.ensures.records; receives = c.settle.ensures.receives; leaving = c.settle.ensures.leaving }) in (
      kept,
      subst (λ lines. Tallies c.after-tally.result (summary_of lines q.clock)) (sym lines) tallies,
      subst (λ lines. IsIndexOf lines q.clock c.settle.new.self) (sym lines) behind,
      subst (λ lines. AreAccepted c.note.new.self (accepted_keys lines)) (sym lines)
          (accepted-noted q.lines entry c.self.inside.accepted c.make_place.new.self c.note.new.self c.self.invariant.3 c.make_place.ensures.same c.note.ensures),
      subst (λ lines. IsWatchAt lines (minute_of q.clock) q.rules watch) (sym lines)
          (watch-pushed q c.args.event (sound_legal q c.self.invariant.0.legal) (alone-caused q c.args.event caused) q.rules c.self.inside.watch watch c.self.invariant.4 c.count.ensures refl),
    )

pub push_reserved-requires-clause-place : goal.push_reserved-requires-clause-place
push_reserved-requires-clause-place c =
    let q : QueueHistory = record { uid = c.self.inside.uid; name = c.self.inside.name; limits = c.self.inside.limits; rules = c.self.inside.rules.items; clock = c.self.inside.clock; lines = c.self.inside.journal.lines; spare = c.self.inside.journal.spare } in
    let caused = subst (λ (q : QueueHistory). IsCausedIn q c.args.event) (sym c.self.view_is) c.requires in
    let place = place-left q c.self.inside.journal.limit c.args.event c.self.invariant.0 caused in
    let lines = ap (λ (j : Lines). weight_of j.lines) c.reserve.ensures.lines in
    let limit = ap (λ (j : Lines). j.limit) c.reserve.ensures.lines in
    omega (arith, place, lines, limit)

-- ---- what it costs

pub returns-in_err-born-clause-cost : goal.returns-in_err-born-clause-cost
returns-in_err-born-clause-cost c = λ p before come. bound-later before c.args.ticks.now p _ come

pub returns-in_err-make_room-clause-cost : goal.returns-in_err-make_room-clause-cost
returns-in_err-make_room-clause-cost c = λ p before come. bound-later before c.args.ticks.now p _ (subst (λ (q : QueueHistory). HasCome before p c.args.ticks.now q) (sym c.self.view_is) come)

pub returns-in_err-make_place-clause-cost : goal.returns-in_err-make_place-clause-cost
returns-in_err-make_place-clause-cost c = λ p before come. bound-later before c.args.ticks.now p _ (subst (λ (q : QueueHistory). HasCome before p c.args.ticks.now q) (sym c.self.view_is) come)

pub returns-in_err-reserve-clause-cost : goal.returns-in_err-reserve-clause-cost
returns-in_err-reserve-clause-cost c =
    λ p before come.
    let lines = ap (λ (j : Lines). j.lines) c.reserve.ensures.lines in
    rw lines (bound-later before c.args.ticks.now p _ (subst (λ (q : QueueHistory). HasCome before p c.args.ticks.now q) (sym c.self.view_is) come))

pub returns-clause-cost : goal.returns-clause-cost
returns-clause-cost c =
    λ p before come.
    let q : QueueHistory = record { uid = c.self.inside.uid; name = c.self.inside.name; limits = c.self.inside.limits; rules = c.self.inside.rules.items; clock = c.self.inside.clock; lines = c.self.inside.journal.lines; spare = c.self.inside.journal.spare } in
    let entry : Entry ContentText = record { at = q.clock; event = c.args.event } in
    let caused = subst (λ (q : QueueHistory). IsCausedIn q c.args.event) (sym c.self.view_is) c.requires in
    let index = same-index q.lines q.clock c.self.inside.index c.self.invariant.2 c.make_room.new.self c.make_room.ensures.same c.make_room.ensures.indexed in
    let old : c.reserve.new.self.lines ≡ q.lines = ap (λ (j : Lines). j.lines) c.reserve.ensures.lines in
    let pushed : c.push_reserved.new.self.lines ≡ c.reserve.new.self.lines ++ entry ∷ [] = ap (λ (j : Lines). j.lines) c.push_reserved.ensures in
    let lines : c.push_reserved.new.self.lines ≡ q.lines ++ entry ∷ [] = pushed ∙ ap (λ (es : List (Entry ContentText)). es ++ entry ∷ []) old in
    let goes : GoesOn c.self.inside.tally c.after-tally.result (message_count q.lines) entry = record {
      settings = c.after-tally.ensures.settings;
      created = c.after-tally.ensures.created;
      modified = c.after-tally.ensures.modified;
      closed = c.after-tally.ensures.closed;
      messages = c.after-tally.ensures.messages ∙ ap (λ n. n + births c.args.event) (c.messages_so_far.ensures.count ∙ sym (ap (λ (q : QueueHistory). message_count q.lines) c.self.view_is));
    } in
    let tallies = tallies-push q.lines q.clock entry c.self.inside.tally c.after-tally.result (sound_legal q c.self.invariant.0.legal).begun (alone-caused q c.args.event caused) c.self.invariant.1 goes in
    let behind =
    event-index q c.args.event c.self.inside.tally.settings _ c.make_room.new.self c.apply.new.self c.settle.new.self (sound_legal q c.self.invariant.0.legal) caused index c.self.invariant.1.settings
    (record { indexed = c.apply.ensures.indexed; records = c.apply.ensures.records; receives = c.apply.ensures.receives; leaving = c.apply.ensures.leaving })
    (ap (λ t. t.settings.retention_seconds) c.tally.view_is ∙ ap (λ s. s.retention_seconds) tallies.settings)
    (record { indices = c.settle.ensures.indices; records = c.settle.ensures.records; receives = c.settle.ensures.receives; leaving = c.settle.ensures.leaving }) in
    let costs = costs_behind (births c.args.event) (event_adds (left_count c.make_room.new.self) c.args.event) _ _ _ _ _ _ _ _ _ c.apply.ensures.cost c.settle.ensures.cost in
    let has = has_added q c.make_room.new.self index c.len-kept-2.ensures.unique c.args.event c.args.ticks.now c.settle.new.ticks c.settle.new.self behind costs in
    subst (λ (ls : List (Entry ContentText)). c.settle.new.ticks ≤ before + most_ticks p (record q { lines = ls })) (sym lines)
    (bound-event before c.args.ticks.now c.settle.new.ticks p q c.args.event (about-caused q c.args.event caused) (subst (λ (q : QueueHistory). HasCome before p c.args.ticks.now q) (sym c.self.view_is) come) has)
