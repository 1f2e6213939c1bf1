-- No entry of a whole journal is a checkpoint: so it weighs as much as it has entries, and keeps no more messages than these.
use Rattle.std.proofs.Common.{◌≡◌, ℕ, ◌+◌, ◌≤◌, ◌||◌, List, [], ◌∷◌, ◌++◌, length, Option, refl, ap, ◌∙◌, arith}
use Rattle.std.specs.Prelude.{unwrap_or}
use Rattle.std.specs.Option.{option_map_or}
use Rattle.std.proofs.lemmas.List.Sums.{sum_by-cons, count_by-le-length}
use Rattle.message.specs.Content.{ContentText}
use Rattle.journal.specs.declared.entry.Entry.{Entry}
use Rattle.journal.specs.declared.entry.Event.{Event}
use Rattle.journal.specs.declared.entry.Event.TheVariants.{Base}
use Rattle.journal.specs.Weight.{event_weight, weight_of}
use Rattle.metric_window.specs.declared.row.Row.{Row}
use Rattle.metric_window.specs.KeptRows.{row_in}
use Rattle.queue_core.specs.declared.facts.Message.{Message}
use Rattle.queue_core.specs.Messages.{Since, effect_of, messages, awaits_transfer, departing, departures, rows_known}
use Rattle.queue_core.specs.States.{is_live}
use Rattle.queue_core.specs.Metrics.{told_row, metric_row}
use Rattle.queue_core.specs.Queue.{QueueHistory}
use Rattle.queue_core.specs.States.{kept_count}
use Rattle.queue_core.specs.Legal.{IsWhole, IsOpening, IsCausedIn, BeginsAndFollows}
use Rattle.queue_core.proofs.Scans.{StandsAlone, StandAlone, length-messages_from}
use Rattle.queue_core.proofs.PushLemmas.{Line}
use Rattle.queue_core.proofs.CauseLemmas.{about-caused}
use Rattle.queue_core.proofs.entries.AlongLemmas.{holds_along}

-- ---- which entries are none

pub alone-caused : (q : QueueHistory) (event : Event ContentText) → IsCausedIn q event → StandsAlone event
alone-caused q event caused = (about-caused q event caused).alone

pub alone-push : {C : Type 0} (lines : List (Entry C)) (e : Entry C) → StandAlone lines → StandsAlone e.event → StandAlone (lines ++ e ∷ [])
alone-push [] e h k = (k, tt)
alone-push (x ∷ xs) e h k = (h.0, alone-push xs e h.1 k)

alone-opening : (uid : ℕ) (e : Line) → IsOpening uid e.event → StandAlone (e ∷ [])
alone-opening uid e h = (ap (λ (event : Event ContentText). (effect_of event).since) h.opened, tt)

pub alone_begun : (q : QueueHistory) (lines : List Line) → BeginsAndFollows q lines → StandAlone lines
alone_begun q lines begins =
    holds_along q StandAlone (alone-opening q.uid) (λ lines e caused h. alone-push lines e h (alone-caused (record q { clock = e.at; lines = lines }) e.event caused)) lines begins

pub alone_legal : (q : QueueHistory) → IsWhole q → StandAlone q.lines
alone_legal q legal = alone_begun q q.lines legal.caused

-- ---- what they weigh

pub event_weight-alone : {C : Type 0} (event : Event C) → StandsAlone event → event_weight event ≡ 1
event_weight-alone (Base base) alone = absurd cc
event_weight-alone event alone = refl

pub weight-alone : {C : Type 0} (lines : List (Entry C)) → StandAlone lines → weight_of lines ≡ length lines
weight-alone [] alone = refl
weight-alone {C} (e ∷ es) alone =
    let one = event_weight-alone e.event alone.0 in
    let rest = weight-alone es alone.1 in
    omega (arith, sum_by-cons (λ (x : Entry C). event_weight x.event) e es)

-- an entry weighs 1 at least, so that there are no more entries than they weigh
event_weight-some : {C : Type 0} (event : Event C) → 1 ≤ event_weight event
event_weight-some (Base base) = omega arith
event_weight-some event = omega arith

pub length-weight : {C : Type 0} (lines : List (Entry C)) → length lines ≤ weight_of lines
length-weight [] = omega arith
length-weight {C} (e ∷ es) =
    let some = event_weight-some e.event in
    let rest = length-weight es in
    omega (arith, some, rest, sum_by-cons (λ (x : Entry C). event_weight x.event) e es)

-- no more messages are kept than the journal weighs
pub kept_whole : (q : QueueHistory) → IsWhole q → kept_count q.lines q.clock ≤ weight_of q.lines
kept_whole q legal =
    let alone = alone_legal q legal in
    let kept = count_by-le-length (λ (m : Message). is_live q.lines q.clock m || awaits_transfer q.lines m) (messages q.lines) in
    omega (arith, kept, length-messages_from 0 0 q.lines alone, weight-alone q.lines alone)

-- ---- transfers

pub departures-alone : {C : Type 0} (event : Event C) → StandsAlone event → departures event ≡ departing event
departures-alone event alone = ap (λ (s : Option Since). option_map_or (λ (x : Since). x.pending) s [] ++ departing event) alone

-- ---- rows

pub rows-none : {C : Type 0} (lines : List (Entry C)) → StandAlone lines → rows_known lines ≡ []
rows-none [] alone = refl
rows-none (e ∷ es) alone = ap (λ (s : Option Since). option_map_or (λ (x : Since). x.rows) s [] ++ rows_known es) alone.0 ∙ rows-none es alone.1

pub row-alone : {C : Type 0} (size : C → ℕ) (lines : List (Entry C)) (minute : ℕ) → StandAlone lines → metric_row size lines minute ≡ told_row size lines minute
row-alone size lines minute alone = ap (λ (rows : List Row). unwrap_or (row_in rows minute) (told_row size lines minute)) (rows-none lines alone)
