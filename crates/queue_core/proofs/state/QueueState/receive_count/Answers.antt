use Rattle.std.proofs.Common.{refl, ap, ◌∙◌}
use Rattle.std.proofs.lemmas.Option.{slice_get_past, slice_get_read}
use Rattle.queue_core.specs.Messages.{receive_count}
use Rattle.queue_core.specs.Queue.{QueueHistory}
use Rattle.queue_core.proofs.LegalSoundLemmas.{sound_legal}
use Rattle.queue_core.proofs.indexed.ReceiveLemmas.{count_found, count_missing}
use Rattle.queue_core.proofs.state.QueueState.receive_count.Goals as goal

pub returns-in-Some : goal.returns-in-Some
returns-in-Some c =
    let q : QueueHistory = record { uid = c.self.inside.uid; name = c.self.inside.name; limits = c.self.inside.limits; rules = c.self.inside.rules.items; clock = c.self.inside.clock; lines = c.self.inside.journal.lines; spare = c.self.inside.journal.spare } in
    count_found q (sound_legal q c.self.invariant.0.legal) c.deref.result.now (c.deref.ensures.value ∙ c.self.invariant.2.receives) c.args.number c.in-Some.count.now
    (slice_get_read c.deref.result.now _ c.args.number c.in-Some.count.now refl c.in-Some.ensures.lookup.3.0 c.in-Some.ensures.lookup.1)
    ∙ ap (λ (q : QueueHistory). receive_count q.lines c.args.number) c.self.view_is

pub returns-in-None : goal.returns-in-None
returns-in-None c =
    let q : QueueHistory = record { uid = c.self.inside.uid; name = c.self.inside.name; limits = c.self.inside.limits; rules = c.self.inside.rules.items; clock = c.self.inside.clock; lines = c.self.inside.journal.lines; spare = c.self.inside.journal.spare } in
    count_missing q (sound_legal q c.self.invariant.0.legal) c.deref.result.now (c.deref.ensures.value ∙ c.self.invariant.2.receives) c.args.number
    (slice_get_past c.deref.result.now c.args.number c.in-None.ensures.lookup.3)
    ∙ ap (λ (q : QueueHistory). receive_count q.lines c.args.number) c.self.view_is
