use Rattle.std.proofs.Common.{ℕ, ◌-◌, refl, ap, ◌∙◌, subst, arith}
use Rattle.queue_core.specs.States.{gauges_of}
use Rattle.queue_core.specs.Metrics.{minute_end}
use Rattle.queue_core.specs.private.Indexed.{IsIndexOf}
use Rattle.queue_core.proofs.indexed.IndexLemmas.{later-index}
use Rattle.queue_core.proofs.LegalSoundLemmas.{sound_legal}
use Rattle.queue_core.proofs.minutes.WatchLemmas.{minute-ended}
use Rattle.queue_core.proofs.passing.end_minute.Goals as goal

pub returns-clause-passing : goal.returns-clause-passing
returns-clause-passing c =
    λ q first before legal same is.
    let last = c.last_moment-last.ensures ∙ ap (λ (m : ℕ). minute_end m - 1) c.minute.ensures.minute in
    let index =
    later-index q.lines is.since c.last_moment-last.result c.args.retention c.args.index.now c.settle.new.self (omega (arith, is.early, is.lasting, last)) is.index same
    (record { indices = c.settle.ensures.indices; records = c.settle.ensures.records; receives = c.settle.ensures.receives; leaving = c.settle.ensures.leaving }) in
    let counted = c.gauges.ensures (record q { clock = c.last_moment-last.result }) refl index in
    minute-ended q (sound_legal q legal) first before c.args.index.now c.settle.new.self c.args.watch.now c.close_minute.new.self c.gauges.result is
    (subst (λ (t : ℕ). IsIndexOf q.lines t c.settle.new.self) last index)
    (omega (arith, c.requires.small))
    (counted ∙ ap (λ (t : ℕ). gauges_of q.lines t) last)
    c.close_minute.ensures.window c.close_minute.ensures.alarms
