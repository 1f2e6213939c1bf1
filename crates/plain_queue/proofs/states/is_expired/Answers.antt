use Rattle.std.proofs.Common.{Bool, sym, ◌∙◌}
use Rattle.queue_core.specs.Messages.{RetentionPeriod, runs_out_in}
use Rattle.plain_queue.proofs.ScanLemmas.{list_any-periods_from-here, list_any-periods_from-other}
use Rattle.plain_queue.proofs.states.is_expired.Goals as goal

pub returns-then-runs_out_at : goal.returns-then-runs_out_at
returns-then-runs_out_at c =
    let p : RetentionPeriod → Bool = λ p. runs_out_in c.args.message.now p in
    sym (list_any-periods_from-here c.args.lines.now c.loop-place.place c.line_at-line.result.now c.line_at-line.ensures p c.loop-place.settings c.args.clock
    (sym c.runs_out_at.ensures ∙ c.if-runs_out_at.true))
    ∙ c.loop-place.invariant

pub loop-place-preserved : goal.loop-place-preserved
loop-place-preserved c =
    let p : RetentionPeriod → Bool = λ p. runs_out_in c.args.message.now p in
    rw c.settings_after-settings.ensures
    (sym (list_any-periods_from-other c.args.lines.now c.loop-place.place c.line_at-line.result.now c.line_at-line.ensures p c.loop-place.settings c.args.clock
    (sym c.runs_out_at.ensures ∙ c.if-runs_out_at.false))
    ∙ c.loop-place.invariant)
