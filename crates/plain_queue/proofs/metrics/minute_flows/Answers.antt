use Rattle.std.proofs.Common.{cond, eqb, sym, ap, ◌∙◌, arith}
use Rattle.message.specs.Content.{content_size}
use Rattle.metric_window.specs.declared.flows.Flows.{Flows}
use Rattle.metric_window.specs.Flows.{flows_of, added, capped, minute_of}
use Rattle.metric_window.proofs.MinuteLemmas.{minute_flows-take, minute_flows-all}
use Rattle.plain_queue.proofs.metrics.minute_flows.Goals as goal

pub loop-place-init : goal.loop-place-init
loop-place-init c = c.none-flows.ensures

pub loop-place-preserved : goal.loop-place-preserved
loop-place-preserved c =
    c.flows_after-flows.ensures
    ∙ ap (λ (f : Flows). cond (eqb (minute_of c.line_at.result.now.at) c.args.minute) (capped (added f (flows_of content_size c.line_at.result.now.event))) f) c.loop-place.invariant
    ∙ sym (minute_flows-take content_size c.args.lines.now c.loop-place.place c.line_at.result.now c.args.minute c.line_at.ensures)

pub returns : goal.returns
returns c = c.loop-place.invariant ∙ minute_flows-all content_size c.args.lines.now c.loop-place.place c.args.minute (omega (arith, c.loop-place-test.false, c.len-place-end.ensures))
