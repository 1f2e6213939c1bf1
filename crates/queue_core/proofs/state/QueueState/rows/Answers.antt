use Rattle.std.proofs.Common.{◌<◌, sym, ap, ◌∙◌, arith}
use Rattle.std.specs.Global.{Vec}
use Rattle.metric_window.specs.declared.row.Row.{Row}
use Rattle.message.specs.Content.{content_size}
use Rattle.metric_window.specs.Window.{window_end}
use Rattle.queue_core.proofs.minutes.RowLemmas.{rows-next, row-missing, rows-all}
use Rattle.queue_core.proofs.state.QueueState.rows.Goals.{in-Some+in_ok-push, in_default}
use Rattle.queue_core.proofs.state.QueueState.rows.Goals as goal

pub loop-minute-preserved : goal.loop-minute-preserved
loop-minute-preserved c =
    let until : c.loop-minute.minute < window_end c.args.self.now.clock = omega (arith, c.loop-minute-test.true, c.span-first.ensures.end) in
    let from = c.loop-minute.invariant.from in
    let within = c.loop-minute.invariant.within in
    record {
      from = omega arith;
      within = omega arith;
      rows = elim c.match-row.branch [
        | in-Some+in_ok-push w ↦
            rows-next content_size c.args.self.now.lines c.args.self.now.clock c.loop-minute.minute w.in-Some.row c.loop-minute.rows.items c.match-row.rows.items
            from until (sym c.row.ensures ∙ w.in-Some.is) c.loop-minute.invariant.rows (ap (λ (v : Vec Row). v.items) w.rows-is ∙ w.in_ok-push.ensures.items)
        | in_default w ↦
            absurd (row-missing content_size c.args.self.now.lines c.args.self.now.clock c.loop-minute.minute from until (sym c.row.ensures ∙ w.in_default.is))
      ];
    }

pub returns-clause-rows : goal.returns-clause-rows
returns-clause-rows c =
    rows-all content_size c.args.self.now.lines c.args.self.now.clock c.loop-minute.minute c.loop-minute.rows.items
    (omega (arith, c.loop-minute-test.false, c.span-first.ensures.end)) c.loop-minute.invariant.within c.loop-minute.invariant.rows
