use Rattle.std.proofs.Common.{ℕ, ◌+◌, ◌-◌, map, sym, ap, ◌∙◌, arith}
use Rattle.std.specs.List.{range_with_len}
use Rattle.message.specs.Content.{content_size}
use Rattle.metric_window.specs.declared.row.Row.{Row}
use Rattle.alarm.specs.AlarmState.{satisfies, breaches_in}
use Rattle.queue_core.specs.Metrics.{metric_row, last_rows}
use Rattle.plain_queue.proofs.BreachLemmas.{breaches-counted, breaches-passed}
use Rattle.plain_queue.proofs.alarms.breaches_in_last.Goals as goal
use Rattle.plain_queue.proofs.alarms.breaches_in_last.Goals.{then-satisfies, else-satisfies}

pub loop-minute-preserved : goal.loop-minute-preserved
loop-minute-preserved c =
    let row : ℕ → Row = λ m. metric_row content_size c.args.lines.now m in
    let rest : ℕ = breaches_in c.args.rule.now (map row (range_with_len (c.loop-minute.minute + 1) (c.window_end-end.result - (c.loop-minute.minute + 1)))) in
    let all : ℕ = breaches_in c.args.rule.now (last_rows content_size c.args.lines.now c.args.clock c.args.minutes) in
    elim c.if-satisfies.branch [
      | then-satisfies w ↦ (
        omega (arith, w.breaches-is, c.loop-minute.invariant.0),
        λ from ordered. ap (λ (n : ℕ). n + rest) w.breaches-is
            ∙ breaches-counted c.args.rule.now c.args.lines.now c.loop-minute.minute c.window_end-end.result c.loop-minute.breaches all c.loop-minute-test.true
            (ap (λ (r : Row). satisfies c.args.rule.now r) (sym (c.metric_row.ensures from ordered)) ∙ sym c.satisfies.ensures ∙ w.if-satisfies.true)
            (c.loop-minute.invariant.1 from ordered),
      )
      | else-satisfies w ↦ (
        omega (arith, w.breaches-is, c.loop-minute.invariant.0),
        λ from ordered. ap (λ (n : ℕ). n + rest) w.breaches-is
            ∙ breaches-passed c.args.rule.now c.args.lines.now c.loop-minute.minute c.window_end-end.result c.loop-minute.breaches all c.loop-minute-test.true
            (ap (λ (r : Row). satisfies c.args.rule.now r) (sym (c.metric_row.ensures from ordered)) ∙ sym c.satisfies.ensures ∙ w.if-satisfies.false)
            (c.loop-minute.invariant.1 from ordered),
      )
    ]
