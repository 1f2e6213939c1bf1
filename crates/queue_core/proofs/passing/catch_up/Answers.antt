use Rattle.std.proofs.Common.{◌≡◌, ℕ, ◌+◌, ◌-◌, ◌<◌, [], sym, ap, ◌∙◌, subst, arith}
use Rattle.metric_window.specs.KeptRows.{opened_at}
use Rattle.metric_window.specs.Window.{longest_window}
use Rattle.metric_window.specs.Flows.{minute_of}
use Rattle.queue_core.specs.declared.watch.Watch.{Watch}
use Rattle.queue_core.specs.private.Watched.{first_shown, rows_before, IsPassing}
use Rattle.queue_core.proofs.indexed.IndexLemmas.{IsSettling, later-index}
use Rattle.queue_core.proofs.LegalSoundLemmas.{sound_legal}
use Rattle.queue_core.proofs.minutes.WatchLemmas.{passing-from, passing-behind, watch-passed, watch-jumped}
use Rattle.queue_core.proofs.costs.SpendingLemmas.{free_then}
use Rattle.queue_core.proofs.passing.catch_up.Goals.{then-is_far, else-is_far}
use Rattle.queue_core.proofs.passing.catch_up.Goals as goal

pub returns-clause-passed : goal.returns-clause-passed
returns-clause-passed c =
    λ q legal later same index is.
    let clock : ℕ = c.args.clock in
    let end : c.minute_of-end.result ≡ minute_of clock = c.minute_of-end.ensures in
    let minute = c.minute.ensures.minute in
    let settling : IsSettling c.args.retention clock c.go_on.new.index c.settle.new.self = record { indices = c.settle.ensures.indices; records = c.settle.ensures.records; receives = c.settle.ensures.receives; leaving = c.settle.ensures.leaving } in
    elim c.if-is_far.branch [
      | then-is_far w ↦
          let far : minute_of q.clock + longest_window < minute_of clock = omega (arith, w.if-is_far.true, end, minute, is.minute) in
          let first : ℕ = minute_of clock - longest_window in
          let left : c.minute_of-end.result - longest_window ≡ first = omega (arith, end) in
          let passing =
          passing-behind q (sound_legal q legal) c.args.index.now c.args.watch.now index is first c.if-is_far.watch (omega (arith, far))
          (ap (λ (v : Watch). v.window) w.watch-is ∙ w.skip_to.ensures ∙ ap opened_at left)
          (ap (λ (v : Watch). v.alarms) w.watch-is) in
          let passed = c.go_on.ensures.passing q first (rows_before q.lines (minute_of q.clock)) legal same passing in (
            later-index q.lines passed.since clock c.args.retention c.go_on.new.index c.settle.new.self (omega (arith, later, passed.early, c.go_on.ensures.minute, end)) passed.index same settling,
            watch-jumped q (sound_legal q legal) c.args.index.now c.args.watch.now index is (minute_of clock) c.go_on.new.index c.go_on.new.watch far passed (c.go_on.ensures.minute ∙ end),
          )
      | else-is_far w ↦
          let first : ℕ = first_shown q.lines (minute_of q.clock) in
          let passing = subst (λ (v : Watch). IsPassing q first [] c.args.index.now v) (sym w.watch-is) (passing-from q (sound_legal q legal) c.args.index.now c.args.watch.now index is) in
          let passed = c.go_on.ensures.passing q first [] legal same passing in (
            later-index q.lines passed.since clock c.args.retention c.go_on.new.index c.settle.new.self (omega (arith, later, passed.early, c.go_on.ensures.minute, end)) passed.index same settling,
            watch-passed q (sound_legal q legal) c.args.index.now c.args.watch.now index is (minute_of clock) c.go_on.new.index c.go_on.new.watch (omega (arith, later)) passed (c.go_on.ensures.minute ∙ end),
          )
    ]

pub returns-clause-cost : goal.returns-clause-cost
returns-clause-cost c = free_then _ _ _ _ _ _ _ _ _ c.go_on.ensures.cost c.settle.ensures.cost
