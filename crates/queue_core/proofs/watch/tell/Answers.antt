use Rattle.std.proofs.Common.{sym, ap, ◌∙◌, arith}
use Rattle.alarm.specs.KeptAlarm.{with_minute}
use Rattle.queue_core.proofs.minutes.WatchLemmas.{told-next, all-told}
use Rattle.queue_core.proofs.watch.tell.Goals as goal

pub loop-alarm-preserved : goal.loop-alarm-preserved
loop-alarm-preserved c =
    told-next (λ alarm. with_minute alarm c.args.row.now) c.deref_mut-alarm-items.result.now c.loop-alarm.alarm-items c.loop-alarm.alarm-index c.alarm-item.result c.minute_closed.new.self
    c.loop-alarm.invariant (omega (arith, c.loop-alarm-test.true)) c.alarm-item.is (c.minute_closed.ensures ∙ ap (λ alarm. with_minute alarm c.args.row.now) (sym c.alarm-item.is))

pub returns : goal.returns
returns c =
    all-told (λ alarm. with_minute alarm c.args.row.now) c.args.alarms.now.items c.loop-alarm.alarm-items c.deref_mut-alarm-items.result.now c.loop-alarm.alarm-index c.args.alarms.now.len
    c.deref_mut-alarm-items.ensures.value c.loop-alarm.invariant c.loop-alarm-test.false c.loop-alarm.auto.alarm-items c.args.alarms.now.ok.0
