use Rattle.std.proofs.Common.{◌≡◌, ℕ, length, sym, ap, ◌∙◌, arith}
use Rattle.std.specs.Prelude.{slice_get}
use Rattle.board.specs.Queue.{alarms_of}
use Rattle.board.proofs.Taken.{taken-more, taken-all}
use Rattle.board.proofs.alarms.alarms_of.Goals as goal

pub loop-alarm-preserved : goal.loop-alarm-preserved
loop-alarm-preserved c =
    let counted : length c.loop-alarm.alarms.items ≡ c.len.result = omega (arith, c.len.ensures, c.loop-alarm.alarms.ok.0) in
    taken-more (alarms_of c.args.queue.now) c.loop-alarm.alarms.items c.push.new.self.items c.in-Some.alarm
    (ap (λ (n : ℕ). slice_get (alarms_of c.args.queue.now) n) counted ∙ sym c.alarm_at.ensures ∙ c.in-Some.is)
    c.loop-alarm.invariant c.in_ok-push.ensures.items

pub returns-clause-ok : goal.returns-clause-ok
returns-clause-ok c =
    let counted : length c.loop-alarm.alarms.items ≡ c.len.result = omega (arith, c.len.ensures, c.loop-alarm.alarms.ok.0) in
    taken-all (alarms_of c.args.queue.now) c.loop-alarm.alarms.items
    (ap (λ (n : ℕ). slice_get (alarms_of c.args.queue.now) n) counted ∙ sym c.alarm_at.ensures ∙ c.in_default.is)
    c.loop-alarm.invariant
