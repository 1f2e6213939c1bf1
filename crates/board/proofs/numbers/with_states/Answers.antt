use Rattle.std.proofs.Common.{◌≡◌, ℕ, length, sym, ap, ◌∙◌, arith}
use Rattle.std.specs.Prelude.{slice_get}
use Rattle.board.specs.Shown.{with_states}
use Rattle.board.proofs.Taken.{taken-more, taken-all, fewer-left}
use Rattle.board.proofs.numbers.with_states.Goals as goal

pub loop-alarm-preserved : goal.loop-alarm-preserved
loop-alarm-preserved c =
    let counted : length c.loop-alarm.paired.items ≡ c.len.result = omega (arith, c.len.ensures, c.loop-alarm.paired.ok.0) in
    taken-more (with_states c.args.alarms.now c.args.states.now) c.loop-alarm.paired.items c.push.new.self.items c.in-Some.alarm
    (ap (λ (n : ℕ). slice_get (with_states c.args.alarms.now c.args.states.now) n) counted ∙ sym c.alarm_at.ensures ∙ c.in-Some.is)
    c.loop-alarm.invariant c.in_ok-push.ensures.items

pub returns-clause-ok : goal.returns-clause-ok
returns-clause-ok c =
    let counted : length c.loop-alarm.paired.items ≡ c.len.result = omega (arith, c.len.ensures, c.loop-alarm.paired.ok.0) in
    taken-all (with_states c.args.alarms.now c.args.states.now) c.loop-alarm.paired.items
    (ap (λ (n : ℕ). slice_get (with_states c.args.alarms.now c.args.states.now) n) counted ∙ sym c.alarm_at.ensures ∙ c.in_default.is)
    c.loop-alarm.invariant

pub loop-alarm-smaller : goal.loop-alarm-smaller
loop-alarm-smaller c =
    let counted : length c.loop-alarm.paired.items ≡ c.len.result = omega (arith, c.len.ensures, c.loop-alarm.paired.ok.0) in
    fewer-left (with_states c.args.alarms.now c.args.states.now) c.loop-alarm.paired.items c.push.new.self.items c.in-Some.alarm
    (ap (λ (n : ℕ). slice_get (with_states c.args.alarms.now c.args.states.now) n) counted ∙ sym c.alarm_at.ensures ∙ c.in-Some.is)
    c.in_ok-push.ensures.items
