use Rattle.std.proofs.Common.{◌<◌, ◌≤◌, ◌+◌, length, arith}
use Rattle.sqs_replay.specs.Cutting.{longest_line}
use Rattle.sqs_replay.proofs.Runs.{on_err, kept_as, feed_read, other_read, other_dropped}
use Rattle.sqs_replay.proofs.Stops.{stops-at_feed, stops-between, stops-further}
use Rattle.sqs_replay.proofs.run.take_byte.Goals as goal

pub returns-in_ok-answer_piece-clause-ok : goal.returns-in_ok-answer_piece-clause-ok
returns-in_ok-answer_piece-clause-ok g c =
    λ start before read h. feed_read g.S.Lines.text g.S.Lines.after g.met.S.Lines.same_text g.met.S.Lines.same_after start before read _ c.as_slice.result.now _ (kept_as c.as_slice.result.now c.as_slice.ensures.value h) c.args.byte c.if-byte-eq10.true _ _ _ c.in_ok-answer_piece.ensures.text c.in_ok-answer_piece.ensures.state c.clear.ensures.items

pub returns-in_ok-push-clause-ok : goal.returns-in_ok-push-clause-ok
returns-in_ok-push-clause-ok g c =
    λ start before read h. let room : length c.args.kept.now.items < longest_line + 2 = omega
    (arith, c.args.kept.now.ok.0, c.len.ensures, c.if-len-lt-KEPT_LIMIT.true) in
    other_read g.S.Lines.text g.S.Lines.after start before read _ c.args.kept.now.items _ h c.args.byte c.if-byte-eq10.false room _ c.in_ok-push.ensures.items

pub returns-else-len-lt-KEPT_LIMIT-clause-ok : goal.returns-else-len-lt-KEPT_LIMIT-clause-ok
returns-else-len-lt-KEPT_LIMIT-clause-ok g c =
    λ start before read h. let full : longest_line + 2 ≤ length c.args.kept.now.items = omega
    (arith, c.args.kept.now.ok.0, c.len.ensures, c.if-len-lt-KEPT_LIMIT.false) in
    other_dropped g.S.Lines.text g.S.Lines.after start before read _ c.args.kept.now.items _ h c.args.byte c.if-byte-eq10.false full

pub returns-in_err-answer_piece-clause-stopped : goal.returns-in_err-answer_piece-clause-stopped
returns-in_err-answer_piece-clause-stopped g c =
    on_err c.from_residual.result
    (λ start before read h. stops-at_feed g.S.Lines.text g.S.Lines.after g.met.S.Lines.same_text start _ before _ _ read c.as_slice.result.now c.args.byte c.if-byte-eq10.true (kept_as c.as_slice.result.now c.as_slice.ensures.value h) c.in_err-answer_piece.ensures.stopped)

pub returns-in_err-push-clause-stopped : goal.returns-in_err-push-clause-stopped
returns-in_err-push-clause-stopped g c =
    on_err c.from_residual-in_err-push.result (λ start before read h. stops-further g.S.Lines.text g.S.Lines.after start before _ read _
    (stops-between g.S.Lines.text g.S.Lines.after start _ before _ read _ h))
