use Rattle.std.proofs.Common.{◌≡◌, ◌<◌, ◌∙◌, [], ◌∷◌, length, subst, rules}
use Rattle.std.proofs.KnownBytes.{Appends-nil}
use Rattle.std.proofs.lemmas.Result.{on_err_weaker}
use Rattle.sqs_replay.specs.Cutting.{lines_among}
use Rattle.sqs_replay.specs.Failures.{AppendsPart}
use Rattle.sqs_replay.proofs.Runs.{on_err}
use Rattle.sqs_replay.proofs.Stops.{stops-before_all, stops-in_text}
use Rattle.sqs_replay.proofs.run.answer_piece.Goals as goal

pub returns-in_err-text-clause-stopped : goal.returns-in_err-text-clause-stopped
returns-in_err-text-clause-stopped g c =
    on_err c.from_residual.result
    (stops-before_all g.S.Lines.text c.args.server.now _ _ [] (lines_among (c.args.piece.now ∷ [])) (Appends-nil (g.O.Outlet.taken c.args.outlet.now)))

pub returns-clause-stopped : goal.returns-clause-stopped
returns-clause-stopped g c =
    let line = c.without_return-line.result.now in
    let full : 0 < length c.without_return-line.result.now = search rules in
    let told : c.as_slice.result.now ≡ g.S.Lines.text c.args.server.now line = c.as_slice.ensures.value ∙ c.in_ok-text.ensures.text in
    on_err_weaker c.write.result
    (λ part. stops-in_text g.S.Lines.text c.args.server.now _ _ c.args.piece.now line c.without_return-line.ensures full (subst (AppendsPart (g.O.Outlet.taken c.args.outlet.now) (g.O.Outlet.taken c.write.new.self)) told part))
    c.write.ensures.err
