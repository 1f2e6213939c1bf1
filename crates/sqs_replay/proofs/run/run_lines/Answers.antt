use Rattle.std.proofs.Common.{[]}
use Rattle.std.proofs.lemmas.Result.{on_ok_weaker, on_err_weaker}
use Rattle.sqs_replay.proofs.Runs.{on_err, known_text, known_state, either_way, front_of_nothing, front_of_all, front_of_part}
use Rattle.sqs_replay.proofs.Stops.{answers-part, stops-at_once}
use Rattle.sqs_replay.specs.Answers.{replay_text}
use Rattle.sqs_replay.proofs.run.run_lines.Goals as goal

pub returns-clause-text : goal.returns-clause-text
returns-clause-text g c =
    on_ok_weaker c.read_lines.result (λ all. known_text g.S.Lines.text g.S.Lines.after c.args.server.now _ _ _ _ _ all.0 all.1) c.read_lines.ensures.ok

pub returns-clause-state : goal.returns-clause-state
returns-clause-state g c =
    on_ok_weaker c.read_lines.result (λ all. known_state g.S.Lines.text g.S.Lines.after c.args.server.now _ _ _ _ _ all.0 all.1) c.read_lines.ensures.ok

pub returns-clause-all_read : goal.returns-clause-all_read
returns-clause-all_read g c = on_ok_weaker c.read_lines.result (λ all. all.1.ended) c.read_lines.ensures.ok

pub returns-in_err-buffer-clause-front : goal.returns-in_err-buffer-clause-front
returns-in_err-buffer-clause-front g c =
    front_of_nothing (g.I.Inlet.left c.args.inlet.now) (g.O.Outlet.taken c.args.outlet.now) (replay_text g.S.Lines.text g.S.Lines.after c.args.server.now)

pub returns-clause-front : goal.returns-clause-front
returns-clause-front g c =
    either_way c.read_lines.result
    (on_ok_weaker c.read_lines.result (λ all. front_of_all g.S.Lines.text g.S.Lines.after c.args.server.now _ _ _ _ _ all.0 all.1) c.read_lines.ensures.ok)
    (on_err_weaker c.read_lines.result
    (λ stop. front_of_part g.S.Lines.text g.S.Lines.after c.args.server.now _ _ _ _ stop.0 (answers-part g.S.Lines.text g.S.Lines.after c.args.server.now _ _ _ _ stop.0 stop.1)) c.read_lines.ensures.stopped)

pub returns-in_err-buffer-clause-stopped : goal.returns-in_err-buffer-clause-stopped
returns-in_err-buffer-clause-stopped g c =
    on_err c.from_residual.result ([], stops-at_once g.S.Lines.text g.S.Lines.after c.args.server.now (g.I.Inlet.left c.args.inlet.now) (g.O.Outlet.taken c.args.outlet.now))

pub returns-clause-err : goal.returns-clause-err
returns-clause-err g c =
    on_err_weaker c.read_lines.result
    (λ stop. (stop.0, answers-part g.S.Lines.text g.S.Lines.after c.args.server.now _ _ _ _ stop.0 stop.1)) c.read_lines.ensures.stopped
