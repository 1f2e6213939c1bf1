use Rattle.std.proofs.Common.{ℕ, ◌+◌, List, [], ◌∷◌, ◌++◌, take, drop, get_or, subst, ◌∙◌}
use Rattle.sqs_replay.specs.Cutting.{whole_lines}
use Rattle.sqs_replay.specs.Progress.{StopsAmong}
use Rattle.sqs_replay.specs.private.Progress.{HasRead}
use Rattle.sqs_replay.proofs.Cuts.{read_rest, read_more}
use Rattle.sqs_replay.proofs.Runs.{on_err}
use Rattle.sqs_replay.proofs.Stops.{stops-further}
use Rattle.sqs_replay.proofs.run.take_bytes.Goals as goal

pub returns-in_err-take_byte-clause-stopped : goal.returns-in_err-take_byte-clause-stopped
returns-in_err-take_byte-clause-stopped g c =
    on_err c.from_residual.result (λ start before read h.
    let bytes = c.args.bytes.now in
    let i = c.loop-byte.byte-index in
    let so_far = c.loop-byte.invariant.0 start before read h in
    let stopped = c.in_err-take_byte.ensures.stopped start before (read ++ take i bytes) so_far in
    subst (λ (all : List ℕ). StopsAmong g.S.Lines.text g.S.Lines.after start before (g.O.Outlet.taken c.take_byte.new.outlet) (whole_lines all))
    (read_rest read bytes i c.loop-byte-test.true)
    (stops-further g.S.Lines.text g.S.Lines.after start before _ ((read ++ take i bytes) ++ get_or bytes i 0 ∷ []) (drop (i + 1) bytes) stopped))

pub loop-byte-preserved : goal.loop-byte-preserved
loop-byte-preserved g c = (
  λ start before read h.
      let bytes = c.args.bytes.now in
      let i = c.loop-byte.byte-index in
      let so_far = c.loop-byte.invariant.0 start before read h in
      subst (λ (all : List ℕ). HasRead g.S.Lines.text g.S.Lines.after start before all c.take_byte.new.server c.take_byte.new.kept.items
      (g.O.Outlet.taken c.take_byte.new.outlet))
      (read_more read bytes i c.loop-byte-test.true)
      (c.in_ok-take_byte.ensures.ok start before (read ++ take i bytes) so_far),
  c.in_ok-take_byte.ensures.write_fault ∙ c.loop-byte.invariant.1,
  c.in_ok-take_byte.ensures.outlet_memory ∙ c.loop-byte.invariant.2,
)
