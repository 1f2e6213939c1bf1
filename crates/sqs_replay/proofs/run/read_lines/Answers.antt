use Rattle.std.proofs.Common.{◌≡◌, ℕ, ◌<◌, ◌++◌, ◌∙◌, ◌^◌, ap, inl, inr, length, length-append, take, arith}
use Rattle.std.proofs.KnownBytes.{Consumes-kept, Consumes-trans}
use Rattle.std.proofs.lemmas.Result.{on_err_weaker, err_from_is_err_and}
use Rattle.sqs_replay.specs.Failures.{counted}
use Rattle.sqs_replay.proofs.Runs.{on_err, on_ok_both, kept_as, Consumes-none, end_read}
use Rattle.sqs_replay.proofs.Stops.{stops-between, stops-at_end}
use Rattle.sqs_replay.proofs.Counts.{CountsTurns-more}
use Rattle.sqs_replay.proofs.ReadFaults.{no_read_fault, other_fault, read_failed}
use Rattle.sqs_replay.proofs.run.read_lines.Goals as goal

pub returns-then-count-eq0-clause-ok : goal.returns-then-count-eq0-clause-ok
returns-then-count-eq0-clause-ok g c =
    let (read, consumed, progress, each_took) = c.loop-turn.invariant.so_far in
    let none = c.if-count-eq0.true in
    let has_room : 0 < length c.read.new.buffer = omega (arith, c.read.auto.buffer, c.loop-turn.auto.buffer, c.requires) in
    let all_read = Consumes-none _ _ _ read c.read.new.buffer c.in_ok-count.count consumed c.in_ok-count.ensures.bytes.0 none in
    on_ok_both c.answer_piece.result
    (λ written state_is. (
      read,
      end_read g.S.Lines.text g.S.Lines.after g.met.S.Lines.same_text g.met.S.Lines.same_after c.args.server.now read _ c.as_slice.result.now _ _ _ _
          (kept_as c.as_slice.result.now c.as_slice.ensures.value progress) all_read (c.in_ok-count.ensures.bytes.1 none has_room) _ _ written state_is,
    ))
    c.answer_piece.ensures.text c.answer_piece.ensures.state

pub returns-in_err-count-clause-stopped : goal.returns-in_err-count-clause-stopped
returns-in_err-count-clause-stopped g c =
    let (read, consumed, progress, each_took) = c.loop-turn.invariant.so_far in
    on_err c.from_residual.result (
      read,
      record {
        consumed = Consumes-kept _ _ _ read consumed c.in_err-count.ensures.bytes;
        among = inl (stops-between g.S.Lines.text g.S.Lines.after c.args.server.now _ _ _ read _ progress);
      },
    )

pub returns-then-count-eq0-clause-stopped : goal.returns-then-count-eq0-clause-stopped
returns-then-count-eq0-clause-stopped g c =
    let (read, consumed, progress, each_took) = c.loop-turn.invariant.so_far in
    let none = c.if-count-eq0.true in
    let has_room : 0 < length c.read.new.buffer = omega (arith, c.read.auto.buffer, c.loop-turn.auto.buffer, c.requires) in
    let all_read = Consumes-none _ _ _ read c.read.new.buffer c.in_ok-count.count consumed c.in_ok-count.ensures.bytes.0 none in
    on_err_weaker c.answer_piece.result
    (λ stop. (read, stops-at_end g.S.Lines.text g.S.Lines.after g.met.S.Lines.same_text c.args.server.now _ _ _ _ _ _ read c.as_slice.result.now all_read (c.in_ok-count.ensures.bytes.1 none has_room) (kept_as c.as_slice.result.now c.as_slice.ensures.value progress) stop))
    c.answer_piece.ensures.stopped

pub returns-in_err-take_bytes-clause-stopped : goal.returns-in_err-take_bytes-clause-stopped
returns-in_err-take_bytes-clause-stopped g c =
    let (read, consumed, progress, each_took) = c.loop-turn.invariant.so_far in
    let bytes = take c.in_ok-count.count c.read.new.buffer in
    on_err c.from_residual-in_err-take_bytes.result (
      read ++ bytes,
      record {
        consumed = Consumes-trans _ _ _ read bytes consumed c.in_ok-count.ensures.bytes.0;
        among = inl (c.in_err-take_bytes.ensures.stopped c.args.server.now _ read progress);
      },
    )

pub returns-clause-stopped : goal.returns-clause-stopped
returns-clause-stopped g c =
    let (read, consumed, progress, each_took) = c.loop-turn.invariant.so_far in (
      read,
      record {
        consumed = consumed;
        among = inl (stops-between g.S.Lines.text g.S.Lines.after c.args.server.now _ _ _ read _ progress);
      },
    )

pub loop-turn-preserved : goal.loop-turn-preserved
loop-turn-preserved g c =
    let (read, consumed, progress, each_took) = c.loop-turn.invariant.so_far in
    let bytes = take c.in_ok-count.count c.read.new.buffer in
    record {
      so_far = (
        read ++ bytes,
        Consumes-trans _ _ _ read bytes consumed c.in_ok-count.ensures.bytes.0,
        c.in_ok-take_bytes.ensures.ok c.args.server.now _ read progress,
        omega (arith, each_took, length-append read bytes, c.in_ok-count.ensures.bound.1, c.if-count-eq0.false),
      );
      reads = CountsTurns-more c.loop-turn._turn _ _ _ c.loop-turn.invariant.reads c.in_ok-count.ensures.reads;
      inlet_failures = c.in_ok-count.ensures.failures ∙ c.loop-turn.invariant.inlet_failures;
      inlet_refusals = c.in_ok-count.ensures.refusals ∙ c.loop-turn.invariant.inlet_refusals;
      outlet_failures = c.in_ok-take_bytes.ensures.write_fault ∙ c.loop-turn.invariant.outlet_failures;
      outlet_refusals = c.in_ok-take_bytes.ensures.outlet_memory ∙ c.loop-turn.invariant.outlet_refusals;
    }

pub returns-in_err-count-clause-read_stops : goal.returns-in_err-count-clause-read_stops
returns-in_err-count-clause-read_stops g c =
    let (read, consumed, progress, each_took) = c.loop-turn.invariant.so_far in
    let (fault, is_fault, same) = err_from_is_err_and c.from_residual.result c.from_residual.ensures.1 in
    read_failed ℕ _ c.from_residual.result c.in_err-count.field-0.0 _ _ _ (cc) c.in_err-count.ensures.failures c.loop-turn.invariant.inlet_failures (λ counts. (
      read,
      record { consumed = Consumes-kept _ _ _ read consumed c.in_err-count.ensures.bytes; appended = progress.appended; state_is = progress.state_is },
      inl counts,
    ))

pub returns-then-count-eq0-clause-read_stops : goal.returns-then-count-eq0-clause-read_stops
returns-then-count-eq0-clause-read_stops g c = no_read_fault _ c.answer_piece.result c.answer_piece.ensures.no_read_fault

pub returns-in_err-take_bytes-clause-read_stops : goal.returns-in_err-take_bytes-clause-read_stops
returns-in_err-take_bytes-clause-read_stops g c =
    let (fault, is_fault, same) = err_from_is_err_and c.from_residual-in_err-take_bytes.result c.from_residual-in_err-take_bytes.ensures.1 in
    other_fault (Unit {0}) _ c.from_residual-in_err-take_bytes.result c.in_err-take_bytes.field-0.0 (cc) c.in_err-take_bytes.ensures.no_read_fault

pub returns-clause-read_stops : goal.returns-clause-read_stops
returns-clause-read_stops g c =
    let (read, consumed, progress, each_took) = c.loop-turn.invariant.so_far in
    let turns : c.loop-turn._turn ≡ 2 ^ 32 = omega (arith, c.loop-turn-test.false, c.loop-turn.auto._turn-end) in
    let counts = c.loop-turn.invariant.reads.some (omega (arith, turns)) in (
      read,
      record { consumed = consumed; appended = progress.appended; state_is = progress.state_is },
      inr (c.loop-turn.invariant.inlet_failures, counts ∙ ap (λ n. counted n (g.I.Inlet.reads c.args.inlet.now)) turns, omega (arith, turns, each_took)),
    )
