use Rattle.std.proofs.Common.{◌≡◌, ◌-◌}
use Rattle.sqs_replay.specs.Moves.{some_moves}
use Rattle.sqs_replay.proofs.moves.some_moves.Given as goal

abbrev pub invariant-loop-done : goal.invariant-loop-done
invariant-loop-done l = some_moves l.most l.fn.house l.source l.at ≡ some_moves (l.most - l._done) l.house l.source l.at
