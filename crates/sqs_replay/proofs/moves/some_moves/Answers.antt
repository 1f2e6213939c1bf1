use Rattle.std.proofs.Common.{◌≡◌, ◌∙◌, arith}
use Rattle.sqs_replay.specs.Moves.{goes_on, some_moves}
use Rattle.sqs_replay.proofs.MoveLemmas.{moves_begin, moves_over, last_move, next_move}
use Rattle.sqs_replay.proofs.moves.some_moves.Goals as goal

pub loop-done-init : goal.loop-done-init
loop-done-init c = moves_begin c.args.most c.args.house.now c.args.source c.args.at

pub returns-then-not-branch-clause-state : goal.returns-then-not-branch-clause-state
returns-then-not-branch-clause-state c =
    let flag : goes_on c.move_one-answer.result ≡ c.in_ok-goes_on.field-0 = cc c.in_ok-goes_on.ensures.known in
    last_move (some_moves c.args.most c.args.house.now c.args.source c.args.at) c.loop-done.house c.args.source c.args.at c.args.most c.loop-done._done c.loop-done.invariant (omega arith) c.move_one-answer.result c.move_one-answer.new.self
    (flag ∙ c.if-not-branch.true) c.in_ok-goes_on.ensures.told c.move_one-answer.ensures.answer c.move_one-answer.ensures.state

pub loop-done-preserved : goal.loop-done-preserved
loop-done-preserved c =
    let flag : goes_on c.move_one-answer.result ≡ c.in_ok-goes_on.field-0 = cc c.in_ok-goes_on.ensures.known in
    next_move (some_moves c.args.most c.args.house.now c.args.source c.args.at) c.loop-done.house c.args.source c.args.at c.args.most c.loop-done._done c.loop-done.invariant (omega arith) c.move_one-answer.result c.move_one-answer.new.self
    (flag ∙ c.if-not-branch.false) c.in_ok-goes_on.ensures.told c.move_one-answer.ensures.answer c.move_one-answer.ensures.state

pub returns-clause-state : goal.returns-clause-state
returns-clause-state c =
    moves_over (some_moves c.args.most c.args.house.now c.args.source c.args.at) c.loop-done.house c.args.source c.args.at c.args.most c.loop-done._done c.loop-done.invariant (omega arith)
