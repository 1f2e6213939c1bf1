use Rattle.std.proofs.Common.{false, true, refl}
use Rattle.std.proofs.lemmas.Bool.{true≢false}
use Rattle.sqs_replay.specs.Served.{house_of_line}
use Rattle.sqs_replay.proofs.CourseLemmas.{Walk, course, line-walk}
use Rattle.sqs_replay.proofs.laws.lines_are_steps.Goals as goal

pub returns-clause-steps : goal.returns-clause-steps
returns-clause-steps c = λ w line h. course true w (house_of_line w line) (line-walk true w line (λ none. absurd (true≢false none)) h)

pub returns-clause-deletions : goal.returns-clause-deletions
returns-clause-deletions c = λ w line h none.
    let walk : Walk false w (house_of_line w line) = line-walk false w line (λ same. none) h in
    (course false w (house_of_line w line) walk, walk.quiet refl)
