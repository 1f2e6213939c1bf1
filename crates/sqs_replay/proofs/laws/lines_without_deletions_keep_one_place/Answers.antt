use Rattle.std.proofs.Common.{false, refl}
use Rattle.redrive.specs.Places.{first_history}
use Rattle.redrive.specs.House.{House, new_house}
use Rattle.sqs_replay.specs.Answers.{state_after}
use Rattle.sqs_replay.specs.Served.{house_of_line}
use Rattle.sqs_replay.proofs.CourseLemmas.{Walk, configured-walk, course, spared}
use Rattle.sqs_replay.proofs.laws.lines_without_deletions_keep_one_place.Goals as goal

pub returns-clause-courses : goal.returns-clause-courses
returns-clause-courses c = λ config new here none.
    let kept = c.lines_keep_dead_letters.ensures config new here in
    let all = spared (first_history config 0) here.steps here.answers none in
    (kept.places all, kept.kept_places all)

pub returns-clause-lines : goal.returns-clause-lines
returns-clause-lines c = λ config lines are none.
    let left : House = state_after house_of_line (new_house config 0) lines in
    let walk : Walk false (new_house config 0) left = configured-walk false config lines (λ same. none) are in
    let here = course false (new_house config 0) left walk in
    let kept = c.lines_keep_dead_letters.ensures config left here in
    let all = spared (first_history config 0) walk.steps walk.answers (walk.quiet refl) in
    (here, walk.quiet refl, kept.places all, kept.kept_places all)
