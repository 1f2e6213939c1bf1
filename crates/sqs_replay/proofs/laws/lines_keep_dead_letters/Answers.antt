use Rattle.std.proofs.Common.{map, subst}
use Rattle.redrive.specs.History.{AllQueues}
use Rattle.redrive.specs.HistorySteps.{Own}
use Rattle.redrive.specs.Places.{first_history, EachAcceptedOnce, EachHasOnePlace}
use Rattle.sqs_replay.proofs.laws.lines_keep_dead_letters.Goals as goal

pub returns : goal.returns
returns c = λ config new course.
    let own = map Own course.steps in
    let are = c.own_steps_are_history_steps.ensures.answered (first_history config 0) course.steps course.answers course.answered in
    let left = c.own_steps_are_history_steps.ensures.left (first_history config 0) course.steps course.answers in
    record {
      once = c.transfers_are_accepted_once.ensures.whole config 0 own course.answers are;
      fates = c.each_departure_has_its_fate.ensures config 0 own course.answers are;
      places = λ none. c.each_message_has_one_place.ensures.whole config 0 own course.answers are none;
      kept_once = subst (λ (all : AllQueues). EachAcceptedOnce all) left (c.transfers_are_accepted_once.ensures.kept config 0 own course.answers are);
      kept_places = λ none. subst (λ (all : AllQueues). EachHasOnePlace all) left (c.each_message_has_one_place.ensures.kept config 0 own course.answers are none);
    }
