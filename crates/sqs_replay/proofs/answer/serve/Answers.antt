use Rattle.std.proofs.Common.{subst}
use Rattle.std.specs.Prelude.{List, ℕ, Option}
use Rattle.sqs_replay.specs.private.Place.{IsPlaceOf}
use Rattle.sqs_replay.proofs.StepLemmas.{begun_queue, begun_served}
use Rattle.sqs_replay.proofs.answer.serve.Goals as goal

pub returns : goal.returns
returns c =
    let both = begun_served c.args.house.now c.serve_task.new.house c.args.at c.serve_task.result.answer c.args.request c.task_of-task.result c.task_of-task.ensures
    c.serve_task.ensures.answer c.serve_task.ensures.state in
    record {
      place =
          subst (λ (queue : Option (List ℕ)). IsPlaceOf c.serve_task.new.house queue c.serve_task.result.place)
          (begun_queue c.args.request c.task_of-task.result c.task_of-task.ensures) c.serve_task.ensures.place;
      answer = both.0;
      state = both.1;
    }
