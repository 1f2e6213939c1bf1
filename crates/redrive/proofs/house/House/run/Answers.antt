use Rattle.std.proofs.Common.{◌≡◌, ◌+◌, ◌∷◌, drop, arith, sym, ap, subst, ◌∙◌}
use Rattle.std.proofs.lemmas.List.{drop_more}
use Rattle.redrive.specs.declared.steps.HouseStep.{HouseStep}
use Rattle.redrive.specs.House.{House, queue_of_uid}
use Rattle.redrive.specs.HouseSteps.{IsAsIfAlone}
use Rattle.redrive.proofs.RunLemmas.{AreAnswered, Continues-step, Continues-end, AreHouseAnswers-run, IsAsIfAlone-run, IsWholeHistory-run, AreTold-run}
use Rattle.redrive.proofs.house.House.run.Goals as goal

pub loop-step-preserved : goal.loop-step-preserved
loop-step-preserved c =
    let steps = c.args.steps.now in
    let i = c.loop-step.step-index in
    let left : drop i steps ≡ c.step-item.result ∷ drop (i + 1) steps =
    drop_more steps i c.step-item.result (omega arith) ∙ ap (λ (step : HouseStep). step ∷ drop (i + 1) steps) (sym c.step-item.is) in
    record {
      counted = omega arith;
      room = omega arith;
      continues =
          rw c.push_reserved.ensures.items
          (Continues-step c.args.ticks.now c.args.self.now steps c.loop-step.answers.items c.loop-step.ticks c.take_step-answer.new.ticks c.loop-step.self (drop i steps) (drop (i + 1) steps) c.step-item.result
          c.take_step-answer.result c.take_step-answer.new.self c.loop-step.invariant.continues left c.take_step-answer.ensures.registry c.take_step-answer.ensures.done);
    }

pub returns : goal.returns
returns c =
    let w = c.args.self.now in
    let steps = c.args.steps.now in
    let answers = c.loop-step.answers.items in
    let h = Continues-end c.args.ticks.now w steps answers c.loop-step.ticks c.loop-step.self c.loop-step.step-index (omega arith) c.loop-step.invariant.continues in
    record {
      answers = AreHouseAnswers-run w steps answers h.answered;
      state = h.state;
      alone = λ uid.
          subst (λ (x : House). IsAsIfAlone w uid (queue_of_uid w uid) steps answers (queue_of_uid x uid)) (sym h.state) (IsAsIfAlone-run w steps answers uid h.answered);
      history = λ all is whole. IsWholeHistory-run all steps answers (subst (λ (x : House). AreAnswered x steps answers) (sym is) h.answered) whole;
      recomputed = record { told = AreTold-run w steps answers h.answered; measured = c.measure.ensures };
      err = tt;
      cost = h.within;
      calm = tt;
      errors = tt;
    }
