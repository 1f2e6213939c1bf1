use Rattle.std.proofs.Common.{◌≡◌, Result, sym, subst}
use Rattle.std.specs.Prelude.{IfOk}
use Rattle.message.specs.declared.fault.Fault.{Fault}
use Rattle.sqs_replay.specs.declared.shown.LineAnswer.{LineAnswer}
use Rattle.sqs_replay.specs.Served.{answer_text}
use Rattle.sqs_replay.proofs.AnswerLemmas.{refusal_written}
use Rattle.sqs_replay.proofs.answer.text_of_answer.Goals as goal

pub returns-in-Err-clause-text : goal.returns-in-Err-clause-text
returns-in-Err-clause-text c =
    subst (λ (a : Result LineAnswer Fault). IfOk c.written-in-Err.result (λ bytes. bytes.items ≡ answer_text a)) (sym c.in-Err.is)
    (refusal_written c.in-Err.fault c.status.result c.fault_text.result.now c.written-in-Err.result c.status.ensures c.fault_text.ensures.text c.written-in-Err.ensures.text)
