use Rattle.sqs_replay.proofs.GrammarLemmas.{input_line_of-form, input_line_of-reads}
use Rattle.sqs_replay.proofs.input_line.line_form.Goals as goal

pub returns-clause-form : goal.returns-clause-form
returns-clause-form c = input_line_of-form

pub returns-clause-reads : goal.returns-clause-reads
returns-clause-reads c = input_line_of-reads
