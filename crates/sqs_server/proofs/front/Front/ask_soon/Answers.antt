use Rattle.sqs_server.proofs.front.Front.ask_soon.Goals as goal

pub returns-in-Ok-clause-asked : goal.returns-in-Ok-clause-asked
returns-in-Ok-clause-asked g c = (c.in-Ok.told, c.in-Ok.ensures.answer, c.regain.ensures)
