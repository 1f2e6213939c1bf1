use Rattle.plain_queue.proofs.numbering.Messages.of.Goals as goal

pub returns-clause-few : goal.returns-clause-few
returns-clause-few c = c.are_numbered.ensures
