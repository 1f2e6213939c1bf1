use Rattle.receipt_handle.proofs.HandleLemmas.{handle_of-handle_text}
use Rattle.receipt_handle.proofs.laws.every_handle_reads_back.Goals as goal

pub returns : goal.returns
returns c = handle_of-handle_text
