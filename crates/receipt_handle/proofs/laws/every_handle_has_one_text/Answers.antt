use Rattle.std.proofs.Common.{sym, ◌∙◌}
use Rattle.receipt_handle.proofs.HandleLemmas.{text-from_handle_of}
use Rattle.receipt_handle.proofs.laws.every_handle_has_one_text.Goals as goal

pub returns-clause-own_text : goal.returns-clause-own_text
returns-clause-own_text c = text-from_handle_of

pub returns-clause-one_text : goal.returns-clause-one_text
returns-clause-one_text c = λ s t h first second. text-from_handle_of s h first ∙ sym (text-from_handle_of t h second)
