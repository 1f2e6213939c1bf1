use Rattle.std.proofs.Common.{ℕ, List, refl, sym, subst, ◌∙◌}
use Rattle.std.proofs.lemmas.Bool.{false≢true}
use Rattle.queue_config.specs.ConfigFault.{IsReadAs}
use Rattle.queue_config.specs.ConfigText.{configuration_of}
use Rattle.queue_config.proofs.Utf8Lemmas.{tested_text, tested_no_text}
use Rattle.queue_config.proofs.config_text.config_from_bytes.Goals as goal

pub returns-in-Ok-clause-config : goal.returns-in-Ok-clause-config
returns-in-Ok-clause-config c =
    rw (tested_text c.args.bytes.now c.in-Ok.ensures.cases.1)
    (subst (λ (text : List ℕ). IsReadAs c.config_from_text.result (configuration_of text)) c.in-Ok.ensures.cases.0 c.config_from_text.ensures.config)

pub returns-in-Err-clause-config : goal.returns-in-Err-clause-config
returns-in-Err-clause-config c = rw (tested_no_text c.args.bytes.now c.in-Err.ensures.cases.0) refl

pub returns-in-Ok-clause-no_text : goal.returns-in-Ok-clause-no_text
returns-in-Ok-clause-no_text c none = absurd (false≢true (sym none ∙ tested_text c.args.bytes.now c.in-Ok.ensures.cases.1))
