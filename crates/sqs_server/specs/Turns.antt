-- What holds of a request that waits.
use Rattle.std.specs.Prelude.{⊤}
use Rattle.sqs_server.specs.declared.stage.Polled.{Polled}
use Rattle.sqs_server.specs.declared.stage.Polled.TheVariants.{Goes, Waits}
use Rattle.sqs_server.specs.declared.stage.Stage.{Stage}

-- a fact of the stage at which a request waits
abbrev pub OnWaits : {R : Type 0} → Polled R → (Stage R → Type 0) → Type 0
OnWaits (Waits stage) P = P stage
OnWaits (Goes next) P = ⊤
