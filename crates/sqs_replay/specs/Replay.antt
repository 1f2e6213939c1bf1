-- What a whole replay writes.
use Rattle.std.specs.Prelude.{ℕ, List}
use Rattle.queue_config.specs.Config.{Configuration}
use Rattle.sqs_replay.specs.Answers.{replay_text}
use Rattle.redrive.specs.House.{new_house}
use Rattle.sqs_replay.specs.Served.{text_of_line, house_of_line}

-- the answers to the lines of an input, one after another, beginning with the configured queues, which open at the time 0
abbrev pub replay_output : Configuration → List ℕ → List ℕ
replay_output config input = replay_text text_of_line house_of_line (new_house config 0) input
