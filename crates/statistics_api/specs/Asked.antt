-- Of which queues a request asks for statistics.
use Rattle.std.specs.Prelude.{◌≡◌, ℕ, Bool, false, ◌||◌, List, [], codes, option_to_list}
use Rattle.std.specs.Str.{bytes_eq}
use Rattle.board.specs.Sheet.{Sheet}
use Rattle.statistics_api.specs.Answer.{sheet_named}
use Rattle.statistics_api.specs.Response.{is_constant, response_of}
use Rattle.statistics_api.specs.declared.asked.AskedSheets.{AskedSheets}
use Rattle.statistics_api.specs.declared.asked.AskedSheets.TheVariants.{Nothing, Queues, Queue}

-- those of all queues that a request asks for
abbrev pub taken : AskedSheets → List Sheet → List Sheet
taken Nothing sheets = []
taken Queues sheets = sheets
taken (Queue name) sheets = option_to_list (sheet_named name.now sheets)

-- whether a path asks for all queues
abbrev pub is_of_all : List ℕ → Bool
is_of_all path = bytes_eq path (codes "/metrics") || bytes_eq (codes "/statistics/queues") path

-- a request is answered with numbers, where there are such: it is not one for a constant, nor one that is refused by its method and path alone
abbrev pub TellsOfQueues : List ℕ → List ℕ → Type 0
TellsOfQueues method path = (sheets : List Sheet) × (own : List ℕ) × ((response_of method path sheets own).0 ≡ 200) × (is_constant path ≡ false)
