-- What a request for statistics is answered (this project's own resource): a status and a text.
use Rattle.std.specs.Prelude.{ℕ, List, codes, Option, Some, None, if◌then◌else◌}
use Rattle.std.specs.List.{find}
use Rattle.std.specs.Str.{bytes_eq}
use Rattle.board.specs.Sheet.{Sheet}
use Rattle.statistics_api.specs.Routes.{target_of}
use Rattle.statistics_api.specs.Texts.{sheet_text, sheets_text, rows_text, alarms_text}
use Rattle.statistics_api.specs.declared.routes.Route.{Route}
use Rattle.statistics_api.specs.declared.routes.Route.TheVariants.{Queues, Queue, Rows, Alarms}

abbrev pub StatusText : Type 0
StatusText = ℕ × List ℕ

abbrev pub not_found : StatusText
not_found = (404, codes "{\"message\":\"not found\"}")

abbrev pub method_not_allowed : StatusText
method_not_allowed = (405, codes "{\"message\":\"method not allowed\"}")

abbrev pub out_of_memory : StatusText
out_of_memory = (500, codes "{\"message\":\"out of memory\"}")

-- the first queue of a name
abbrev pub sheet_named : List ℕ → List Sheet → Option Sheet
sheet_named name sheets = find (λ s. bytes_eq s.name name) sheets

-- what a path tells of a queue
abbrev pub text_of : Route → Sheet → List ℕ
text_of Queues s = sheet_text s
text_of Queue s = sheet_text s
text_of Rows s = rows_text s.rows
text_of Alarms s = alarms_text s.alarms

abbrev pub of_queue : Route → Option Sheet → StatusText
of_queue route None = not_found
of_queue route (Some s) = (200, text_of route s)

-- what is told where the method is allowed
abbrev pub told : Route → List ℕ → List Sheet → StatusText
told Queues name sheets = (200, sheets_text sheets)
told Queue name sheets = of_queue Queue (sheet_named name sheets)
told Rows name sheets = of_queue Rows (sheet_named name sheets)
told Alarms name sheets = of_queue Alarms (sheet_named name sheets)

-- the method is judged where there is such a path, and before the queue is looked for
abbrev pub if_allowed : List ℕ → Option (Route × List ℕ) → List Sheet → StatusText
if_allowed method None sheets = not_found
if_allowed method (Some target) sheets = if bytes_eq method (codes "GET") then told target.0 target.1 sheets else method_not_allowed

abbrev pub answer_of : List ℕ → List ℕ → List Sheet → StatusText
answer_of method path sheets = if_allowed method (target_of path) sheets
