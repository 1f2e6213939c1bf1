-- What the port of the statistics answers (this project's own): the page at `/`, that the server is there at `/health`, the text for Prometheus at
-- `/metrics`, and at every other path what `answer_of` says. A status, a content type and a text.
use Rattle.std.specs.Prelude.{ℕ, Bool, ◌||◌, List, codes, if◌then◌else◌}
use Rattle.std.specs.Str.{bytes_eq}
use Rattle.board.specs.Sheet.{Sheet}
use Rattle.statistics_api.specs.Answer.{StatusText, answer_of, method_not_allowed}
use Rattle.statistics_api.specs.Metrics.{metrics_text}
use Rattle.statistics_api.specs.Text.{bytes_of}
use Rattle.statistics_api.specs.declared.page.TheConstants.{PAGE}
use Rattle.statistics_api.specs.declared.port.Response.{Response}

abbrev pub TypedText : Type 0
TypedText = ℕ × List ℕ × List ℕ

-- the status, the content type and the bytes of a response
abbrev pub told_by : Response → TypedText
told_by r = (r.status, r.content_type.now, bytes_of r.text)

abbrev pub as_json : StatusText → TypedText
as_json answer = (answer.0, codes "application/json", answer.1)

-- the page, which is a constant
abbrev pub page : TypedText
page = (200, codes "text/html; charset=utf-8", PAGE.now)

-- that the server is there
abbrev pub health : TypedText
health = as_json (200, codes "{\"status\":\"ok\"}")

-- a text for Prometheus
abbrev pub for_prometheus : List ℕ → TypedText
for_prometheus text = (200, codes "text/plain; version=0.0.4; charset=utf-8", text)

-- of queues, and what the server tells of itself
abbrev pub metrics : List Sheet → List ℕ → TypedText
metrics sheets own = for_prometheus (metrics_text sheets own)

-- what is told to the method `GET`, and to no other
abbrev pub if_get : List ℕ → TypedText → TypedText
if_get method told = if bytes_eq method (codes "GET") then told else as_json method_not_allowed

-- what is told to the methods `GET` and `HEAD`, and to no other; HTTP leaves out the text that answers `HEAD`
abbrev pub if_read : List ℕ → TypedText → TypedText
if_read method told = if bytes_eq method (codes "GET") || bytes_eq method (codes "HEAD") then told else as_json method_not_allowed

-- the paths at which a constant is told
abbrev pub is_constant : List ℕ → Bool
is_constant path = bytes_eq path (codes "/") || bytes_eq path (codes "/health")

-- what a method and a path are answered by these queues and by what the server tells of itself
abbrev pub response_of : List ℕ → List ℕ → List Sheet → List ℕ → TypedText
response_of method path sheets own =
    if bytes_eq path (codes "/") then if_read method page
    else if bytes_eq path (codes "/health") then if_read method health
    else if bytes_eq path (codes "/metrics") then if_get method (metrics sheets own)
    else as_json (answer_of method path sheets)
