-- Statistics as JSON (this project's own resource); a member is put at its key's place, so keys stand in byte order.
use Rattle.std.specs.Prelude.{ℕ, List, [], ◌∷◌, codes}
use Rattle.message.specs.Order.{sorted, text_before}
use Rattle.alarm.specs.declared.state.AlarmState.{AlarmState}
use Rattle.alarm.specs.AlarmState.{alarm_state_name}
use Rattle.board.specs.Sheet.{Sheet}
use Rattle.metric_window.specs.declared.flows.Flows.{Flows}
use Rattle.metric_window.specs.declared.gauges.Gauges.{Gauges}
use Rattle.metric_window.specs.declared.row.Row.{Row}
use Rattle.serde_json.specs.Data.{Data, unsigned, number, string, array, object, Items, no_items, item, Members, no_members, member, put}
use Rattle.serde_json.specs.Written.{compact_text}

-- a whole number put among the members
abbrev pub put_count : List ℕ → ℕ → Members → Members
put_count key n members = put key (number (unsigned n)) members

-- what happened in a minute, put among the members
abbrev pub put_flows : Flows → Members → Members
put_flows f members =
    put_count (codes "sentSize") f.sent_size
    (put_count (codes "sent") f.sent
    (put_count (codes "refused") f.refused
    (put_count (codes "received") f.received
    (put_count (codes "emptyReceives") f.empty_receives
    (put_count (codes "deleted") f.deleted
    (put_count (codes "deadLettersArrived") f.dead_letters_arrived members))))))

-- what stands in a queue, put among the members
abbrev pub put_gauges : Gauges → Members → Members
put_gauges g members =
    put_count (codes "visible") g.visible
    (put_count (codes "inFlight") g.in_flight
    (put_count (codes "delayed") g.delayed
    (put_count (codes "age") g.age members)))

-- what happened in a minute
abbrev pub flows_data : Flows → Data
flows_data f = object (put_flows f no_members)

-- a minute: what happened in it, and what stood there at its end
abbrev pub row_data : Row → Data
row_data r = object (put_flows r.flows (put_gauges r.gauges (put_count (codes "minute") r.minute no_members)))

-- a queue
abbrev pub sheet_data : Sheet → Data
sheet_data s =
    object (put (codes "name") (string s.name)
    (put_count (codes "lines") s.lines
    (put (codes "current") (flows_data s.current)
    (put_count (codes "clock") s.clock (put_gauges s.gauges no_members)))))

-- an alarm
abbrev pub alarm_data : List ℕ × AlarmState → Data
alarm_data a = object (member (codes "name") (string a.0) (member (codes "state") (string (alarm_state_name a.1)) no_members))

-- these, one after another
abbrev pub items_by : {X : Type 0} → (X → Data) → List X → Items
items_by data_of [] = no_items
items_by data_of (x ∷ xs) = item (data_of x) (items_by data_of xs)

abbrev pub list_data : {X : Type 0} → List ℕ → (X → Data) → List X → Data
list_data key data_of xs = object (member key (array (items_by data_of xs)) no_members)

-- ---- by name

-- in the order of their names' bytes; queues of one name stay in the order that they have
abbrev pub by_name : List Sheet → List Sheet
by_name sheets = sorted (λ s t. text_before s.name t.name) sheets

-- ---- texts, without blanks

abbrev pub sheet_text : Sheet → List ℕ
sheet_text s = compact_text (sheet_data s)

abbrev pub sheets_text : List Sheet → List ℕ
sheets_text ss = compact_text (list_data (codes "queues") sheet_data (by_name ss))

abbrev pub rows_text : List Row → List ℕ
rows_text rows = compact_text (list_data (codes "rows") row_data rows)

abbrev pub alarms_text : List (List ℕ × AlarmState) → List ℕ
alarms_text alarms = compact_text (list_data (codes "alarms") alarm_data alarms)
