-- Statistics in the text format of Prometheus, version 0.0.4: for each metric a line `# HELP`, a line `# TYPE`, and a line for each queue.
-- Which metrics there are, their names and the words on them are this project's own; the names follow Prometheus's naming guide.
use Rattle.std.specs.Prelude.{ℕ, ◌==◌, List, [], ◌∷◌, ◌++◌, codes, decimal, if◌then◌else◌, flat_map}
use Rattle.std.specs.List.{concat}
use Rattle.alarm.specs.declared.state.AlarmState.{AlarmState}
use Rattle.alarm.specs.declared.state.AlarmState.TheVariants.{InsufficientData, Okay, Alarm}
use Rattle.alarm.specs.AlarmState.{alarm_state_name}
use Rattle.board.specs.Sheet.{Sheet}
use Rattle.statistics_api.specs.Texts.{by_name}
use Rattle.statistics_api.specs.declared.measure.Measure.{Measure}
use Rattle.statistics_api.specs.declared.served.Requested.{Requested}
use Rattle.statistics_api.specs.declared.served.ServerFacts.{ServerFacts}
use Rattle.statistics_api.specs.declared.measure.Measure.TheVariants.{Visible, Delayed, InFlight, Age, Entries, Sent, SentSize, Received, EmptyReceives, Deleted, Refused, DeadLettersArrived}

abbrev pub measure_name : Measure → List ℕ
measure_name Visible = codes "jutkariq_queue_messages_visible"
measure_name Delayed = codes "jutkariq_queue_messages_delayed"
measure_name InFlight = codes "jutkariq_queue_messages_in_flight"
measure_name Age = codes "jutkariq_queue_oldest_message_age_seconds"
measure_name Entries = codes "jutkariq_queue_journal_entries"
measure_name Sent = codes "jutkariq_queue_minute_messages_sent"
measure_name SentSize = codes "jutkariq_queue_minute_sent_bytes"
measure_name Received = codes "jutkariq_queue_minute_messages_received"
measure_name EmptyReceives = codes "jutkariq_queue_minute_empty_receives"
measure_name Deleted = codes "jutkariq_queue_minute_deletes"
measure_name Refused = codes "jutkariq_queue_minute_refused_calls"
measure_name DeadLettersArrived = codes "jutkariq_queue_minute_dead_letters_arrived"

abbrev pub measure_help : Measure → List ℕ
measure_help Visible = codes "Messages that a receive can take."
measure_help Delayed = codes "Messages whose delay is not over."
measure_help InFlight = codes "Messages that were received and not deleted, while they are hidden."
measure_help Age = codes "Age of the oldest message that was received fewer than three times."
measure_help Entries = codes "Entries of the journal; a checkpoint counts 1, and 1 more for each message that it keeps."
measure_help Sent = codes "Messages sent in the current minute."
measure_help SentSize = codes "Size of the messages sent in the current minute."
measure_help Received = codes "Messages received in the current minute."
measure_help EmptyReceives = codes "Receives without a message in the current minute."
measure_help Deleted = codes "Deletes in the current minute."
measure_help Refused = codes "Calls that the queue refused in the current minute."
measure_help DeadLettersArrived = codes "Dead letters that arrived in the current minute."

-- how much it is of a queue
abbrev pub measured : Measure → Sheet → ℕ
measured Visible s = s.gauges.visible
measured Delayed s = s.gauges.delayed
measured InFlight s = s.gauges.in_flight
measured Age s = s.gauges.age
measured Entries s = s.lines
measured Sent s = s.current.sent
measured SentSize s = s.current.sent_size
measured Received s = s.current.received
measured EmptyReceives s = s.current.empty_receives
measured Deleted s = s.current.deleted
measured Refused s = s.current.refused
measured DeadLettersArrived s = s.current.dead_letters_arrived

-- all of them, in the order in which they are told
abbrev pub measures : List Measure
measures =
    Visible ∷ Delayed ∷ InFlight ∷ Age ∷ Entries ∷ Sent ∷ SentSize ∷ Received ∷ EmptyReceives ∷ Deleted ∷ Refused
    ∷ DeadLettersArrived ∷ []

-- ---- texts

-- a byte of a label's value: a backslash, a quote and a line feed are escaped
abbrev pub escaped_byte : ℕ → List ℕ
escaped_byte c =
    if c == 92 then codes "\\\\"
    else if c == 34 then codes "\\\""
    else if c == 10 then codes "\\n"
    else c ∷ []

abbrev pub escaped : List ℕ → List ℕ
escaped text = flat_map escaped_byte text

-- the two lines before the numbers of a metric, which is a gauge or a counter
abbrev pub head_text : List ℕ → List ℕ → List ℕ → List ℕ
head_text kind name help = concat (codes "# HELP " ∷ name ∷ codes " " ∷ help ∷ codes "\n# TYPE " ∷ name ∷ codes " " ∷ kind ∷ codes "\n" ∷ [])

-- the line of a queue
abbrev pub sample_text : Measure → Sheet → List ℕ
sample_text m s = concat (measure_name m ∷ codes "{queue=\"" ∷ escaped s.name ∷ codes "\"} " ∷ decimal (measured m s) ∷ codes "\n" ∷ [])

-- a metric of these queues
abbrev pub family_text : List Sheet → Measure → List ℕ
family_text sheets m = head_text (codes "gauge") (measure_name m) (measure_help m) ++ flat_map (sample_text m) sheets

-- ---- alarms

-- 1 for the state that an alarm is in, and 0 for another
abbrev pub state_digit : AlarmState → AlarmState → List ℕ
state_digit InsufficientData InsufficientData = codes "1"
state_digit Okay Okay = codes "1"
state_digit Alarm Alarm = codes "1"
state_digit InsufficientData Okay = codes "0"
state_digit InsufficientData Alarm = codes "0"
state_digit Okay InsufficientData = codes "0"
state_digit Okay Alarm = codes "0"
state_digit Alarm InsufficientData = codes "0"
state_digit Alarm Okay = codes "0"

-- the line of one of the three states
abbrev pub state_text : List ℕ → List ℕ × AlarmState → AlarmState → List ℕ
state_text queue a state =
    concat (codes "jutkariq_queue_alarm_state{queue=\"" ∷ escaped queue ∷ codes "\",alarm=\"" ∷ escaped a.0 ∷ codes "\",state=\""
    ∷ alarm_state_name state ∷ codes "\"} " ∷ state_digit state a.1 ∷ codes "\n" ∷ [])

-- the lines of an alarm
abbrev pub alarm_text : List ℕ → List ℕ × AlarmState → List ℕ
alarm_text queue a = flat_map (state_text queue a) (Okay ∷ Alarm ∷ InsufficientData ∷ [])

-- those of a queue's alarms, in the order of the configuration
abbrev pub queue_alarms_text : Sheet → List ℕ
queue_alarms_text s = flat_map (alarm_text s.name) s.alarms

-- the alarms of these queues
abbrev pub alarms_family_text : List Sheet → List ℕ
alarms_family_text sheets =
    head_text (codes "gauge") (codes "jutkariq_queue_alarm_state") (codes "1 for the state that the alarm is in, 0 for the two others.")
    ++ flat_map queue_alarms_text sheets

-- ---- what a server tells of itself

-- the line of an action's requests that were answered with a status
abbrev pub request_text : Requested → List ℕ
request_text r =
    concat (codes "jutkariq_requests_total{action=\"" ∷ r.action.now ∷ codes "\",status=\"" ∷ decimal r.status ∷ codes "\"} " ∷ decimal r.count ∷ codes "\n" ∷ [])

-- those that it has answered since it was started
abbrev pub requests_family_text : List Requested → List ℕ
requests_family_text requests =
    head_text (codes "counter") (codes "jutkariq_requests_total") (codes "Requests answered since the server was started.") ++ flat_map request_text requests

-- which one it is
abbrev pub build_text : List ℕ → List ℕ
build_text version =
    head_text (codes "gauge") (codes "jutkariq_build_info") (codes "1 for the version of the server.")
    ++ concat (codes "jutkariq_build_info{version=\"" ∷ version ∷ codes "\"} 1\n" ∷ [])

-- when it was started
abbrev pub start_text : ℕ → List ℕ
start_text started =
    head_text (codes "gauge") (codes "process_start_time_seconds") (codes "When the server was started, in seconds since 1970.")
    ++ concat (codes "process_start_time_seconds " ∷ decimal started ∷ codes "\n" ∷ [])

abbrev pub served_text : ServerFacts → List ℕ
served_text s = requests_family_text s.requests.items ++ (build_text s.version.now ++ start_text s.started)

-- all metrics: those of queues, which stand in the order of their names, and behind them what the server tells of itself
abbrev pub metrics_text : List Sheet → List ℕ → List ℕ
metrics_text sheets own = flat_map (family_text (by_name sheets)) measures ++ (alarms_family_text (by_name sheets) ++ own)
