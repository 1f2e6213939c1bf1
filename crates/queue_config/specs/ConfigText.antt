-- The configuration that a text is, or the first fault. The text is TOML 1.1; its tables, their keys, and the order of the faults are this project's own.
use Rattle.std.specs.Prelude.{ℕ, nat_lt, Bool, true, false, ◌&&◌, ◌||◌, if◌then◌else◌, List, [], ◌∷◌, map, length, codes, Option, Some, None, Result, Ok, Err, ok_or}
use Rattle.std.specs.Str.{bytes_eq, is_utf8}
use Rattle.toml.specs.Data.{Data, Members, no_members, member, get_member, as_table}
use Rattle.toml.specs.Parse.{parse_document}
use Rattle.queue_config.specs.AlarmText.{alarm_in, have_too_many_alarms, have_equal_alarms, configured_alarms}
use Rattle.queue_config.specs.Limits.{QueueLimits, max_lines_row, in_flight_row, default_limits}
use Rattle.queue_config.specs.SettingRows.{setting_row, all_settings}
use Rattle.queue_config.specs.Settings.{default_settings, no_requested_attributes, requested_target, with_setting_value, with_policy, settings_with}
use Rattle.queue_config.specs.Config.{Configuration, configured_uid, most_queues}
use Rattle.queue_config.specs.ConfigKeys.{◌>>=◌, KeyRow, number_key, name_key, with_keys, tables_in, with_each}
use Rattle.queue_config.specs.declared.config.ConfiguredQueue.{ConfiguredQueue}
use Rattle.queue_config.specs.declared.config_fault.ConfigFault.{ConfigFault}
use Rattle.queue_config.specs.declared.config_fault.ConfigFault.TheVariants.{Syntax, UnknownKey, WrongKind, OutOfRange, NameTwice, NoSuchTarget}
use Rattle.queue_config.specs.declared.config_text.QueueTable.{QueueTable}
use Rattle.queue_config.specs.declared.requested_alarms.RequestedAlarm.{RequestedAlarm}
use Rattle.queue_config.specs.declared.requested_queues.RequestedQueue.{RequestedQueue}
use Rattle.queue_config.specs.declared.policy.RequestedPolicy.{RequestedPolicy}
use Rattle.queue_config.specs.declared.setting.Setting.{Setting}

-- ---- limits

abbrev pub limit_keys : List (KeyRow QueueLimits)
limit_keys =
    number_key in_flight_row.key in_flight_row.least in_flight_row.most (λ limits n. record limits { in_flight = n })
    ∷ number_key max_lines_row.key max_lines_row.least max_lines_row.most (λ limits n. record limits { max_lines = n })
    ∷ []

-- those of the table, where there is one
abbrev pub limits_in : Option Data → Result QueueLimits ConfigFault
limits_in None = Ok default_limits
limits_in (Some d) = do
  table ← ok_or (as_table d) WrongKind
  with_keys limit_keys default_limits table

-- ---- queues

-- a setting, by its row in the table of settings
abbrev pub setting_key : Setting → KeyRow QueueTable
setting_key setting =
    number_key (setting_row setting).key (setting_row setting).least (setting_row setting).most
    (λ queue n. record queue { wish = with_setting_value setting (Some n) queue.wish })

abbrev pub queue_keys : List (KeyRow QueueTable)
queue_keys =
    name_key (codes "name") (λ queue name. record queue { name = Some name })
    ∷ name_key (codes "dead_letter_queue") (λ queue name. record queue { dead_letter_queue = Some name })
    ∷ number_key (codes "max_receive_count") 1 1000 (λ queue n. record queue { max_receive_count = Some n })
    ∷ map setting_key all_settings

-- a table that has said nothing yet
abbrev pub no_keys : QueueTable
no_keys = record { name = None; dead_letter_queue = None; max_receive_count = None; wish = no_requested_attributes }

-- the two keys of a policy stand together, or neither is there
abbrev pub policy_of_keys : Option (List ℕ) → Option ℕ → Result (Option RequestedPolicy) ConfigFault
policy_of_keys None None = Ok None
policy_of_keys None (Some n) = Err WrongKind
policy_of_keys (Some name) None = Err WrongKind
policy_of_keys (Some name) (Some n) = Ok (Some (record { name = name; max_receive_count = n }))

-- after its keys, the name has to be there, and both keys of a policy or neither
abbrev pub queue_of_table : QueueTable → Result RequestedQueue ConfigFault
queue_of_table queue = do
  name ← ok_or queue.name WrongKind
  policy ← policy_of_keys queue.dead_letter_queue queue.max_receive_count
  Ok (record { name = name; wish = with_policy policy queue.wish })

abbrev pub queue_in : Data → Result RequestedQueue ConfigFault
queue_in d = do
  table ← ok_or (as_table d) WrongKind
  queue ← with_keys queue_keys no_keys table
  queue_of_table queue

-- ---- all of them together

-- whether one of these queues has the name
abbrev pub has_name : List ℕ → List RequestedQueue → Bool
has_name name [] = false
has_name name (q ∷ qs) = bytes_eq name q.name || has_name name qs

abbrev pub have_equal_names : List RequestedQueue → Bool
have_equal_names [] = false
have_equal_names (q ∷ qs) = has_name q.name qs || have_equal_names qs

-- the uid of a dead-letter queue, which has to be another of the queues with these names; 0 where there is none
abbrev pub target_among : List (List ℕ) → List ℕ → Option (Option (List ℕ)) → Result ℕ ConfigFault
target_among names own None = Ok 0
target_among names own (Some None) = Ok 0
target_among names own (Some (Some name)) = if bytes_eq name own then Err NoSuchTarget else ok_or (configured_uid name names) NoSuchTarget

-- the settings that a queue asks for, with the uid of its dead-letter queue
abbrev pub configured_queue : List (List ℕ) → RequestedQueue → Result ConfiguredQueue ConfigFault
configured_queue names queue = do
  target ← target_among names queue.name (requested_target queue.wish)
  Ok (record { name = queue.name; settings = settings_with default_settings queue.wish target })

abbrev pub configured_queues : List RequestedQueue → Result (List ConfiguredQueue) ConfigFault
configured_queues queues = with_each (λ queue. configured_queue (map (λ q. q.name) queues) queue) [] queues

-- how many there are, queues and alarms of each; then their names; and then the queues that they name
abbrev pub together : QueueLimits → List RequestedQueue → List RequestedAlarm → Result Configuration ConfigFault
together limits queues alarms =
    if nat_lt most_queues (length queues) then Err OutOfRange
    else if have_too_many_alarms alarms then Err OutOfRange
    else if have_equal_names queues then Err NameTwice
    else if have_equal_alarms alarms then Err NameTwice
    else do
      configured ← configured_queues queues
      rules ← configured_alarms (map (λ q. q.name) queues) alarms
      Ok (record { limits = limits; queues = configured; alarms = rules })

-- ---- the whole

abbrev pub is_top_key : List ℕ → Bool
is_top_key key = bytes_eq key (codes "limits") || bytes_eq key (codes "queue") || bytes_eq key (codes "alarm")

abbrev pub have_top_keys : Members → Bool
have_top_keys no_members = true
have_top_keys (member key d rest) = is_top_key key && have_top_keys rest

-- the limits come first, then the queues in their order, then the alarms in theirs, and then what is judged of all together
abbrev pub configuration_in : Members → Result Configuration ConfigFault
configuration_in table = do
  limits ← limits_in (get_member (codes "limits") table)
  queues ← tables_in queue_in (get_member (codes "queue") table)
  alarms ← tables_in alarm_in (get_member (codes "alarm") table)
  together limits queues alarms

-- an unknown key at the top comes before every table
abbrev pub configuration_of_table : Members → Result Configuration ConfigFault
configuration_of_table table = if have_top_keys table then configuration_in table else Err UnknownKey

abbrev pub configuration_of : List ℕ → Result Configuration ConfigFault
configuration_of text = do
  table ← ok_or (parse_document text) Syntax
  configuration_of_table table

-- the same of bytes, which may be no text
abbrev pub configuration_of_bytes : List ℕ → Result Configuration ConfigFault
configuration_of_bytes bytes = if is_utf8 bytes then configuration_of bytes else Err Syntax

-- ---- for private clauses
