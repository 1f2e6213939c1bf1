-- The settings of a queue, and the attributes that a request asks for (Amazon SQS API Reference, SetQueueAttributes).
use Rattle.std.specs.Prelude.{ℕ, ◌==◌, ◌&&◌, ◌||◌, nat_le, Bool, true, false, if◌then◌else◌, List, codes, Option, Some, None, option_map, unwrap_or, Result, Ok, Err}
use Rattle.std.specs.List.{list_all}
use Rattle.std.specs.Option.{ForSome}
use Rattle.std.specs.Str.{bytes_eq}
use Rattle.message.specs.declared.fault.Fault.{Fault}
use Rattle.message.specs.declared.fault.Fault.TheVariants.{InvalidAttributeName, InvalidAttributeValue}
use Rattle.queue_config.specs.Decimal.{decimal_of}
use Rattle.queue_config.specs.Policy.{IsReceiveLimit, requested_policy}
use Rattle.queue_config.specs.SettingRows.{setting_row, all_settings, setting_named, IsInRange}
use Rattle.queue_config.specs.declared.policy.RedrivePolicy.{RedrivePolicy}
use Rattle.queue_config.specs.declared.policy.RequestedPolicy.{RequestedPolicy}
use Rattle.queue_config.specs.declared.setting.Setting.{Setting}
use Rattle.queue_config.specs.declared.setting.Setting.TheVariants.{DelaySeconds, VisibilityTimeout, MessageRetentionPeriod, ReceiveMessageWaitTimeSeconds, MaximumMessageSize}

-- ---- one value a setting

-- a value for each setting that is a number, and one for the redrive policy
pub record PerSetting (T P : Type 0) : Type 0 where
  pub delay_seconds : T
  pub visibility_timeout : T
  pub retention_seconds : T
  pub wait_seconds : T
  pub maximum_message_size : T
  pub redrive_policy : P

abbrev pub per_setting : {T P : Type 0} → (Setting → T) → P → PerSetting T P
per_setting value policy = record {
  delay_seconds = value DelaySeconds;
  visibility_timeout = value VisibilityTimeout;
  retention_seconds = value MessageRetentionPeriod;
  wait_seconds = value ReceiveMessageWaitTimeSeconds;
  maximum_message_size = value MaximumMessageSize;
  redrive_policy = policy;
}

abbrev pub setting_value : {T P : Type 0} → Setting → PerSetting T P → T
setting_value DelaySeconds s = s.delay_seconds
setting_value VisibilityTimeout s = s.visibility_timeout
setting_value MessageRetentionPeriod s = s.retention_seconds
setting_value ReceiveMessageWaitTimeSeconds s = s.wait_seconds
setting_value MaximumMessageSize s = s.maximum_message_size

abbrev pub with_setting_value : {T P : Type 0} → Setting → T → PerSetting T P → PerSetting T P
with_setting_value DelaySeconds x s = record s { delay_seconds = x }
with_setting_value VisibilityTimeout x s = record s { visibility_timeout = x }
with_setting_value MessageRetentionPeriod x s = record s { retention_seconds = x }
with_setting_value ReceiveMessageWaitTimeSeconds x s = record s { wait_seconds = x }
with_setting_value MaximumMessageSize x s = record s { maximum_message_size = x }

-- it holds of each setting that is a number and of its value
pub record EachSetting {T P : Type 0} (Q : Setting → T → Type 0) (s : PerSetting T P) : Type 0 where
  pub delay_seconds : Q DelaySeconds s.delay_seconds
  pub visibility_timeout : Q VisibilityTimeout s.visibility_timeout
  pub retention_seconds : Q MessageRetentionPeriod s.retention_seconds
  pub wait_seconds : Q ReceiveMessageWaitTimeSeconds s.wait_seconds
  pub maximum_message_size : Q MaximumMessageSize s.maximum_message_size

-- ---- the settings of a queue

abbrev pub QueueSettings : Type 0
QueueSettings = PerSetting ℕ (Option RedrivePolicy)

-- each number is in its range, and that of receives too where there is a policy
pub record AreSettings (s : QueueSettings) : Type 0 where
  pub numbers : EachSetting (λ setting n. IsInRange setting n) s
  pub policy : ForSome s.redrive_policy (λ policy. IsReceiveLimit policy.max_receive_count)

abbrev pub default_settings : QueueSettings
default_settings = per_setting (λ setting. (setting_row setting).default) None

-- the same queue after the same number of receives, or none in both
abbrev pub same_policies : Option RedrivePolicy → Option RedrivePolicy → Bool
same_policies None None = true
same_policies None (Some q) = false
same_policies (Some p) None = false
same_policies (Some p) (Some q) = (p.target == q.target) && bytes_eq p.name q.name && (p.max_receive_count == q.max_receive_count)

abbrev pub same_settings : QueueSettings → QueueSettings → Bool
same_settings s t =
    list_all (λ setting. setting_value setting s == setting_value setting t) all_settings && same_policies s.redrive_policy t.redrive_policy

-- no policy where its dead-letter queue is this one
abbrev pub policy_without : Option RedrivePolicy → ℕ → Option RedrivePolicy
policy_without None uid = None
policy_without (Some policy) uid = if policy.target == uid then None else Some policy

-- the settings without a policy for this queue
abbrev pub without_target : QueueSettings → ℕ → QueueSettings
without_target s uid = record s { redrive_policy = policy_without s.redrive_policy uid }

-- ---- what a request asks for

-- a number for each attribute that the request names. The policy: None asks for nothing, Some None clears it, and Some (Some p) asks for p
abbrev pub RequestedAttributes : Type 0
RequestedAttributes = PerSetting (Option ℕ) (Option (Option RequestedPolicy))

abbrev pub no_requested_attributes : RequestedAttributes
no_requested_attributes = per_setting (λ setting. None) None

-- the name of the dead-letter queue that is asked for: None asks for nothing, and Some None clears it
abbrev pub requested_target : RequestedAttributes → Option (Option (List ℕ))
requested_target requested = option_map (λ asked. option_map (λ policy. policy.name) asked) requested.redrive_policy

-- the policy with what is requested in its place; the requested name stands for this queue
abbrev pub policy_with : Option RedrivePolicy → Option (Option RequestedPolicy) → ℕ → Option RedrivePolicy
policy_with policy None target = policy
policy_with policy (Some None) target = None
policy_with policy (Some (Some asked)) target = Some (record { target = target; name = asked.name; max_receive_count = asked.max_receive_count })

-- the settings with what is requested in its place; the requested name stands for this queue
abbrev pub settings_with : QueueSettings → RequestedAttributes → ℕ → QueueSettings
settings_with s requested target =
    per_setting (λ setting. unwrap_or (setting_value setting requested) (setting_value setting s))
    (policy_with s.redrive_policy requested.redrive_policy target)

abbrev pub number_within : ℕ → ℕ → Option ℕ → Result ℕ Fault
number_within least most None = Err InvalidAttributeValue
number_within least most (Some n) = if nat_le least n && nat_le n most then Ok n else Err InvalidAttributeValue

-- the number in the setting's range that a text of 1 to 9 digits is
abbrev pub requested_number : Setting → List ℕ → Result ℕ Fault
requested_number setting value = number_within (setting_row setting).least (setting_row setting).most (decimal_of 9 value)

-- the requested attributes with one more number, where it is one
abbrev pub request_number : RequestedAttributes → Setting → Result ℕ Fault → Result RequestedAttributes Fault
request_number requested setting (Ok n) = Ok (with_setting_value setting (Some n) requested)
request_number requested setting (Err fault) = Err fault

-- the names whose values are ignored: what they ask for does not exist here
abbrev pub is_ignored_attribute : List ℕ → Bool
is_ignored_attribute name =
    bytes_eq name (codes "Policy") || bytes_eq name (codes "KmsMasterKeyId") || bytes_eq name (codes "KmsDataKeyReusePeriodSeconds")
    || bytes_eq name (codes "SqsManagedSseEnabled") || bytes_eq name (codes "RedriveAllowPolicy")

-- the requested attributes with this policy, or with the clearing of the policy
abbrev pub with_policy : Option RequestedPolicy → RequestedAttributes → RequestedAttributes
with_policy policy requested = record requested { redrive_policy = Some policy }

abbrev pub request_policy : RequestedAttributes → Result (Option RequestedPolicy) Fault → Result RequestedAttributes Fault
request_policy requested (Ok policy) = Ok (with_policy policy requested)
request_policy requested (Err fault) = Err fault

-- a setting of the name asks for its number, and RedrivePolicy for a policy; an ignored name asks for nothing; any other is unknown
abbrev pub request_of : Option Setting → RequestedAttributes → List ℕ → List ℕ → Result RequestedAttributes Fault
request_of (Some setting) requested name value = request_number requested setting (requested_number setting value)
request_of None requested name value =
    if bytes_eq name (codes "RedrivePolicy") then request_policy requested (requested_policy value)
    else if is_ignored_attribute name then Ok requested
    else Err InvalidAttributeName

-- the requested attributes after one more name and value, or what is wrong with these
abbrev pub request_attribute : RequestedAttributes → List ℕ → List ℕ → Result RequestedAttributes Fault
request_attribute requested name value = request_of (setting_named name) requested name value

-- what the call that requests one more attribute answers, with the request that it leaves
abbrev pub put_answer : {T : Type 0} → Result T Fault → RequestedAttributes → Result RequestedAttributes Fault
put_answer (Ok x) left = Ok left
put_answer (Err fault) left = Err fault
