-- When a message goes to the dead-letter queue, and the policy that an attribute's text asks for (Amazon SQS API Reference, RedrivePolicy;
-- which forms of a text are taken is this project's own choice).
use Rattle.std.specs.Prelude.{ℕ, ◌≤◌, nat_le, nat_eq, ◌&&◌, ◌==◌, if◌then◌else◌, List, codes, length, drop, Option, Some, None, option_map, option_and_then, Result, Ok, ok_or}
use Rattle.std.specs.List.{starts_with, after_first}
use Rattle.std.specs.Result.{result_ok}
use Rattle.message.specs.Name.{queue_name_of}
use Rattle.message.specs.declared.fault.Fault.{Fault}
use Rattle.message.specs.declared.fault.Fault.TheVariants.{InvalidAttributeValue}
use Rattle.serde_json.specs.Data.{Data}
use Rattle.serde_json.specs.Find.{get, as_number, as_u64, as_str}
use Rattle.serde_json.specs.Read.{read}
use Rattle.queue_config.specs.Decimal.{decimal_of}
use Rattle.queue_config.specs.declared.policy.RequestedPolicy.{RequestedPolicy}

-- after so many receives a message may go there
abbrev pub IsReceiveLimit : ℕ → Type 0
IsReceiveLimit n = (1 ≤ n) × (n ≤ 1000)

infixl 10 ◌>>=◌
-- what a value leads to, where there is one
abbrev pub ◌>>=◌ : {A B : Type 0} → Option A → (A → Option B) → Option B
Some x >>= next = next x
None >>= next = None

-- ---- the dead-letter queue

-- how the ARN of every queue begins
abbrev pub arn_start : List ℕ
arn_start = codes "arn:aws:sqs:"

-- what stands after that, where the text begins so
abbrev pub after_start : List ℕ → Option (List ℕ)
after_start text = if starts_with nat_eq text arn_start then Some (drop (length arn_start) text) else None

abbrev pub colon : ℕ
colon = 58

-- what stands after the first colon, or nothing where there is none
abbrev pub after_colon : List ℕ → List ℕ
after_colon text = after_first (λ c. c == colon) text

-- the name in an ARN: after the start come a region, a colon, an account, a colon and the name; any text without a colon may be region or account
abbrev pub name_in_arn : List ℕ → Option (List ℕ)
name_in_arn text = do
  rest ← after_start text
  result_ok (queue_name_of (after_colon (after_colon rest)))

-- ---- after how many receives

-- the digits of a text, or a whole number
abbrev pub count_of : Option (List ℕ) → Data → Option ℕ
count_of (Some text) d = decimal_of 4 text
count_of None d = option_and_then as_u64 (as_number d)

abbrev pub if_receive_limit : ℕ → Option ℕ
if_receive_limit n = if nat_le 1 n && nat_le n 1000 then Some n else None

abbrev pub receive_limit_in : Data → Option ℕ
receive_limit_in d = do
  n ← count_of (as_str d) d
  if_receive_limit n

-- ---- the policy

-- both members have to be there; others do not count
abbrev pub policy_in : Data → Option RequestedPolicy
policy_in d = do
  target ← get (codes "deadLetterTargetArn") d
  arn ← as_str target
  name ← name_in_arn arn
  count ← get (codes "maxReceiveCount") d
  limit ← receive_limit_in count
  Some (record { name = name; max_receive_count = limit })

-- the policy that a JSON object asks for
abbrev pub policy_of : List ℕ → Option RequestedPolicy
policy_of text = do
  d ← read text
  policy_in d

-- the empty text clears the policy
abbrev pub requested_policy : List ℕ → Result (Option RequestedPolicy) Fault
requested_policy text = if length text == 0 then Ok None else ok_or (option_map (λ policy. Some policy) (policy_of text)) InvalidAttributeValue
