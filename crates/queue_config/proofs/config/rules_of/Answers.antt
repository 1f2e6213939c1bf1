use Rattle.std.proofs.Common.{◌≡◌, ◌≢◌, ℕ, ◌+◌, ◌<◌, Bool, true, false, cond, nat_eq, List, [], ◌∷◌, ◌++◌, length, get_or, take, map, Vec, sym, ap, ◌∙◌, arith}
use Rattle.std.specs.Prelude.{filter}
use Rattle.std.proofs.lemmas.Bool.Decides.{nat_tests}
use Rattle.std.proofs.lemmas.List.{append-nil, map-append, take_all}
use Rattle.std.proofs.lemmas.List.Elements.{filter_more}
use Rattle.std.specs.Global.{Global}
use Rattle.queue_config.specs.AlarmRules.{Rule}
use Rattle.queue_config.specs.Config.{rules_of}
use Rattle.queue_config.specs.declared.config.ConfiguredAlarm.{ConfiguredAlarm}
use Rattle.queue_config.proofs.config.rules_of.Goals.{then-alarm-uid+in_ok-push, else-alarm-uid}
use Rattle.queue_config.proofs.config.rules_of.Goals as goal

rules_of-more : (alarms : List ConfiguredAlarm) (uid i : ℕ) (alarm : ConfiguredAlarm) → i < length alarms → alarm ≡ get_or alarms i alarm
    → rules_of (take (i + 1) alarms) uid ≡ map (λ a. a.rule) (filter (λ a. nat_eq a.queue uid) (take i alarms) ++ cond (nat_eq alarm.queue uid) (alarm ∷ []) [])
rules_of-more alarms uid i alarm inside here =
    ap (map (λ (a : ConfiguredAlarm). a.rule)) (filter_more (λ (a : ConfiguredAlarm). nat_eq a.queue uid) alarms i alarm inside
    ∙ ap (λ (a : ConfiguredAlarm). filter (λ a. nat_eq a.queue uid) (take i alarms) ++ cond (nat_eq a.queue uid) (a ∷ []) []) (sym here))

rules_of-own : (alarms : List ConfiguredAlarm) (uid i : ℕ) (alarm : ConfiguredAlarm) → i < length alarms → alarm ≡ get_or alarms i alarm → alarm.queue ≡ uid
    → rules_of (take (i + 1) alarms) uid ≡ rules_of (take i alarms) uid ++ alarm.rule ∷ []
rules_of-own alarms uid i alarm inside here own =
    let yes_own : nat_eq alarm.queue uid ≡ true = grind (arith, nat_tests) in
    rules_of-more alarms uid i alarm inside here
    ∙ ap (λ (b : Bool). map (λ a. a.rule) (filter (λ a. nat_eq a.queue uid) (take i alarms) ++ cond b (alarm ∷ []) [])) yes_own
    ∙ map-append (λ (a : ConfiguredAlarm). a.rule) (filter (λ a. nat_eq a.queue uid) (take i alarms)) (alarm ∷ [])

rules_of-other : (alarms : List ConfiguredAlarm) (uid i : ℕ) (alarm : ConfiguredAlarm) → i < length alarms → alarm ≡ get_or alarms i alarm → alarm.queue ≢ uid
    → rules_of (take (i + 1) alarms) uid ≡ rules_of (take i alarms) uid
rules_of-other alarms uid i alarm inside here other =
    let no_own : nat_eq alarm.queue uid ≡ false = grind (arith, nat_tests) in
    rules_of-more alarms uid i alarm inside here
    ∙ ap (λ (b : Bool). map (λ a. a.rule) (filter (λ a. nat_eq a.queue uid) (take i alarms) ++ cond b (alarm ∷ []) [])) no_own
    ∙ ap (map (λ (a : ConfiguredAlarm). a.rule)) (append-nil (filter (λ a. nat_eq a.queue uid) (take i alarms)))

pub loop-alarm-init : goal.loop-alarm-init
loop-alarm-init c = c.new-rules.ensures.items

pub loop-alarm-preserved : goal.loop-alarm-preserved
loop-alarm-preserved c = elim c.if-alarm-uid.branch [
  | then-alarm-uid+in_ok-push w ↦
      ap (λ (v : Vec Rule Global). v.items) w.rules-is ∙ w.in_ok-push.ensures.items
      ∙ ap (λ (rules : List Rule). rules ++ c.alarm-item.result.rule ∷ []) c.loop-alarm.invariant
      ∙ sym (rules_of-own c.args.alarms.now c.args.uid c.loop-alarm.alarm-index c.alarm-item.result c.loop-alarm-test.true c.alarm-item.is w.if-alarm-uid.true)
  | else-alarm-uid w ↦
      ap (λ (v : Vec Rule Global). v.items) w.rules-is ∙ c.loop-alarm.invariant
      ∙ sym (rules_of-other c.args.alarms.now c.args.uid c.loop-alarm.alarm-index c.alarm-item.result c.loop-alarm-test.true c.alarm-item.is w.if-alarm-uid.false)
]

pub returns-clause-ok : goal.returns-clause-ok
returns-clause-ok c = c.loop-alarm.invariant ∙ ap (λ (alarms : List ConfiguredAlarm). rules_of alarms c.args.uid) (take_all c.loop-alarm.alarm-index c.args.alarms.now c.loop-alarm-test.false)
