-- Breaches of a rule, counted minute by minute.
use Rattle.std.proofs.Common.{◌≡◌, ℕ, suc, ◌+◌, ◌-◌, ◌<◌, Bool, true, false, cond, List, map, ap, ◌∙◌, arith}
use Rattle.std.specs.List.{range_with_len}
use Rattle.std.proofs.lemmas.List.Sums.{sum_by-cons}
use Rattle.queue_config.specs.AlarmRules.{Rule}
use Rattle.message.specs.Content.{ContentText, content_size}
use Rattle.journal.specs.declared.entry.Entry.{Entry}
use Rattle.alarm.specs.AlarmState.{satisfies, breaches_in}
use Rattle.queue_core.specs.Metrics.{metric_row}

-- the minutes from one on are that one and those after it
breaches-from : (rule : Rule) (lines : List (Entry ContentText)) (minute end : ℕ) → minute < end
    → breaches_in rule (map (λ m. metric_row content_size lines m) (range_with_len minute (end - minute)))
    ≡ cond (satisfies rule (metric_row content_size lines minute)) 1 0 + breaches_in rule (map (λ m. metric_row content_size lines m) (range_with_len (minute + 1) (end - (minute + 1))))
breaches-from rule lines minute end before =
    let count : end - minute ≡ suc (end - (minute + 1)) = omega arith in
    ap (λ (n : ℕ). breaches_in rule (map (λ m. metric_row content_size lines m) (range_with_len minute n))) count
    ∙ sum_by-cons (λ row. cond (satisfies rule row) 1 0) (metric_row content_size lines minute) (map (λ m. metric_row content_size lines m) (range_with_len (minute + 1) (end - (minute + 1))))

pub breaches-counted : (rule : Rule) (lines : List (Entry ContentText)) (minute end breaches all : ℕ) → minute < end → satisfies rule (metric_row content_size lines minute) ≡ true
    → breaches + breaches_in rule (map (λ m. metric_row content_size lines m) (range_with_len minute (end - minute))) ≡ all
    → breaches + 1 + breaches_in rule (map (λ m. metric_row content_size lines m) (range_with_len (minute + 1) (end - (minute + 1)))) ≡ all
breaches-counted rule lines minute end breaches all before is h =
    let rest : ℕ = breaches_in rule (map (λ m. metric_row content_size lines m) (range_with_len (minute + 1) (end - (minute + 1)))) in
    let here : breaches_in rule (map (λ m. metric_row content_size lines m) (range_with_len minute (end - minute))) ≡ 1 + rest =
    breaches-from rule lines minute end before ∙ ap (λ (b : Bool). cond b 1 0 + rest) is in
    omega (arith, here, h)

pub breaches-passed : (rule : Rule) (lines : List (Entry ContentText)) (minute end breaches all : ℕ) → minute < end → satisfies rule (metric_row content_size lines minute) ≡ false
    → breaches + breaches_in rule (map (λ m. metric_row content_size lines m) (range_with_len minute (end - minute))) ≡ all
    → breaches + breaches_in rule (map (λ m. metric_row content_size lines m) (range_with_len (minute + 1) (end - (minute + 1)))) ≡ all
breaches-passed rule lines minute end breaches all before is h =
    let rest : ℕ = breaches_in rule (map (λ m. metric_row content_size lines m) (range_with_len (minute + 1) (end - (minute + 1)))) in
    let here : breaches_in rule (map (λ m. metric_row content_size lines m) (range_with_len minute (end - minute))) ≡ 0 + rest =
    breaches-from rule lines minute end before ∙ ap (λ (b : Bool). cond b 1 0 + rest) is in
    omega (arith, here, h)
