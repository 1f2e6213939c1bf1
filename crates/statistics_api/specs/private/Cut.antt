-- A text that is cut at its first slash.
use Rattle.std.specs.Borrow.{Bor}
use Rattle.std.specs.Prelude.{◌≡◌, ℕ, ◌<◌, ◌==◌, Bool, List, length, Option}
use Rattle.std.specs.List.{before_first, after_first, position_or_len}
use Rattle.std.specs.Option.{MatchOption}
use Rattle.statistics_api.specs.Routes.{slash}

abbrev pub is_slash : ℕ → Bool
is_slash b = b == slash

-- the two parts stand round the first slash, and there are none where there is no slash
abbrev pub IsCut : List ℕ → Option (Bor (List ℕ) × Bor (List ℕ)) → Type 0
IsCut text parts = MatchOption parts (position_or_len is_slash text ≡ length text)
    (λ p. (p.0.now ≡ before_first is_slash text) × (p.1.now ≡ after_first is_slash text) × (position_or_len is_slash text < length text))
