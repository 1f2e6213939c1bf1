-- What a minute with a row is.
use Rattle.std.proofs.Common.{ℕ, ◌+◌, ◌*◌, ◌<◌, ◌≤◌, IsTrue, ◌&&◌, arith}
use Rattle.std.specs.Prelude.{nat_le, nat_lt}
use Rattle.std.proofs.lemmas.Bool.Decides.{nat_tests}
use Rattle.metric_window.specs.Flows.{minute_of}
use Rattle.metric_window.specs.Window.{longest_window, window_start, window_end, is_in_window}

both : (a b : ℕ) (c d : ℕ) → IsTrue (nat_le a b && nat_lt c d) → (a ≤ b) × (c < d)
both a b c d h = grind (arith, nat_tests)

pub over_before : (created clock minute : ℕ) → IsTrue (is_in_window created clock minute) → 60000 * minute + 60000 ≤ clock
over_before created clock minute h =
    let w : (window_start created clock ≤ minute) × (minute < window_end clock) = both (window_start created clock) minute minute (window_end clock) h in
    omega arith

pub from_created : (created clock minute : ℕ) → IsTrue (is_in_window created clock minute) → minute_of created ≤ minute
from_created created clock minute h =
    let w : (window_start created clock ≤ minute) × (minute < window_end clock) = both (window_start created clock) minute minute (window_end clock) h in
    omega arith

pub among_last : (created clock minute : ℕ) → IsTrue (is_in_window created clock minute) → minute_of clock ≤ minute + longest_window
among_last created clock minute h =
    let w : (window_start created clock ≤ minute) × (minute < window_end clock) = both (window_start created clock) minute minute (window_end clock) h in
    omega arith

pub not_longer : (created clock : ℕ) → window_end clock ≤ window_start created clock + longest_window
not_longer created clock = omega arith
