-- A count over the turns of a loop.
use Rattle.std.proofs.Common.{◌≡◌, ℕ, zero, suc, ◌+◌, ◌<◌, refl, ap, ◌∙◌, arith}
use Rattle.sqs_replay.specs.Failures.{counted}

-- the count after so many turns, each of which counted one more
pub record CountsTurns (turns before after : ℕ) : Type 0 where
  pub none : turns ≡ 0 → after ≡ before
  pub some : 0 < turns → after ≡ counted turns before

pub CountsTurns-none : (count : ℕ) → CountsTurns 0 count count
CountsTurns-none count = record { none = λ e. refl; some = λ h. absurd (omega arith) }

pub CountsTurns-more : (turns before now after : ℕ) → CountsTurns turns before now → after ≡ counted 1 now → CountsTurns (turns + 1) before after
CountsTurns-more zero before now after h e = record { none = λ n. absurd (omega arith); some = λ n. e ∙ ap (counted 1) (h.none refl) }
CountsTurns-more (suc turns) before now after h e =
    let so_far : now ≡ counted (suc turns) before = h.some (omega arith) in
    record { none = λ n. absurd (omega arith); some = λ n. omega arith }
