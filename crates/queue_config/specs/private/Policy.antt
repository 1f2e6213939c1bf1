-- The form of an ARN that names a queue.
use Rattle.std.specs.Prelude.{◌≡◌, ◌≢◌, ℕ, IsTrue, ◌∷◌, ◌++◌, List}
use Rattle.std.specs.List.{All}
use Rattle.message.specs.Name.{is_queue_name}
use Rattle.queue_config.specs.Policy.{arn_start, colon}

abbrev pub HasNoColon : List ℕ → Type 0
HasNoColon text = All (λ c. c ≢ colon) text

-- the text is an ARN with this region, account and name: what `name_in_arn` reads, as a relation
pub record IsArn (text region account name : List ℕ) : Type 0 where
  pub spelling : text ≡ arn_start ++ (region ++ colon ∷ (account ++ colon ∷ name))
  pub in_region : HasNoColon region
  pub in_account : HasNoColon account
  pub is_name : IsTrue (is_queue_name name)
