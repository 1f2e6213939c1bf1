-- How a name lies in eighty bytes, and that the text gives the bytes back.
use Rattle.std.specs.Prelude.{◌≡◌, ℕ, ◌-◌, ◌≤◌, IsTrue, List, ◌++◌, length, take, replicate}
use Rattle.std.proofs.Common.{sym, ap, arith}
use Rattle.std.proofs.lemmas.List.{length-take-le}
use Rattle.message.specs.Name.{is_queue_name}

-- the text, and zeros after it
pub record IsStoredName (bytes : List ℕ) (len : ℕ) : Type 0 where
  pub size : length bytes ≡ 80
  pub name : IsTrue (is_queue_name (take len bytes))
  pub within : len ≤ 80
  pub padding : bytes ≡ take len bytes ++ replicate (80 - len) 0

-- the bytes and the length that the text gives are those that are stored
pub stored_name : {S : Type 0} (bytes : List ℕ) (len : ℕ) → IsStoredName bytes len → (make : List ℕ → ℕ → S)
    → make (take len bytes ++ replicate (80 - length (take len bytes)) 0) (length (take len bytes)) ≡ make bytes len
stored_name bytes len h make =
    let within : len ≤ length bytes = omega (arith, h.size, h.within) in
    rw (length-take-le len bytes within) (ap (λ (text : List ℕ). make text len) (sym h.padding))
