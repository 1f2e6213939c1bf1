-- What a UUID's text says of an id.
use Rattle.std.proofs.Common.{◌≡◌, true, false, ℕ, ◌+◌, ◌*◌, ◌/◌, ◌%◌, ◌^◌, ◌<◌, List, Option, Some, None, Result, Ok, Err, ◌↔◌, IsOk, refl, ap, ◌∙◌, arith}
use Rattle.std.specs.Int.{w128, to_be_bytes, from_be_bytes}
use Rattle.uuid.specs.Text.{parsed}
use Rattle.uuid.proofs.OrderLemmas.{from_be_bytes-to_be_bytes_16}
use Rattle.message.specs.declared.id.MessageId.{MessageId}
use Rattle.message.specs.Id.{message_id_bytes, id_of_bytes}

-- the halves of the number that two halves make
pub id_of_bytes-message_id_bytes : (id : MessageId) → id.uid < 2 ^ 64 → id.number < 2 ^ 64 → id_of_bytes (message_id_bytes id) ≡ id
id_of_bytes-message_id_bytes id uid number =
    let make : ℕ → ℕ → MessageId = λ u n. record { uid = u; number = n } in
    let n : ℕ = id.uid * 2 ^ 64 + id.number in
    let e : from_be_bytes w128 (to_be_bytes w128 n) ≡ n = from_be_bytes-to_be_bytes_16 n (omega arith) in
    let high : n / 2 ^ 64 ≡ id.uid = omega arith in
    let low : n % 2 ^ 64 ≡ id.number = omega arith in
    ap (λ (k : ℕ). make (k / 2 ^ 64) (k % 2 ^ 64)) e ∙ ap (λ (k : ℕ). make k (n % 2 ^ 64)) high ∙ ap (λ (k : ℕ). make id.uid k) low

none_from : {E X : Type 0} (r : Result X E) (e : E) (o : Option X) → (IsOk r ↔ ((u : X) × (o ≡ Some u))) → r ≡ Err e → o ≡ None
none_from r e None h is = refl
none_from (Ok y) e (Some x) h is = absurd cc
none_from (Err y) e (Some x) h is = let k : false ≡ true = h.1 (x, refl) in absurd cc

-- a text that reading gives no UUID for
pub parsed_none : {E : Type 0} (r : Result (List ℕ) E) (e : E) (text : List ℕ) → (IsOk r ↔ ((u : List ℕ) × (parsed text ≡ Some u))) → r ≡ Err e → parsed text ≡ None
parsed_none r e text h is = none_from r e (parsed text) h is
