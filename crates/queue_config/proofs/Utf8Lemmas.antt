-- What reading bytes as text says of their test.
use Rattle.std.proofs.Common.{◌≡◌, ℕ, Bool, true, false, List, refl}
use Rattle.std.specs.Str.{IsUtf8, is_utf8}
use Rattle.std.proofs.lemmas.Str.{IsUtf8-from_is_utf8, is_utf8-from_IsUtf8}

pub tested_text : (bytes : List ℕ) → IsUtf8 bytes → is_utf8 bytes ≡ true
tested_text bytes h = is_utf8-from_IsUtf8 bytes h

no_text : (bytes : List ℕ) (b : Bool) → is_utf8 bytes ≡ b → (IsUtf8 bytes → ⊥) → b ≡ false
no_text bytes true e h = absurd (h (IsUtf8-from_is_utf8 bytes e))
no_text bytes false e h = refl

pub tested_no_text : (bytes : List ℕ) → (IsUtf8 bytes → ⊥) → is_utf8 bytes ≡ false
tested_no_text bytes h = no_text bytes (is_utf8 bytes) refl h
