-- What is written of a send.
use Rattle.std.proofs.Common.{◌≡◌, ℕ, List, [], ◌∷◌, ◌++◌, codes, Option, Some, None, append_assoc}
use Rattle.json.specs.Token.{Token}
use Rattle.json.specs.Print.{print, print_from}
use Rattle.serde_json.specs.Data.{object}
use Rattle.serde_json.specs.Written.{compact_text}
use Rattle.serde_json.proofs.OnLiterals.{serde_json_on_literals}
use Rattle.aws_json.specs.private.Sent.{sent_members, sent_tokens}

pub five_more : (a b c d e f : List Token) (body id : List ℕ) → b ≡ a ++ Token.key (codes "MD5OfMessageBody") ∷ [] → c ≡ b ++ Token.string body ∷ [] → d ≡ c ++ Token.key (codes "MessageId") ∷ []
    → e ≡ d ++ Token.string id ∷ [] → f ≡ e ++ Token.end_object ∷ [] → f ≡ a ++ sent_tokens None body id
five_more a b c d e f body id p q r s t = rw (t, s, r, q, p) (simp append_assoc)

pub two_more : (a b c : List Token) (digest : List ℕ) (rest : List Token) → b ≡ a ++ Token.key (codes "MD5OfMessageAttributes") ∷ [] → c ≡ b ++ Token.string digest ∷ []
    → c ++ rest ≡ a ++ (Token.key (codes "MD5OfMessageAttributes") ∷ Token.string digest ∷ rest)
two_more a b c digest rest p q = rw (q, p) (simp append_assoc)

-- what is written of a send is its text
pub sent_print : (attributes : Option (List ℕ)) (body id : List ℕ) → print (Token.begin_object ∷ sent_tokens attributes body id) ≡ compact_text (object (sent_members attributes body id))
unfolding serde_json_on_literals print_from
sent_print None body id = simp append_assoc
sent_print (Some digest) body id = simp append_assoc
