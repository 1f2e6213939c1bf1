-- What a client is told of a send, by its texts: members, and their tokens.
use Rattle.std.specs.Prelude.{ℕ, List, [], ◌∷◌, codes, Option, Some, None}
use Rattle.json.specs.Token.{Token}
use Rattle.serde_json.specs.Data.{string, Members, no_members, put}
use Rattle.aws_json.specs.Reply.{put_given}

-- the digest of the attributes, where there is one, that of the body, and the id
abbrev pub sent_members : Option (List ℕ) → List ℕ → List ℕ → Members
sent_members attributes body id =
    put (codes "MessageId") (string id) (put (codes "MD5OfMessageBody") (string body) (put_given (codes "MD5OfMessageAttributes") attributes no_members))

-- the tokens of the members that each send has, and of the end of their object
abbrev pub body_tokens : List ℕ → List ℕ → List Token
body_tokens body id = Token.key (codes "MD5OfMessageBody") ∷ Token.string body ∷ Token.key (codes "MessageId") ∷ Token.string id ∷ Token.end_object ∷ []

-- the tokens of all its members, and of the end of their object
abbrev pub sent_tokens : Option (List ℕ) → List ℕ → List ℕ → List Token
sent_tokens None body id = body_tokens body id
sent_tokens (Some digest) body id = Token.key (codes "MD5OfMessageAttributes") ∷ Token.string digest ∷ body_tokens body id
