-- What is written of offers to a receive that asks for no attributes: tokens.
use Rattle.std.specs.Prelude.{ℕ, List, [], ◌∷◌, ◌++◌, codes}
use Rattle.attribute_md5.specs.Digest.{body_digest}
use Rattle.json.specs.Token.{Token}
use Rattle.message.specs.Id.{message_id_text}
use Rattle.queue_core.specs.declared.offers.Offer.{Offer}
use Rattle.receipt_handle.specs.Handle.{handle_text}
use Rattle.aws_json.specs.Reply.{handle_of_offer}

-- an offer by its texts: its body, the digest of that, its id and its handle
abbrev pub texts_tokens : List ℕ → List ℕ → List ℕ → List ℕ → List Token
texts_tokens body digest id handle =
    Token.begin_object ∷ Token.key (codes "Body") ∷ Token.string body ∷ Token.key (codes "MD5OfBody") ∷ Token.string digest
    ∷ Token.key (codes "MessageId") ∷ Token.string id ∷ Token.key (codes "ReceiptHandle") ∷ Token.string handle ∷ Token.end_object ∷ []

-- an offer of the queue of a uid
abbrev pub offer_tokens : ℕ → Offer → List Token
offer_tokens uid o = texts_tokens o.content.body (body_digest o.content.body) (message_id_text o.id) (handle_text (handle_of_offer uid o))

-- offers, one after another
abbrev pub offers_tokens : ℕ → List Offer → List Token
offers_tokens uid [] = []
offers_tokens uid (o ∷ os) = offer_tokens uid o ++ offers_tokens uid os

-- the whole reply
abbrev pub plain_tokens : ℕ → List Offer → List Token
plain_tokens uid os =
    Token.begin_object ∷ Token.key (codes "Messages") ∷ Token.begin_array ∷ (offers_tokens uid os ++ (Token.end_array ∷ Token.end_object ∷ []))
