-- What is written of offers to a receive that asks for no attributes.
use Rattle.std.proofs.Common.{◌≡◌, ◌≢◌, ◌==◌, ℕ, zero, suc, false, cond, List, [], ◌∷◌, ◌++◌, length, drop, get_or, ◌+◌, ◌<◌, ◌≤◌, codes, refl, sym, ap, ap₂, ◌∙◌, append_assoc, append-nil}
use Rattle.std.proofs.lemmas.List.{at_drop_more, drop_all}
use Rattle.json.specs.Token.{Token}
use Rattle.json.specs.Print.{print}
use Rattle.json.specs.Tree.{json_tokens, items_tokens}
use Rattle.message.specs.Attribute.{AttributeText}
use Rattle.queue_core.specs.declared.offers.Offer.{Offer}
use Rattle.serde_json.specs.Data.{array, object, no_members, member}
use Rattle.serde_json.specs.Written.{outline, items_outline, compact_text}
use Rattle.serde_json.proofs.OnLiterals.{serde_json_on_literals}
use Rattle.serde_json.proofs.Texts.{print-outline}
use Rattle.aws_json.specs.Attributes.{asked_attributes}
use Rattle.aws_json.specs.declared.request.ReceiveNames.{ReceiveNames}
use Rattle.aws_json.specs.Reply.{put_offer, message_data, message_items, messages_data}
use Rattle.aws_json.specs.private.Offered.{texts_tokens, offer_tokens, offers_tokens, plain_tokens}

asked_none : (xs : List AttributeText) → asked_attributes [] xs ≡ []
asked_none [] = refl
asked_none (x ∷ xs) = asked_none xs

-- ---- one offer

offer_is : (uid : ℕ) (o : Offer) → json_tokens (outline (object (put_offer uid [] o no_members))) ≡ offer_tokens uid o
unfolding serde_json_on_literals
offer_is uid o = rw (asked_none o.content.attributes)

message_is : (uid : ℕ) (names : ReceiveNames) (o : Offer) → names.asked ≡ [] → json_tokens (outline (message_data uid names [] o)) ≡ offer_tokens uid o
message_is uid names o none = rw none (offer_is uid o)

pub ten_more : (a b c d e f g h i j k : List Token) (body digest id handle : List ℕ) → b ≡ a ++ Token.begin_object ∷ [] → c ≡ b ++ Token.key (codes "Body") ∷ [] → d ≡ c ++ Token.string body ∷ []
    → e ≡ d ++ Token.key (codes "MD5OfBody") ∷ [] → f ≡ e ++ Token.string digest ∷ [] → g ≡ f ++ Token.key (codes "MessageId") ∷ [] → h ≡ g ++ Token.string id ∷ []
    → i ≡ h ++ Token.key (codes "ReceiptHandle") ∷ [] → j ≡ i ++ Token.string handle ∷ [] → k ≡ j ++ Token.end_object ∷ [] → k ≡ a ++ texts_tokens body digest id handle
ten_more a b c d e f g h i j k body digest id handle p1 p2 p3 p4 p5 p6 p7 p8 p9 p10 = rw (p10, p9, p8, p7, p6, p5, p4, p3, p2, p1) (simp append_assoc)

-- ---- offers, one after another

items_are : (uid : ℕ) (names : ReceiveNames) (os : List Offer) → names.asked ≡ [] → items_tokens (items_outline (message_items uid names [] os)) ≡ offers_tokens uid os ++ Token.end_array ∷ []
items_are uid names [] none = refl
items_are uid names (o ∷ os) none =
    ap₂ (λ a b. a ++ b) (message_is uid names o none) (items_are uid names os none) ∙ sym (append_assoc (offer_tokens uid o) (offers_tokens uid os) (Token.end_array ∷ []))

one_more : (uid : ℕ) (os : List Offer) (i : ℕ) (o : Offer) → i < length os → o ≡ get_or os i o → offers_tokens uid (drop i os) ≡ offer_tokens uid o ++ offers_tokens uid (drop (i + 1) os)
one_more uid os i o lt is = at_drop_more (offers_tokens uid) os i o lt ∙ ap (λ (x : Offer). offer_tokens uid x ++ offers_tokens uid (drop (i + 1) os)) (sym is)

pub offer_more : (uid : ℕ) (os : List Offer) (i : ℕ) (o : Offer) (start old new : List Token) → i < length os → o ≡ get_or os i o → new ≡ old ++ offer_tokens uid o
    → old ++ offers_tokens uid (drop i os) ≡ start → new ++ offers_tokens uid (drop (i + 1) os) ≡ start
offer_more uid os i o start old new lt is written h =
    ap (λ ts. ts ++ offers_tokens uid (drop (i + 1) os)) written
    ∙ append_assoc old (offer_tokens uid o) (offers_tokens uid (drop (i + 1) os))
    ∙ ap (λ ts. old ++ ts) (sym (one_more uid os i o lt is)) ∙ h

pub offers_end : (uid : ℕ) (os : List Offer) (i : ℕ) (start new : List Token) → length os ≤ i → new ++ offers_tokens uid (drop i os) ≡ start → new ≡ start
offers_end uid os i start new past h = sym (append-nil new) ∙ ap (λ rest. new ++ offers_tokens uid rest) (sym (drop_all i os past)) ∙ h

-- ---- the whole reply

whole_tokens : (uid : ℕ) (names : ReceiveNames) (os : List Offer) → names.asked ≡ []
    → json_tokens (outline (object (member (codes "Messages") (array (message_items uid names [] os)) no_members))) ≡ plain_tokens uid os
whole_tokens uid names os none =
    ap (λ ts. Token.begin_object ∷ Token.key (codes "Messages") ∷ Token.begin_array ∷ ts)
    (ap (λ ts. ts ++ Token.end_object ∷ []) (items_are uid names os none) ∙ append_assoc (offers_tokens uid os) (Token.end_array ∷ []) (Token.end_object ∷ []))

pub plain_print : (uid : ℕ) (names : ReceiveNames) (patterns : List (List ℕ)) (os : List Offer) → names.asked ≡ [] → patterns ≡ [] → (length os == 0) ≡ false
    → print (plain_tokens uid os) ≡ compact_text (messages_data uid names patterns os)
plain_print uid names patterns os none no_patterns some =
    ap print (sym (whole_tokens uid names os none)) ∙ print-outline (object (member (codes "Messages") (array (message_items uid names [] os)) no_members))
    ∙ rw (no_patterns, some)
