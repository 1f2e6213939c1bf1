-- Items made one after another, members put one after another, and that no reply has a float.
use Rattle.std.proofs.Common.{◌≡◌, ℕ, Bool, true, false, true≢false, ◌||◌, ◌==◌, cond, List, [], ◌∷◌, ◌++◌, length, get_or, drop, ◌+◌, ◌<◌, ◌≤◌, Option, Some, None, Result, Ok, Err, Ordering, Less, Equal, Greater, codes, refl, sym, ap, ◌∙◌}
use Rattle.std.proofs.lemmas.List.{at_drop_more, drop_all}
use Rattle.std.specs.Cmp.Lexicographic.{slice_cmp}
use Rattle.std.specs.Ordering.{nat_cmp, match_ordering}
use Rattle.attribute_md5.specs.Digest.{body_digest, attributes_digest}
use Rattle.message.specs.Attribute.{AttributeText}
use Rattle.message.specs.Content.{ContentText}
use Rattle.message.specs.Id.{message_id_text}
use Rattle.message.specs.declared.fault.Fault.{Fault}
use Rattle.message.specs.declared.id.MessageId.{MessageId}
use Rattle.receipt_handle.specs.Handle.{handle_text}
use Rattle.queue_core.specs.declared.offers.Offer.{Offer}
use Rattle.queue_core.specs.declared.reply.Look.{Look}
use Rattle.serde_json.specs.Data.{Data, string, array, object, Items, no_items, item, Members, no_members, member, put}
use Rattle.serde_json.specs.View.{view, items_view}
use Rattle.serde_json.specs.Written.{has_float, items_have_float, members_have_float}
use Rattle.serde_json.specs.declared.value.Value.{Value}
use Rattle.aws_json.specs.declared.batch.BatchAnswer.{BatchAnswer}
use Rattle.aws_json.specs.declared.batch.EntryReply.{EntryReply}
use Rattle.aws_json.specs.declared.batch.EntryReply.TheVariants as entries
use Rattle.aws_json.specs.AttributeNames.{queue_attribute_name, system_attribute_name}
use Rattle.aws_json.specs.declared.attribute_names.QueueAttribute.{QueueAttribute}
use Rattle.aws_json.specs.declared.attribute_names.SystemAttribute.{SystemAttribute}
use Rattle.aws_json.specs.declared.request.ReceiveNames.{ReceiveNames}
use Rattle.aws_json.specs.declared.reply.ReplyShape.{ReplyShape}
use Rattle.aws_json.specs.declared.reply.ReplyShape.TheVariants.{QueueUrl, QueueUrls, SourceQueueUrls, Sent, Attributes, Messages, Batch, Nothing}
use Rattle.aws_json.specs.Attributes.{asked_attributes}
use Rattle.aws_json.specs.Reply.{queue_attribute_text, put_queue_attributes, queue_url, url_items, put_given, put_sent, put_attributes_given, put_offer, handle_of_offer, system_attribute_text, put_system_attributes, has_some, attribute_data, put_attributes, message_data, message_items, done_data, done_item, done_items, failed_item, failed_items, reply_data}

-- ---- items

-- the items of these values, and others after them
abbrev pub items_then : List Value → Items → Items
items_then [] rest = rest
items_then (v ∷ vs) rest = item (view v) (items_then vs rest)

pub items_then-push : (vs : List Value) (v : Value) (rest : Items) → items_then (vs ++ v ∷ []) rest ≡ items_then vs (item (view v) rest)
items_then-push [] v rest = refl
items_then-push (u ∷ vs) v rest = ap (λ is. item (view u) is) (items_then-push vs v rest)

pub items_then-end : (vs : List Value) → items_then vs no_items ≡ items_view vs
items_then-end [] = refl
items_then-end (v ∷ vs) = ap (λ is. item (view v) is) (items_then-end vs)

-- what is left of the offers, one on and at the end
pub message_items-drop : (uid : ℕ) (names : ReceiveNames) (patterns : List (List ℕ)) (os : List Offer) (i : ℕ) (o : Offer) → i < length os → o ≡ get_or os i o
    → message_items uid names patterns (drop i os) ≡ item (message_data uid names patterns o) (message_items uid names patterns (drop (i + 1) os))
message_items-drop uid names patterns os i o lt is =
    at_drop_more (message_items uid names patterns) os i o lt ∙ ap (λ (x : Offer). item (message_data uid names patterns x) (message_items uid names patterns (drop (i + 1) os))) (sym is)

pub message_items-all : (uid : ℕ) (names : ReceiveNames) (patterns : List (List ℕ)) (os : List Offer) (vs : List Value) (i : ℕ) → length os ≤ i
    → items_then vs (message_items uid names patterns (drop i os)) ≡ message_items uid names patterns os → items_view vs ≡ message_items uid names patterns os
message_items-all uid names patterns os vs i past h =
    sym (items_then-end vs) ∙ ap (λ (rest : List Offer). items_then vs (message_items uid names patterns rest)) (sym (drop_all i os past)) ∙ h

-- what is left of the names, one on and at the end
pub url_items-drop : (port : ℕ) (names : List (List ℕ)) (i : ℕ) (name : List ℕ) → i < length names → name ≡ get_or names i name
    → url_items port (drop i names) ≡ item (string (queue_url port name)) (url_items port (drop (i + 1) names))
url_items-drop port names i name lt is =
    at_drop_more (url_items port) names i name lt ∙ ap (λ (x : List ℕ). item (string (queue_url port x)) (url_items port (drop (i + 1) names))) (sym is)

pub url_items-all : (port : ℕ) (names : List (List ℕ)) (vs : List Value) (i : ℕ) → length names ≤ i → items_then vs (url_items port (drop i names)) ≡ url_items port names
    → items_view vs ≡ url_items port names
url_items-all port names vs i past h =
    sym (items_then-end vs) ∙ ap (λ (rest : List (List ℕ)). items_then vs (url_items port rest)) (sym (drop_all i names past)) ∙ h

-- what is left of the answers that were done, one on and at the end
pub done_items-drop : (xs : List BatchAnswer) (i : ℕ) (a : BatchAnswer) → i < length xs → a ≡ get_or xs i a → done_items (drop i xs) ≡ done_item a.id a.answer (done_items (drop (i + 1) xs))
done_items-drop xs i a lt is =
    at_drop_more done_items xs i a lt ∙ ap (λ (x : BatchAnswer). done_item x.id x.answer (done_items (drop (i + 1) xs))) (sym is)

pub done_items-all : (xs : List BatchAnswer) (vs : List Value) (i : ℕ) → length xs ≤ i → items_then vs (done_items (drop i xs)) ≡ done_items xs → items_view vs ≡ done_items xs
done_items-all xs vs i past h =
    sym (items_then-end vs) ∙ ap (λ (rest : List BatchAnswer). items_then vs (done_items rest)) (sym (drop_all i xs past)) ∙ h

-- what is left of the answers that were refused, one on and at the end
pub failed_items-drop : (xs : List BatchAnswer) (i : ℕ) (a : BatchAnswer) → i < length xs → a ≡ get_or xs i a → failed_items (drop i xs) ≡ failed_item a.id a.answer (failed_items (drop (i + 1) xs))
failed_items-drop xs i a lt is =
    at_drop_more failed_items xs i a lt ∙ ap (λ (x : BatchAnswer). failed_item x.id x.answer (failed_items (drop (i + 1) xs))) (sym is)

pub failed_items-all : (xs : List BatchAnswer) (vs : List Value) (i : ℕ) → length xs ≤ i → items_then vs (failed_items (drop i xs)) ≡ failed_items xs → items_view vs ≡ failed_items xs
failed_items-all xs vs i past h =
    sym (items_then-end vs) ∙ ap (λ (rest : List BatchAnswer). items_then vs (failed_items rest)) (sym (drop_all i xs past)) ∙ h

-- ---- no float

or_left : (a b : Bool) → (a || b) ≡ false → a ≡ false
or_left true b h = h
or_left false b h = refl

or_right : (a b : Bool) → (a || b) ≡ false → b ≡ false
or_right true b h = absurd (true≢false h)
or_right false b h = h

or_both : (a b : Bool) → a ≡ false → b ≡ false → (a || b) ≡ false
or_both a b p q = ap (λ x. x || b) p ∙ q

ordered_float : (o : Ordering) (a b c : Members) → members_have_float a ≡ false → members_have_float b ≡ false → members_have_float c ≡ false → members_have_float (match_ordering o a b c) ≡ false
ordered_float Less a b c p q r = p
ordered_float Equal a b c p q r = q
ordered_float Greater a b c p q r = r

put_float : (k : List ℕ) (d : Data) (ms : Members) → has_float d ≡ false → members_have_float ms ≡ false → members_have_float (put k d ms) ≡ false
put_float k d no_members p q = or_both _ _ p refl
put_float k d (member l e ms) p q =
    let here = or_left (has_float e) (members_have_float ms) q in
    let later = or_right (has_float e) (members_have_float ms) q in
    ordered_float (slice_cmp nat_cmp k l) _ _ _ (or_both _ _ p q) (or_both _ _ p later) (or_both _ _ here (put_float k d ms p later))

put_given_float : (name : List ℕ) (given : Option (List ℕ)) (ms : Members) → members_have_float ms ≡ false → members_have_float (put_given name given ms) ≡ false
put_given_float name None ms h = h
put_given_float name (Some text) ms h = put_float name (string text) ms refl h

put_sent_float : (content : ContentText) (id : MessageId) (ms : Members) → members_have_float ms ≡ false → members_have_float (put_sent content id ms) ≡ false
put_sent_float content id ms h =
    let m0 : Members = put_given (codes "MD5OfMessageAttributes") (attributes_digest content.attributes) ms in
    let h0 : members_have_float m0 ≡ false = put_given_float (codes "MD5OfMessageAttributes") (attributes_digest content.attributes) ms h in
    let m1 : Members = put (codes "MD5OfMessageBody") (string (body_digest content.body)) m0 in
    put_float (codes "MessageId") (string (message_id_text id)) m1 refl (put_float (codes "MD5OfMessageBody") (string (body_digest content.body)) m0 refl h0)

either_float : (b : Bool) (d e : Data) → has_float d ≡ false → has_float e ≡ false → has_float (cond b d e) ≡ false
either_float true d e p q = p
either_float false d e p q = q

put_attributes_float : (ms : Members) (xs : List AttributeText) → members_have_float ms ≡ false → members_have_float (put_attributes ms xs) ≡ false
put_attributes_float ms [] h = h
put_attributes_float ms (a ∷ xs) h = put_attributes_float (put a.name (attribute_data a) ms) xs (put_float a.name (attribute_data a) ms (either_float a.is_binary _ _ refl refl) h)

unless_float : (none : Bool) (ms ns : Members) → members_have_float ms ≡ false → members_have_float ns ≡ false → members_have_float (cond none ms ns) ≡ false
unless_float true ms ns p q = p
unless_float false ms ns p q = q

put_attributes_given_float : (xs : List AttributeText) (ms : Members) → members_have_float ms ≡ false → members_have_float (put_attributes_given xs ms) ≡ false
put_attributes_given_float xs ms h =
    unless_float (length xs == 0) ms (put (codes "MessageAttributes") (object (put_attributes no_members xs)) ms) h
    (put_float (codes "MessageAttributes") (object (put_attributes no_members xs)) ms (put_attributes_float no_members xs refl) h)

put_offer_float : (uid : ℕ) (patterns : List (List ℕ)) (o : Offer) (ms : Members) → members_have_float ms ≡ false → members_have_float (put_offer uid patterns o ms) ≡ false
put_offer_float uid patterns o ms h =
    let asked : List AttributeText = asked_attributes patterns o.content.attributes in
    let m0 : Members = put (codes "Body") (string o.content.body) ms in
    let h0 : members_have_float m0 ≡ false = put_float (codes "Body") (string o.content.body) ms refl h in
    let m1 : Members = put (codes "MD5OfBody") (string (body_digest o.content.body)) m0 in
    let h1 : members_have_float m1 ≡ false = put_float (codes "MD5OfBody") (string (body_digest o.content.body)) m0 refl h0 in
    let m2 : Members = put_given (codes "MD5OfMessageAttributes") (attributes_digest asked) m1 in
    let h2 : members_have_float m2 ≡ false = put_given_float (codes "MD5OfMessageAttributes") (attributes_digest asked) m1 h1 in
    let m3 : Members = put_attributes_given asked m2 in
    let h3 : members_have_float m3 ≡ false = put_attributes_given_float asked m2 h2 in
    let m4 : Members = put (codes "MessageId") (string (message_id_text o.id)) m3 in
    let h4 : members_have_float m4 ≡ false = put_float (codes "MessageId") (string (message_id_text o.id)) m3 refl h3 in
    put_float (codes "ReceiptHandle") (string (handle_text (handle_of_offer uid o))) m4 refl h4

system_attributes_float : (o : Offer) (ms : Members) (xs : List SystemAttribute) → members_have_float ms ≡ false → members_have_float (put_system_attributes o ms xs) ≡ false
system_attributes_float o ms [] h = h
system_attributes_float o ms (a ∷ xs) h = system_attributes_float o (put_given (system_attribute_name a) (system_attribute_text o a) ms) xs (put_given_float (system_attribute_name a) (system_attribute_text o a) ms h)

message_float : (uid : ℕ) (names : ReceiveNames) (patterns : List (List ℕ)) (o : Offer) → has_float (message_data uid names patterns o) ≡ false
message_float uid names patterns o =
    let attributes : Data = object (put_system_attributes o no_members names.asked) in
    let given : Members = put (codes "Attributes") attributes no_members in
    let h : members_have_float given ≡ false = put_float (codes "Attributes") attributes no_members (system_attributes_float o no_members names.asked refl) refl in
    either_float (has_some o names.asked) (object (put_offer uid patterns o given)) (object (put_offer uid patterns o no_members))
    (put_offer_float uid patterns o given h) (put_offer_float uid patterns o no_members refl)

items_float : (uid : ℕ) (names : ReceiveNames) (patterns : List (List ℕ)) (os : List Offer) → items_have_float (message_items uid names patterns os) ≡ false
items_float uid names patterns [] = refl
items_float uid names patterns (o ∷ os) = or_both _ _ (message_float uid names patterns o) (items_float uid names patterns os)

offers_float : (none : Bool) (name : List ℕ) (items : Items) → items_have_float items ≡ false
    → has_float (cond none (object no_members) (object (member name (array items) no_members))) ≡ false
offers_float none name items h = either_float none (object no_members) (object (member name (array items) no_members)) refl (or_both _ _ h refl)

queue_attributes_float : (queue : List ℕ) (look : Look) (ms : Members) (xs : List QueueAttribute) → members_have_float ms ≡ false → members_have_float (put_queue_attributes queue look ms xs) ≡ false
queue_attributes_float queue look ms [] h = h
queue_attributes_float queue look ms (a ∷ xs) h = queue_attributes_float queue look (put_given (queue_attribute_name a) (queue_attribute_text queue look a) ms) xs (put_given_float (queue_attribute_name a) (queue_attribute_text queue look a) ms h)

urls_float : (port : ℕ) (names : List (List ℕ)) → items_have_float (url_items port names) ≡ false
urls_float port [] = refl
urls_float port (name ∷ names) = or_both _ _ refl (urls_float port names)

done_float : (id : List ℕ) (reply : EntryReply) → has_float (done_data id reply) ≡ false
done_float id (entries.Sent content number) = put_sent_float content number (put (codes "Id") (string id) no_members) refl
done_float id entries.Done = refl

done_item_float : (id : List ℕ) (answer : Result EntryReply Fault) (rest : Items) → items_have_float rest ≡ false → items_have_float (done_item id answer rest) ≡ false
done_item_float id (Ok reply) rest h = or_both _ _ (done_float id reply) h
done_item_float id (Err fault) rest h = h

done_items_float : (xs : List BatchAnswer) → items_have_float (done_items xs) ≡ false
done_items_float [] = refl
done_items_float (a ∷ xs) = done_item_float a.id a.answer (done_items xs) (done_items_float xs)

failed_item_float : (id : List ℕ) (answer : Result EntryReply Fault) (rest : Items) → items_have_float rest ≡ false → items_have_float (failed_item id answer rest) ≡ false
failed_item_float id (Ok reply) rest h = h
failed_item_float id (Err fault) rest h = h

failed_items_float : (xs : List BatchAnswer) → items_have_float (failed_items xs) ≡ false
failed_items_float [] = refl
failed_items_float (a ∷ xs) = failed_item_float a.id a.answer (failed_items xs) (failed_items_float xs)

pub reply_data-float : (port : ℕ) (shape : ReplyShape) → has_float (reply_data port shape) ≡ false
reply_data-float port (QueueUrl name) = refl
reply_data-float port (Sent content id) = put_sent_float content id no_members refl
reply_data-float port (QueueUrls names) = or_both _ _ (urls_float port names) refl
reply_data-float port (SourceQueueUrls names) = or_both _ _ (urls_float port names) refl
reply_data-float port (Attributes None queue look) = refl
reply_data-float port (Attributes (Some names) queue look) = or_both _ _ (queue_attributes_float queue look no_members names.asked refl) refl
reply_data-float port (Messages uid names patterns offers) = offers_float (length offers == 0) _ _ (items_float uid names patterns offers)
reply_data-float port (Batch answers) = or_both _ _ (failed_items_float answers) (or_both _ _ (done_items_float answers) refl)
reply_data-float port Nothing = refl
