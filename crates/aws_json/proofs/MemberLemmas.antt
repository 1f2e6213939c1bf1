-- Bodies that are JSON objects, and lists and objects of texts as the library keeps them.
use Rattle.std.proofs.Common.{◌≡◌, ℕ, Bool, true, false, ◌&&◌, ◌||◌, cond, List, [], ◌∷◌, map, Option, Some, None, Ok, Err, String, Global, is_some, option_and_then, ok_or, refl, ap}
use Rattle.std.specs.List.{list_all}
use Rattle.std.specs.Str.{IsUtf8, is_utf8}
use Rattle.std.proofs.lemmas.Str.{is_utf8-from_IsUtf8, IsUtf8-from_is_utf8}
use Rattle.message.specs.declared.fault.Fault.TheVariants.{SerializationException}
use Rattle.serde_json.specs.Data.{Data}
use Rattle.serde_json.specs.Find.{as_null, as_str, as_object}
use Rattle.serde_json.specs.Read.{read}
use Rattle.serde_json.specs.View.{view, items_view, members_view}
use Rattle.serde_json.specs.declared.value.Value.{Value}
use Rattle.aws_json.specs.Members.{json_of, if_object, object_of, are_texts, have_texts}

json_of-IsUtf8 : (bytes : List ℕ) → IsUtf8 bytes → json_of bytes ≡ read bytes
json_of-IsUtf8 bytes h = rw (is_utf8-from_IsUtf8 bytes h)

-- a body that was read, and is an object or not
pub object_of-read : (bytes : List ℕ) (d : Data) → IsUtf8 bytes → read bytes ≡ Some d → is_some (as_object d) ≡ true → object_of bytes ≡ Ok d
object_of-read bytes d h is object = rw (json_of-IsUtf8 bytes h, is, object)

pub object_of-other : (bytes : List ℕ) (d : Data) → IsUtf8 bytes → read bytes ≡ Some d → is_some (as_object d) ≡ false → object_of bytes ≡ Err SerializationException
object_of-other bytes d h is other = rw (json_of-IsUtf8 bytes h, is, other)

unless_tested : (b : Bool) (o : Option Data) → (b ≡ true → o ≡ None) → cond b o None ≡ None
unless_tested true o h = h refl
unless_tested false o h = refl

-- a body that is no JSON text
pub object_of-none : (bytes : List ℕ) → (IsUtf8 bytes → read bytes ≡ None) → object_of bytes ≡ Err SerializationException
object_of-none bytes h =
    let none : json_of bytes ≡ None = unless_tested (is_utf8 bytes) (read bytes) (λ t. h (IsUtf8-from_is_utf8 bytes t)) in
    ap (λ (o : Option Data). ok_or (option_and_then if_object o) SerializationException) none

pub list_all-are_texts : (vs : List Value) → list_all (λ v. is_some (as_str (view v))) vs ≡ are_texts (items_view vs)
list_all-are_texts [] = refl
list_all-are_texts (v ∷ vs) = ap (λ (b : Bool). is_some (as_str (view v)) && b) (list_all-are_texts vs)

abbrev pub is_null_or_text : Value → Bool
is_null_or_text v = is_some (as_null (view v)) || is_some (as_str (view v))

pub list_all-have_texts : (es : List (String Global × Value)) → list_all is_null_or_text (map (λ e. e.1) es) ≡ have_texts (members_view es)
list_all-have_texts [] = refl
list_all-have_texts (e ∷ es) = ap (λ (b : Bool). is_null_or_text e.1 && b) (list_all-have_texts es)
