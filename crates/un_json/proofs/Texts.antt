-- What bytes are as JSON.
use Rattle.std.proofs.Common.{◌≡◌, ℕ, Bool, true, false, List, None, Some, refl}
use Rattle.serde_json.specs.Data.{Data}
use Rattle.serde_json.specs.Read.{read}
use Rattle.std.specs.Str.{IsUtf8, is_utf8}
use Rattle.std.proofs.lemmas.Str.{IsUtf8-from_is_utf8, is_utf8-from_IsUtf8}
use Rattle.un_json.specs.Requests.{json_of}

-- bytes that are UTF-8 are the value that is read from them
pub json_read : (bytes : List ℕ) (d : Data) → IsUtf8 bytes → read bytes ≡ Some d → json_of bytes ≡ Some d
json_read bytes d utf8 is = rw (is_utf8-from_IsUtf8 bytes utf8) is

-- bytes that are no UTF-8, or from which nothing is read, are no value
pub json_none : (bytes : List ℕ) → (IsUtf8 bytes → read bytes ≡ None) → json_of bytes ≡ None
json_none bytes none = go (is_utf8 bytes) refl
  where
    go : (b : Bool) → is_utf8 bytes ≡ b → json_of bytes ≡ None
    go true is = rw is (none (IsUtf8-from_is_utf8 bytes is))
    go false is = rw is refl
