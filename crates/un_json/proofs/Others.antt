-- Members of an object, looked at one after the other.
use Rattle.std.proofs.Common.{◌≡◌, true, false, List, [], ◌∷◌, String, string_bytes}
use Rattle.std.specs.declared.alloc.Global.{Global}
use Rattle.serde_json.specs.declared.value.Value.{Value}
use Rattle.serde_json.specs.View.{members_view}
use Rattle.un_schema.specs.declared.place.Place.{Place}
use Rattle.un_json.specs.Rows.{is_other, some_other}

-- some member from here on has another name exactly where some member of all has
pub record LooksOn (places : List Place) (rest all : List (String Global × Value)) : Type 0 where
  pub same : some_other places (members_view rest) ≡ some_other places (members_view all)

-- the first has one of the names
pub looked_on : (places : List Place) (k : String Global) (v : Value) (rest all : List (String Global × Value)) → LooksOn places ((k, v) ∷ rest) all → is_other places (string_bytes k) ≡ false → LooksOn places rest all
looked_on places k v rest all h is = record { same = rw is at h.same }

-- the first has another name
pub found : (places : List Place) (k : String Global) (v : Value) (rest all : List (String Global × Value)) → LooksOn places ((k, v) ∷ rest) all → is_other places (string_bytes k) ≡ true → true ≡ some_other places (members_view all)
found places k v rest all h is = rw is at h.same

-- none has
pub none_found : (places : List Place) (all : List (String Global × Value)) → LooksOn places [] all → false ≡ some_other places (members_view all)
none_found places all h = h.same
