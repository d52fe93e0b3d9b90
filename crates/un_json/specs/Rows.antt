-- Rows of a table of members. A row says what the members of an object are to be, in order, and what they make together.
use Rattle.std.specs.Prelude.{◌≡◌, ℕ, Bool, false, not, ◌||◌, List, [], ◌∷◌, ◌++◌, Option, None, Some, Result, Ok, Err, option_and_then, if◌then◌else◌, ⊤}
use Rattle.std.specs.List.{list_any}
use Rattle.std.specs.Option.{option_map_or}
use Rattle.std.specs.Str.{bytes_eq}
use Rattle.serde_json.specs.Data.{Data, Members, no_members, member}
use Rattle.serde_json.specs.Find.{get, as_object}
use Rattle.un_schema.specs.declared.place.Place.{Place}
use Rattle.un_schema.specs.declared.place.Place.TheVariants.{Extra}
use Rattle.un_schema.specs.Places.{place_text}
use Rattle.un_json.specs.declared.fault.ReadFault.{ReadFault}
use Rattle.un_json.specs.declared.fault.ReadFault.TheVariants.{NotJson, BadRequest, Memory}

-- ---- one member

-- a value, or the place where it is missing
abbrev pub or_blame : {A : Type 0} → Place → Option A → Result A Place
or_blame place None = Err place
or_blame place (Some a) = Ok a

-- the value of a member that must be there
unfoldable pub required_member : {A : Type 0} → Place → (Data → Option A) → Data → Result A Place
required_member place form d = or_blame place (option_and_then form (get (place_text place) d))

-- the value of a member that may be absent, and has another value then
unfoldable pub optional_member : {A : Type 0} → Place → (Data → Option A) → A → Data → Result A Place
optional_member place form default d = option_map_or (λ v. or_blame place (form v)) (get (place_text place) d) (Ok default)

-- a member of a row: its name, and its value in an object
pub record Column (A : Type 0) : Type 0 where
  pub places : List Place
  pub value : Data → Result A Place

abbrev pub required : {A : Type 0} → Place → (Data → Option A) → Column A
required p form = record { places = p ∷ []; value = required_member p form }

abbrev pub optional : {A : Type 0} → Place → (Data → Option A) → A → Column A
optional p form default = record { places = p ∷ []; value = optional_member p form default }

-- a member that must be there where the row takes it, and has another value where the row does not take it
unfoldable pub required_member_when : {A : Type 0} → Bool → Place → (Data → Option A) → A → Data → Result A Place
required_member_when taken place form other d = if taken then required_member place form d else Ok other

-- the same of a member that may be absent
unfoldable pub optional_member_when : {A : Type 0} → Bool → Place → (Data → Option A) → A → Data → Result A Place
optional_member_when taken place form default d = if taken then optional_member place form default d else Ok default

abbrev pub required_when : {A : Type 0} → Bool → Place → (Data → Option A) → A → Column A
required_when taken p form other = record { places = if taken then p ∷ [] else []; value = required_member_when taken p form other }

abbrev pub optional_when : {A : Type 0} → Bool → Place → (Data → Option A) → A → Column A
optional_when taken p form default = record { places = if taken then p ∷ [] else []; value = optional_member_when taken p form default }

-- ---- rows

-- the members in order, and what they make
pub record Row (A : Type 0) : Type 0 where
  pub places : List Place
  pub value : Data → Result A Place

abbrev pub makes : {A : Type 0} → A → Row A
makes a = record { places = []; value = λ d. Ok a }

-- both, or the first place that is bad
abbrev pub both : {A B : Type 0} → Result (A → B) Place → Result A Place → Result B Place
both (Err p) a = Err p
both (Ok f) (Err p) = Err p
both (Ok f) (Ok a) = Ok (f a)

infixl 10 ◌&◌
abbrev pub ◌&◌ : {A B : Type 0} → Row (A → B) → Column A → Row B
r & c = record { places = r.places ++ c.places; value = λ d. both (r.value d) (c.value d) }

-- ---- other members

-- the member of the place has this name
unfoldable pub is_named : List ℕ → Place → Bool
is_named name place = bytes_eq (place_text place) name

-- the name is none of these
abbrev pub is_other : List Place → List ℕ → Bool
is_other places name = not (list_any (is_named name) places)

abbrev pub some_other : List Place → Members → Bool
some_other places no_members = false
some_other places (member k d ms) = is_other places k || some_other places ms

-- no member has another name than these
unfoldable pub no_others : List Place → Data → Result (Unit {0}) Place
no_others places d = if option_map_or (some_other places) (as_object d) false then Err Extra else Ok tt

abbrev pub without_others : {A : Type 0} → Result A Place → Result (Unit {0}) Place → Result A Place
without_others (Err p) others = Err p
without_others (Ok a) (Err p) = Err p
without_others (Ok a) (Ok u) = Ok a

-- what a row makes of an object, whose word stands in a member of its own: the first place that is bad, or else `extra` where there are
-- other members, or else what the members make
abbrev pub answers : {A : Type 0} → Place → Row A → Data → Result A Place
answers word r d = without_others (r.value d) (no_others (word ∷ r.places) d)

-- ---- what goes on behind a value

abbrev pub mapped : {A B : Type 0} → (A → B) → Result A Place → Result B Place
mapped f (Err p) = Err p
mapped f (Ok a) = Ok (f a)

abbrev pub and_then : {A B : Type 0} → (A → Result B Place) → Result A Place → Result B Place
and_then f (Err p) = Err p
and_then f (Ok a) = f a

-- ---- faults

-- a fault names the place of the answer, unless there was no memory
abbrev pub Blames : {A : Type 0} → ReadFault → Result A Place → Type 0
Blames NotJson answer = ⊥
Blames (BadRequest place) answer = answer ≡ Err place
Blames Memory answer = ⊤
