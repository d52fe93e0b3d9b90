-- The texts of refusals, put together of their parts.
use Rattle.std.proofs.Common.{◌≡◌, ◌≢◌, ℕ, ◌≤◌, lit≤, List, [], ◌∷◌, ◌++◌, length, codes, decimal, Option, None, Some, true, false, refl, sym, ap, ◌∙◌, append_assoc}
use Rattle.std.specs.Prelude.{⊤}
use Rattle.json.specs.Print.{quoted, escape}
use Rattle.serde_json.specs.Data.{Data, string}
use Rattle.serde_json.specs.Written.{compact_text, members_text}
use Rattle.serde_json.proofs.OnLiterals.{serde_json_on_literals}
use Rattle.un_defs.specs.declared.refusal.Refusal.{Refusal}
use Rattle.un_defs.specs.declared.refusal.Refusal.TheVariants as refusal
use Rattle.un_values.specs.Values.{count, in_order, members_of}
use Rattle.un_replies.specs.Refusals.{fields_of, fields_value, refusal_value, has_version, edit_member, version_member}
use Rattle.un_replies.specs.Pieces.{leading, following, early, middle, late, last}

-- the members of a refusal in their order
abbrev row : Refusal → Option ℕ → ℕ → List (List ℕ × Data)
row r edit version =
    early r ++ (edit_member edit ++ (codes "error", count (fields_of r).error) ∷ (middle r ++ (codes "name", string (fields_of r).name)
    ∷ (late r ++ (version_member (has_version (fields_of r).error) version ++ last r))))

sorted : (r : Refusal) (edit : Option ℕ) (version : ℕ)
    → in_order ((codes "error", count (fields_of r).error) ∷ (codes "name", string (fields_of r).name) ∷ (fields_of r).carried ++ (edit_member edit ++ version_member (has_version (fields_of r).error) version))
    ≡ members_of (row r edit version)
sorted refusal.NotJson None version = refl
sorted refusal.NotJson (Some edit) version = refl
sorted (refusal.BadRequest place) None version = refl
sorted (refusal.BadRequest place) (Some edit) version = refl
sorted refusal.LineTooLong None version = refl
sorted refusal.LineTooLong (Some edit) version = refl
sorted (refusal.BadSchema place) None version = refl
sorted (refusal.BadSchema place) (Some edit) version = refl
sorted (refusal.NoSuchFeature id) None version = refl
sorted (refusal.NoSuchFeature id) (Some edit) version = refl
sorted (refusal.Moved at) None version = refl
sorted (refusal.Moved at) (Some edit) version = refl
sorted (refusal.BadShape place) None version = refl
sorted (refusal.BadShape place) (Some edit) version = refl
sorted (refusal.NoSuchKind kind) None version = refl
sorted (refusal.NoSuchKind kind) (Some edit) version = refl
sorted (refusal.BadAttribute attribute) None version = refl
sorted (refusal.BadAttribute attribute) (Some edit) version = refl
sorted (refusal.BadTerminal feature) None version = refl
sorted (refusal.BadTerminal feature) (Some edit) version = refl
sorted refusal.BadPath None version = refl
sorted refusal.BadPath (Some edit) version = refl
sorted (refusal.HasAssociations least) None version = refl
sorted (refusal.HasAssociations least) (Some edit) version = refl
sorted refusal.HasControllers None version = refl
sorted refusal.HasControllers (Some edit) version = refl
sorted refusal.NoSuchAssociation None version = refl
sorted refusal.NoSuchAssociation (Some edit) version = refl
sorted refusal.WrongKind None version = refl
sorted refusal.WrongKind (Some edit) version = refl
sorted (refusal.AlreadyContained by) None version = refl
sorted (refusal.AlreadyContained by) (Some edit) version = refl
sorted refusal.ContainsItself None version = refl
sorted refusal.ContainsItself (Some edit) version = refl
sorted refusal.NoSuchTier None version = refl
sorted refusal.NoSuchTier (Some edit) version = refl
sorted refusal.NotController None version = refl
sorted refusal.NotController (Some edit) version = refl
sorted refusal.ControllerExists None version = refl
sorted refusal.ControllerExists (Some edit) version = refl
sorted refusal.NoSuchController None version = refl
sorted refusal.NoSuchController (Some edit) version = refl
sorted refusal.NoSuchSubnetwork None version = refl
sorted refusal.NoSuchSubnetwork (Some edit) version = refl
sorted (refusal.Conflict subnet feature port) None version = refl
sorted (refusal.Conflict subnet feature port) (Some edit) version = refl
sorted (refusal.Disjoint feature port) None version = refl
sorted (refusal.Disjoint feature port) (Some edit) version = refl
sorted (refusal.Full what) None version = refl
sorted (refusal.Full what) (Some edit) version = refl
sorted (refusal.Ahead seen latest) None version = refl
sorted (refusal.Ahead seen latest) (Some edit) version = refl
sorted (refusal.NoStart feature port) None version = refl
sorted (refusal.NoStart feature port) (Some edit) version = refl
sorted (refusal.StartIsValve feature terminal) None version = refl
sorted (refusal.StartIsValve feature terminal) (Some edit) version = refl
sorted (refusal.BadCondition place) None version = refl
sorted (refusal.BadCondition place) (Some edit) version = refl
sorted (refusal.DirtyGround area feature port) None version = refl
sorted (refusal.DirtyGround area feature port) (Some edit) version = refl
sorted (refusal.NotIsolable feature terminal) None version = refl
sorted (refusal.NotIsolable feature terminal) (Some edit) version = refl
sorted (refusal.BadRuleTerminal place) None version = refl
sorted (refusal.BadRuleTerminal place) (Some edit) version = refl
sorted (refusal.RuleExists place) None version = refl
sorted (refusal.RuleExists place) (Some edit) version = refl
sorted (refusal.NotYet at latest) None version = refl
sorted (refusal.NotYet at latest) (Some edit) version = refl
sorted refusal.ServeOnly None version = refl
sorted refusal.ServeOnly (Some edit) version = refl
sorted (refusal.WrongPage after at) None version = refl
sorted (refusal.WrongPage after at) (Some edit) version = refl
sorted (refusal.BadSpan since upto) None version = refl
sorted (refusal.BadSpan since upto) (Some edit) version = refl
sorted refusal.Memory None version = refl
sorted refusal.Memory (Some edit) version = refl

-- members behind others, before others, and at the end
text_behind : (ms rest : List (List ℕ × Data)) → members_text true (members_of (ms ++ rest)) ≡ following ms ++ members_text true (members_of rest)
text_behind [] rest = refl
text_behind (m ∷ ms) rest =
    let t = members_text true (members_of rest) in
    ap (λ t. 44 ∷ (quoted m.0 ++ 58 ∷ (compact_text m.1 ++ t))) (text_behind ms rest)
    ∙ ap (λ t. 44 ∷ (quoted m.0 ++ 58 ∷ t)) (sym (append_assoc (compact_text m.1) (following ms) t))
    ∙ ap (λ t. 44 ∷ t) (sym (append_assoc (quoted m.0) (58 ∷ (compact_text m.1 ++ following ms)) t))

abbrev IsSome : List (List ℕ × Data) → Type 0
IsSome [] = ⊥
IsSome (m ∷ ms) = ⊤

some_behind : (ms rest : List (List ℕ × Data)) → IsSome rest → IsSome (ms ++ rest)
some_behind [] rest h = h
some_behind (m ∷ ms) rest h = tt

later : (ms : List (List ℕ × Data)) → IsSome ms → members_text true (members_of ms) ≡ 44 ∷ members_text false (members_of ms)
later [] h = absurd h
later (m ∷ ms) h = refl

text_before : (ms rest : List (List ℕ × Data)) → IsSome rest → members_text false (members_of (ms ++ rest)) ≡ leading ms ++ members_text false (members_of rest)
text_before [] rest h = refl
text_before (m ∷ ms) rest h =
    let t = members_text false (members_of rest) in
    ap (λ t. quoted m.0 ++ 58 ∷ (compact_text m.1 ++ t)) (later (ms ++ rest) (some_behind ms rest h) ∙ ap (λ t. 44 ∷ t) (text_before ms rest h))
    ∙ ap (λ t. quoted m.0 ++ 58 ∷ t) (sym (append_assoc (compact_text m.1) (44 ∷ leading ms) t))
    ∙ sym (append_assoc (quoted m.0) (58 ∷ (compact_text m.1 ++ 44 ∷ leading ms)) t)

text_end : (ms : List (List ℕ × Data)) → members_text true (members_of ms) ≡ following ms ++ codes "}"
text_end [] = refl
text_end (m ∷ ms) =
    ap (λ t. 44 ∷ (quoted m.0 ++ 58 ∷ (compact_text m.1 ++ t))) (text_end ms)
    ∙ ap (λ t. 44 ∷ (quoted m.0 ++ 58 ∷ t)) (sym (append_assoc (compact_text m.1) (following ms) (codes "}")))
    ∙ ap (λ t. 44 ∷ t) (sym (append_assoc (quoted m.0) (58 ∷ (compact_text m.1 ++ following ms)) (codes "}")))

-- from the version on, from the name on, and from the number on
abbrev from_version : Refusal → ℕ → List ℕ
from_version r version = following (version_member (has_version (fields_of r).error) version) ++ (following (last r) ++ codes "}")

abbrev from_name : Refusal → ℕ → List ℕ
from_name r version = following ((codes "name", string (fields_of r).name) ∷ []) ++ (following (late r) ++ from_version r version)

abbrev from_error : Refusal → ℕ → List ℕ
from_error r version = codes "\"error\":" ++ (decimal (fields_of r).error ++ (following (middle r) ++ from_name r version))

version_text : (r : Refusal) (version : ℕ) → members_text true (members_of (version_member (has_version (fields_of r).error) version ++ last r)) ≡ from_version r version
version_text r version =
    let refusal_fields = version_member (has_version (fields_of r).error) version in
    text_behind refusal_fields (last r) ∙ ap (λ t. following refusal_fields ++ t) (text_end (last r))

name_text : (r : Refusal) (version : ℕ) → members_text true (members_of ((codes "name", string (fields_of r).name) ∷ (late r ++ (version_member (has_version (fields_of r).error) version ++ last r)))) ≡ from_name r version
name_text r version =
    let refusal_fields = version_member (has_version (fields_of r).error) version in
    let name = (codes "name", string (fields_of r).name) ∷ [] in
    text_behind name (late r ++ (refusal_fields ++ last r))
    ∙ ap (λ t. following name ++ t) (text_behind (late r) (refusal_fields ++ last r) ∙ ap (λ t. following (late r) ++ t) (version_text r version))

error_text : (r : Refusal) (version : ℕ) → members_text false (members_of ((codes "error", count (fields_of r).error) ∷ (middle r ++ (codes "name", string (fields_of r).name)
    ∷ (late r ++ (version_member (has_version (fields_of r).error) version ++ last r))))) ≡ from_error r version
unfolding serde_json_on_literals
error_text r version =
    let behind = late r ++ (version_member (has_version (fields_of r).error) version ++ last r) in
    ap (λ t. codes "\"error\":" ++ (decimal (fields_of r).error ++ t))
    (text_behind (middle r) ((codes "name", string (fields_of r).name) ∷ behind) ∙ ap (λ t. following (middle r) ++ t) (name_text r version))

-- the text of a refusal, part by part
pub fields_text : (r : Refusal) (edit : Option ℕ) (version : ℕ) → compact_text (fields_value (fields_of r) edit version) ≡
    codes "{" ++ (leading (early r) ++ (leading (edit_member edit) ++ from_error r version))
fields_text r edit version =
    let behind = middle r ++ (codes "name", string (fields_of r).name) ∷ (late r ++ (version_member (has_version (fields_of r).error) version ++ last r)) in
    let rest = (codes "error", count (fields_of r).error) ∷ behind in
    ap (λ ms. 123 ∷ members_text false ms) (sorted r edit version)
    ∙ ap (λ t. 123 ∷ t) (text_before (early r) (edit_member edit ++ rest) (some_behind (edit_member edit) rest tt)
    ∙ ap (λ t. leading (early r) ++ t) (text_before (edit_member edit) rest tt ∙ ap (λ t. leading (edit_member edit) ++ t) (error_text r version)))

-- any refusal but want of memory is told so
pub fields_other : (r : Refusal) (edit : Option ℕ) (version : ℕ) → r ≢ refusal.Memory → refusal_value r edit version ≡ fields_value (fields_of r) edit version
fields_other refusal.NotJson edit version other = refl
fields_other (refusal.BadRequest place) edit version other = refl
fields_other refusal.LineTooLong edit version other = refl
fields_other (refusal.BadSchema place) edit version other = refl
fields_other (refusal.NoSuchFeature id) edit version other = refl
fields_other (refusal.Moved at) edit version other = refl
fields_other (refusal.BadShape place) edit version other = refl
fields_other (refusal.NoSuchKind kind) edit version other = refl
fields_other (refusal.BadAttribute attribute) edit version other = refl
fields_other (refusal.BadTerminal feature) edit version other = refl
fields_other refusal.BadPath edit version other = refl
fields_other (refusal.HasAssociations least) edit version other = refl
fields_other refusal.HasControllers edit version other = refl
fields_other refusal.NoSuchAssociation edit version other = refl
fields_other refusal.WrongKind edit version other = refl
fields_other (refusal.AlreadyContained by) edit version other = refl
fields_other refusal.ContainsItself edit version other = refl
fields_other refusal.NoSuchTier edit version other = refl
fields_other refusal.NotController edit version other = refl
fields_other refusal.ControllerExists edit version other = refl
fields_other refusal.NoSuchController edit version other = refl
fields_other refusal.NoSuchSubnetwork edit version other = refl
fields_other (refusal.Conflict subnet feature port) edit version other = refl
fields_other (refusal.Disjoint feature port) edit version other = refl
fields_other (refusal.Full what) edit version other = refl
fields_other (refusal.Ahead seen latest) edit version other = refl
fields_other (refusal.NoStart feature port) edit version other = refl
fields_other (refusal.StartIsValve feature terminal) edit version other = refl
fields_other (refusal.BadCondition place) edit version other = refl
fields_other (refusal.DirtyGround area feature port) edit version other = refl
fields_other (refusal.NotIsolable feature terminal) edit version other = refl
fields_other (refusal.BadRuleTerminal place) edit version other = refl
fields_other (refusal.RuleExists place) edit version other = refl
fields_other (refusal.NotYet at latest) edit version other = refl
fields_other refusal.ServeOnly edit version other = refl
fields_other (refusal.WrongPage after at) edit version other = refl
fields_other (refusal.BadSpan since upto) edit version other = refl
fields_other refusal.Memory edit version other = absurd (other refl)

-- one piece, and then the others
pub piece : (start a end x rest : List ℕ) → a ≡ start ++ x → end ≡ a ++ rest → end ≡ start ++ (x ++ rest)
piece start a end x rest first others = others ∙ ap (λ t. t ++ rest) first ∙ append_assoc start x rest

-- a refusal is put part by part
pub fields_steps : (r : Refusal) (edit : Option ℕ) (version number : ℕ) (name start a b c d e f g h i j k : List ℕ)
    → number ≡ (fields_of r).error → name ≡ (fields_of r).name
    → a ≡ start ++ codes "{" → b ≡ a ++ leading (early r) → c ≡ b ++ leading (edit_member edit) → d ≡ c ++ codes "\"error\":" → e ≡ d ++ decimal number
    → f ≡ e ++ following (middle r) → g ≡ f ++ following ((codes "name", string name) ∷ []) → h ≡ g ++ following (late r)
    → i ≡ h ++ following (version_member (has_version number) version) → j ≡ i ++ following (last r) → k ≡ j ++ codes "}"
    → k ≡ start ++ compact_text (fields_value (fields_of r) edit version)
fields_steps r edit version number name start a b c d e f g h i j k numbered named one two three four five six seven eight nine ten eleven =
    piece start a k _ _ one (piece a b k _ _ two (piece b c k _ _ three (piece c d k _ _ four (piece d e k _ _ (five ∙ ap (λ n. d ++ decimal n) numbered) (piece e f k _ _ six
    (piece f g k _ _ (seven ∙ ap (λ t. f ++ following ((codes "name", string t) ∷ [])) named) (piece g h k _ _ eight
    (piece h i k _ _ (nine ∙ ap (λ n. h ++ following (version_member (has_version n) version)) numbered) (piece i j k _ _ ten eleven)))))))))
    ∙ ap (λ t. start ++ t) (sym (fields_text r edit version))

-- a name is printed as it is
pub name_plain : (r : Refusal) → escape (fields_of r).name ≡ (fields_of r).name
unfolding serde_json_on_literals
name_plain refusal.NotJson = refl
name_plain (refusal.BadRequest place) = refl
name_plain refusal.LineTooLong = refl
name_plain (refusal.BadSchema place) = refl
name_plain (refusal.NoSuchFeature id) = refl
name_plain (refusal.Moved at) = refl
name_plain (refusal.BadShape place) = refl
name_plain (refusal.NoSuchKind kind) = refl
name_plain (refusal.BadAttribute attribute) = refl
name_plain (refusal.BadTerminal feature) = refl
name_plain refusal.BadPath = refl
name_plain (refusal.HasAssociations least) = refl
name_plain refusal.HasControllers = refl
name_plain refusal.NoSuchAssociation = refl
name_plain refusal.WrongKind = refl
name_plain (refusal.AlreadyContained by) = refl
name_plain refusal.ContainsItself = refl
name_plain refusal.NoSuchTier = refl
name_plain refusal.NotController = refl
name_plain refusal.ControllerExists = refl
name_plain refusal.NoSuchController = refl
name_plain refusal.NoSuchSubnetwork = refl
name_plain (refusal.Conflict subnet feature port) = refl
name_plain (refusal.Disjoint feature port) = refl
name_plain (refusal.Full what) = refl
name_plain (refusal.Ahead seen latest) = refl
name_plain (refusal.NoStart feature port) = refl
name_plain (refusal.StartIsValve feature terminal) = refl
name_plain (refusal.BadCondition place) = refl
name_plain (refusal.DirtyGround area feature port) = refl
name_plain (refusal.NotIsolable feature terminal) = refl
name_plain (refusal.BadRuleTerminal place) = refl
name_plain (refusal.RuleExists place) = refl
name_plain (refusal.NotYet at latest) = refl
name_plain refusal.ServeOnly = refl
name_plain (refusal.WrongPage after at) = refl
name_plain (refusal.BadSpan since upto) = refl
name_plain refusal.Memory = refl

pub name_short : (r : Refusal) → length (fields_of r).name ≤ 17
name_short refusal.NotJson = lit≤ tt
name_short (refusal.BadRequest place) = lit≤ tt
name_short refusal.LineTooLong = lit≤ tt
name_short (refusal.BadSchema place) = lit≤ tt
name_short (refusal.NoSuchFeature id) = lit≤ tt
name_short (refusal.Moved at) = lit≤ tt
name_short (refusal.BadShape place) = lit≤ tt
name_short (refusal.NoSuchKind kind) = lit≤ tt
name_short (refusal.BadAttribute attribute) = lit≤ tt
name_short (refusal.BadTerminal feature) = lit≤ tt
name_short refusal.BadPath = lit≤ tt
name_short (refusal.HasAssociations least) = lit≤ tt
name_short refusal.HasControllers = lit≤ tt
name_short refusal.NoSuchAssociation = lit≤ tt
name_short refusal.WrongKind = lit≤ tt
name_short (refusal.AlreadyContained by) = lit≤ tt
name_short refusal.ContainsItself = lit≤ tt
name_short refusal.NoSuchTier = lit≤ tt
name_short refusal.NotController = lit≤ tt
name_short refusal.ControllerExists = lit≤ tt
name_short refusal.NoSuchController = lit≤ tt
name_short refusal.NoSuchSubnetwork = lit≤ tt
name_short (refusal.Conflict subnet feature port) = lit≤ tt
name_short (refusal.Disjoint feature port) = lit≤ tt
name_short (refusal.Full what) = lit≤ tt
name_short (refusal.Ahead seen latest) = lit≤ tt
name_short (refusal.NoStart feature port) = lit≤ tt
name_short (refusal.StartIsValve feature terminal) = lit≤ tt
name_short (refusal.BadCondition place) = lit≤ tt
name_short (refusal.DirtyGround area feature port) = lit≤ tt
name_short (refusal.NotIsolable feature terminal) = lit≤ tt
name_short (refusal.BadRuleTerminal place) = lit≤ tt
name_short (refusal.RuleExists place) = lit≤ tt
name_short (refusal.NotYet at latest) = lit≤ tt
name_short refusal.ServeOnly = lit≤ tt
name_short (refusal.WrongPage after at) = lit≤ tt
name_short (refusal.BadSpan since upto) = lit≤ tt
name_short refusal.Memory = lit≤ tt
