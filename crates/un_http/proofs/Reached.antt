-- The router finds the kind of each route.
use Rattle.std.proofs.Common.{◌≡◌, ℕ, ◌<◌, Bool, true, false, List, ◌∷◌, [], ◌++◌, refl, sym, ◌∙◌, ap, subst, arith, Some, None, codes}
use Rattle.std.specs.Prelude.{◌==◌, nat_lt}
use Rattle.std.specs.List.{list_all}
use Rattle.std.specs.Char.{is_ascii_digit}
use Rattle.std.specs.Str.{IsUtf8, IsAscii}
use Rattle.std.proofs.lemmas.Str.Ascii.{IsAscii-nil, IsAscii-cons}
use Rattle.std.proofs.lemmas.Str.{IsUtf8-append, IsUtf8-from_ascii, is_utf8-from_IsUtf8}
use Rattle.std.proofs.lemmas.Bool.Decides.{nat_tests}
use Rattle.matchit.specs.Seek.{has_slash, first}
use Rattle.matchit.specs.Router.{RouteOf}
use Rattle.matchit.proofs.OnLiterals.{matchit_on_literals}
use Rattle.un_http.specs.declared.kind.Kind.{Kind}
use Rattle.un_http.specs.declared.kind.Kind.TheVariants.{Commands, Queries, Version, Feature, Subnetwork}
use Rattle.un_http.specs.declared.route.Route.{Route}
use Rattle.un_http.specs.declared.route.Route.TheVariants.{Commands as CommandsRoute, Queries as QueriesRoute, Version as VersionRoute, Feature as FeatureRoute, Subnetwork as SubnetworkRoute, NotFound, WrongMethod}
use Rattle.un_http.specs.Routes.{is_name_byte, is_name, is_id, IsRoute}
use Rattle.un_http.specs.Table.{table, commands_row, queries_row, version_row, feature_row, subnetwork_row}
use Rattle.un_http.specs.Kinds.{kind_at, IsKindOf}
use Rattle.un_http.proofs.Seeks.{down, take_param, take_two}

-- "/features/" leads to the feature's route
features : (b : ℕ) (text : List ℕ) → b < 128 → has_slash (b ∷ text) ≡ false → first table (codes "/features/" ++ (b ∷ text)) ≡ Some feature_row.1
features b text low e =
    down 47 _ _ _ (down 102 _ _ _ (down 101 _ _ _ (down 97 _ _ _ (down 116 _ _ _ (down 117 _ _ _ (down 114 _ _ _ (down 101 _ _ _ (down 115 _ _ _ (down 47 _ _ _ (take_param feature_row.1 b text low e))))))))))

-- "/subnetworks/" leads to the subnetwork's route
subnetworks : (x : ℕ) (a : List ℕ) (y : ℕ) (b : List ℕ) → x < 128 → has_slash (x ∷ a) ≡ false → y < 128 → has_slash (y ∷ b) ≡ false
    → first table (codes "/subnetworks/" ++ ((x ∷ a) ++ 47 ∷ (y ∷ b))) ≡ Some subnetwork_row.1
subnetworks x a y b low e low' e' =
    down 47 _ _ _ (down 115 _ _ _ (down 117 _ _ _ (down 98 _ _ _ (down 110 _ _ _ (down 101 _ _ _ (down 116 _ _ _ (down 119 _ _ _ (down 111 _ _ _ (down 114 _ _ _ (down 107 _ _ _ (down 115 _ _ _ (down 47 _ _ _ (take_two subnetwork_row.1 x a y b low e low' e')))))))))))))

module _ (test : ℕ → Bool) where
  ascii_from : ((b : ℕ) → test b ≡ true → b < 128) → (text : List ℕ) → list_all test text ≡ true → IsAscii text
  ascii_from low [] all = IsAscii-nil
  ascii_from low (b ∷ text) all = IsAscii-cons b text (low b (grind (arith, nat_tests))) (ascii_from low text (grind (arith, nat_tests)))

  slashless : ((b : ℕ) → test b ≡ true → b == 47 ≡ false) → (text : List ℕ) → list_all test text ≡ true → has_slash text ≡ false
  slashless other [] all = refl
  slashless other (b ∷ text) all =
      let here : b == 47 ≡ false = other b (grind (arith, nat_tests)) in
      let rest = slashless other text (grind (arith, nat_tests)) in
      rw (here, rest) refl

digit_low : (b : ℕ) → is_ascii_digit b ≡ true → b < 128
digit_low b h = grind (arith, nat_tests)

digit_other : (b : ℕ) → is_ascii_digit b ≡ true → b == 47 ≡ false
digit_other b h = grind (arith, nat_tests)

name_low : (b : ℕ) → is_name_byte b ≡ true → b < 128
name_low b h = grind (arith, nat_tests)

pub name_other : (b : ℕ) → is_name_byte b ≡ true → b == 47 ≡ false
name_other b h = grind (arith, nat_tests)

pub name_slashless : (text : List ℕ) → is_name text ≡ true → has_slash text ≡ false
name_slashless text is = slashless is_name_byte name_other text (grind (arith, nat_tests))

at_text : (path : List ℕ) (route : RouteOf Kind) → IsUtf8 path → first table path ≡ Some route → kind_at path ≡ Some route.value
at_text path route text found =
    let is_text = is_utf8-from_IsUtf8 path text in
    rw (is_text, found) refl

ascii_literal : (text : List ℕ) → list_all (λ b. nat_lt b 128) text ≡ true → IsAscii text
ascii_literal text all = ascii_from (λ b. nat_lt b 128) (λ b h. grind (arith, nat_tests)) text all

commands_found : first table (codes "/commands") ≡ Some commands_row.1
unfolding matchit_on_literals
commands_found = refl

commands_at : kind_at (codes "/commands") ≡ Some Commands
commands_at = at_text (codes "/commands") commands_row.1 (IsUtf8-from_ascii (codes "/commands") (ascii_literal (codes "/commands") refl)) commands_found

queries_found : first table (codes "/queries") ≡ Some queries_row.1
unfolding matchit_on_literals
queries_found = refl

queries_at : kind_at (codes "/queries") ≡ Some Queries
queries_at = at_text (codes "/queries") queries_row.1 (IsUtf8-from_ascii (codes "/queries") (ascii_literal (codes "/queries") refl)) queries_found

version_found : first table (codes "/version") ≡ Some version_row.1
unfolding matchit_on_literals
version_found = refl

version_at : kind_at (codes "/version") ≡ Some Version
version_at = at_text (codes "/version") version_row.1 (IsUtf8-from_ascii (codes "/version") (ascii_literal (codes "/version") refl)) version_found

feature_at : (text : List ℕ) → is_id text ≡ true → kind_at (codes "/features/" ++ text) ≡ Some Feature
feature_at [] is = absurd (none is)
  where
    none : false ≡ true → ⊥
    none h = cc
feature_at (b ∷ text) is =
    let digits : list_all is_ascii_digit (b ∷ text) ≡ true = grind (arith, nat_tests) in
    let low : b < 128 = digit_low b (grind (arith, nat_tests)) in
    let ascii = IsUtf8-from_ascii (b ∷ text) (ascii_from is_ascii_digit digit_low (b ∷ text) digits) in
    let prefix : IsUtf8 (codes "/features/") = IsUtf8-from_ascii (codes "/features/") (ascii_literal (codes "/features/") refl) in
    at_text _ feature_row.1 (IsUtf8-append (codes "/features/") (b ∷ text) prefix ascii) (features b text low (slashless is_ascii_digit digit_other (b ∷ text) digits))

subnetwork_at : (a b : List ℕ) → is_name a ≡ true → is_name b ≡ true → kind_at (codes "/subnetworks/" ++ (a ++ 47 ∷ b)) ≡ Some Subnetwork
subnetwork_at [] b is is' = absurd (none is)
  where
    none : false ≡ true → ⊥
    none h = cc
subnetwork_at (x ∷ a) [] is is' = absurd (none is')
  where
    none : false ≡ true → ⊥
    none h = cc
subnetwork_at (x ∷ a) (y ∷ b) is is' =
    let one : list_all is_name_byte (x ∷ a) ≡ true = grind (arith, nat_tests) in
    let two : list_all is_name_byte (y ∷ b) ≡ true = grind (arith, nat_tests) in
    let low : x < 128 = name_low x (grind (arith, nat_tests)) in
    let low' : y < 128 = name_low y (grind (arith, nat_tests)) in
    let text = IsUtf8-from_ascii (x ∷ a) (ascii_from is_name_byte name_low (x ∷ a) one) in
    let text' = IsUtf8-from_ascii (47 ∷ (y ∷ b)) (IsAscii-cons 47 (y ∷ b) (omega arith) (ascii_from is_name_byte name_low (y ∷ b) two)) in
    let prefix : IsUtf8 (codes "/subnetworks/") = IsUtf8-from_ascii (codes "/subnetworks/") (ascii_literal (codes "/subnetworks/") refl) in
    at_text _ subnetwork_row.1 (IsUtf8-append (codes "/subnetworks/") _ prefix (IsUtf8-append (x ∷ a) (47 ∷ (y ∷ b)) text text'))
    (subnetworks x a y b low (name_slashless (x ∷ a) is) low' (name_slashless (y ∷ b) is'))

-- the router finds the kind of a path's route
pub reached : (path : List ℕ) (route : Route) → IsRoute path route → (kind : Kind) × ((kind_at path ≡ Some kind) × IsKindOf kind route)
reached path CommandsRoute is = (Commands, (ap kind_at is ∙ commands_at, refl))
reached path QueriesRoute is = (Queries, (ap kind_at is ∙ queries_at, refl))
reached path VersionRoute is = (Version, (ap kind_at is ∙ version_at, refl))
reached path (FeatureRoute id) is = (Feature, (ap kind_at is.1.0 ∙ feature_at is.0 is.1.1, refl))
reached path (SubnetworkRoute tier subnet) is = (Subnetwork, (ap kind_at is.2.0 ∙ subnetwork_at is.0 is.1 is.2.1 is.2.2, refl))
reached path NotFound is = absurd is
reached path (WrongMethod allow_get) is = absurd is

-- no kind, no route
pub none_reached : (path : List ℕ) → kind_at path ≡ None → (route : Route) → ¬ (IsRoute path route)
none_reached path e route is =
    let r = reached path route is in
    none_some (sym e ∙ r.1.0)
  where
    none_some : {kind : Kind} → None ≡ Some kind → ⊥
    none_some h = cc

-- only a route of the kind that is found
pub kind_reached : (path : List ℕ) (kind : Kind) → kind_at path ≡ Some kind → ((route : Route) → IsKindOf kind route → ¬ (IsRoute path route)) → (route : Route) → ¬ (IsRoute path route)
kind_reached path kind e other route is =
    let r = reached path route is in
    let same : r.0 ≡ kind = some_same (sym r.1.0 ∙ e) in
    other route (subst (λ k. IsKindOf k route) same r.1.1) is
  where
    some_same : {k l : Kind} → Some k ≡ Some l → k ≡ l
    some_same h = cc

pub not_feature : (path : List ℕ) → kind_at path ≡ Some Feature → ((id : ℕ) → ¬ (IsRoute path (FeatureRoute id))) → (route : Route) → ¬ (IsRoute path route)
not_feature path e other = kind_reached path Feature e only
  where
    only : (route : Route) → IsKindOf Feature route → ¬ (IsRoute path route)
    only CommandsRoute k is = absurd (cc)
    only QueriesRoute k is = absurd (cc)
    only VersionRoute k is = absurd (cc)
    only (FeatureRoute id) k is = other id is
    only (SubnetworkRoute tier subnet) k is = absurd (cc)
    only NotFound k is = is
    only (WrongMethod allow_get) k is = is

pub not_subnetwork : (path : List ℕ) → kind_at path ≡ Some Subnetwork → ((tier subnet : ℕ × ℕ) → ¬ (IsRoute path (SubnetworkRoute tier subnet))) → (route : Route) → ¬ (IsRoute path route)
not_subnetwork path e other = kind_reached path Subnetwork e only
  where
    only : (route : Route) → IsKindOf Subnetwork route → ¬ (IsRoute path route)
    only CommandsRoute k is = absurd (cc)
    only QueriesRoute k is = absurd (cc)
    only VersionRoute k is = absurd (cc)
    only (FeatureRoute id) k is = absurd (cc)
    only (SubnetworkRoute tier subnet) k is = other tier subnet is
    only NotFound k is = is
    only (WrongMethod allow_get) k is = is
