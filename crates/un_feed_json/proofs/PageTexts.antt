-- The texts of a sound page are UTF-8.
use Rattle.std.proofs.Common.{◌≡◌, ℕ, zero, suc, ◌<◌, ℤ, true, List, [], ◌∷◌, All, Option, Some, None, IfSome, IsUtf8, refl, subst, arith}
use Rattle.std.specs.Prelude.{slice_get}
use Rattle.std.specs.List.{list_all}
use Rattle.std.specs.Option.{option_map_or}
use Rattle.std.specs.Str.{IsAscii}
use Rattle.std.proofs.lemmas.Bool.Decides.{nat_tests}
use Rattle.std.proofs.lemmas.List.Elements.{All-head, All-tail}
use Rattle.std.proofs.lemmas.Str.{IsUtf8-from_ascii, IsUtf8-nil}
use Rattle.std.proofs.lemmas.Str.Ascii.{IsAscii-nil, IsAscii-cons}
use Rattle.un_geom.specs.declared.point.Point.{Point}
use Rattle.un_schema.specs.Catalog.{Catalog}
use Rattle.un_schema.specs.Names.{IsName, is_name_byte}
use Rattle.un_tiers.specs.declared.tier.Tier.{Tier}
use Rattle.un_defs.specs.declared.assoc.Controller.{Controller}
use Rattle.un_defs.specs.declared.port.Port.{Port}
use Rattle.un_defs.specs.declared.link.LinkName.{LinkName}
use Rattle.un_defs.specs.declared.link.LinkName.TheVariants.{Seg, Path, Coin, Assoc}
use Rattle.un_defs.specs.declared.link.Tie.{Tie}
use Rattle.un_defs.specs.declared.star.ErrorKind.{ErrorKind}
use Rattle.un_defs.specs.declared.star.ErrorKind.TheVariants as kind
use Rattle.un_defs.specs.declared.star.TopoError.{TopoError}
use Rattle.un_defs.specs.declared.star.Spot.{Spot}
use Rattle.un_defs.proofs.Rising.{Among, among_from-rising}
use Rattle.un_feed.specs.Differences.{Difference, ChangesShown}
use Rattle.un_values.specs.ReadBack.{EachText}
use Rattle.un_values.proofs.Utf8.{ascii, of_list, of_each, of_counts, of_object, of_attributes}
use Rattle.un_feed_json.specs.Names.{by_name, with_name, named}
use Rattle.un_feed_json.specs.Shown.{link_name, link, error_text, error, attributes, controller, entry, change, place, changes_value}
use Rattle.un_feed_json.specs.Sound.{HasTexts, IsEntry, IsChange, IsPage}
use Rattle.un_feed_json.proofs.AttrsBack.{among_from-filter_map, to_all}
use Rattle.un_feed_json.proofs.Known.{from_map}

-- ---- names

name_low : (b : ℕ) → is_name_byte b ≡ true → b < 128
name_low b h = grind (arith, nat_tests)

name_ascii : (text : List ℕ) → list_all is_name_byte text ≡ true → IsAscii text
name_ascii [] all = IsAscii-nil
name_ascii (b ∷ text) all = IsAscii-cons b text (name_low b (grind (arith, nat_tests))) (name_ascii text (grind (arith, nat_tests)))

name_utf8 : (text : List ℕ) → IsName text → IsUtf8 text
name_utf8 text h = IsUtf8-from_ascii text (name_ascii text h.bytes)

-- the text of an element, or the empty text for none
text_at : {A : Type 0} (f : A → List ℕ) (xs : List A) (i : ℕ) → All (λ x. IsUtf8 (f x)) xs → IsUtf8 (option_map_or f (slice_get xs i) [])
text_at f [] i h = IsUtf8-nil
text_at f (x ∷ xs) zero h = All-head (λ x. IsUtf8 (f x)) x xs h
text_at f (x ∷ xs) (suc i) h = text_at f xs i (All-tail (λ x. IsUtf8 (f x)) x xs h)

some_text : (xs : List (List ℕ)) (i : ℕ) (name : List ℕ) → All IsUtf8 xs → slice_get xs i ≡ Some name → IsUtf8 name
some_text xs i name h is = subst (λ o. IsUtf8 (option_map_or (λ x. x) o [])) is (text_at (λ x. x) xs i h)

-- ---- parts of a star

of_link_name : (name : LinkName) → EachText IsUtf8 (link_name name)
of_link_name (Seg line index) = (ascii refl, (tt, (tt, tt)))
of_link_name (Path device low high) = (ascii refl, (tt, (tt, (tt, tt))))
of_link_name (Coin junction terminal line vertex) = (ascii refl, (tt, (tt, (tt, (tt, tt)))))
of_link_name (Assoc id) = (ascii refl, (tt, tt))

of_link : (t : Tie) → EachText IsUtf8 (link t)
of_link t = (of_link_name t.name, (tt, (tt, (tt, (tt, (tt, (tt, (tt, tt))))))))

kind_utf8 : (e : ErrorKind) → IsUtf8 (error_text e)
kind_utf8 kind.Stacked = ascii refl
kind_utf8 kind.MissingJunction = ascii refl
kind_utf8 kind.NoRule = ascii refl
kind_utf8 kind.BadTerminal = ascii refl
kind_utf8 kind.MidspanTerminal = ascii refl
kind_utf8 kind.AssociationRule = ascii refl

of_error : (e : TopoError) → EachText IsUtf8 (error e)
of_error e = (kind_utf8 e.kind, (tt, (tt, (tt, tt))))

of_place : (o : Option Point) → EachText IsUtf8 (place o)
of_place None = tt
of_place (Some p) = (tt, (tt, (tt, tt)))

module _ (S : Catalog) (T : List Tier) (texts : HasTexts S T) where
  named_utf8 : (attrs : List (ℕ × ℤ)) (q : List ℕ × ℤ) → Among (named S attrs) q → IsUtf8 q.0
  named_utf8 attrs q i =
      let x = among_from-filter_map (with_name S) attrs q (among_from-rising by_name _ q i) in
      let found = from_map (λ name. (name, x.0.1)) (slice_get S.attributes x.0.0) q x.2 in
      subst (λ p. IsUtf8 p.0) found.2 (some_text S.attributes x.0.0 found.0 texts.attributes found.1)

  of_named : (attrs : List (ℕ × ℤ)) → EachText IsUtf8 (attributes S attrs)
  of_named attrs = of_object _ (of_attributes (named S attrs) (to_all (λ pair. IsUtf8 pair.0) (named S attrs) (named_utf8 attrs)))

  of_controller : (q : Port) (c : Option Controller) → IfSome c (λ k. (k.port ≡ q) × IsName k.subnet) → EachText IsUtf8 (controller T c)
  of_controller q None h = tt
  of_controller q (Some c) h = (text_at (λ t. t.name) T c.tier texts.tiers, (name_utf8 c.subnet h.1, tt))

  of_entry : (s : Spot) → IsEntry S T s → EachText IsUtf8 (entry S T s)
  of_entry s h = (
    tt,
    (
      tt,
      (
        text_at (λ k. k.name) S.kinds s.kind texts.kinds,
        (
          of_named s.attrs,
          (
            of_list link of_link s.ties,
            (
              of_controller s.port s.controller h.controller,
              (tt, (of_counts s.contents, (of_counts s.structures, tt))),
            ),
          ),
        ),
      ),
    ),
  )

  of_change : (d : Difference) → IsChange S T d → EachText IsUtf8 (change S T d)
  of_change (p, None) h = ((tt, (tt, (tt, tt))), (tt, (tt, tt)))
  of_change (p, Some star) h = ((tt, (tt, (tt, tt))), (of_each (IsEntry S T) (entry S T) of_entry star.spots h.star.entries, (of_list error of_error star.errors, tt)))

  pub page_utf8 : (t : ChangesShown) → IsPage S T t → EachText IsUtf8 (changes_value S T t)
  page_utf8 t h = (
    ascii refl,
    (
      of_place t.after,
      (
        ascii refl,
        (
          of_each (IsChange S T) (change S T) of_change t.page.pairs h.changes,
          (
            ascii refl,
            (
              tt,
              (
                ascii refl,
                (
                  ascii refl,
                  (ascii refl, (tt, (ascii refl, (tt, (ascii refl, (tt, tt)))))),
                ),
              ),
            ),
          ),
        ),
      ),
    ),
  )
