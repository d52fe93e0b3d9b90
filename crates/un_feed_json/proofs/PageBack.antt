-- Pages are read back as they are printed.
use Rattle.std.proofs.Common.{◌≡◌, Bool, true, false, not, ◌&&◌, nat_lt, if◌then◌else◌, List, Option, Some, Result, Ok, Err, option_and_then, codes, refl, ap, ◌∙◌, arith}
use Rattle.std.proofs.lemmas.Bool.Decides.{nat_tests}
use Rattle.serde_json.specs.Data.{Data, boolean, string}
use Rattle.serde_json.specs.Find.{get, as_bool}
use Rattle.serde_json.specs.Read.{max_depth}
use Rattle.un_schema.specs.Catalog.{Catalog}
use Rattle.un_schema.specs.declared.place.Place.{Place}
use Rattle.un_schema.specs.declared.place.Place.TheVariants as place
use Rattle.un_schema.specs.Places.{place_text}
use Rattle.un_tiers.specs.declared.tier.Tier.{Tier}
use Rattle.un_json.specs.Forms.{base_of, point_of, or_null, list_of}
use Rattle.un_json.specs.Requests.{json_of}
use Rattle.un_json.proofs.Texts.{json_read}
use Rattle.un_json.specs.Rows.{required_member, no_others, is_named, or_blame, both, mapped, and_then, without_others}
use Rattle.un_values.specs.Values.{count, list}
use Rattle.un_values.proofs.Formed.{of_less}
use Rattle.un_values.proofs.ReadBack.{read_back}
use Rattle.un_values.proofs.Utf8.{compact_text_utf8}
use Rattle.un_feed_json.specs.Shown as shown
use Rattle.un_feed.specs.Differences.{ChangesShown}
use Rattle.un_feed_json.specs.Shown.{changes_text, changes_value}
use Rattle.un_feed_json.specs.Forms.{change_of, says}
use Rattle.un_feed_json.specs.Lines.{page, page_row, sound_page, rises_after, is_empty, value_answer, said_by, or_fault, page_line}
use Rattle.un_feed_json.specs.Sound.{IsSetup, IsPage}
use Rattle.un_feed_json.specs.ReadBack.{PagesReadBackLaw}
use Rattle.un_feed_json.proofs.PartsBack.{place_back, base_back}
use Rattle.un_feed_json.proofs.EntriesBack.{changes_back}
use Rattle.un_feed_json.proofs.PageForms.{of_page}
use Rattle.un_feed_json.proofs.PageNumbers.{page_short}
use Rattle.un_feed_json.proofs.PageTexts.{page_utf8}

member_back : {A : Type 0} (p : Place) (form : Data → Option A) (d v : Data) (x : A) → get (place_text p) d ≡ Some v → form v ≡ Some x → required_member p form d ≡ Ok x
unfolding required_member
member_back p form d v x g e = ap (λ o. or_blame p (option_and_then form o)) g ∙ ap (or_blame p) e

both_back : {A B : Type 0} (f : Result (A → B) Place) (a : Result A Place) (g : A → B) (x : A) → f ≡ Ok g → a ≡ Ok x → both f a ≡ Ok (g x)
both_back f a g x p q = ap (λ r. both r a) p ∙ ap (both (Ok g)) q

without_back : {A : Type 0} (r : Result A Place) (others : Result (Unit {0}) Place) (x : A) → r ≡ Ok x → others ≡ Ok tt → without_others r others ≡ Ok x
without_back r others x p q = ap (λ s. without_others s others) p ∙ ap (without_others (Ok x)) q

module _ (S : Catalog) (T : List Tier) (setup : IsSetup S T) (t : ChangesShown) (h : IsPage S T t) where
  abbrev value : Data
  value = changes_value S T t

  no_more : no_others (page_row S T).places value ≡ Ok tt
  unfolding no_others is_named
  no_more = refl

  members_back : (page_row S T).value value ≡ Ok t
  members_back =
      both_back _ _ _ t.version
      (both_back _ _ _ t.upto
      (both_back _ _ _ t.since
      (both_back _ _ _ tt
      (both_back _ _ _ t.page.more
      (both_back _ _ _ t.page.pairs
      (both_back _ _ page t.after refl
      (member_back place.After (or_null point_of) value (shown.place t.after) t.after refl (place_back t.after h.after)))
      (member_back place.Changes (list_of (change_of S T)) value (list (shown.change S T) t.page.pairs) t.page.pairs refl (changes_back S T setup t.page.pairs h.changes)))
      (member_back place.More as_bool value (boolean t.page.more) t.page.more refl refl))
      (member_back place.Ok (says (codes "changes")) value (string (codes "changes")) tt refl refl))
      (member_back place.Since base_of value (count t.since) t.since refl (base_back t.since (omega (arith, h.forward, h.upto)))))
      (member_back place.Upto base_of value (count t.upto) t.upto refl (base_back t.upto h.upto)))
      (member_back place.Version base_of value (count t.version) t.version refl (base_back t.version h.version))

  not_before : nat_lt t.upto t.since ≡ false
  not_before = let forward = h.forward in grind (arith, nat_tests)

  not_empty : (t.page.more && is_empty t.page.pairs) ≡ false
  not_empty = go t.page.more h.some
    where
      go : (b : Bool) → (b ≡ true → is_empty t.page.pairs ≡ false) → (b && is_empty t.page.pairs) ≡ false
      go false some = refl
      go true some = some refl

  sound : sound_page t ≡ Ok t
  sound =
      ap (λ b. if b then Err place.Upto else (if not (rises_after t.after t.page.pairs) then Err place.Changes else (if t.page.more && is_empty t.page.pairs then Err place.More else Ok t))) not_before
      ∙ ap (λ b. if not b then Err place.Changes else (if t.page.more && is_empty t.page.pairs then Err place.More else Ok t)) h.rising
      ∙ ap (λ b. if b then Err place.More else Ok t) not_empty

  -- so the value is read back as the page
  pub page_back : value_answer S T value ≡ Ok (page_line t)
  page_back =
      ap (mapped page_line) (ap (and_then sound_page) (without_back _ _ t members_back no_more) ∙ sound)

-- the text of the page is read as the value
text_back : (S : Catalog) (T : List Tier) (t : ChangesShown) → IsSetup S T → IsPage S T t → json_of (changes_text S T t) ≡ Some (changes_value S T t)
text_back S T t setup h =
    json_read (changes_text S T t) (changes_value S T t) (compact_text_utf8 (changes_value S T t) (page_utf8 S T setup.texts t h))
    (read_back (changes_value S T t) (of_less 8 max_depth _ (omega arith) (of_page S T t)) (page_short S T setup t h))

pub pages_back : PagesReadBackLaw
pages_back S T t setup h = ap (said_by S T) (text_back S T t setup h) ∙ ap or_fault (page_back S T setup t h)
