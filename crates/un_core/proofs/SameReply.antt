-- Two grounds tell the same of nodes that have the same entries in both.
use Rattle.std.proofs.Common.{◌≡◌, ℕ, not, ◌||◌, ◌==◌, Bool, false, List, [], ◌∷◌, map, filter, filter_map, flat_map, slice_get, cond, Option, None, Some, refl, inl, inr, ap, ◌∙◌, if◌then◌else◌}
use Rattle.std.specs.List.{cons_option, list_any}
use Rattle.std.specs.Ordering.{nat_cmp}
use Rattle.std.specs.Option.{option_map_or}
use Rattle.un_attrs.specs.Attributes.{attribute}
use Rattle.un_defs.specs.declared.port.Node.{Node}
use Rattle.un_defs.specs.declared.walk.Barriers.{Barriers}
use Rattle.un_defs.specs.Orders.{rising, same_port}
use Rattle.un_defs.specs.Ground.{Ground, entry}
use Rattle.un_defs.specs.Reach.{meets_condition}
use Rattle.un_defs.specs.Result.{result_nodes, entries, nodes_of_feature, attrs_of_feature, feature_ids, values, int_sum, least_value, greatest_value, result_cmp}
use Rattle.un_defs.proofs.Rising.{Among}
use Rattle.un_defs.proofs.Members.{among_from-filter}
use Rattle.un_ask.specs.declared.typed.Func.{Func}
use Rattle.un_ask.specs.declared.typed.Func.TheVariants.{Count, Sum, Least, Greatest}
use Rattle.un_ask.specs.declared.typed.TypedAsk.{TypedAsk}
use Rattle.un_ask.specs.declared.reply.Reply.TheVariants.{Controllers, Traced}
use Rattle.un_trace.specs.TraceReply.{where_asked, parts, total, result_of, nodes_in_result, controllers_reply, result_reply, clean_reply, lists_controllers}

filter_map_agree : {A B : Type 0} (f g : A → Option B) (xs : List A) → ((x : A) → Among xs x → f x ≡ g x) → filter_map f xs ≡ filter_map g xs
filter_map_agree f g [] h = refl
filter_map_agree f g (x ∷ xs) h = λ i. cons_option (h x (inl refl) i) (filter_map_agree f g xs (λ y m. h y (inr m)) i)

filter_agree : {A : Type 0} (p q : A → Bool) (xs : List A) → ((x : A) → Among xs x → p x ≡ q x) → filter p xs ≡ filter q xs
filter_agree p q [] h = refl
filter_agree p q (x ∷ xs) h =
    λ i. cond (h x (inl refl) i) (x ∷ filter_agree p q xs (λ y m. h y (inr m)) i) (filter_agree p q xs (λ y m. h y (inr m)) i)

module _ (G H : Ground) where
  -- the nodes have the same entries in both
  abbrev pub Agree : List Node → Type 0
  Agree ns = (n : Node) → Among ns n → entry G n ≡ entry H n

  entries_agree : (ns : List Node) → Agree ns → entries G ns ≡ entries H ns
  entries_agree ns h = filter_map_agree (entry G) (entry H) ns h

  result_nodes_agree : (B : Barriers) (with_barriers : Bool) (ns : List Node) → Agree ns → result_nodes G B with_barriers ns ≡ result_nodes H B with_barriers ns
  result_nodes_agree B with_barriers ns h =
      filter_agree _ _ ns
      (λ n m i. with_barriers || not (option_map_or (meets_condition B) (h n m i) false || list_any (same_port n.port) B.stops))

  agree_within : (p : Node → Bool) (ns : List Node) → Agree ns → Agree (filter p ns)
  agree_within p ns h n m = h n (among_from-filter p ns n m).0

  attrs_agree : (ns : List Node) → Agree ns → (id : ℕ) → attrs_of_feature G ns id ≡ attrs_of_feature H ns id
  attrs_agree ns h id = λ i. option_map_or (λ s. s.attrs) (slice_get (entries_agree (nodes_of_feature ns id) (agree_within (λ n. n.port.feature == id) ns h) i) 0) []

  values_agree : (ns : List Node) → Agree ns → (a : Option ℕ) → values G ns a ≡ values H ns a
  values_agree ns h None = refl
  values_agree ns h (Some a) = λ i. filter_map (λ id. attribute (attrs_agree ns h id i) a) (feature_ids ns)

  total_agree : (ns : List Node) → Agree ns → (f : Func) → total G ns f ≡ total H ns f
  total_agree ns h Count = refl
  total_agree ns h (Sum a) = λ i. Some (int_sum (values_agree ns h a i))
  total_agree ns h (Least a) = λ i. least_value (values_agree ns h a i)
  total_agree ns h (Greatest a) = λ i. greatest_value (values_agree ns h a i)

  result_agrees : (ask : TypedAsk) (ns : List Node) → Agree ns → result_of G ask ns ≡ result_of H ask ns
  result_agrees ask ns h = λ i. record {
    containers = where_asked ask.include.containers (rising nat_cmp (filter (λ id. not (id == 0)) (map (λ s. s.container) (entries_agree ns h i))));
    content = where_asked ask.include.content (rising nat_cmp (flat_map (λ s. s.contents) (entries_agree ns h i)));
    features = parts ns;
    functions = map (λ f. total_agree ns h f i) ask.functions;
    kind = ask.kind;
    structures = where_asked ask.include.structures (rising nat_cmp (flat_map (λ s. s.structures) (entries_agree ns h i)));
  }

  controllers_agree : (ask : TypedAsk) (ns : List Node) → Agree ns → controllers_reply G ask ns ≡ controllers_reply H ask ns
  controllers_agree ask ns h =
      λ i. Controllers
      (option_map_or (λ tier. rising result_cmp (filter (λ c. c.tier == tier) (filter_map (λ s. s.controller) (entries_agree ns h i)))) ask.barriers.tier []) 0

  result_reply_agrees : (ask : TypedAsk) (ns : List Node) → Agree ns → result_reply G ask ns ≡ result_reply H ask ns
  result_reply_agrees ask ns h =
      let listed_nodes : nodes_in_result G ask ns ≡ nodes_in_result H ask ns = result_nodes_agree ask.barriers ask.include.barriers ns h in
      ap (λ r. Traced r 0)
      (result_agrees ask (nodes_in_result G ask ns) (agree_within _ ns h) ∙ ap (result_of H ask) listed_nodes)

  -- the results where no dirt matters
  pub reply_agrees : (ask : TypedAsk) (ns : List Node) → Agree ns → clean_reply G ask ns ≡ clean_reply H ask ns
  reply_agrees ask ns h = λ i. if lists_controllers ask.kind then controllers_agree ask ns h i else result_reply_agrees ask ns h i
