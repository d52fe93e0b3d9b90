use Rattle.std.proofs.Common.{◌≡◌, ◌<◌, true, Option, None, Some, length, get_or, is_some, subst, refl, sym, ap, ◌∙◌, rules, arith, true≢false}
use Rattle.std.specs.Option.{option_copied}
use Rattle.std.proofs.lemmas.Bool.Decides.{nat_tests}
use Rattle.std.proofs.lemmas.Option.{slice_get-get_or}
use denote.Ref.{Bor}
use Rattle.un_defs.specs.declared.link.Tie.{Tie}
use Rattle.un_defs.proofs.Unique.{node_same}
use Rattle.un_walk.specs.declared.item.Item.{Item}
use Rattle.un_walk.specs.declared.found.Found.{Found}
use Rattle.un_walk.proofs.FoundOver.{has_at, node_at}
use Rattle.un_walk.proofs.found.Found.was_found_from.Goals as goal

pub returns-in-Some-clause-found : goal.returns-in-Some-clause-found
returns-in-Some-clause-found c = λ same.
    let f : Found = c.args.self.now in
    let origin : Item = c.index.result.now in
    let inside : c.from.result < length f.items.items = search rules in
    has_at f c.from.result origin c.args.node inside
    (ap (λ (i : Item). i.seen.node) (sym c.index.ensures) ∙ sym c.node.ensures ∙ node_same c.node.result c.args.node (sym c.is_same_node.ensures ∙ same))

some_link : (o : Option (Bor Tie)) → is_some o ≡ true → (t : Tie) × (option_copied o ≡ Some t)
some_link (Some b) e = (b.now, refl)
some_link None e = absurd (true≢false (sym e))

pub returns-in-Some-clause-from : goal.returns-in-Some-clause-from
returns-in-Some-clause-from c = λ same.
    let f : Found = c.args.self.now in
    let item : Item = c.in-Some.item.now in
    let origin : Item = c.index.result.now in
    let inside : item.from < length f.items.items = search rules in
    let linked : is_some item.via ≡ true = ap is_some (sym c.via.ensures) ∙ sym c.is_some.ensures ∙ c.if-is_some.true in
    let link = some_link item.via linked in
    let within : c.args.place < length c.deref.result.now = grind (arith, nat_tests, c.in-Some.ensures.lookup.0) in
    let here : item ≡ get_or f.items.items c.args.place item = c.in-Some.ensures.lookup.1 ∙ ap (λ l. get_or l c.args.place item) c.deref.ensures.value in
    record {
      place = item.from;
      tie = link.0;
      origin = record { item = item; at = slice_get-get_or f.items.items c.args.place item (subst (λ l. c.args.place < length l) c.deref.ensures.value within) ∙ ap (λ (x : Item). Some x) (sym here); from = refl; via = link.1 };
      at = node_at f.items.items item.from origin (slice_get-get_or f.items.items item.from origin inside ∙ ap (λ (x : Item). Some x) (ap (λ k. get_or f.items.items k origin) (sym c.from.ensures) ∙ sym c.index.ensures))
          ∙ ap (λ n. Some n) (sym c.node.ensures ∙ node_same c.node.result c.args.node (sym c.is_same_node.ensures ∙ same));
    }
