-- Causes that are looked at over a list of ports.
use Rattle.std.proofs.Common.{Bor, ◌≡◌, ℕ, suc, ◌+◌, ◌<◌, arith, List, [], ◌∷◌, ◌++◌, map, take, drop, length, get_or, Option, Some, None, refl, sym, ap, ◌∙◌, is_some}
use Rattle.std.specs.List.{cons_option}
use Rattle.std.specs.Option.{option_copied}
use Rattle.std.proofs.lemmas.List.{take_more, append-nil}
use Rattle.std.proofs.lemmas.List.Elements.{filter_map-append}
use Rattle.std.proofs.Math.Seq.{drop-cons}
use Rattle.un_defs.specs.declared.port.Port.{Port}
use Rattle.un_defs.specs.declared.port.Node.{Node}
use Rattle.un_defs.specs.declared.refusal.Refusal.{Refusal}
use Rattle.un_defs.specs.Refusing.{first_refusal}
use Rattle.un_defs.specs.Features.{Features}
use Rattle.un_resolve.specs.Starts.{start_node, nodes_of}

-- what is due of the ports from a place on, where nothing is due of the one there
pub refusal_further : (cause : Port → Option Refusal) (ports : List Port) (i : ℕ) (d : Port) → i < length ports → cause (get_or ports i d) ≡ None
    → first_refusal (map cause (drop i ports)) ≡ first_refusal (map cause (drop (i + 1) ports))
refusal_further cause ports i d l e =
    let next : suc i ≡ i + 1 = omega arith in
    ap (λ rest. first_refusal (map cause rest)) (drop-cons ports i d l)
    ∙ ap (λ o. first_refusal (o ∷ map cause (drop (suc i) ports))) e
    ∙ ap (λ k. first_refusal (map cause (drop k ports))) next

-- the refusal that is due of the one there is due of those from there on
pub refusal_here : (cause : Port → Option Refusal) (ports : List Port) (i : ℕ) (d : Port) (r : Refusal) → i < length ports → cause (get_or ports i d) ≡ Some r
    → first_refusal (map cause (drop i ports)) ≡ Some r
refusal_here cause ports i d r l e =
    ap (λ rest. first_refusal (map cause rest)) (drop-cons ports i d l) ∙ ap (λ o. first_refusal (o ∷ map cause (drop (suc i) ports))) e

-- a look-up finds what its copy finds
pub some_copied : {A : Type 0} (o : Option (Bor A)) → is_some (option_copied o) ≡ is_some o
some_copied None = refl
some_copied (Some a) = refl

module _ (F : Features) (ports : List Port) (i : ℕ) (d : Port) where
  -- the nodes of the ports up to the next one
  abbrev with_next : Option Node → List Node
  with_next o = nodes_of F (take i ports) ++ cons_option o []

  nodes_so_far : (o : Option Node) → i < length ports → start_node F (get_or ports i d) ≡ o → with_next o ≡ nodes_of F (take (i + 1) ports)
  nodes_so_far o l e =
      ap with_next (sym e)
      ∙ sym (filter_map-append (start_node F) (take i ports) (get_or ports i d ∷ []))
      ∙ ap (nodes_of F) (sym (take_more ports i d l))

  -- the next port has a node
  pub one_port_more : (n : Node) → i < length ports → start_node F (get_or ports i d) ≡ Some n
      → nodes_of F (take i ports) ++ n ∷ [] ≡ nodes_of F (take (i + 1) ports)
  one_port_more n l e = nodes_so_far (Some n) l e

  -- the next port has none
  pub no_port_more : i < length ports → start_node F (get_or ports i d) ≡ None → nodes_of F (take i ports) ≡ nodes_of F (take (i + 1) ports)
  no_port_more l e = sym (append-nil (nodes_of F (take i ports))) ∙ nodes_so_far None l e
