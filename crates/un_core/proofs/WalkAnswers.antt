-- Paths, checks and diagrams over the kept topology answer as over all features, and as over what the history leaves.
use Rattle.std.proofs.Common.{◌≡◌, List, [], ◌∷◌, find, None, Result, Ok, Err, Contains, IsTrue, refl, ap, subst, ◌∙◌, inl, inr}
use Rattle.un_schema.specs.Catalog.{Catalog}
use Rattle.un_defs.specs.declared.port.Node.{Node}
use Rattle.un_defs.specs.declared.refusal.Refusal.{Refusal}
use Rattle.un_defs.specs.declared.walk.Mode.TheVariants.{Any}
use Rattle.un_defs.specs.declared.walk.Barriers.{Barriers}
use Rattle.un_defs.specs.Features.{Features}
use Rattle.un_defs.specs.Orders.{same_port}
use Rattle.un_defs.specs.Ground.{entry}
use Rattle.un_defs.specs.Reach.{IsReach, leads, dirt}
use Rattle.un_defs.specs.Ports.{nodes as nodes_of_all}
use Rattle.un_defs.specs.Linked.{AreLinked}
use Rattle.un_defs.proofs.FreshLinked.{kept_linked}
use Rattle.un_defs.proofs.Members.{among_from_contains}
use Rattle.un_ask.specs.declared.path.NamedPath.{NamedPath}
use Rattle.un_ask.specs.declared.path.NamedCheck.{NamedCheck}
use Rattle.un_ask.specs.declared.diagram.NamedDiagram.{NamedDiagram}
use Rattle.un_ask.specs.declared.reply.Reply.{Reply}
use Rattle.un_ask.specs.declared.typed.PathAsk.{PathAsk}
use Rattle.un_ask.specs.declared.typed.CheckAsk.{CheckAsk}
use Rattle.un_path.specs.Answer.{HaveOwnPortsOnCleanGround, IsPathAnswer, IsCheckAnswer}
use Rattle.un_path.specs.Answer.{path_reply}
use Rattle.un_path.specs.Answer.{check_reply}
use Rattle.un_path.proofs.SamePath.{same_path, same_check}
use Rattle.un_ask.specs.declared.typed.DiagramAsk.{DiagramAsk}
use Rattle.un_diagram.specs.Answer.{IsAnswer as IsDiagramAnswer}
use Rattle.un_diagram.specs.Answer.{diagram_reply}
use Rattle.un_diagram.proofs.SameDiagram.{same_diagram}
use Rattle.un_resolve.specs.Walks.{path_asked, check_asked, diagram_asked}
use Rattle.un_resolve.proofs.WalksAsked.{path_ends, check_ends, diagram_starts}
use Rattle.un_core.specs.State.{State, kept_ground, fresh_ground_of}
use Rattle.un_core.specs.Cover.{IsState}
use Rattle.un_core.specs.Answers.{kept_survey, fresh_survey, reached_any, path_over, check_over, diagram_over, answered_or}
use Rattle.un_core.proofs.Asked.{kept_points}
use Rattle.un_core.proofs.Grounds.{reached_reaches, reached_fresh, reached_here}
use Rattle.un_core.proofs.Traces.{no_dirt}

-- ---- the nodes that are reached

module _ (s : State) (B : Barriers) (starts : List Node) where
  abbrev nodes : List Node
  nodes = reached_any (kept_survey s) B starts

  pub kept_any : IsReach (leads (kept_ground s) B Any) starts nodes
  kept_any = reached_reaches (kept_survey s) (kept_points s.kept) B Any starts

  fresh_any : IsState s → IsTrue B.consistent → nodes ≡ reached_any (fresh_survey s) B starts
  fresh_any is consistent = reached_fresh s is B Any consistent starts nodes kept_any

  -- where no dirt is met, entries are those of all features
  same_entries : IsState s → dirt (kept_ground s) nodes ≡ None → (n : Node) → Contains nodes n → entry (kept_ground s) n ≡ entry (fresh_ground_of s) n
  same_entries is none n h =
      ap (λ star. find (λ s. same_port s.port n.port) star.spots) (is.cover n.at (no_dirt (kept_ground s) nodes none n (among_from_contains nodes n h)))

-- ---- what calls over the kept topology need, and what they answer

module _ (s : State) (is : IsState s) (B : Barriers) (consistent : IsTrue B.consistent) where
  -- the nodes that are reached from nodes of the features are linked, where no dirt is met
  pub kept_are_linked : (starts : List Node) → ((n : Node) → Contains starts n → Contains (nodes_of_all s.features) n)
      → (reached : List Node) → IsReach (leads (kept_ground s) B Any) starts reached → dirt (kept_ground s) reached ≡ None → AreLinked (kept_ground s) reached
  kept_are_linked starts stand reached reach clean =
      kept_linked s.setup.schema s.features (kept_ground s) B Any starts reached is.sound is.cover consistent stand reach clean

  pub kept_own_ports : (from : Node) → Contains (nodes_of_all s.features) from → HaveOwnPortsOnCleanGround (kept_ground s) B from
  kept_own_ports from stands reached reach clean = (kept_are_linked (from ∷ []) only reached reach clean).own_ports
    where
      only : (n : Node) → Contains (from ∷ []) n → Contains (nodes_of_all s.features) n
      only n h = elim (among_from_contains (from ∷ []) n h) [
        | inl e ↦ subst (Contains (nodes_of_all s.features)) e stands
        | inr none ↦ absurd none
      ]

module _ (s : State) where
  pub path_kept : (ask : PathAsk) (reply : Reply) → IsPathAnswer (kept_ground s) ask reply → reply ≡ path_over (kept_survey s) ask
  path_kept ask reply is =
      is.is ∙ ap (path_reply (kept_ground s) ask) (reached_here (kept_survey s) (kept_points s.kept) ask.barriers Any (ask.from ∷ []) is.reached is.reach)

  pub check_kept : (ask : CheckAsk) (reply : Reply) → IsCheckAnswer (kept_ground s) ask reply → reply ≡ check_over (kept_survey s) ask
  check_kept ask reply is =
      is.is ∙ ap (check_reply (kept_ground s) ask) (reached_here (kept_survey s) (kept_points s.kept) ask.barriers Any (ask.from ∷ []) is.reached is.reach)

  pub diagram_kept : (ask : DiagramAsk) (reply : Reply) → IsDiagramAnswer (kept_ground s) ask reply → reply ≡ diagram_over (kept_survey s) ask
  diagram_kept ask reply is =
      is.is ∙ ap (diagram_reply (kept_ground s) ask) (reached_here (kept_survey s) (kept_points s.kept) ask.barriers Any ask.starts is.reached is.reach)

-- ---- the answers

module _ (s : State) (is : IsState s) where
  pub path_fresh : (ask : PathAsk) → IsTrue ask.barriers.consistent → path_over (kept_survey s) ask ≡ path_over (fresh_survey s) ask
  path_fresh ask consistent =
      same_path (kept_ground s) (fresh_ground_of s) ask (nodes s ask.barriers (ask.from ∷ [])) refl (kept_any s ask.barriers (ask.from ∷ []))
      (same_entries s ask.barriers (ask.from ∷ []) is)
      ∙ ap (path_reply (fresh_ground_of s) ask) (fresh_any s ask.barriers (ask.from ∷ []) is consistent)

  pub check_fresh : (ask : CheckAsk) → IsTrue ask.barriers.consistent → check_over (kept_survey s) ask ≡ check_over (fresh_survey s) ask
  check_fresh ask consistent =
      same_check (kept_ground s) (fresh_ground_of s) ask (nodes s ask.barriers (ask.from ∷ [])) refl (kept_any s ask.barriers (ask.from ∷ []))
      (same_entries s ask.barriers (ask.from ∷ []) is)
      ∙ ap (check_reply (fresh_ground_of s) ask) (fresh_any s ask.barriers (ask.from ∷ []) is consistent)

  pub diagram_fresh : (ask : DiagramAsk) → IsTrue ask.barriers.consistent → diagram_over (kept_survey s) ask ≡ diagram_over (fresh_survey s) ask
  diagram_fresh ask consistent =
      same_diagram (kept_ground s) (fresh_ground_of s) ask (nodes s ask.barriers ask.starts) refl (same_entries s ask.barriers ask.starts is)
      ∙ ap (diagram_reply (fresh_ground_of s) ask) (fresh_any s ask.barriers ask.starts is consistent)

-- ---- queries with their names looked up

-- they are always consistent
pub path_consistent : (S : Catalog) (F : Features) (ask : NamedPath) (typed : PathAsk) → path_asked S F ask ≡ Ok typed → IsTrue typed.barriers.consistent
path_consistent S F ask typed e = ap (λ (B : Barriers). B.consistent) (path_ends S F ask typed e).stop

pub check_consistent : (S : Catalog) (F : Features) (ask : NamedCheck) (typed : CheckAsk) → check_asked S F ask ≡ Ok typed → IsTrue typed.barriers.consistent
check_consistent S F ask typed e = ap (λ (B : Barriers). B.consistent) (check_ends S F ask typed e).stop

pub diagram_consistent : (S : Catalog) (F : Features) (ask : NamedDiagram) (typed : DiagramAsk) → diagram_asked S F ask ≡ Ok typed → IsTrue typed.barriers.consistent
diagram_consistent S F ask typed e = ap (λ (B : Barriers). B.consistent) (diagram_starts S F ask typed e).stop

-- two ways to answer that agree on the query with its names looked up answer the same
pub answered_same : {A : Type 0} (s : State) (f g : A → Reply) (asked : Result A Refusal) → ((a : A) → asked ≡ Ok a → f a ≡ g a) → answered_or s f asked ≡ answered_or s g asked
answered_same s f g (Err r) same = refl
answered_same s f g (Ok a) same = same a refl
