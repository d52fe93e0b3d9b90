-- What holds of every state, and what is to be shown of it.
use Rattle.std.specs.Prelude.{◌≡◌, ◌≢◌, ◌<◌, List, [], ◌∷◌, All, Contains, IsTrue, IsFalse, ⊤}
use Rattle.std.specs.List.{list_any}
use Rattle.std.specs.List.Sorted.{IsStrictlySortedBy}
use Rattle.un_geom.specs.declared.point.Point.{Point}
use Rattle.un_geom.specs.Places.{covers}
use Rattle.un_defs.specs.declared.port.Node.{Node}
use Rattle.un_defs.specs.declared.link.Tie.{Tie}
use Rattle.un_defs.specs.declared.edit.Edit.{Edit}
use Rattle.un_defs.specs.Star.{empty_star}
use Rattle.un_defs.specs.Sound.{IsSound}
use Rattle.un_defs.specs.Ground.{Ground, ties, AreNumbered}
use Rattle.un_defs.specs.Reach.{is_path}
use Rattle.un_defs.specs.Laws.{IsCovered, AreNew, MayBeMade}
use Rattle.un_index.specs.Kept.{stars_of}
use Rattle.un_subnet.specs.Stored.{AreOrdered}
use Rattle.un_ask.specs.declared.request.Command.{Command}
use Rattle.un_ask.specs.declared.request.Command.TheVariants as command
use Rattle.un_tiers.specs.declared.setup.Setup.{Setup}
use Rattle.un_core.specs.State.{State, fresh_star, kept_ground}
use Rattle.un_core.specs.Validation.{by_point}
use Rattle.un_core.specs.Step.{setting, next_with, next_of, made_at, next_state, dirtied_by}
use Rattle.un_core.specs.History.{after_all, dirty_after, kept_after}

-- each path joins two nodes at one point
abbrev pub PathsStay : Ground → Type 0
PathsStay G = (n : Node) (t : Tie) → Contains (ties G n) t → IsTrue (is_path t.name) → t.to.at ≡ n.at

-- The features are sound, the next ids and numbers are new, each point that no dirty area covers has its fresh star, the paths of all kept
-- stars stay at their points, and the points of the stored subnetworks are in order.
pub record IsState (s : State) : Type 0 where
  pub sound : IsSound s.setup.schema s.features
  pub fresh_ids : AreNew (next_of s) s.features
  pub numbered : AreNumbered s.areas
  pub numbers : All (λ area. area.0 < s.next_area) s.areas
  pub sorted : IsStrictlySortedBy by_point s.kept
  pub nonempty : All (λ pair. pair.1 ≢ empty_star) s.kept
  pub cover : IsCovered s.setup.schema s.features (kept_ground s)
  pub paths : PathsStay (kept_ground s)
  pub stored : AreOrdered s.stored

-- each edit of a batch may be made on what the ones before it left
abbrev pub MayAllBeMade : State → List Edit → Type 0
MayAllBeMade s [] = ⊤
MayAllBeMade s (e ∷ es) = MayBeMade (setting s) (next_with s 0) s.features e × MayAllBeMade (made_at 0 s e) es

-- an edit that is accepted may be made, and so may each of a batch; validations, updates and rules ask for no more
abbrev pub MayHappen : State → Command → Type 0
MayHappen s (command.Edit e) = MayBeMade (setting s) (next_of s) s.features e
MayHappen s (command.Batch es) = MayAllBeMade s es
MayHappen s (command.Validate extent) = ⊤
MayHappen s (command.Update tier subnet) = ⊤
MayHappen s (command.Rule named) = ⊤

-- each command might happen after those before it
abbrev pub MayAllHappen : Setup → List Command → Type 0
MayAllHappen S [] = ⊤
MayAllHappen S (c ∷ before) = MayHappen (after_all S before) c × MayAllHappen S before

-- the opening state is one, and what might happen to a state leaves a state
abbrev pub CoverLaw : Type 0
CoverLaw = (s : State) (c : Command) → IsState s → MayHappen s c → IsState (next_state s c)

-- the kept topology and the dirty areas are those of the history
pub record IsOfHistory (S : Setup) (history : List Command) : Type 0 where
  pub areas : (after_all S history).areas ≡ dirty_after S history
  pub kept : (p : Point) → stars_of (after_all S history).kept p ≡ kept_after S history p

abbrev pub HistoryLaw : Type 0
HistoryLaw = (S : Setup) (history : List Command) → MayAllHappen S history → IsOfHistory S history

-- a command changes the stars of the features only under the rectangles that it makes dirty
abbrev pub StepLocalityLaw : Type 0
StepLocalityLaw = (s : State) (c : Command) → IsState s → MayHappen s c → (p : Point) → IsFalse (list_any (λ r. covers r p) (dirtied_by s c))
    → fresh_star (next_state s c) p ≡ fresh_star s p
