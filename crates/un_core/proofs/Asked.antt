-- What a trace reaches over the topology that is kept.
use Rattle.std.proofs.Common.{◌≡◌, Bool, true, false, cond, List, [], ◌∷◌, map, Some, unwrap_or, ◌⊎◌, inl, inr, refl, sym, ap, ◌∙◌, if◌then◌else◌, Result, Ok, Err, IfOk, OnOk}
use Rattle.std.specs.Map.{lookup}
use Rattle.un_geom.specs.declared.point.Point.{Point}
use Rattle.un_geom.specs.Places.{same_point}
use Rattle.un_defs.specs.declared.star.Star.{Star}
use Rattle.un_defs.specs.Star.{empty_star}
use Rattle.un_defs.proofs.Rising.{Among}
use Rattle.un_defs.proofs.Unique.{point_same}
use Rattle.un_index.specs.Kept.{stars_of}
use Rattle.un_ask.specs.declared.typed.TypedAsk.{TypedAsk}
use Rattle.un_ask.specs.declared.reply.Reply.{Reply}
use Rattle.un_ask.specs.declared.trace.TraceKind.TheVariants as kind
use Rattle.un_trace.specs.TraceReply.{IsAnswer, trace_reply, mode_of}
use Rattle.un_loops.specs.Answer.{IsAnswer as IsLoopsAnswer, loops_reply}
use Rattle.un_isolate.specs.Answer.{IsAnswer as IsIsolationAnswer, isolation_reply}
use Rattle.un_resolve.specs.Kinds.{is_isolation}
use Rattle.un_defs.specs.declared.port.Node.{Node}
use Rattle.un_defs.specs.Ground.{Ground}
use Rattle.un_defs.specs.declared.walk.Mode.TheVariants.{Any}
use Rattle.un_core.specs.State.{State, kept_ground}
use Rattle.un_core.specs.Walked.{reached}
use Rattle.un_core.specs.Answers.{at_version, is_loops, kept_survey, kept_basis, survey_for, reached_from, traced, traced_on}
use Rattle.un_core.proofs.Grounds.{reached_here}

-- a star is kept at each point that has one
pub kept_points : (kept : List (Point × Star)) (p : Point) → Among (map (λ pair. pair.0) kept) p ⊎ (stars_of kept p ≡ empty_star)
kept_points [] p = inr refl
kept_points (pair ∷ kept) p = go (same_point p pair.0) refl (kept_points kept p)
  where
    go : (b : Bool) → same_point p pair.0 ≡ b → Among (map (λ pair. pair.0) kept) p ⊎ (stars_of kept p ≡ empty_star)
        → Among (pair.0 ∷ map (λ pair. pair.0) kept) p ⊎ (unwrap_or (cond b (Some pair.1) (lookup (same_point p) kept)) empty_star ≡ empty_star)
    go true e rest = inl (inl (sym (point_same p pair.0 e)))
    go false e rest = elim rest [ inl i ↦ inl (inr i) | inr none ↦ inr none ]

-- over the kept topology the mode makes no difference
pub kept_on : (s : State) (ask : TypedAsk) → traced_on (kept_basis s) ask ≡ at_version s.version (traced (kept_survey s) ask)
kept_on s ask = ap (λ v. at_version s.version (traced v ask)) (go ask.barriers.consistent)
  where
    go : (b : Bool) → survey_for (kept_basis s) b ≡ kept_survey s
    go true = refl
    go false = refl

-- the reply by its kind
abbrev pub reply_by : Bool → Bool → Ground → TypedAsk → List Node → Reply
reply_by loops isolation G ask reached = if loops then loops_reply G ask reached else if isolation then isolation_reply G ask reached else trace_reply G ask reached

-- the answer of a trace over what is kept is the one for the list of reached nodes
pub answer_kept : (s : State) (ask : TypedAsk) (reply : Reply) → is_loops ask.kind ≡ false → is_isolation ask.kind ≡ false
    → IsAnswer (kept_ground s) ask reply → reply ≡ traced (kept_survey s) ask
answer_kept s ask reply loops isolation is =
    is.is
    ∙ ap (trace_reply (kept_ground s) ask)
    (reached_here (kept_survey s) (kept_points s.kept) ask.barriers (mode_of ask.kind) ask.starts is.reached is.reach)
    ∙ (λ i. reply_by (sym loops i) (sym isolation i) (kept_ground s) ask (reached_from (kept_survey s) ask))

-- and so is that of one for loops
pub loops_kept : (s : State) (ask : TypedAsk) (reply : Reply) → ask.kind ≡ kind.Loops → IsLoopsAnswer (kept_ground s) ask reply → reply ≡ traced (kept_survey s) ask
loops_kept s ask reply loops is =
    is.is
    ∙ ap (loops_reply (kept_ground s) ask)
    (reached_here (kept_survey s) (kept_points s.kept) ask.barriers Any ask.starts is.reached is.reach ∙ ap (λ k. reached (kept_survey s) ask.barriers (mode_of k) ask.starts) (sym loops))
    ∙ ap (λ k. reply_by (is_loops k) (is_isolation k) (kept_ground s) ask (reached_from (kept_survey s) ask)) (sym loops)

-- and that of one for isolation
pub isolation_kept : (s : State) (ask : TypedAsk) (reply : Reply) → ask.kind ≡ kind.Isolation → IsIsolationAnswer (kept_ground s) ask reply → reply ≡ traced (kept_survey s) ask
isolation_kept s ask reply isolation is =
    is.is
    ∙ ap (isolation_reply (kept_ground s) ask)
    (reached_here (kept_survey s) (kept_points s.kept) ask.barriers Any ask.starts is.reached is.reach ∙ ap (λ k. reached (kept_survey s) ask.barriers (mode_of k) ask.starts) (sym isolation))
    ∙ ap (λ k. reply_by (is_loops k) (is_isolation k) (kept_ground s) ask (reached_from (kept_survey s) ask)) (sym isolation)

-- what holds of a value by one clause and of a success by another
pub both_ok : {A E : Type 0} (r : Result A E) (P Q : A → Type 0) (N : Type 0) → IfOk r P → OnOk r N → ((a : A) → P a → N → Q a) → IfOk r Q
both_ok (Ok a) P Q N p n f = f a p n
both_ok (Err e) P Q N p n f = tt
