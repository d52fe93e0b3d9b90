-- What a trace with its names looked up has.
use Rattle.std.proofs.Common.{◌≡◌, ℕ, true, false, Option, IsSome, IsTrue, Contains, ◌||◌, refl, sym, ap}
use Rattle.un_ask.specs.declared.trace.TraceKind.{TraceKind}
use Rattle.un_ask.specs.declared.trace.TraceKind.TheVariants as kind
use Rattle.un_trace.specs.TraceReply.{IsAnswerable}
use Rattle.un_tiers.specs.declared.setup.Setup.{Setup}
use Rattle.un_defs.specs.declared.port.Node.{Node}
use Rattle.un_defs.specs.Features.{Features}
use Rattle.un_defs.specs.Ports.{nodes}
use Rattle.un_ask.specs.declared.trace.TraceAsk.{TraceAsk}
use Rattle.un_resolve.specs.Kinds.{needs_tier, is_always_consistent, is_isolation}
use Rattle.un_resolve.specs.Starts.{tier_of, start_nodes}
use Rattle.un_resolve.specs.Valves.{isolates}
use Rattle.un_resolve.specs.Resolved.{condition_of, resolved}
use Rattle.un_core.specs.Answers.{is_loops, MayWalk}

untrue : {A : Type 0} → false ≡ true → A
untrue e = absurd (apart e)
  where
    apart : false ≡ true → ⊥
    apart e = cc

-- each but one for loops and one for isolation tells a result, or controllers of its tier
pub is_answerable : (k : TraceKind) (tier : Option ℕ) → is_loops k ≡ false → is_isolation k ≡ false → (IsTrue (needs_tier k) → IsSome tier) → IsAnswerable k tier
is_answerable kind.Connected tier loops isolation given = tt
is_answerable kind.Subnetwork tier loops isolation given = tt
is_answerable kind.Controllers tier loops isolation given = given refl
is_answerable kind.Upstream tier loops isolation given = tt
is_answerable kind.Downstream tier loops isolation given = tt
is_answerable kind.Loops tier loops isolation given = untrue (sym loops)
is_answerable kind.Isolation tier loops isolation given = untrue (sym isolation)

-- one for loops is always consistent
pub for_loops : (k : TraceKind) → is_loops k ≡ true → (k ≡ kind.Loops) × (is_always_consistent k ≡ true)
for_loops kind.Loops e = (refl, refl)
for_loops _ e = untrue e

-- and so is one for isolation, which has a tier
pub for_isolation : (k : TraceKind) → is_isolation k ≡ true → (k ≡ kind.Isolation) × (is_always_consistent k ≡ true) × IsTrue (needs_tier k)
for_isolation kind.Isolation e = (refl, refl, refl)
for_isolation _ e = untrue e

-- an answerable trace asks for no loops, nor for isolation
pub no_loops : (k : TraceKind) (tier : Option ℕ) → IsAnswerable k tier → is_loops k ≡ false
no_loops kind.Loops tier is = absurd is
no_loops kind.Connected tier is = refl
no_loops kind.Subnetwork tier is = refl
no_loops kind.Controllers tier is = refl
no_loops kind.Upstream tier is = refl
no_loops kind.Downstream tier is = refl
no_loops kind.Isolation tier is = absurd is

pub no_isolation : (k : TraceKind) (tier : Option ℕ) → IsAnswerable k tier → is_isolation k ≡ false
no_isolation kind.Loops tier is = absurd is
no_isolation kind.Connected tier is = refl
no_isolation kind.Subnetwork tier is = refl
no_isolation kind.Controllers tier is = refl
no_isolation kind.Upstream tier is = refl
no_isolation kind.Downstream tier is = refl
no_isolation kind.Isolation tier is = absurd is

-- a trace with its names looked up has what it has to have
pub may_walk : (S : Setup) (F : Features) (ask : TraceAsk) → (IsTrue (needs_tier ask.kind) → IsSome (tier_of S ask))
    → ((n : Node) → Contains (start_nodes S F ask) n → Contains (nodes F) n)
    → (IsTrue (is_isolation ask.kind) → IsSome (condition_of S.schema ask.isolators))
    → (IsTrue (is_isolation ask.kind) → (n : Node) → Contains (start_nodes S F ask) n → isolates S.schema F (condition_of S.schema ask.isolators) n.port ≡ false)
    → MayWalk S.schema F (resolved S F ask)
may_walk S F ask given starts isolators clear = record {
  starts = starts;
  for_loops = λ e. let both = for_loops ask.kind e in record { kind = both.0; consistent = ap (λ b. b || ask.consistent) both.1 };
  for_isolation = λ e.
      let all = for_isolation ask.kind e in (
        record { kind = all.0; consistent = ap (λ b. b || ask.consistent) all.1; tier = given all.2; isolators = isolators e },
        clear e,
      );
  for_other = λ loops isolation. is_answerable ask.kind (tier_of S ask) loops isolation given;
}
