-- The opening state is a state, and so is each that a history leads to.
use Rattle.std.proofs.Common.{List, [], ◌∷◌, refl, arith}
use Rattle.std.specs.List.Sorted.{IsStrictlySortedBy}
use Rattle.un_ask.specs.declared.request.Command.{Command}
use Rattle.un_tiers.specs.declared.setup.Setup.{Setup}
use Rattle.un_core.specs.State.{opening}
use Rattle.un_core.specs.Validation.{by_point}
use Rattle.un_core.specs.History.{after_all}
use Rattle.un_core.specs.Cover.{IsState, MayAllHappen}
use Rattle.un_defs.proofs.Members.{among_from_contains}
use Rattle.un_core.proofs.CoverKept.{cover_is_kept}

sorted_nil : IsStrictlySortedBy by_point []
unfolding IsStrictlySortedBy
sorted_nil = tt

pub opening_state : (S : Setup) → IsState (opening S)
opening_state S = record {
  sound = record {
    rows = λ i j d l m. absurd (omega arith);
    associations = λ i j d l m. absurd (omega arith);
    controllers = λ i j d l m. absurd (omega arith);
    kinds = λ i d l. absurd (omega arith);
    ends = λ i d l. absurd (omega arith);
    controlled = λ i d l. absurd (omega arith);
  };
  fresh_ids = record { feature = λ i d l. absurd (omega arith); association = λ i d l. absurd (omega arith) };
  numbered = λ i j d l m. absurd (omega arith);
  numbers = λ i d l. absurd (omega arith);
  sorted = sorted_nil;
  nonempty = λ i d l. absurd (omega arith);
  cover = λ p _. refl;
  paths = λ n t stands path. absurd (among_from_contains [] t stands);
  stored = λ i d l. absurd (omega arith);
}

pub all_states : (S : Setup) (history : List Command) → MayAllHappen S history → IsState (after_all S history)
all_states S [] may = opening_state S
all_states S (c ∷ before) may = cover_is_kept (after_all S before) c (all_states S before may.1) may.0
