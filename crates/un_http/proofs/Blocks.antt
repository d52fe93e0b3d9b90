-- Blocks that bytes begin with.
use Rattle.std.proofs.Common.{◌≡◌, inl, inr, ℕ, ◌+◌, ◌<◌, ◌≤◌, true, List, ◌∷◌, [], ◌++◌, refl, sym, ◌∙◌, ap, subst, take, drop, length, arith, append_assoc, Option, zero, suc}
use Rattle.std.proofs.lemmas.Grind.{common_steps}
use Rattle.std.proofs.lemmas.List.{length-drop, length-append, length-take-le, take-append-drop, take-append-le}
use Rattle.un_io.proofs.Chains.{Consumes-trans}
use Rattle.un_http.specs.declared.check.Check.{Check}
use Rattle.un_http.specs.declared.check.Check.TheVariants.{ManyHeaders}
use Rattle.un_http.specs.declared.head.Passed.{Passed}
use Rattle.un_http.specs.declared.take.Taken.{Taken}
use Rattle.un_http.specs.declared.take.Taken.TheVariants.{Request as TookRequest, Failed, Closed, Cut, ReadFault}
use Rattle.un_http.specs.Block.{Begins, ends_block, HasNoEnd, EndsAt}
use Rattle.un_http.specs.Filling.{More, Skips}
use Rattle.un_http.specs.Passed.{IsPassed}
use Rattle.un_http.specs.Head.{Fails}
use Rattle.un_http.specs.Requests.{IsBlock, IsInBody}
use Rattle.un_http.specs.Taking.{HoldsRequest, RefusedAt, TakesBegun, Takes}

take_take_prefix : (k n : ℕ) (bytes : List ℕ) → k ≤ n → take k (take n bytes) ≡ take k bytes
take_take_prefix k n bytes le = grind (arith, common_steps)

pub begins_more : (bytes more : List ℕ) → Begins bytes → Begins (bytes ++ more)
begins_more [] more b = absurd b
begins_more (x ∷ bytes) more b = b

begins_prefix : (bytes : List ℕ) (n : ℕ) → Begins bytes → 0 < n → Begins (take n bytes)
begins_prefix [] n b some = absurd b
begins_prefix (x ∷ bytes) zero b some = absurd (omega arith)
begins_prefix (x ∷ bytes) (suc n) b some = b

-- an end isn't at no byte
some_end : (bytes : List ℕ) (n : ℕ) → EndsAt bytes n → 0 < n
some_end bytes zero e = absurd (no e.ends)
  where
    no : ends_block (take zero bytes) ≡ true → ⊥
    no p = cc
some_end bytes (suc n) e = omega arith

pub ends_more : (bytes more : List ℕ) (n : ℕ) → EndsAt bytes n → EndsAt (bytes ++ more) n
ends_more bytes more n e = record {
  within = grind (arith, common_steps, e.within);
  ends = rw (take-append-le n bytes more e.within) e.ends;
  first = λ k below. let fits : k ≤ length bytes = omega (arith, e.within) in rw (take-append-le k bytes more fits) (e.first k below);
}

pub is_block : (bytes : List ℕ) (n : ℕ) → Begins bytes → EndsAt bytes n → n ≤ 8192 → IsBlock (take n bytes)
is_block bytes n b e short =
    let size = length-take-le n bytes e.within in
    record {
      begins = begins_prefix bytes n b (some_end bytes n e);
      ends = record {
        within = omega arith;
        ends = rw (size, take_take_prefix n n bytes (omega arith)) e.ends;
        first = λ k below. let lt : k < n = omega (arith, size, below) in rw (take_take_prefix k n bytes (omega (arith, lt))) (e.first k lt);
      };
      short = omega (arith, size, short);
    }

pub too_long : (bytes : List ℕ) → Begins bytes → 8192 ≤ length bytes → HasNoEnd 8192 bytes → RefusedAt bytes ManyHeaders
too_long bytes b long none = record {
  refused = take 8192 bytes;
  rest = drop 8192 bytes;
  cut = sym (take-append-drop 8192 bytes);
  is_refused = inl (
    refl,
    record {
      begins = begins_prefix bytes 8192 b (omega arith);
      size = length-take-le 8192 bytes long;
      endless = λ k le. rw (take_take_prefix k 8192 bytes le) (none k le);
    },
  );
}

pub refused : (bytes : List ℕ) (n : ℕ) (check : Check) → Begins bytes → EndsAt bytes n → n ≤ 8192 → Fails (take n bytes) check → RefusedAt bytes check
refused bytes n check b e short fails = record {
  refused = take n bytes;
  rest = drop n bytes;
  cut = sym (take-append-drop n bytes);
  is_refused = inr (is_block bytes n b e short, fails);
}

-- a request that holds in bytes to which more came
pub holds : (left left' : Option (List ℕ)) (bytes bytes' : List ℕ) (n : ℕ) (passed : Passed) → Begins bytes → EndsAt bytes n → n ≤ 8192 → IsPassed (take n bytes) passed → More left left' bytes bytes' → n + passed.size ≤ length bytes' → HoldsRequest bytes' passed n
holds left left' bytes bytes' n passed b e short is more whole = record {
  begins = subst Begins (sym more.1.1) (begins_more bytes more.0 b);
  ends = subst (λ x. EndsAt x n) (sym more.1.1) (ends_more bytes more.0 n e);
  short = short;
  passed_head = rw (more.1.1, take-append-le n bytes more.0 e.within) is;
  whole = whole;
}

-- the input ended in its body
pub in_body : (left left' : Option (List ℕ)) (bytes bytes' : List ℕ) (n : ℕ) (passed : Passed) → Begins bytes → EndsAt bytes n → n ≤ 8192 → IsPassed (take n bytes) passed → More left left' bytes bytes' → length bytes' < n + passed.size → IsInBody bytes'
in_body left left' bytes bytes' n passed b e short is more part =
    let prefix : take n bytes' ≡ take n bytes = rw more.1.1 (take-append-le n bytes more.0 e.within) in
    let head = is.1 in
    let rest = length-drop n bytes' in
    let size = head.size in
    let more_size = ap length more.1.1 ∙ length-append bytes more.0 in
    record {
      block = take n bytes;
      part = drop n bytes';
      head = is.0;
      cut = sym (take-append-drop n bytes') ∙ ap (λ x. x ++ drop n bytes') prefix;
      is_block = is_block bytes n b e short;
      is_head = head.is_head;
      passes = head.passes;
      short = omega (arith, rest, size, part, e.within, more_size);
    }

-- and behind blank bytes
pub takes : (left left' : Option (List ℕ)) (bytes bytes' : List ℕ) (taken : Taken) → (s : Skips left left' bytes bytes') → TakesBegun bytes' left' taken → Takes (bytes ++ s.read) bytes' left' taken
takes left left' bytes bytes' (TookRequest passed n) s t = (s.blank, (s.is_blank, s.cut, t))
takes left left' bytes bytes' (Failed check) s t = record {
  blank = s.blank;
  refused = t.refused;
  rest = t.rest;
  cut = s.cut ∙ ap (λ x. s.blank ++ x) t.cut;
  is_blank = s.is_blank;
  is_refused = t.is_refused;
}
takes left left' bytes bytes' Closed s t = absurd t
takes left left' bytes bytes' (Cut count) s t = (
  record {
    blank = s.blank;
    inside = bytes';
    cut = s.cut;
    is_blank = s.is_blank;
    begins = t.1;
    count_is = t.0;
    is_inside = t.2;
  },
  t.3,
)
takes left left' bytes bytes' ReadFault s t = tt

pub more_begins : (left left' : Option (List ℕ)) (bytes bytes' : List ℕ) → More left left' bytes bytes' → Begins bytes → Begins bytes'
more_begins left left' bytes bytes' more b = subst Begins (sym more.1.1) (begins_more bytes more.0 b)

pub more_trans : (left left' left'' : Option (List ℕ)) (bytes bytes' bytes'' : List ℕ) → More left left' bytes bytes' → More left' left'' bytes' bytes'' → More left left'' bytes bytes''
more_trans left left' left'' bytes bytes' bytes'' a b =
    (a.0 ++ b.0, (Consumes-trans left left' left'' a.0 b.0 a.1.0 b.1.0, b.1.1 ∙ ap (λ x. x ++ b.0) a.1.1 ∙ append_assoc bytes a.0 b.0))
