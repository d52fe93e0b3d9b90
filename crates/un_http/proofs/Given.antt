-- The request that the kept bytes begin with.
use Rattle.std.proofs.Common.{◌≡◌, ℕ, ◌+◌, ◌-◌, ◌≤◌, List, ◌++◌, sym, ◌∙◌, ap, subst, take, drop, length, arith, Option}
use Rattle.std.specs.Prelude.{slice_range}
use Rattle.std.proofs.lemmas.Grind.{common_steps}
use Rattle.std.proofs.lemmas.List.{length-drop, length-take, length-take-le, take-append-drop, take-take, drop-take}
use Rattle.httparse.specs.Spans.{span_bytes, IsWithin}
use Rattle.httparse.specs.declared.spans.Span.{Span}
use Rattle.un_http.specs.declared.head.Passed.{Passed}
use Rattle.un_http.specs.declared.take.Taken.TheVariants.{Request as TookRequest}
use Rattle.un_http.specs.Requests.{IsRequest}
use Rattle.un_http.specs.Taking.{Takes}
use Rattle.un_http.proofs.Blocks.{is_block}

-- a span of a front
span_prefix : (bytes : List ℕ) (n : ℕ) (s : Span) → IsWithin (length (take n bytes)) s → span_bytes bytes s ≡ span_bytes (take n bytes) s
span_prefix bytes n s within =
    let size = length-take n bytes in
    let last : s.end ≤ n = grind (arith, common_steps, within.1, size) in
    let first : s.start ≤ s.end = within.0 in
    let split : s.start + (n - s.start) ≡ n = omega (arith, last, first) in
    let back = subst (λ k. drop s.start (take k bytes) ≡ take (n - s.start) (drop s.start bytes)) split (drop-take s.start (n - s.start) bytes) in
    let fits : s.end - s.start ≤ n - s.start = omega (arith, last, first) in
    sym (ap (λ x. take (s.end - s.start) x) back ∙ take-take (s.end - s.start) (n - s.start) (drop s.start bytes) fits)

body_cut : (bytes : List ℕ) (n size : ℕ) → bytes ≡ take n bytes ++ (slice_range bytes n (n + size) ++ drop (n + size) bytes)
body_cut bytes n size =
    let exact : n + size - n ≡ size = omega arith in
    let back : drop size (drop n bytes) ≡ drop (n + size) bytes = grind (arith, common_steps) in
    sym (rw (exact, ← back, take-append-drop size (drop n bytes)) (take-append-drop n bytes))

pub gives : (all bytes : List ℕ) (left : Option (List ℕ)) (passed : Passed) (n : ℕ) → Takes all bytes left (TookRequest passed n)
    → IsRequest all (record { method = span_bytes bytes passed.method; path = span_bytes bytes passed.path; body = slice_range bytes n (n + passed.size); close = passed.close }) (drop (n + passed.size) bytes)
gives all bytes left passed n t =
    let holds = t.1.2 in
    let head = holds.passed_head.1 in
    let exact : n + passed.size - n ≡ passed.size = omega arith in
    let behind = length-drop n bytes in
    let fits : passed.size ≤ length (drop n bytes) = omega (arith, holds.whole, behind) in
    record {
      blank = t.0;
      block = take n bytes;
      head = holds.passed_head.0;
      cut = t.1.1 ∙ ap (λ x. t.0 ++ x) (body_cut bytes n passed.size);
      is_blank = t.1.0;
      is_block = is_block bytes n holds.begins holds.ends holds.short;
      is_head = head.is_head;
      passes = head.passes;
      method = span_prefix bytes n passed.method head.method_within ∙ head.method;
      path = span_prefix bytes n passed.path head.path_within ∙ head.path;
      size = ap (λ k. length (take k (drop n bytes))) exact ∙ length-take-le passed.size (drop n bytes) fits ∙ head.size;
      close = head.close;
    }
