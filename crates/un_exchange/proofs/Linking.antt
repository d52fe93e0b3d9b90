-- One more exchange of a link, and the end of a link.
use Rattle.std.proofs.Common.{◌≡◌, ◌⊎◌, ◌<◌, ◌^◌, ℕ, false, List, [], ◌∷◌, ◌++◌, Option, Some, None, refl, ap, sym, ◌∙◌, subst, inl, inr, arith, append_assoc, MatchOption}
use Rattle.std.specs.Prelude.{is_some}
use Rattle.std.specs.List.{All}
use Rattle.std.proofs.lemmas.List.{map-append, append-nil}
use Rattle.std.proofs.lemmas.Grind.{flat_map-append}
use Rattle.std.proofs.lemmas.List.Elements.{All-push}
use Rattle.std.specs.Io.KnownBytes.{Consumes, Appends}
use Rattle.un_io.specs.Outside.{AppendsPrefix}
use Rattle.un_io.proofs.Chains.{Appends-trans, Appends-none, Consumes-trans, Consumes-none, Keeps-refl}
use Rattle.un_publish.specs.Models.{SessionModel}
use Rattle.un_http.specs.declared.check.Check.{Check}
use Rattle.un_http.specs.Requests.{Request as Received, IsRequest, AreFirst, FailsAt}
use Rattle.un_turns.specs.declared.request.Request.{Request}
use Rattle.un_turns.specs.declared.request.Response.{Response}
use Rattle.un_turns.specs.Own.{IsWithin}
use Rattle.un_turns.specs.Served.{Answering, AreServed, IsServed}
use Rattle.un_turns.specs.Truths.{MoreLaw, TruthLaw}
use Rattle.un_exchange.specs.declared.asked.Asked.{Asked}
use Rattle.un_exchange.specs.declared.end.LinkEnd.{LinkEnd}
use Rattle.un_exchange.specs.Pages.{http_page, check_status}
use Rattle.un_exchange.specs.Exchanges.{Printing, Exchange, IsAsked, request_of, end_after, bytes_of, all_bytes, received, requests, responses, closes}
use Rattle.un_exchange.specs.Writing.{Writes, page_bytes, check_end}
use Rattle.un_exchange.specs.Links.{HasExchanged, HasEnded, HasServed, NoMore}
use Rattle.un_exchange.proofs.Writes.{prefix_then}

none : {X : Type 0} (P : X → Type 0) → All P []
none P k d lt = absurd (omega (arith, lt))

-- one more request is found in the rest and the bytes after it
abbrev pub NextLaw : Type 0
NextLaw = (bytes more rest rest' : List ℕ) (requests : List Received) (request : Received)
    → AreFirst bytes requests rest → IsRequest (rest ++ more) request rest' → AreFirst (bytes ++ more) (requests ++ request ∷ []) rest'

request_longer : (bytes rest more : List ℕ) (request : Received) → IsRequest bytes request rest → IsRequest (bytes ++ more) request (rest ++ more)
request_longer bytes rest more request h = record {
  blank = h.blank;
  block = h.block;
  head = h.head;
  cut = ap (λ (l : List ℕ). l ++ more) h.cut ∙ append_assoc h.blank _ more ∙ ap (λ (l : List ℕ). h.blank ++ l) (append_assoc h.block _ more ∙ ap (λ (l : List ℕ). h.block ++ l) (append_assoc request.body rest more));
  is_blank = h.is_blank;
  is_block = h.is_block;
  is_head = h.is_head;
  passes = h.passes;
  method = h.method;
  path = h.path;
  size = h.size;
  close = h.close;
}

-- more bytes after the rest
first_longer : (bytes rest more : List ℕ) (requests : List Received) → AreFirst bytes requests rest → AreFirst (bytes ++ more) requests (rest ++ more)
first_longer bytes rest more [] h = ap (λ (l : List ℕ). l ++ more) h
first_longer bytes rest more (q ∷ qs) h = (h.0 ++ more, request_longer bytes h.0 more q h.1, first_longer h.0 rest more qs h.2)

module _ {C R Q A : Type 0} where
  bytes_more : (p : Printing R A) (xs : List (Exchange C R Q A)) (x : Exchange C R Q A) → all_bytes p (xs ++ x ∷ []) ≡ all_bytes p xs ++ bytes_of p x
  bytes_more p xs x = flat_map-append (bytes_of p) xs (x ∷ []) ∙ ap (λ (l : List ℕ). all_bytes p xs ++ l) (append-nil (bytes_of p x))

  first_more : NextLaw → (bytes read held held' : List ℕ) (xs : List (Exchange C R Q A)) (x : Exchange C R Q A) → AreFirst bytes (received xs) held → IsRequest (held ++ read) x.request held'
      → AreFirst (bytes ++ read) (received (xs ++ x ∷ [])) held'
  first_more next bytes read held held' xs x f r =
      subst (λ (l : List Received). AreFirst (bytes ++ read) l held') (sym (map-append (λ (y : Exchange C R Q A). y.request) xs (x ∷ []))) (next bytes read held held' (received xs) x.request f r)

module _ {M C R H K Q A : Type 0} (step : M → C → (M × (R × K)) ⊎ R) (opening : List M) (least : Q → ℕ) (answer : Answering M Q A) (asks : List ℕ → List ℕ → List ℕ → Asked C Q → Type 0) (p : Printing R A) where
  -- nothing has been read
  pub exchanged_none : (s : SessionModel M C R H K) (left taken : Option (List ℕ)) → HasExchanged step opening least answer asks p s s left left taken taken []
  exchanged_none s left taken = record {
    read = [];
    exchanges = [];
    consumed = Consumes-none left left (Keeps-refl left);
    first = refl;
    asked = none (IsAsked asks);
    served = record { exchanges = []; asked = refl; answered = refl; conversed = refl; responds = tt };
    goes_on = none (λ x. closes x ≡ false);
    written = Appends-none taken taken (Keeps-refl taken);
  }

  served_more : MoreLaw H step opening least answer → (s m t : SessionModel M C R H K) (xs : List (Exchange C R Q A)) (x : Exchange C R Q A) → AreServed step opening least answer s (requests xs) (responses xs) m
      → IsServed step opening least answer m (request_of x.asked) x.response t → AreServed step opening least answer s (requests (xs ++ x ∷ [])) (responses (xs ++ x ∷ [])) t
  served_more more s m t xs x a b =
      subst (λ (l : List (Request C Q)). AreServed step opening least answer s l (responses (xs ++ x ∷ [])) t) (sym (map-append (λ (y : Exchange C R Q A). request_of y.asked) xs (x ∷ [])))
      (subst (λ (l : List (Response R A)). AreServed step opening least answer s (requests xs ++ request_of x.asked ∷ []) l t) (sym (map-append (λ (y : Exchange C R Q A). y.response) xs (x ∷ [])))
      (more s m t (requests xs) (responses xs) (request_of x.asked) x.response a b))

  -- one more exchange, after which the link goes on or ends
  pub answered : NextLaw → MoreLaw H step opening least answer → (s m t : SessionModel M C R H K) (l l' l'' k k' : Option (List ℕ)) (held read held' : List ℕ) (x : Exchange C R Q A) (result : Option LinkEnd)
      → HasExchanged step opening least answer asks p s m l l' k k' held → Consumes l' l'' read → IsRequest (held ++ read) x.request held' → IsAsked asks x
      → IsServed step opening least answer m (request_of x.asked) x.response t → (k'' : Option (List ℕ)) → Writes k' k'' (bytes_of p x) (end_after x.request.close x.response) result
      → MatchOption result (HasExchanged step opening least answer asks p s t l l'' k k'' held') (λ end. HasEnded step opening least answer asks p s t l l'' k k'' end)
  answered next more s m t l l' l'' k k' held read held' x None h c r a v k'' (inl (e, w)) = record {
    read = h.read ++ read;
    exchanges = h.exchanges ++ x ∷ [];
    consumed = Consumes-trans l l' l'' h.read read h.consumed c;
    first = first_more next h.read read held held' h.exchanges x h.first r;
    asked = All-push (IsAsked asks) h.exchanges x h.asked a;
    served = served_more more s m t h.exchanges x h.served v;
    goes_on = All-push (λ y. closes y ≡ false) h.exchanges x h.goes_on (ap (λ (z : Option LinkEnd). is_some z) (sym e));
    written = subst (λ (b : List ℕ). Appends k k'' b) (sym (bytes_more p h.exchanges x)) (Appends-trans k k' k'' (all_bytes p h.exchanges) (bytes_of p x) h.written w);
  }
  answered next more s m t l l' l'' k k' held read held' x (Some end) h c r a v k'' (inl (e, w)) = record {
    read = h.read ++ read;
    exchanges = h.exchanges ++ x ∷ [];
    rest = held';
    consumed = Consumes-trans l l' l'' h.read read h.consumed c;
    first = first_more next h.read read held held' h.exchanges x h.first r;
    asked = All-push (IsAsked asks) h.exchanges x h.asked a;
    served = served_more more s m t h.exchanges x h.served v;
    ends = inl (record {
      before = h.exchanges;
      last = x;
      split = refl;
      goes_on = h.goes_on;
      ends = sym e;
      written = subst (λ (b : List ℕ). Appends k k'' b) (sym (bytes_more p h.exchanges x)) (Appends-trans k k' k'' (all_bytes p h.exchanges) (bytes_of p x) h.written w);
    });
  }
  answered next more s m t l l' l'' k k' held read held' x None h c r a v k'' (inr (e, w)) = absurd (cc e)
  answered next more s m t l l' l'' k k' held read held' x (Some end) h c r a v k'' (inr (e, w)) = record {
    read = h.read ++ read;
    exchanges = h.exchanges ++ x ∷ [];
    rest = held';
    consumed = Consumes-trans l l' l'' h.read read h.consumed c;
    first = first_more next h.read read held held' h.exchanges x h.first r;
    asked = All-push (IsAsked asks) h.exchanges x h.asked a;
    served = served_more more s m t h.exchanges x h.served v;
    ends = inr (inl (record {
      before = h.exchanges;
      last = x;
      split = refl;
      goes_on = h.goes_on;
      is_fault = cc e;
      written = subst (λ (b : List ℕ). AppendsPrefix k k'' b) (sym (bytes_more p h.exchanges x)) (prefix_then k k' k'' (all_bytes p h.exchanges) (bytes_of p x) h.written w);
    }));
  }

  -- no more requests came
  pub stopped : (s t : SessionModel M C R H K) (l l' l'' k k' k'' : Option (List ℕ)) (held read : List ℕ) (end : LinkEnd)
      → HasExchanged step opening least answer asks p s t l l' k k' held → Consumes l' l'' read → k'' ≡ k' → NoMore (held ++ read) l'' end
      → HasEnded step opening least answer asks p s t l l'' k k'' end
  stopped s t l l' l'' k k' k'' held read end h c same n = record {
    read = h.read ++ read;
    exchanges = h.exchanges;
    rest = held ++ read;
    consumed = Consumes-trans l l' l'' h.read read h.consumed c;
    first = first_longer h.read held read (received h.exchanges) h.first;
    asked = h.asked;
    served = h.served;
    ends = inr (inr (inl (record {
      goes_on = h.goes_on;
      no_more = n;
      written = subst (λ (z : Option (List ℕ)). Appends k z (all_bytes p h.exchanges)) (sym same) h.written;
    })));
  }

  -- the next request failed a check
  pub refused : (s t : SessionModel M C R H K) (l l' l'' k k' k'' : Option (List ℕ)) (held read held' : List ℕ) (check : Check) (result : Option LinkEnd)
      → HasExchanged step opening least answer asks p s t l l' k k' held → Consumes l' l'' read → FailsAt (held ++ read) check
      → Writes k' k'' (page_bytes (http_page (check_status check)) (Some (check_end check))) (Some (check_end check)) result
      → MatchOption result (HasExchanged step opening least answer asks p s t l l'' k k'' held') (λ end. HasEnded step opening least answer asks p s t l l'' k k'' end)
  refused s t l l' l'' k k' k'' held read held' check None h c f (inl (e, w)) = absurd (cc e)
  refused s t l l' l'' k k' k'' held read held' check None h c f (inr (e, w)) = absurd (cc e)
  refused s t l l' l'' k k' k'' held read held' check (Some end) h c f (inl (e, w)) = record {
    read = h.read ++ read;
    exchanges = h.exchanges;
    rest = held ++ read;
    consumed = Consumes-trans l l' l'' h.read read h.consumed c;
    first = first_longer h.read held read (received h.exchanges) h.first;
    asked = h.asked;
    served = h.served;
    ends = inr (inr (inr (record {
      check = check;
      goes_on = h.goes_on;
      fails = f;
      response = inl (cc e, Appends-trans k k' k'' (all_bytes p h.exchanges) _ h.written w);
    })));
  }
  refused s t l l' l'' k k' k'' held read held' check (Some end) h c f (inr (e, w)) = record {
    read = h.read ++ read;
    exchanges = h.exchanges;
    rest = held ++ read;
    consumed = Consumes-trans l l' l'' h.read read h.consumed c;
    first = first_longer h.read held read (received h.exchanges) h.first;
    asked = h.asked;
    served = h.served;
    ends = inr (inr (inr (record {
      check = check;
      goes_on = h.goes_on;
      fails = f;
      response = inr (cc e, prefix_then k k' k'' (all_bytes p h.exchanges) _ h.written w);
    })));
  }

  -- all that is promised holds of the whole of a link
  pub served_whole : TruthLaw H step opening least answer → (s t : SessionModel M C R H K) (l l' k k' : Option (List ℕ)) (end : LinkEnd) → IsWithin s → s.denied < 2 ^ 64
      → HasEnded step opening least answer asks p s t l l' k k' end → HasServed step opening least answer asks p s t l l' k k' end
  served_whole truth s t l l' k k' end w lt h = record {
    read = h.read;
    exchanges = h.exchanges;
    rest = h.rest;
    consumed = h.consumed;
    first = h.first;
    asked = h.asked;
    truthful = truth s t (requests h.exchanges) (responses h.exchanges) w lt h.served;
    ends = h.ends;
  }
