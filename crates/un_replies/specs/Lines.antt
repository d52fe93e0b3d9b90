-- Each reply is printed as one line, and no other than that for want of memory as its text.
use Rattle.std.proofs.Common.{◌≡◌, ◌≢◌, ℕ, zero, suc, pos, negsuc, ◌+◌, ◌/◌, ◌%◌, nat_lt, ◌==◌, ◌<◌, ◌||◌, cond, ap, lit<, Option, None, Some, All, Bool, true, false, List, [], ◌∷◌, ◌++◌, codes, decimal, refl, arith}
use Rattle.std.specs.List.{list_any}
use Rattle.std.specs.Char.{digit_char}
use Rattle.std.specs.Fmt.{digits, digits_onto, digit_glyph}
use Rattle.std.proofs.lemmas.List.Elements.{All-nil, All-cons, All-append}
use Rattle.json.specs.Print.{escape_letter, escape_byte, escape, quoted}
use Rattle.serde_json.specs.Data.{Num, unsigned, negative, float, Data, null, boolean, number, string, array, object, Items, no_items, item, Members, no_members, member}
use Rattle.serde_json.specs.Written.{number_text, comma_if, compact_text, items_text, members_text}
use Rattle.serde_json.proofs.OnLiterals.{serde_json_on_literals}
use Rattle.un_defs.specs.declared.refusal.Refusal.{Refusal}
use Rattle.un_defs.specs.declared.refusal.Refusal.TheVariants as refusal
use Rattle.un_ask.specs.declared.reply.Reply.{Reply}
use Rattle.un_ask.specs.declared.reply.Reply.TheVariants as reply
use Rattle.un_ask.specs.Replies.{IsNoMemory}
use Rattle.un_replies.specs.Replies.{print, reply_value, past_text, past_value}

-- no byte of the text ends a line
abbrev IsNoEnd : ℕ → Type 0
IsNoEnd byte = (byte == 10) ≡ false

abbrev pub NoLineEnd : List ℕ → Type 0
NoLineEnd text = All (λ byte. (byte == 10) ≡ false) text

-- what is printed for want of memory
abbrev pub memory_text : List ℕ
memory_text = codes "{\"memory\":true}"

-- ---- texts of JSON

none : NoLineEnd []
none = All-nil IsNoEnd

one : (byte : ℕ) (text : List ℕ) → byte ≢ 10 → NoLineEnd text → NoLineEnd (byte ∷ text)
one byte text other h = All-cons IsNoEnd byte text (grind arith) h

both : (xs ys : List ℕ) → NoLineEnd xs → NoLineEnd ys → NoLineEnd (xs ++ ys)
both = All-append IsNoEnd

line_by_test : (text : List ℕ) → list_any (λ byte. byte == 10) text ≡ false → NoLineEnd text
line_by_test [] clean = none
line_by_test (byte ∷ text) clean = go (byte == 10) refl clean (line_by_test text)
  where
    go : (b : Bool) → (byte == 10) ≡ b → (b || list_any (λ byte. byte == 10) text) ≡ false → (list_any (λ byte. byte == 10) text ≡ false → NoLineEnd text) → NoLineEnd (byte ∷ text)
    go true is clean later = cc
    go false is clean later = All-cons IsNoEnd byte text is (later clean)

-- a digit is no line end
glyph : (d : ℕ) → digit_glyph false d ≢ 10
glyph d e = go (nat_lt d 10) refl
  where
    go : (b : Bool) → nat_lt d 10 ≡ b → ⊥
    go true is = let h : 48 + d ≡ 10 = rw is at e in omega arith
    go false is = let h : 87 + d ≡ 10 = rw is at e in omega arith

-- the digits of a number
digits_line : (k n : ℕ) (rest : List ℕ) → NoLineEnd rest → NoLineEnd (digits_onto k 10 false n rest)
digits_line zero n rest h = h
digits_line (suc k) n rest h = go (n / 10 == 0) (digits_line k (n / 10) (digit_glyph false (n % 10) ∷ rest) (one _ rest (glyph (n % 10)) h))
  where
    go : (b : Bool) → NoLineEnd (digits_onto k 10 false (n / 10) (digit_glyph false (n % 10) ∷ rest)) → NoLineEnd (cond b (digit_glyph false (n % 10) ∷ rest) (digits_onto k 10 false (n / 10) (digit_glyph false (n % 10) ∷ rest)))
    go true later = one _ rest (glyph (n % 10)) h
    go false later = later

decimal_line : (n : ℕ) → NoLineEnd (decimal n)
unfolding digits
decimal_line n = digits_line 64 n [] none

number_line : (n : Num) → NoLineEnd (number_text n)
number_line (unsigned n) = decimal_line n
number_line (negative (pos n)) = decimal_line n
number_line (negative (negsuc n)) = one 45 _ (λ e. cc) (decimal_line (suc n))
number_line (float x) = none

-- what stands in a string for a byte
letter : (x : ℕ) → escape_letter x ≢ 10
letter x e = grind arith

byte_line : (x : ℕ) → NoLineEnd (escape_byte x)
unfolding escape_byte
byte_line x = go (nat_lt 0 (escape_letter x)) (nat_lt x 32) refl
  where
    go : (b s : Bool) → nat_lt x 32 ≡ s → NoLineEnd (cond b (92 ∷ escape_letter x ∷ []) (cond s (92 ∷ 117 ∷ 48 ∷ 48 ∷ digit_char (x / 16) ∷ digit_char (x % 16) ∷ []) (x ∷ [])))
    go true s is = one 92 (escape_letter x ∷ []) (λ e. cc) (one (escape_letter x) [] (letter x) none)
    go false true is = both (92 ∷ 117 ∷ 48 ∷ 48 ∷ []) (digit_char (x / 16) ∷ digit_char (x % 16) ∷ []) (line_by_test (92 ∷ 117 ∷ 48 ∷ 48 ∷ []) refl) (one (digit_char (x / 16)) (digit_char (x % 16) ∷ []) (glyph (x / 16)) (one (digit_char (x % 16)) [] (glyph (x % 16)) none))
    go false false is = one x [] (λ e. grind arith) none

escape_line : (s : List ℕ) → NoLineEnd (escape s)
escape_line [] = none
escape_line (x ∷ s) = both (escape_byte x) (escape s) (byte_line x) (escape_line s)

quoted_line : (s : List ℕ) → NoLineEnd (quoted s)
quoted_line s = one 34 _ (λ e. cc) (both (escape s) (34 ∷ []) (escape_line s) (line_by_test (34 ∷ []) refl))

comma_line : (later : Bool) → NoLineEnd (comma_if later)
comma_line true = line_by_test (44 ∷ []) refl
comma_line false = none

mutual
  pub text_line : (d : Data) → NoLineEnd (compact_text d)
  text_line null = line_by_test (codes "null") refl
  text_line (boolean true) = line_by_test (codes "true") refl
  text_line (boolean false) = line_by_test (codes "false") refl
  text_line (number n) = number_line n
  text_line (string s) = quoted_line s
  text_line (array ds) = one 91 _ (λ e. cc) (items_line false ds)
  text_line (object ms) = one 123 _ (λ e. cc) (members_line false ms)

  items_line : (later : Bool) (ds : Items) → NoLineEnd (items_text later ds)
  items_line later no_items = line_by_test (93 ∷ []) refl
  items_line later (item d ds) = both (comma_if later) _ (comma_line later) (both (compact_text d) _ (text_line d) (items_line true ds))

  members_line : (later : Bool) (ms : Members) → NoLineEnd (members_text later ms)
  members_line later no_members = line_by_test (125 ∷ []) refl
  members_line later (member k d ms) = both (comma_if later) _ (comma_line later)
      (both (quoted k) _ (quoted_line k) (one 58 _ (λ e. cc) (both (compact_text d) _ (text_line d) (members_line true ms))))

pub reply_line : (r : Reply) → NoLineEnd (print r)
reply_line r = text_line (reply_value r)

-- ---- other texts than that for want of memory

-- the byte behind the first two
abbrev third : List ℕ → ℕ
third [] = 0
third (a ∷ []) = 0
third (a ∷ b ∷ []) = 0
third (a ∷ b ∷ c ∷ rest) = c

-- a text with another third byte is not the text for want of memory
other_third : (text : List ℕ) (byte : ℕ) → third text ≡ byte → byte < 109 → text ≢ memory_text
other_third text byte is differs e = let h : third text ≡ 109 = ap third e in omega arith

above_third : (text : List ℕ) (byte : ℕ) → third text ≡ byte → 109 < byte → text ≢ memory_text
above_third text byte is high e = let h : third text ≡ 109 = ap third e in omega arith

-- the byte behind the first five
abbrev sixth : List ℕ → ℕ
sixth [] = 0
sixth (a ∷ []) = 0
sixth (a ∷ b ∷ []) = 0
sixth (a ∷ b ∷ c ∷ []) = 0
sixth (a ∷ b ∷ c ∷ d ∷ []) = 0
sixth (a ∷ b ∷ c ∷ d ∷ e ∷ []) = 0
sixth (a ∷ b ∷ c ∷ d ∷ e ∷ f ∷ rest) = f

other_sixth : (text : List ℕ) (byte : ℕ) → sixth text ≡ byte → byte < 111 → text ≢ memory_text
other_sixth text byte is low e = let h : sixth text ≡ 111 = ap sixth e in omega arith

refusal_other : (r : Refusal) (edit : Option ℕ) (version : ℕ) → r ≢ refusal.Memory → print (reply.Refused r edit version) ≢ memory_text
unfolding serde_json_on_literals
refusal_other refusal.NotJson None version other = other_third _ _ refl (lit< tt)
refusal_other refusal.NotJson (Some edit) version other = other_third _ _ refl (lit< tt)
refusal_other (refusal.BadRequest place) None version other = other_third _ _ refl (lit< tt)
refusal_other (refusal.BadRequest place) (Some edit) version other = other_third _ _ refl (lit< tt)
refusal_other refusal.LineTooLong None version other = other_third _ _ refl (lit< tt)
refusal_other refusal.LineTooLong (Some edit) version other = other_third _ _ refl (lit< tt)
refusal_other (refusal.BadSchema place) None version other = other_third _ _ refl (lit< tt)
refusal_other (refusal.BadSchema place) (Some edit) version other = other_third _ _ refl (lit< tt)
refusal_other (refusal.NoSuchFeature id) None version other = other_third _ _ refl (lit< tt)
refusal_other (refusal.NoSuchFeature id) (Some edit) version other = other_third _ _ refl (lit< tt)
refusal_other (refusal.Moved at) None version other = other_third _ _ refl (lit< tt)
refusal_other (refusal.Moved at) (Some edit) version other = other_third _ _ refl (lit< tt)
refusal_other (refusal.BadShape place) None version other = other_third _ _ refl (lit< tt)
refusal_other (refusal.BadShape place) (Some edit) version other = other_third _ _ refl (lit< tt)
refusal_other (refusal.NoSuchKind kind) None version other = other_third _ _ refl (lit< tt)
refusal_other (refusal.NoSuchKind kind) (Some edit) version other = other_third _ _ refl (lit< tt)
refusal_other (refusal.BadAttribute attribute) None version other = other_third _ _ refl (lit< tt)
refusal_other (refusal.BadAttribute attribute) (Some edit) version other = other_third _ _ refl (lit< tt)
refusal_other (refusal.BadTerminal feature) None version other = other_third _ _ refl (lit< tt)
refusal_other (refusal.BadTerminal feature) (Some edit) version other = other_third _ _ refl (lit< tt)
refusal_other refusal.BadPath None version other = other_third _ _ refl (lit< tt)
refusal_other refusal.BadPath (Some edit) version other = other_third _ _ refl (lit< tt)
refusal_other (refusal.HasAssociations least) None version other = other_third _ _ refl (lit< tt)
refusal_other (refusal.HasAssociations least) (Some edit) version other = other_third _ _ refl (lit< tt)
refusal_other refusal.HasControllers None version other = other_third _ _ refl (lit< tt)
refusal_other refusal.HasControllers (Some edit) version other = other_third _ _ refl (lit< tt)
refusal_other refusal.NoSuchAssociation None version other = other_third _ _ refl (lit< tt)
refusal_other refusal.NoSuchAssociation (Some edit) version other = other_third _ _ refl (lit< tt)
refusal_other refusal.WrongKind None version other = other_third _ _ refl (lit< tt)
refusal_other refusal.WrongKind (Some edit) version other = other_third _ _ refl (lit< tt)
refusal_other (refusal.AlreadyContained by) None version other = other_third _ _ refl (lit< tt)
refusal_other (refusal.AlreadyContained by) (Some edit) version other = other_third _ _ refl (lit< tt)
refusal_other refusal.ContainsItself None version other = other_third _ _ refl (lit< tt)
refusal_other refusal.ContainsItself (Some edit) version other = other_third _ _ refl (lit< tt)
refusal_other refusal.NoSuchTier None version other = other_third _ _ refl (lit< tt)
refusal_other refusal.NoSuchTier (Some edit) version other = other_third _ _ refl (lit< tt)
refusal_other refusal.NotController None version other = other_third _ _ refl (lit< tt)
refusal_other refusal.NotController (Some edit) version other = other_third _ _ refl (lit< tt)
refusal_other refusal.ControllerExists None version other = other_third _ _ refl (lit< tt)
refusal_other refusal.ControllerExists (Some edit) version other = other_third _ _ refl (lit< tt)
refusal_other refusal.NoSuchController None version other = other_third _ _ refl (lit< tt)
refusal_other refusal.NoSuchController (Some edit) version other = other_third _ _ refl (lit< tt)
refusal_other refusal.NoSuchSubnetwork None version other = other_third _ _ refl (lit< tt)
refusal_other refusal.NoSuchSubnetwork (Some edit) version other = other_third _ _ refl (lit< tt)
refusal_other (refusal.Conflict subnet feature port) None version other = other_third _ _ refl (lit< tt)
refusal_other (refusal.Conflict subnet feature port) (Some edit) version other = other_third _ _ refl (lit< tt)
refusal_other (refusal.Disjoint feature port) None version other = other_third _ _ refl (lit< tt)
refusal_other (refusal.Disjoint feature port) (Some edit) version other = other_third _ _ refl (lit< tt)
refusal_other (refusal.Full what) None version other = other_third _ _ refl (lit< tt)
refusal_other (refusal.Full what) (Some edit) version other = other_third _ _ refl (lit< tt)
refusal_other (refusal.Ahead seen latest) None version other = other_third _ _ refl (lit< tt)
refusal_other (refusal.Ahead seen latest) (Some edit) version other = other_third _ _ refl (lit< tt)
refusal_other (refusal.NoStart feature port) None version other = other_third _ _ refl (lit< tt)
refusal_other (refusal.NoStart feature port) (Some edit) version other = other_third _ _ refl (lit< tt)
refusal_other (refusal.StartIsValve feature terminal) None version other = other_third _ _ refl (lit< tt)
refusal_other (refusal.StartIsValve feature terminal) (Some edit) version other = other_third _ _ refl (lit< tt)
refusal_other (refusal.BadCondition place) None version other = other_third _ _ refl (lit< tt)
refusal_other (refusal.BadCondition place) (Some edit) version other = other_third _ _ refl (lit< tt)
refusal_other (refusal.DirtyGround area feature port) None version other = other_third _ _ refl (lit< tt)
refusal_other (refusal.DirtyGround area feature port) (Some edit) version other = other_third _ _ refl (lit< tt)
refusal_other (refusal.NotIsolable feature terminal) None version other = other_third _ _ refl (lit< tt)
refusal_other (refusal.NotIsolable feature terminal) (Some edit) version other = other_third _ _ refl (lit< tt)
refusal_other (refusal.BadRuleTerminal place) None version other = other_third _ _ refl (lit< tt)
refusal_other (refusal.BadRuleTerminal place) (Some edit) version other = other_third _ _ refl (lit< tt)
refusal_other (refusal.RuleExists place) None version other = other_third _ _ refl (lit< tt)
refusal_other (refusal.RuleExists place) (Some edit) version other = other_third _ _ refl (lit< tt)
refusal_other (refusal.NotYet at latest) None version other = other_third _ _ refl (lit< tt)
refusal_other (refusal.NotYet at latest) (Some edit) version other = other_third _ _ refl (lit< tt)
refusal_other refusal.ServeOnly None version other = other_third _ _ refl (lit< tt)
refusal_other refusal.ServeOnly (Some edit) version other = other_third _ _ refl (lit< tt)
refusal_other (refusal.WrongPage after at) None version other = other_third _ _ refl (lit< tt)
refusal_other (refusal.WrongPage after at) (Some edit) version other = other_third _ _ refl (lit< tt)
refusal_other (refusal.BadSpan since upto) None version other = other_third _ _ refl (lit< tt)
refusal_other (refusal.BadSpan since upto) (Some edit) version other = other_third _ _ refl (lit< tt)
refusal_other refusal.Memory edit version other = absurd (other refl)

pub reply_other : (r : Reply) → IsNoMemory r → print r ≢ memory_text
unfolding serde_json_on_literals
reply_other (reply.Edited areas id word version) other = other_third _ _ refl (lit< tt)
reply_other (reply.Batch areas ids version) other = other_third _ _ refl (lit< tt)
reply_other (reply.Ruled areas rules version) other = other_third _ _ refl (lit< tt)
reply_other (reply.Validated cleared errors version) other = other_third _ _ refl (lit< tt)
reply_other (reply.Updated row version) other = other_sixth _ _ refl (lit< tt)
reply_other (reply.Version version) other = above_third _ _ refl (lit< tt)
reply_other (reply.Feature feature version) other = other_third _ _ refl (lit< tt)
reply_other (reply.Dirty areas version) other = other_third _ _ refl (lit< tt)
reply_other (reply.Errors errors version) other = other_third _ _ refl (lit< tt)
reply_other (reply.Subnet controllers members status subnet tier updated version) other = other_third _ _ refl (lit< tt)
reply_other (reply.Traced result version) other = other_third _ _ refl (lit< tt)
reply_other (reply.Controllers controllers version) other = other_third _ _ refl (lit< tt)
reply_other (reply.Loops segments version) other = above_third _ _ refl (lit< tt)
reply_other (reply.Isolation borders features version) other = other_third _ _ refl (lit< tt)
reply_other (reply.Path cost labels nodes version) other = other_third _ _ refl (lit< tt)
reply_other (reply.Check valid version) other = above_third _ _ refl (lit< tt)
reply_other (reply.Diagram edges kept pieces version) other = other_third _ _ refl (lit< tt)
reply_other (reply.Refused r edit version) other = refusal_other r edit version other

-- ---- the replies to queries at past versions

-- what is printed of one is one line, and another text than that for want of memory
abbrev pub PastLineLaw : Type 0
PastLineLaw = (past : Reply) (version : ℕ) → NoLineEnd (past_text past version)

abbrev pub PastOtherLaw : Type 0
PastOtherLaw = (past : Reply) (version : ℕ) → past_text past version ≢ memory_text

pub past_line : PastLineLaw
past_line past version = text_line (past_value past version)

pub past_other : PastOtherLaw
unfolding serde_json_on_literals
past_other past version = above_third _ _ refl (lit< tt)
