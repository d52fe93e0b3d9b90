-- Pieces that are put behind one another.
use Rattle.std.proofs.Common.{◌≡◌, ℕ, ℤ, Bool, true, false, List, [], ◌∷◌, ◌++◌, ◌+◌, ◌<◌, codes, decimal, ap, sym, refl, append_assoc, append-nil, ◌∙◌}
use Rattle.std.proofs.lemmas.Fmt.{decimal_digit}
use Rattle.serde_json.specs.Written.{compact_text, items_text, comma_if}
use Rattle.json.specs.Print.{quoted}
use Rattle.serde_json.specs.Data.{Data}
use Rattle.un_replies.specs.Pieces.{leading, following, opening}
use Rattle.un_values.specs.Values.{count, items_of, list, whole, tuple}

-- a text in its quotes
pub put_quoted : (start text a b c : List ℕ) → a ≡ start ++ codes "\"" → b ≡ a ++ text → c ≡ b ++ codes "\"" → c ≡ start ++ 34 ∷ (text ++ 34 ∷ [])
put_quoted start text a b c first second third =
    third ∙ ap (λ t. t ++ codes "\"") (second ∙ ap (λ t. t ++ text) first)
    ∙ append_assoc (start ++ codes "\"") text (codes "\"") ∙ append_assoc start (codes "\"") (text ++ codes "\"")

-- the values are printed but for these
pub record IsPrintedBut {A : Type 0} (f : A → Data) (start : List ℕ) (later : Bool) (rest all : List A) (out : List ℕ) : Type 0 where
  pub same : out ++ items_text later (items_of f rest) ≡ start ++ items_text false (items_of f all)

-- one more is printed
pub added_one : {A : Type 0} (f : A → Data) (start : List ℕ) (later : Bool) (x : A) (rest all : List A) (out comma more : List ℕ) → IsPrintedBut f start later (x ∷ rest) all out
    → comma ≡ out ++ comma_if later → more ≡ comma ++ compact_text (f x) → IsPrintedBut f start true rest all more
added_one f start later x rest all out comma more h one two =
    let behind = items_text true (items_of f rest) in
    record {
      same = ap (λ t. t ++ behind) (two ∙ ap (λ t. t ++ compact_text (f x)) one)
          ∙ append_assoc (out ++ comma_if later) (compact_text (f x)) behind ∙ append_assoc out (comma_if later) (compact_text (f x) ++ behind) ∙ h.same;
    }

pub printed_one : (start : List ℕ) (later : Bool) (number : ℕ) (rest all : List ℕ) (out : List ℕ) → IsPrintedBut count start later (number ∷ rest) all out
    → IsPrintedBut count start true rest all ((out ++ comma_if later) ++ decimal number)
printed_one start later number rest all out h = added_one count start later number rest all out (out ++ comma_if later) ((out ++ comma_if later) ++ decimal number) h refl refl

-- a number of one digit
pub one_digit : (start out : List ℕ) (number : ℕ) → number < 10 → out ≡ start ++ (48 + number) ∷ [] → out ≡ start ++ compact_text (count number)
one_digit start out number small h = h ∙ ap (λ t. start ++ t) (sym (decimal_digit number small))

-- all are printed
pub printed_all : {A : Type 0} (f : A → Data) (start : List ℕ) (later : Bool) (all : List A) (out : List ℕ) → IsPrintedBut f start later [] all out
    → out ++ codes "]" ≡ start ++ items_text false (items_of f all)
printed_all f start later all out h = h.same

-- a list in its brackets
pub put_list : {A : Type 0} (f : A → Data) (start a b c : List ℕ) (xs : List A) → a ≡ start ++ codes "[" → b ++ codes "]" ≡ a ++ items_text false (items_of f xs) → c ≡ b ++ codes "]"
    → c ≡ start ++ compact_text (list f xs)
put_list f start a b c xs first second third =
    third ∙ second ∙ ap (λ t. t ++ items_text false (items_of f xs)) first ∙ append_assoc start (codes "[") (items_text false (items_of f xs))

-- two values in brackets
pub pair_steps : (start a b c d e : List ℕ) (x y : Data) → a ≡ start ++ codes "[" → b ≡ a ++ compact_text x → c ≡ b ++ codes "," → d ≡ c ++ compact_text y → e ≡ d ++ codes "]"
    → e ≡ start ++ compact_text (tuple (x ∷ y ∷ []))
pair_steps start a b c d e x y one two three four five =
    let s = compact_text x in
    let t = compact_text y in
    five ∙ ap (λ w. w ++ codes "]") (four ∙ ap (λ w. w ++ t) (three ∙ ap (λ w. w ++ codes ",") (two ∙ ap (λ w. w ++ s) one)))
    ∙ append_assoc (((start ++ codes "[") ++ s) ++ codes ",") t (codes "]")
    ∙ append_assoc ((start ++ codes "[") ++ s) (codes ",") (t ++ codes "]")
    ∙ append_assoc (start ++ codes "[") s (codes "," ++ (t ++ codes "]"))
    ∙ append_assoc start (codes "[") (s ++ (codes "," ++ (t ++ codes "]")))

-- a member with the comma behind it
pub lead_one : (start a b c d k : List ℕ) (v : Data) → a ≡ start ++ quoted k → b ≡ a ++ codes ":" → c ≡ b ++ compact_text v → d ≡ c ++ codes "," → d ≡ start ++ leading ((k, v) ∷ [])
lead_one start a b c d k v first second third fourth =
    let name = quoted k in
    let value = compact_text v in
    fourth ∙ ap (λ t. t ++ codes ",") (third ∙ ap (λ t. t ++ value) (second ∙ ap (λ t. t ++ codes ":") first))
    ∙ append_assoc ((start ++ name) ++ codes ":") value (codes ",") ∙ append_assoc (start ++ name) (codes ":") (value ++ codes ",") ∙ append_assoc start name (codes ":" ++ (value ++ codes ","))

-- a member with the comma before it
pub follow_one : (start a b c d k : List ℕ) (v : Data) → a ≡ start ++ codes "," → b ≡ a ++ quoted k → c ≡ b ++ codes ":" → d ≡ c ++ compact_text v → d ≡ start ++ following ((k, v) ∷ [])
follow_one start a b c d k v first second third fourth =
    let name = quoted k in
    let value = compact_text v in
    fourth ∙ ap (λ t. t ++ value) (third ∙ ap (λ t. t ++ codes ":") (second ∙ ap (λ t. t ++ name) first))
    ∙ append_assoc ((start ++ codes ",") ++ name) (codes ":") value ∙ append_assoc (start ++ codes ",") name (codes ":" ++ value) ∙ append_assoc start (codes ",") (name ++ (codes ":" ++ value))
    ∙ ap (λ t. start ++ (44 ∷ (name ++ (58 ∷ t)))) (sym (append-nil value))

-- an object up to its first member
pub open_one : (start a b c d k : List ℕ) (v : Data) → a ≡ start ++ codes "{" → b ≡ a ++ quoted k → c ≡ b ++ codes ":" → d ≡ c ++ compact_text v → d ≡ start ++ opening (k, v)
open_one start a b c d k v first second third fourth =
    let name = quoted k in
    let value = compact_text v in
    fourth ∙ ap (λ t. t ++ value) (third ∙ ap (λ t. t ++ codes ":") (second ∙ ap (λ t. t ++ name) first))
    ∙ append_assoc ((start ++ codes "{") ++ name) (codes ":") value ∙ append_assoc (start ++ codes "{") name (codes ":" ++ value) ∙ append_assoc start (codes "{") (name ++ (codes ":" ++ value))

-- three values in brackets
pub put_triple : (start a b c d e f g : List ℕ) (x y z : ℤ) → a ≡ start ++ codes "[" → b ≡ a ++ compact_text (whole x) → c ≡ b ++ codes "," → d ≡ c ++ compact_text (whole y)
    → e ≡ d ++ codes "," → f ≡ e ++ compact_text (whole z) → g ≡ f ++ codes "]" → g ≡ start ++ compact_text (tuple (whole x ∷ whole y ∷ whole z ∷ []))
put_triple start a b c d e f g x y z one two three four five six seven =
    let s = compact_text (whole x) in
    let t = compact_text (whole y) in
    let u = compact_text (whole z) in
    seven ∙ ap (λ w. w ++ codes "]") (six ∙ ap (λ w. w ++ u) (five ∙ ap (λ w. w ++ codes ",") (four ∙ ap (λ w. w ++ t) (three ∙ ap (λ w. w ++ codes ",") (two ∙ ap (λ w. w ++ s) one)))))
    ∙ append_assoc (((((start ++ codes "[") ++ s) ++ codes ",") ++ t) ++ codes ",") u (codes "]")
    ∙ append_assoc ((((start ++ codes "[") ++ s) ++ codes ",") ++ t) (codes ",") (u ++ codes "]")
    ∙ append_assoc (((start ++ codes "[") ++ s) ++ codes ",") t (codes "," ++ (u ++ codes "]"))
    ∙ append_assoc ((start ++ codes "[") ++ s) (codes ",") (t ++ (codes "," ++ (u ++ codes "]")))
    ∙ append_assoc (start ++ codes "[") s (codes "," ++ (t ++ (codes "," ++ (u ++ codes "]"))))
    ∙ append_assoc start (codes "[") (s ++ (codes "," ++ (t ++ (codes "," ++ (u ++ codes "]")))))
