-- Under two sets of rules whose states agree, the same is due.
use Rattle.std.proofs.Common.{◌≡◌, ℕ, Bool, true, false, List, [], ◌∷◌, ◌++◌, Option, None, Some, refl, ap, subst, ◌∙◌}
use Rattle.std.specs.Prelude.{⊤}
use Rattle.std.specs.List.{slice_split}
use Rattle.un_lines.specs.Cut.{is_line_end, lines_of}
use Rattle.un_lines.specs.Rules.{Rules, Mode, Opening, Going, Refused, kind_of, next_mode, mode_behind, mode_behind_first, reply_to, reply_to_first, reply_at_end, written}
use Rattle.un_lines.specs.Due.{first_by, first_of, due_from, due, tells_memory, behind_reply}
use Rattle.un_lines.specs.declared.line.Kind.{Kind}
use Rattle.un_lines.specs.declared.line.Kind.TheVariants.{TooLong, Blank, Request}

-- both open states that agree, or neither opens one
abbrev pub BothOpen : {A B : Type 0} → (A → B → Type 0) → Option A → Option B → Type 0
BothOpen Agree None None = ⊤
BothOpen Agree (Some a) (Some b) = Agree a b
BothOpen Agree None (Some b) = ⊥
BothOpen Agree (Some a) None = ⊥

-- both reply the same where the states agree, and they agree behind each line
pub record AreAlike {A B : Type 0} (Agree : A → B → Type 0) (one : Rules A) (other : Rules B) : Type 0 where
  pub opened : (line : List ℕ) → BothOpen Agree (one.opened line) (other.opened line)
  pub refusal : (line : List ℕ) → one.refusal line ≡ other.refusal line
  pub refusal_too_long : one.refusal_too_long ≡ other.refusal_too_long
  pub refusal_missing : one.refusal_missing ≡ other.refusal_missing
  pub reply : (a : A) (b : B) → Agree a b → (line : List ℕ) → one.reply a line ≡ other.reply b line
  pub next : (a : A) (b : B) → Agree a b → (line : List ℕ) → Agree (one.next a line) (other.next b line)
  pub too_long : one.too_long ≡ other.too_long

-- the modes agree
abbrev pub Match : {A B : Type 0} → (A → B → Type 0) → Mode A → Mode B → Type 0
Match Agree Opening Opening = ⊤
Match Agree (Going a) (Going b) = Agree a b
Match Agree Refused Refused = ⊤
Match Agree _ _ = ⊥

module _ {A B : Type 0} (Agree : A → B → Type 0) (one : Rules A) (other : Rules B) (alike : AreAlike Agree one other) where
  -- ---- one line

  first_reply : (a : Option A) (b : Option B) (line : List ℕ) → BothOpen Agree a b → reply_to_first a (one.refusal line) ≡ reply_to_first b (other.refusal line)
  first_reply None None line both = ap Some (alike.refusal line)
  first_reply (Some a) (Some b) line both = refl
  first_reply None (Some b) line both = absurd both
  first_reply (Some a) None line both = absurd both

  first_mode : (a : Option A) (b : Option B) → BothOpen Agree a b → Match Agree (mode_behind_first a) (mode_behind_first b)
  first_mode None None both = tt
  first_mode (Some a) (Some b) both = both
  first_mode None (Some b) both = absurd both
  first_mode (Some a) None both = absurd both

  same_reply : (m : Mode A) (n : Mode B) → Match Agree m n → (kind : Kind) (line : List ℕ) (short : Bool) → reply_to one m kind line short ≡ reply_to other n kind line short
  same_reply Opening Opening is TooLong line short = ap Some alike.refusal_too_long
  same_reply Opening Opening is Blank line short = refl
  same_reply Opening Opening is Request line short = first_reply (one.opened line) (other.opened line) line (alike.opened line)
  same_reply (Going a) (Going b) is TooLong line short = ap Some alike.too_long
  same_reply (Going a) (Going b) is Blank line short = refl
  same_reply (Going a) (Going b) is Request line false = ap Some (alike.reply a b is line)
  same_reply (Going a) (Going b) is Request line true = refl
  same_reply Refused Refused is kind line short = refl
  same_reply Opening (Going b) is kind line short = absurd is
  same_reply Opening Refused is kind line short = absurd is
  same_reply (Going a) Opening is kind line short = absurd is
  same_reply (Going a) Refused is kind line short = absurd is
  same_reply Refused Opening is kind line short = absurd is
  same_reply Refused (Going b) is kind line short = absurd is

  same_mode : (m : Mode A) (n : Mode B) → Match Agree m n → (kind : Kind) (line : List ℕ) (short : Bool) → Match Agree (next_mode one m kind line short) (next_mode other n kind line short)
  same_mode Opening Opening is TooLong line short = tt
  same_mode Opening Opening is Blank line short = tt
  same_mode Opening Opening is Request line short = first_mode (one.opened line) (other.opened line) (alike.opened line)
  same_mode (Going a) (Going b) is TooLong line short = is
  same_mode (Going a) (Going b) is Blank line short = is
  same_mode (Going a) (Going b) is Request line false = alike.next a b is line
  same_mode (Going a) (Going b) is Request line true = is
  same_mode Refused Refused is kind line short = tt
  same_mode Opening (Going b) is kind line short = absurd is
  same_mode Opening Refused is kind line short = absurd is
  same_mode (Going a) Opening is kind line short = absurd is
  same_mode (Going a) Refused is kind line short = absurd is
  same_mode Refused Opening is kind line short = absurd is
  same_mode Refused (Going b) is kind line short = absurd is

  same_end : (ended : Bool) (m : Mode A) (n : Mode B) → Match Agree m n → reply_at_end one ended m ≡ reply_at_end other ended n
  same_end true Opening Opening is = ap Some alike.refusal_missing
  same_end true (Going a) (Going b) is = refl
  same_end true Refused Refused is = refl
  same_end true Opening (Going b) is = absurd is
  same_end true Opening Refused is = absurd is
  same_end true (Going a) Opening is = absurd is
  same_end true (Going a) Refused is = absurd is
  same_end true Refused Opening is = absurd is
  same_end true Refused (Going b) is = absurd is
  same_end false m n is = refl

  -- ---- all lines

  same_from : (ended : Bool) (m : Mode A) (n : Mode B) → Match Agree m n → (lines texts : List (List ℕ)) → due_from one ended m lines texts ≡ due_from other ended n lines texts
  same_from ended m n is [] texts = ap written (same_end ended m n is)
  same_from ended m n is (line ∷ lines) texts =
      let short = tells_memory texts in
      let reply = same_reply m n is (kind_of line) line short in
      (λ i. written (reply i) ++ due_from one ended (next_mode one m (kind_of line) line short) lines (behind_reply (reply i) texts))
      ∙ ap (λ rest. written (reply_to other n (kind_of line) line short) ++ rest)
      (same_from ended (next_mode one m (kind_of line) line short) (next_mode other n (kind_of line) line short) (same_mode m n is (kind_of line) line short)
      lines (behind_reply (reply_to other n (kind_of line) line short) texts))

  pub same_due : (read : List ℕ) (ended : Bool) (out : List ℕ) → due one read ended out ≡ due other read ended out
  same_due read ended out = same_from ended Opening Opening tt (lines_of ended read) (slice_split is_line_end out)

  pub same_first : (lines : List (List ℕ)) → first_of one lines ≡ first_of other lines
  same_first [] = refl
  same_first (line ∷ lines) = go (kind_of line) (one.opened line) (other.opened line) (alike.opened line) (same_first lines)
    where
      go : (kind : Kind) (a : Option A) (b : Option B) → BothOpen Agree a b → first_of one lines ≡ first_of other lines
          → first_by kind a (first_of one lines) ≡ first_by kind b (first_of other lines)
      go TooLong a b both later = refl
      go Blank a b both later = later
      go Request None None both later = refl
      go Request (Some a) (Some b) both later = refl
      go Request None (Some b) both later = absurd both
      go Request (Some a) None both later = absurd both

  modes_behind : (m : Mode A) (n : Mode B) → Match Agree m n → (entries : List (List ℕ × Bool)) → Match Agree (mode_behind one m entries) (mode_behind other n entries)
  modes_behind m n is [] = is
  modes_behind m n is (entry ∷ entries) =
      modes_behind (next_mode one m (kind_of entry.0) entry.0 entry.1) (next_mode other n (kind_of entry.0) entry.0 entry.1)
      (same_mode m n is (kind_of entry.0) entry.0 entry.1) entries

  -- the state behind some lines agrees with the other one behind them
  pub state_behind : (entries : List (List ℕ × Bool)) (a : A) → mode_behind one Opening entries ≡ Going a → (b : B) × (mode_behind other Opening entries ≡ Going b) × Agree a b
  state_behind entries a stands = go (mode_behind other Opening entries) refl (subst_mode (modes_behind Opening Opening tt entries))
    where
      subst_mode : Match Agree (mode_behind one Opening entries) (mode_behind other Opening entries) → Match Agree (Going a) (mode_behind other Opening entries)
      subst_mode is = subst (λ m. Match Agree m (mode_behind other Opening entries)) stands is

      go : (n : Mode B) → mode_behind other Opening entries ≡ n → Match Agree (Going a) n → (b : B) × (mode_behind other Opening entries ≡ Going b) × Agree a b
      go (Going b) e is = (b, e, is)
      go Opening e is = absurd is
      go Refused e is = absurd is
