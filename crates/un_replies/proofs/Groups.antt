-- What refusals carry in each of the places.
use Rattle.std.proofs.Common.{◌≡◌, ◌≢◌, ℕ, List, [], ◌∷◌, ◌++◌, Option, refl, ap, sym, ◌∙◌, append_assoc}
use Rattle.un_geom.specs.declared.point.Point.{Point}
use Rattle.un_schema.specs.declared.place.Place.{Place}
use Rattle.un_defs.specs.declared.refusal.Refusal.{Refusal}
use Rattle.un_defs.specs.declared.refusal.Refusal.TheVariants as refusal
use Rattle.un_defs.specs.declared.refusal.Limit.{Limit}
use Rattle.json.specs.Print.{quoted}
use Rattle.serde_json.specs.Data.{Data}
use Rattle.serde_json.specs.Written.{compact_text}
use Rattle.un_replies.specs.Pieces.{leading, following, early, middle, late, last}

-- no other refusal carries anything there
pub early_none : (r : Refusal)
    → ((at : ℕ) → r ≢ (refusal.Moved at))
    → ((attribute : List ℕ) → r ≢ (refusal.BadAttribute attribute))
    → ((by : ℕ) → r ≢ (refusal.AlreadyContained by))
    → ((area : ℕ) (feature : ℕ) (port : ℕ) → r ≢ (refusal.DirtyGround area feature port))
    → ((at : ℕ) (latest : ℕ) → r ≢ (refusal.NotYet at latest))
    → ((after : Option Point) (at : ℕ) → r ≢ (refusal.WrongPage after at))
    → early r ≡ []
early_none refusal.NotJson h0 h1 h2 h3 h4 h5 = refl
early_none (refusal.BadRequest place) h0 h1 h2 h3 h4 h5 = refl
early_none refusal.LineTooLong h0 h1 h2 h3 h4 h5 = refl
early_none (refusal.BadSchema place) h0 h1 h2 h3 h4 h5 = refl
early_none (refusal.NoSuchFeature id) h0 h1 h2 h3 h4 h5 = refl
early_none (refusal.Moved at) h0 h1 h2 h3 h4 h5 = absurd (h0 at refl)
early_none (refusal.BadShape place) h0 h1 h2 h3 h4 h5 = refl
early_none (refusal.NoSuchKind kind) h0 h1 h2 h3 h4 h5 = refl
early_none (refusal.BadAttribute attribute) h0 h1 h2 h3 h4 h5 = absurd (h1 attribute refl)
early_none (refusal.BadTerminal feature) h0 h1 h2 h3 h4 h5 = refl
early_none refusal.BadPath h0 h1 h2 h3 h4 h5 = refl
early_none (refusal.HasAssociations least) h0 h1 h2 h3 h4 h5 = refl
early_none refusal.HasControllers h0 h1 h2 h3 h4 h5 = refl
early_none refusal.NoSuchAssociation h0 h1 h2 h3 h4 h5 = refl
early_none refusal.WrongKind h0 h1 h2 h3 h4 h5 = refl
early_none (refusal.AlreadyContained by) h0 h1 h2 h3 h4 h5 = absurd (h2 by refl)
early_none refusal.ContainsItself h0 h1 h2 h3 h4 h5 = refl
early_none refusal.NoSuchTier h0 h1 h2 h3 h4 h5 = refl
early_none refusal.NotController h0 h1 h2 h3 h4 h5 = refl
early_none refusal.ControllerExists h0 h1 h2 h3 h4 h5 = refl
early_none refusal.NoSuchController h0 h1 h2 h3 h4 h5 = refl
early_none refusal.NoSuchSubnetwork h0 h1 h2 h3 h4 h5 = refl
early_none (refusal.Conflict subnet feature port) h0 h1 h2 h3 h4 h5 = refl
early_none (refusal.Disjoint feature port) h0 h1 h2 h3 h4 h5 = refl
early_none (refusal.Full what) h0 h1 h2 h3 h4 h5 = refl
early_none (refusal.Ahead seen latest) h0 h1 h2 h3 h4 h5 = refl
early_none (refusal.NoStart feature port) h0 h1 h2 h3 h4 h5 = refl
early_none (refusal.StartIsValve feature terminal) h0 h1 h2 h3 h4 h5 = refl
early_none (refusal.BadCondition place) h0 h1 h2 h3 h4 h5 = refl
early_none (refusal.DirtyGround area feature port) h0 h1 h2 h3 h4 h5 = absurd (h3 area feature port refl)
early_none (refusal.NotIsolable feature terminal) h0 h1 h2 h3 h4 h5 = refl
early_none (refusal.BadRuleTerminal place) h0 h1 h2 h3 h4 h5 = refl
early_none (refusal.RuleExists place) h0 h1 h2 h3 h4 h5 = refl
early_none (refusal.NotYet at latest) h0 h1 h2 h3 h4 h5 = absurd (h4 at latest refl)
early_none refusal.ServeOnly h0 h1 h2 h3 h4 h5 = refl
early_none (refusal.WrongPage after at) h0 h1 h2 h3 h4 h5 = absurd (h5 after at refl)
early_none (refusal.BadSpan since upto) h0 h1 h2 h3 h4 h5 = refl
early_none refusal.Memory h0 h1 h2 h3 h4 h5 = refl

-- no other refusal carries anything there
pub middle_none : (r : Refusal)
    → ((id : ℕ) → r ≢ (refusal.NoSuchFeature id))
    → ((kind : List ℕ) → r ≢ (refusal.NoSuchKind kind))
    → ((feature : ℕ) → r ≢ (refusal.BadTerminal feature))
    → ((least : ℕ) → r ≢ (refusal.HasAssociations least))
    → ((subnet : List ℕ) (feature : ℕ) (port : ℕ) → r ≢ (refusal.Conflict subnet feature port))
    → ((feature : ℕ) (port : ℕ) → r ≢ (refusal.Disjoint feature port))
    → ((seen : ℕ) (latest : ℕ) → r ≢ (refusal.Ahead seen latest))
    → ((feature : ℕ) (port : ℕ) → r ≢ (refusal.NoStart feature port))
    → ((feature : ℕ) (terminal : ℕ) → r ≢ (refusal.StartIsValve feature terminal))
    → ((area : ℕ) (feature : ℕ) (port : ℕ) → r ≢ (refusal.DirtyGround area feature port))
    → ((feature : ℕ) (terminal : ℕ) → r ≢ (refusal.NotIsolable feature terminal))
    → ((at : ℕ) (latest : ℕ) → r ≢ (refusal.NotYet at latest))
    → middle r ≡ []
middle_none refusal.NotJson h0 h1 h2 h3 h4 h5 h6 h7 h8 h9 h10 h11 = refl
middle_none (refusal.BadRequest place) h0 h1 h2 h3 h4 h5 h6 h7 h8 h9 h10 h11 = refl
middle_none refusal.LineTooLong h0 h1 h2 h3 h4 h5 h6 h7 h8 h9 h10 h11 = refl
middle_none (refusal.BadSchema place) h0 h1 h2 h3 h4 h5 h6 h7 h8 h9 h10 h11 = refl
middle_none (refusal.NoSuchFeature id) h0 h1 h2 h3 h4 h5 h6 h7 h8 h9 h10 h11 = absurd (h0 id refl)
middle_none (refusal.Moved at) h0 h1 h2 h3 h4 h5 h6 h7 h8 h9 h10 h11 = refl
middle_none (refusal.BadShape place) h0 h1 h2 h3 h4 h5 h6 h7 h8 h9 h10 h11 = refl
middle_none (refusal.NoSuchKind kind) h0 h1 h2 h3 h4 h5 h6 h7 h8 h9 h10 h11 = absurd (h1 kind refl)
middle_none (refusal.BadAttribute attribute) h0 h1 h2 h3 h4 h5 h6 h7 h8 h9 h10 h11 = refl
middle_none (refusal.BadTerminal feature) h0 h1 h2 h3 h4 h5 h6 h7 h8 h9 h10 h11 = absurd (h2 feature refl)
middle_none refusal.BadPath h0 h1 h2 h3 h4 h5 h6 h7 h8 h9 h10 h11 = refl
middle_none (refusal.HasAssociations least) h0 h1 h2 h3 h4 h5 h6 h7 h8 h9 h10 h11 = absurd (h3 least refl)
middle_none refusal.HasControllers h0 h1 h2 h3 h4 h5 h6 h7 h8 h9 h10 h11 = refl
middle_none refusal.NoSuchAssociation h0 h1 h2 h3 h4 h5 h6 h7 h8 h9 h10 h11 = refl
middle_none refusal.WrongKind h0 h1 h2 h3 h4 h5 h6 h7 h8 h9 h10 h11 = refl
middle_none (refusal.AlreadyContained by) h0 h1 h2 h3 h4 h5 h6 h7 h8 h9 h10 h11 = refl
middle_none refusal.ContainsItself h0 h1 h2 h3 h4 h5 h6 h7 h8 h9 h10 h11 = refl
middle_none refusal.NoSuchTier h0 h1 h2 h3 h4 h5 h6 h7 h8 h9 h10 h11 = refl
middle_none refusal.NotController h0 h1 h2 h3 h4 h5 h6 h7 h8 h9 h10 h11 = refl
middle_none refusal.ControllerExists h0 h1 h2 h3 h4 h5 h6 h7 h8 h9 h10 h11 = refl
middle_none refusal.NoSuchController h0 h1 h2 h3 h4 h5 h6 h7 h8 h9 h10 h11 = refl
middle_none refusal.NoSuchSubnetwork h0 h1 h2 h3 h4 h5 h6 h7 h8 h9 h10 h11 = refl
middle_none (refusal.Conflict subnet feature port) h0 h1 h2 h3 h4 h5 h6 h7 h8 h9 h10 h11 = absurd (h4 subnet feature port refl)
middle_none (refusal.Disjoint feature port) h0 h1 h2 h3 h4 h5 h6 h7 h8 h9 h10 h11 = absurd (h5 feature port refl)
middle_none (refusal.Full what) h0 h1 h2 h3 h4 h5 h6 h7 h8 h9 h10 h11 = refl
middle_none (refusal.Ahead seen latest) h0 h1 h2 h3 h4 h5 h6 h7 h8 h9 h10 h11 = absurd (h6 seen latest refl)
middle_none (refusal.NoStart feature port) h0 h1 h2 h3 h4 h5 h6 h7 h8 h9 h10 h11 = absurd (h7 feature port refl)
middle_none (refusal.StartIsValve feature terminal) h0 h1 h2 h3 h4 h5 h6 h7 h8 h9 h10 h11 = absurd (h8 feature terminal refl)
middle_none (refusal.BadCondition place) h0 h1 h2 h3 h4 h5 h6 h7 h8 h9 h10 h11 = refl
middle_none (refusal.DirtyGround area feature port) h0 h1 h2 h3 h4 h5 h6 h7 h8 h9 h10 h11 = absurd (h9 area feature port refl)
middle_none (refusal.NotIsolable feature terminal) h0 h1 h2 h3 h4 h5 h6 h7 h8 h9 h10 h11 = absurd (h10 feature terminal refl)
middle_none (refusal.BadRuleTerminal place) h0 h1 h2 h3 h4 h5 h6 h7 h8 h9 h10 h11 = refl
middle_none (refusal.RuleExists place) h0 h1 h2 h3 h4 h5 h6 h7 h8 h9 h10 h11 = refl
middle_none (refusal.NotYet at latest) h0 h1 h2 h3 h4 h5 h6 h7 h8 h9 h10 h11 = absurd (h11 at latest refl)
middle_none refusal.ServeOnly h0 h1 h2 h3 h4 h5 h6 h7 h8 h9 h10 h11 = refl
middle_none (refusal.WrongPage after at) h0 h1 h2 h3 h4 h5 h6 h7 h8 h9 h10 h11 = refl
middle_none (refusal.BadSpan since upto) h0 h1 h2 h3 h4 h5 h6 h7 h8 h9 h10 h11 = refl
middle_none refusal.Memory h0 h1 h2 h3 h4 h5 h6 h7 h8 h9 h10 h11 = refl

-- no other refusal carries anything there
pub late_none : (r : Refusal)
    → ((place : Place) → r ≢ (refusal.BadRequest place))
    → ((place : Place) → r ≢ (refusal.BadSchema place))
    → ((place : ℕ) → r ≢ (refusal.BadShape place))
    → ((subnet : List ℕ) (feature : ℕ) (port : ℕ) → r ≢ (refusal.Conflict subnet feature port))
    → ((feature : ℕ) (port : ℕ) → r ≢ (refusal.Disjoint feature port))
    → ((seen : ℕ) (latest : ℕ) → r ≢ (refusal.Ahead seen latest))
    → ((feature : ℕ) (port : ℕ) → r ≢ (refusal.NoStart feature port))
    → ((feature : ℕ) (terminal : ℕ) → r ≢ (refusal.StartIsValve feature terminal))
    → ((place : Place) → r ≢ (refusal.BadCondition place))
    → ((area : ℕ) (feature : ℕ) (port : ℕ) → r ≢ (refusal.DirtyGround area feature port))
    → ((feature : ℕ) (terminal : ℕ) → r ≢ (refusal.NotIsolable feature terminal))
    → ((place : ℕ) → r ≢ (refusal.BadRuleTerminal place))
    → ((place : ℕ) → r ≢ (refusal.RuleExists place))
    → ((since : ℕ) (upto : ℕ) → r ≢ (refusal.BadSpan since upto))
    → late r ≡ []
late_none refusal.NotJson h0 h1 h2 h3 h4 h5 h6 h7 h8 h9 h10 h11 h12 h13 = refl
late_none (refusal.BadRequest place) h0 h1 h2 h3 h4 h5 h6 h7 h8 h9 h10 h11 h12 h13 = absurd (h0 place refl)
late_none refusal.LineTooLong h0 h1 h2 h3 h4 h5 h6 h7 h8 h9 h10 h11 h12 h13 = refl
late_none (refusal.BadSchema place) h0 h1 h2 h3 h4 h5 h6 h7 h8 h9 h10 h11 h12 h13 = absurd (h1 place refl)
late_none (refusal.NoSuchFeature id) h0 h1 h2 h3 h4 h5 h6 h7 h8 h9 h10 h11 h12 h13 = refl
late_none (refusal.Moved at) h0 h1 h2 h3 h4 h5 h6 h7 h8 h9 h10 h11 h12 h13 = refl
late_none (refusal.BadShape place) h0 h1 h2 h3 h4 h5 h6 h7 h8 h9 h10 h11 h12 h13 = absurd (h2 place refl)
late_none (refusal.NoSuchKind kind) h0 h1 h2 h3 h4 h5 h6 h7 h8 h9 h10 h11 h12 h13 = refl
late_none (refusal.BadAttribute attribute) h0 h1 h2 h3 h4 h5 h6 h7 h8 h9 h10 h11 h12 h13 = refl
late_none (refusal.BadTerminal feature) h0 h1 h2 h3 h4 h5 h6 h7 h8 h9 h10 h11 h12 h13 = refl
late_none refusal.BadPath h0 h1 h2 h3 h4 h5 h6 h7 h8 h9 h10 h11 h12 h13 = refl
late_none (refusal.HasAssociations least) h0 h1 h2 h3 h4 h5 h6 h7 h8 h9 h10 h11 h12 h13 = refl
late_none refusal.HasControllers h0 h1 h2 h3 h4 h5 h6 h7 h8 h9 h10 h11 h12 h13 = refl
late_none refusal.NoSuchAssociation h0 h1 h2 h3 h4 h5 h6 h7 h8 h9 h10 h11 h12 h13 = refl
late_none refusal.WrongKind h0 h1 h2 h3 h4 h5 h6 h7 h8 h9 h10 h11 h12 h13 = refl
late_none (refusal.AlreadyContained by) h0 h1 h2 h3 h4 h5 h6 h7 h8 h9 h10 h11 h12 h13 = refl
late_none refusal.ContainsItself h0 h1 h2 h3 h4 h5 h6 h7 h8 h9 h10 h11 h12 h13 = refl
late_none refusal.NoSuchTier h0 h1 h2 h3 h4 h5 h6 h7 h8 h9 h10 h11 h12 h13 = refl
late_none refusal.NotController h0 h1 h2 h3 h4 h5 h6 h7 h8 h9 h10 h11 h12 h13 = refl
late_none refusal.ControllerExists h0 h1 h2 h3 h4 h5 h6 h7 h8 h9 h10 h11 h12 h13 = refl
late_none refusal.NoSuchController h0 h1 h2 h3 h4 h5 h6 h7 h8 h9 h10 h11 h12 h13 = refl
late_none refusal.NoSuchSubnetwork h0 h1 h2 h3 h4 h5 h6 h7 h8 h9 h10 h11 h12 h13 = refl
late_none (refusal.Conflict subnet feature port) h0 h1 h2 h3 h4 h5 h6 h7 h8 h9 h10 h11 h12 h13 = absurd (h3 subnet feature port refl)
late_none (refusal.Disjoint feature port) h0 h1 h2 h3 h4 h5 h6 h7 h8 h9 h10 h11 h12 h13 = absurd (h4 feature port refl)
late_none (refusal.Full what) h0 h1 h2 h3 h4 h5 h6 h7 h8 h9 h10 h11 h12 h13 = refl
late_none (refusal.Ahead seen latest) h0 h1 h2 h3 h4 h5 h6 h7 h8 h9 h10 h11 h12 h13 = absurd (h5 seen latest refl)
late_none (refusal.NoStart feature port) h0 h1 h2 h3 h4 h5 h6 h7 h8 h9 h10 h11 h12 h13 = absurd (h6 feature port refl)
late_none (refusal.StartIsValve feature terminal) h0 h1 h2 h3 h4 h5 h6 h7 h8 h9 h10 h11 h12 h13 = absurd (h7 feature terminal refl)
late_none (refusal.BadCondition place) h0 h1 h2 h3 h4 h5 h6 h7 h8 h9 h10 h11 h12 h13 = absurd (h8 place refl)
late_none (refusal.DirtyGround area feature port) h0 h1 h2 h3 h4 h5 h6 h7 h8 h9 h10 h11 h12 h13 = absurd (h9 area feature port refl)
late_none (refusal.NotIsolable feature terminal) h0 h1 h2 h3 h4 h5 h6 h7 h8 h9 h10 h11 h12 h13 = absurd (h10 feature terminal refl)
late_none (refusal.BadRuleTerminal place) h0 h1 h2 h3 h4 h5 h6 h7 h8 h9 h10 h11 h12 h13 = absurd (h11 place refl)
late_none (refusal.RuleExists place) h0 h1 h2 h3 h4 h5 h6 h7 h8 h9 h10 h11 h12 h13 = absurd (h12 place refl)
late_none (refusal.NotYet at latest) h0 h1 h2 h3 h4 h5 h6 h7 h8 h9 h10 h11 h12 h13 = refl
late_none refusal.ServeOnly h0 h1 h2 h3 h4 h5 h6 h7 h8 h9 h10 h11 h12 h13 = refl
late_none (refusal.WrongPage after at) h0 h1 h2 h3 h4 h5 h6 h7 h8 h9 h10 h11 h12 h13 = refl
late_none (refusal.BadSpan since upto) h0 h1 h2 h3 h4 h5 h6 h7 h8 h9 h10 h11 h12 h13 = absurd (h13 since upto refl)
late_none refusal.Memory h0 h1 h2 h3 h4 h5 h6 h7 h8 h9 h10 h11 h12 h13 = refl

-- no other refusal carries anything there
pub last_none : (r : Refusal)
    → ((what : Limit) → r ≢ (refusal.Full what))
    → last r ≡ []
last_none refusal.NotJson h0 = refl
last_none (refusal.BadRequest place) h0 = refl
last_none refusal.LineTooLong h0 = refl
last_none (refusal.BadSchema place) h0 = refl
last_none (refusal.NoSuchFeature id) h0 = refl
last_none (refusal.Moved at) h0 = refl
last_none (refusal.BadShape place) h0 = refl
last_none (refusal.NoSuchKind kind) h0 = refl
last_none (refusal.BadAttribute attribute) h0 = refl
last_none (refusal.BadTerminal feature) h0 = refl
last_none refusal.BadPath h0 = refl
last_none (refusal.HasAssociations least) h0 = refl
last_none refusal.HasControllers h0 = refl
last_none refusal.NoSuchAssociation h0 = refl
last_none refusal.WrongKind h0 = refl
last_none (refusal.AlreadyContained by) h0 = refl
last_none refusal.ContainsItself h0 = refl
last_none refusal.NoSuchTier h0 = refl
last_none refusal.NotController h0 = refl
last_none refusal.ControllerExists h0 = refl
last_none refusal.NoSuchController h0 = refl
last_none refusal.NoSuchSubnetwork h0 = refl
last_none (refusal.Conflict subnet feature port) h0 = refl
last_none (refusal.Disjoint feature port) h0 = refl
last_none (refusal.Full what) h0 = absurd (h0 what refl)
last_none (refusal.Ahead seen latest) h0 = refl
last_none (refusal.NoStart feature port) h0 = refl
last_none (refusal.StartIsValve feature terminal) h0 = refl
last_none (refusal.BadCondition place) h0 = refl
last_none (refusal.DirtyGround area feature port) h0 = refl
last_none (refusal.NotIsolable feature terminal) h0 = refl
last_none (refusal.BadRuleTerminal place) h0 = refl
last_none (refusal.RuleExists place) h0 = refl
last_none (refusal.NotYet at latest) h0 = refl
last_none refusal.ServeOnly h0 = refl
last_none (refusal.WrongPage after at) h0 = refl
last_none (refusal.BadSpan since upto) h0 = refl
last_none refusal.Memory h0 = refl

-- two members that follow
following-append : (ms ns : List (List ℕ × Data)) → following (ms ++ ns) ≡ following ms ++ following ns
following-append [] ns = refl
following-append (m ∷ ms) ns =
    ap (λ t. 44 ∷ (quoted m.0 ++ 58 ∷ (compact_text m.1 ++ t))) (following-append ms ns)
    ∙ ap (λ t. 44 ∷ (quoted m.0 ++ 58 ∷ t)) (sym (append_assoc (compact_text m.1) (following ms) (following ns)))
    ∙ ap (λ t. 44 ∷ t) (sym (append_assoc (quoted m.0) (58 ∷ (compact_text m.1 ++ following ms)) (following ns)))

pub follow_two : (start a b : List ℕ) (m n : List ℕ × Data) → a ≡ start ++ following (m ∷ []) → b ≡ a ++ following (n ∷ []) → b ≡ start ++ following (m ∷ n ∷ [])
follow_two start a b m n first second =
    second ∙ ap (λ t. t ++ following (n ∷ [])) first ∙ append_assoc start (following (m ∷ [])) (following (n ∷ [])) ∙ ap (λ t. start ++ t) (sym (following-append (m ∷ []) (n ∷ [])))

-- two members that lead
leading-append : (ms ns : List (List ℕ × Data)) → leading (ms ++ ns) ≡ leading ms ++ leading ns
leading-append [] ns = refl
leading-append (m ∷ ms) ns =
    ap (λ t. quoted m.0 ++ 58 ∷ (compact_text m.1 ++ 44 ∷ t)) (leading-append ms ns)
    ∙ ap (λ t. quoted m.0 ++ 58 ∷ t) (sym (append_assoc (compact_text m.1) (44 ∷ leading ms) (leading ns)))
    ∙ sym (append_assoc (quoted m.0) (58 ∷ (compact_text m.1 ++ 44 ∷ leading ms)) (leading ns))

pub lead_two : (start a b : List ℕ) (m n : List ℕ × Data) → a ≡ start ++ leading (m ∷ []) → b ≡ a ++ leading (n ∷ []) → b ≡ start ++ leading (m ∷ n ∷ [])
lead_two start a b m n first second =
    second ∙ ap (λ t. t ++ leading (n ∷ [])) first ∙ append_assoc start (leading (m ∷ [])) (leading (n ∷ [])) ∙ ap (λ t. start ++ t) (sym (leading-append (m ∷ []) (n ∷ [])))
