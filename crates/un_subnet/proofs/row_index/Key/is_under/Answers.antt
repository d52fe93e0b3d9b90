use Rattle.std.proofs.Common.{◌≡◌, ◌∙◌, refl, ap}
use Rattle.un_subnet.specs.contracts.row_index.SubjectPartialEq.TheImpl as equal_subjects
use Rattle.un_subnet.specs.declared.row_index.Subject.{Subject}
use Rattle.un_subnet.specs.declared.row_index.Subject.TheVariants.{Subnet, At}
use Rattle.un_subnet.specs.RowIndex.{same_subject}
use Rattle.un_subnet.proofs.Alike.{equal_points_alike}
use Rattle.un_subnet.proofs.row_index.Key.is_under.Goals as goal

equal_alike : (a b : Subject) → equal_subjects.ghosts.eq a b ≡ same_subject a b
equal_alike (Subnet a) (Subnet b) = refl
equal_alike (Subnet a) (At q) = refl
equal_alike (At p) (Subnet b) = refl
equal_alike (At p) (At q) = ap (λ f. f p q) equal_points_alike

pub returns : goal.returns
returns c = c.eq.ensures ∙ equal_alike c.args.subject c.args.self.subject
