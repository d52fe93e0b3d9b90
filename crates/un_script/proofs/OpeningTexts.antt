-- The texts of the refusals that are written as they stand.
use Rattle.std.proofs.Common.{◌≡◌, codes, decimal, refl}
use Rattle.std.specs.Fmt.{digits}
use Rattle.serde_json.proofs.OnLiterals.{serde_json_on_literals}
use Rattle.un_schema.specs.declared.place.Place.TheVariants as place
use Rattle.un_replies.specs.Replies.{print}
use Rattle.un_script.specs.Opening.{bad_schema, line_too_long}

digits_3 : decimal 3 ≡ codes "3"
unfolding digits
digits_3 = refl

digits_6 : decimal 6 ≡ codes "6"
unfolding digits
digits_6 = refl

pub line_too_long_text : print line_too_long ≡ codes "{\"error\":3,\"name\":\"LineTooLong\"}"
unfolding serde_json_on_literals
line_too_long_text = rw digits_3

pub schema_too_long_text : print (bad_schema place.Line) ≡ codes "{\"error\":6,\"name\":\"BadSchema\",\"place\":\"line\"}"
unfolding serde_json_on_literals
schema_too_long_text = rw digits_6

pub no_schema_text : print (bad_schema place.Whole) ≡ codes "{\"error\":6,\"name\":\"BadSchema\",\"place\":\"\"}"
unfolding serde_json_on_literals
no_schema_text = rw digits_6
