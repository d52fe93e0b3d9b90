-- The texts of refusals that no script can meet, and of great numbers.
use Rattle.std.proofs.Common.{◌≡◌, codes, decimal, None, Some, refl}
use Rattle.std.specs.Fmt.{digits}
use Rattle.serde_json.proofs.OnLiterals.{serde_json_on_literals}
use Rattle.un_defs.specs.declared.refusal.Refusal.TheVariants as refusal
use Rattle.un_defs.specs.declared.refusal.Limit.TheVariants as limit
use Rattle.un_ask.specs.declared.reply.Reply.TheVariants.{Refused, Version}
use Rattle.un_replies.specs.Replies.{print}

digits_7 : decimal 7 ≡ codes "7"
unfolding digits
digits_7 = refl

digits_12 : decimal 12 ≡ codes "12"
unfolding digits
digits_12 = refl

digits_30 : decimal 30 ≡ codes "30"
unfolding digits
digits_30 = refl

digits_255 : decimal 255 ≡ codes "255"
unfolding digits
digits_255 = refl

digits_greatest : decimal 18446744073709551615 ≡ codes "18446744073709551615"
unfolding digits
digits_greatest = refl

-- the numbers of the network are used up
full_numbers : print (Refused (refusal.Full limit.Numbers) None 7) ≡ codes "{\"error\":30,\"name\":\"Full\",\"version\":7,\"what\":\"numbers\"}"
unfolding serde_json_on_literals
full_numbers = rw (digits_30, digits_7)

-- no more subnetworks can be stored
full_subnetworks : print (Refused (refusal.Full limit.Subnetworks) None 7) ≡ codes "{\"error\":30,\"name\":\"Full\",\"version\":7,\"what\":\"subnetworks\"}"
unfolding serde_json_on_literals
full_subnetworks = rw (digits_30, digits_7)

-- memory ran out
memory : print (Refused refusal.Memory None 7) ≡ codes "{\"memory\":true}"
unfolding serde_json_on_literals
memory = refl

-- the last edit of the longest batch is refused
last_edit : print (Refused (refusal.BadShape 7) (Some 255) 7) ≡ codes "{\"edit\":255,\"error\":12,\"name\":\"BadShape\",\"place\":7,\"version\":7}"
unfolding serde_json_on_literals
last_edit = rw (digits_255, digits_12, digits_7)

-- the greatest version
greatest : print (Version 18446744073709551615) ≡ codes "{\"ok\":\"version\",\"version\":18446744073709551615}"
unfolding serde_json_on_literals
greatest = rw digits_greatest
