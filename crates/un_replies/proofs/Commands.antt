-- What holds of the replies of commands, and of others.
use Rattle.std.proofs.Common.{◌≡◌, ◌≢◌, ℕ, ◌≤◌, Bool, List, Option, refl, arith}
use Rattle.un_geom.specs.declared.point.Point.{Point}
use Rattle.un_geom.specs.Rectangle.{Rectangle}
use Rattle.un_defs.specs.declared.port.Port.{Port}
use Rattle.un_defs.specs.declared.assoc.Controller.{Controller}
use Rattle.un_defs.specs.declared.star.TopoError.{TopoError}
use Rattle.un_defs.specs.declared.refusal.Refusal.{Refusal}
use Rattle.un_ask.specs.declared.stored.Status.{Status}
use Rattle.un_ask.specs.declared.results.Part.{Part}
use Rattle.un_ask.specs.declared.results.Segment.{Segment}
use Rattle.un_ask.specs.declared.results.Label.{Label}
use Rattle.un_ask.specs.declared.results.Piece.{Piece}
use Rattle.un_ask.specs.declared.results.Edge.{Edge}
use Rattle.un_ask.specs.declared.reply.FeatureReply.{FeatureReply}
use Rattle.un_ask.specs.declared.reply.ResultReply.{ResultReply}
use Rattle.un_ask.specs.declared.word.EditWord.{EditWord}
use Rattle.un_ask.specs.declared.stored.StoredSubnet.{StoredSubnet}
use Rattle.un_ask.specs.declared.reply.Reply.{Reply}
use Rattle.un_ask.specs.declared.reply.Reply.TheVariants as reply
use Rattle.un_replies.specs.Commands.{IsOfCommand, IsOfReach, HasFewIds, command_room}

-- a reply that is none of these is not one of a command
pub other_reply : (r : Reply) → IsOfCommand r
    → ((areas : List ℕ) (id : ℕ) (word : EditWord) (version : ℕ) → r ≢ reply.Edited areas id word version)
    → ((areas : List ℕ) (ids : List ℕ) (version : ℕ) → r ≢ reply.Batch areas ids version)
    → ((areas : List ℕ) (rules : ℕ) (version : ℕ) → r ≢ reply.Ruled areas rules version)
    → ((cleared : ℕ) (errors : ℕ) (version : ℕ) → r ≢ reply.Validated cleared errors version)
    → ((row : Option StoredSubnet) (version : ℕ) → r ≢ reply.Updated row version)
    → ((refusal : Refusal) (edit : Option ℕ) (version : ℕ) → r ≢ reply.Refused refusal edit version)
    → ⊥
other_reply (reply.Edited areas id word version) command h0 h1 h2 h3 h4 h5 = h0 areas id word version refl
other_reply (reply.Batch areas ids version) command h0 h1 h2 h3 h4 h5 = h1 areas ids version refl
other_reply (reply.Ruled areas rules version) command h0 h1 h2 h3 h4 h5 = h2 areas rules version refl
other_reply (reply.Validated cleared errors version) command h0 h1 h2 h3 h4 h5 = h3 cleared errors version refl
other_reply (reply.Updated row version) command h0 h1 h2 h3 h4 h5 = h4 row version refl
other_reply (reply.Version version) command h0 h1 h2 h3 h4 h5 = absurd command
other_reply (reply.Feature feature version) command h0 h1 h2 h3 h4 h5 = absurd command
other_reply (reply.Dirty areas version) command h0 h1 h2 h3 h4 h5 = absurd command
other_reply (reply.Errors errors version) command h0 h1 h2 h3 h4 h5 = absurd command
other_reply (reply.Subnet controllers members status subnet tier updated version) command h0 h1 h2 h3 h4 h5 = absurd command
other_reply (reply.Traced traced version) command h0 h1 h2 h3 h4 h5 = absurd command
other_reply (reply.Controllers controllers version) command h0 h1 h2 h3 h4 h5 = absurd command
other_reply (reply.Loops segments version) command h0 h1 h2 h3 h4 h5 = absurd command
other_reply (reply.Isolation borders features version) command h0 h1 h2 h3 h4 h5 = absurd command
other_reply (reply.Path cost labels nodes version) command h0 h1 h2 h3 h4 h5 = absurd command
other_reply (reply.Check valid version) command h0 h1 h2 h3 h4 h5 = absurd command
other_reply (reply.Diagram edges kept pieces version) command h0 h1 h2 h3 h4 h5 = absurd command
other_reply (reply.Refused refusal edit version) command h0 h1 h2 h3 h4 h5 = h5 refusal edit version refl

-- a reply that is none of these is not one of a query
pub other_query : (r : Reply) → ¬ IsOfCommand r → ¬ IsOfReach r
    → ((version : ℕ) → r ≢ reply.Version version)
    → ((feature : FeatureReply) (version : ℕ) → r ≢ reply.Feature feature version)
    → ((areas : List (ℕ × Rectangle)) (version : ℕ) → r ≢ reply.Dirty areas version)
    → ((errors : List (Point × TopoError)) (version : ℕ) → r ≢ reply.Errors errors version)
    → ((controllers : List Port) (members : List ℕ) (status : Status) (subnet : List ℕ) (tier : List ℕ) (updated : ℕ) (version : ℕ) → r ≢ reply.Subnet controllers members status subnet tier updated version)
    → ((controllers : List Controller) (version : ℕ) → r ≢ reply.Controllers controllers version)
    → ((cost : Option ℕ) (labels : List Label) (nodes : List Port) (version : ℕ) → r ≢ reply.Path cost labels nodes version)
    → ((valid : Bool) (version : ℕ) → r ≢ reply.Check valid version)
    → ((edges : List Edge) (kept : List Port) (pieces : List Piece) (version : ℕ) → r ≢ reply.Diagram edges kept pieces version)
    → ⊥
other_query (reply.Edited areas id word version) query short h0 h1 h2 h3 h4 h5 h6 h7 h8 = absurd (query tt)
other_query (reply.Batch areas ids version) query short h0 h1 h2 h3 h4 h5 h6 h7 h8 = absurd (query tt)
other_query (reply.Ruled areas rules version) query short h0 h1 h2 h3 h4 h5 h6 h7 h8 = absurd (query tt)
other_query (reply.Validated cleared errors version) query short h0 h1 h2 h3 h4 h5 h6 h7 h8 = absurd (query tt)
other_query (reply.Updated row version) query short h0 h1 h2 h3 h4 h5 h6 h7 h8 = absurd (query tt)
other_query (reply.Version version) query short h0 h1 h2 h3 h4 h5 h6 h7 h8 = h0 version refl
other_query (reply.Feature feature version) query short h0 h1 h2 h3 h4 h5 h6 h7 h8 = h1 feature version refl
other_query (reply.Dirty areas version) query short h0 h1 h2 h3 h4 h5 h6 h7 h8 = h2 areas version refl
other_query (reply.Errors errors version) query short h0 h1 h2 h3 h4 h5 h6 h7 h8 = h3 errors version refl
other_query (reply.Subnet controllers members status subnet tier updated version) query short h0 h1 h2 h3 h4 h5 h6 h7 h8 = h4 controllers members status subnet tier updated version refl
other_query (reply.Traced traced version) query short h0 h1 h2 h3 h4 h5 h6 h7 h8 = absurd (short tt)
other_query (reply.Controllers controllers version) query short h0 h1 h2 h3 h4 h5 h6 h7 h8 = h5 controllers version refl
other_query (reply.Loops segments version) query short h0 h1 h2 h3 h4 h5 h6 h7 h8 = absurd (short tt)
other_query (reply.Isolation borders features version) query short h0 h1 h2 h3 h4 h5 h6 h7 h8 = absurd (short tt)
other_query (reply.Path cost labels nodes version) query short h0 h1 h2 h3 h4 h5 h6 h7 h8 = h6 cost labels nodes version refl
other_query (reply.Check valid version) query short h0 h1 h2 h3 h4 h5 h6 h7 h8 = h7 valid version refl
other_query (reply.Diagram edges kept pieces version) query short h0 h1 h2 h3 h4 h5 h6 h7 h8 = h8 edges kept pieces version refl
other_query (reply.Refused refusal edit version) query short h0 h1 h2 h3 h4 h5 h6 h7 h8 = absurd (query tt)

-- one that is none of these tells no whole network
pub other_reach : (r : Reply) → ((traced : ResultReply) (version : ℕ) → r ≢ reply.Traced traced version) → ((segments : List Segment) (version : ℕ) → r ≢ reply.Loops segments version)
    → ((borders : List Port) (features : List Part) (version : ℕ) → r ≢ reply.Isolation borders features version) → ¬ IsOfReach r
other_reach (reply.Edited areas id word version) h0 h1 h2 reach = absurd reach
other_reach (reply.Batch areas ids version) h0 h1 h2 reach = absurd reach
other_reach (reply.Ruled areas rules version) h0 h1 h2 reach = absurd reach
other_reach (reply.Validated cleared errors version) h0 h1 h2 reach = absurd reach
other_reach (reply.Updated row version) h0 h1 h2 reach = absurd reach
other_reach (reply.Version version) h0 h1 h2 reach = absurd reach
other_reach (reply.Feature feature version) h0 h1 h2 reach = absurd reach
other_reach (reply.Dirty areas version) h0 h1 h2 reach = absurd reach
other_reach (reply.Errors errors version) h0 h1 h2 reach = absurd reach
other_reach (reply.Subnet controllers members status subnet tier updated version) h0 h1 h2 reach = absurd reach
other_reach (reply.Traced traced version) h0 h1 h2 reach = h0 traced version refl
other_reach (reply.Controllers controllers version) h0 h1 h2 reach = absurd reach
other_reach (reply.Loops segments version) h0 h1 h2 reach = h1 segments version refl
other_reach (reply.Isolation borders features version) h0 h1 h2 reach = h2 borders features version refl
other_reach (reply.Path cost labels nodes version) h0 h1 h2 reach = absurd reach
other_reach (reply.Check valid version) h0 h1 h2 reach = absurd reach
other_reach (reply.Diagram edges kept pieces version) h0 h1 h2 reach = absurd reach
other_reach (reply.Refused refusal edit version) h0 h1 h2 reach = absurd reach

-- 256 ids and what stands round them fit in the room of a command's reply
pub few_fit : (r : Reply) → HasFewIds r → command_room r ≤ 5504
few_fit (reply.Edited areas id word version) few = omega arith
few_fit (reply.Batch areas ids version) few = omega arith
few_fit (reply.Ruled areas rules version) few = omega arith
few_fit (reply.Validated cleared errors version) few = omega arith
few_fit (reply.Updated row version) few = omega arith
few_fit (reply.Version version) few = omega arith
few_fit (reply.Feature feature version) few = omega arith
few_fit (reply.Dirty areas version) few = omega arith
few_fit (reply.Errors errors version) few = omega arith
few_fit (reply.Subnet controllers members status subnet tier updated version) few = omega arith
few_fit (reply.Traced traced version) few = omega arith
few_fit (reply.Controllers controllers version) few = omega arith
few_fit (reply.Loops segments version) few = omega arith
few_fit (reply.Isolation borders features version) few = omega arith
few_fit (reply.Path cost labels nodes version) few = omega arith
few_fit (reply.Check valid version) few = omega arith
few_fit (reply.Diagram edges kept pieces version) few = omega arith
few_fit (reply.Refused refusal edit version) few = omega arith

-- any reply but a batch is short
pub room_of_other : (r : Reply) → ((areas ids : List ℕ) (version : ℕ) → r ≢ reply.Batch areas ids version) → command_room r ≡ 512
room_of_other (reply.Edited areas id word version) other = refl
room_of_other (reply.Batch areas ids version) other = absurd (other areas ids version refl)
room_of_other (reply.Ruled areas rules version) other = refl
room_of_other (reply.Validated cleared errors version) other = refl
room_of_other (reply.Updated row version) other = refl
room_of_other (reply.Version version) other = refl
room_of_other (reply.Feature feature version) other = refl
room_of_other (reply.Dirty areas version) other = refl
room_of_other (reply.Errors errors version) other = refl
room_of_other (reply.Subnet controllers members status subnet tier updated version) other = refl
room_of_other (reply.Traced traced version) other = refl
room_of_other (reply.Controllers controllers version) other = refl
room_of_other (reply.Loops segments version) other = refl
room_of_other (reply.Isolation borders features version) other = refl
room_of_other (reply.Path cost labels nodes version) other = refl
room_of_other (reply.Check valid version) other = refl
room_of_other (reply.Diagram edges kept pieces version) other = refl
room_of_other (reply.Refused refusal edit version) other = refl
