-- The values of replies have that form.
use Rattle.std.proofs.Common.{ℕ, ℤ, [], ◌∷◌, ◌++◌, Option, Some, None, Bool, true, false, codes, arith}
use Rattle.un_geom.specs.declared.point.Point.{Point}
use Rattle.un_geom.specs.Rectangle.{Rectangle}
use Rattle.un_defs.specs.declared.port.Port.{Port}
use Rattle.un_defs.specs.declared.star.TopoError.{TopoError}
use Rattle.un_defs.specs.declared.assoc.Controller.{Controller}
use Rattle.un_defs.specs.declared.refusal.Refusal.{Refusal}
use Rattle.un_defs.specs.declared.refusal.Refusal.TheVariants as refusal
use Rattle.un_ask.specs.declared.results.Part.{Part}
use Rattle.un_ask.specs.declared.results.Segment.{Segment}
use Rattle.un_ask.specs.declared.results.Label.{Label}
use Rattle.un_ask.specs.declared.results.Piece.{Piece}
use Rattle.un_ask.specs.declared.results.Edge.{Edge}
use Rattle.un_ask.specs.declared.reply.FeatureReply.{FeatureReply}
use Rattle.un_ask.specs.declared.reply.ResultReply.{ResultReply}
use Rattle.un_ask.specs.declared.reply.Reply.{Reply}
use Rattle.un_ask.specs.declared.reply.Reply.TheVariants as reply
use Rattle.serde_json.specs.Data.{boolean, string}
use Rattle.un_values.specs.Values.{count, counts, whole, list, object_of, attribute}
use Rattle.std.proofs.Common.{map}
use Rattle.un_replies.specs.Refusals.{RefusalFields, fields_of, edit_member, version_member, has_version, fields_value, placed, refusal_value}
use Rattle.un_ask.specs.Words.{edit_text, trace_text}
use Rattle.un_replies.specs.Replies.{error_text, flow_text, stored_members, stored_status, status_text, path_text, point, port, area, placed_error, part, segment, controller, total, cost, label, piece, edge, feature_value, result_value, reply_value, past_value}
use Rattle.un_values.specs.Formed.{IsFormedTo}
use Rattle.un_values.proofs.Formed.{HasFormed, HasFormed-append, of_attributes, of_count, of_whole, of_truth, of_text, of_tuple, of_list, of_counts, of_object}

-- ---- parts

of_point : (p : Point) → IsFormedTo 2 (point p)
of_point p = of_tuple 1 (whole p.x ∷ whole p.y ∷ whole p.z ∷ []) (of_whole 1 p.x, (of_whole 1 p.y, (of_whole 1 p.z, tt)))

of_port : (p : Port) → IsFormedTo 2 (port p)
of_port p = of_tuple 1 (count p.feature ∷ count p.number ∷ []) (of_count 1 p.feature, (of_count 1 p.number, tt))

of_area : (a : ℕ × Rectangle) → IsFormedTo 2 (area a)
of_area (n, r) = of_tuple 1 (count n ∷ whole r.x0 ∷ whole r.y0 ∷ whole r.x1 ∷ whole r.y1 ∷ []) (of_count 1 n, (of_whole 1 r.x0, (of_whole 1 r.y0, (of_whole 1 r.x1, (of_whole 1 r.y1, tt)))))

of_error : (e : Point × TopoError) → IsFormedTo 2 (placed_error e)
of_error (p, e) =
    of_tuple 1 (whole p.x ∷ whole p.y ∷ whole p.z ∷ string (error_text e.kind) ∷ count e.feature ∷ count e.number ∷ count e.assoc ∷ [])
    (of_whole 1 p.x, (of_whole 1 p.y, (of_whole 1 p.z, (of_text 1 _, (of_count 1 e.feature, (of_count 1 e.number, (of_count 1 e.assoc, tt)))))))

of_part : (p : Part) → IsFormedTo 2 (part p)
of_part p = of_tuple 1 (count p.feature ∷ counts p.numbers ∷ []) (of_count 1 p.feature, (of_counts 0 p.numbers, tt))

of_segment : (s : Segment) → IsFormedTo 2 (segment s)
of_segment s = of_tuple 1 (count s.line ∷ count s.index ∷ []) (of_count 1 s.line, (of_count 1 s.index, tt))

of_controller : (c : Controller) → IsFormedTo 2 (controller c)
of_controller c = of_tuple 1 (count c.port.feature ∷ count c.port.number ∷ string c.subnet ∷ []) (of_count 1 c.port.feature, (of_count 1 c.port.number, (of_text 1 c.subnet, tt)))

of_total : (t : Option ℤ) → IsFormedTo 2 (total t)
of_total None = record { formed = tt; shallow = omega arith }
of_total (Some z) = of_whole 2 z

of_cost : (c : Option ℕ) → IsFormedTo 3 (cost c)
of_cost None = record { formed = tt; shallow = omega arith }
of_cost (Some n) = of_count 3 n

of_label : (l : Label) → IsFormedTo 2 (label l)
of_label l = of_tuple 1 (count l.port.feature ∷ count l.port.number ∷ count l.cost ∷ []) (of_count 1 l.port.feature, (of_count 1 l.port.number, (of_count 1 l.cost, tt)))

of_piece : (p : Piece) → IsFormedTo 2 (piece p)
of_piece p = of_tuple 1 (count p.name.feature ∷ count p.name.number ∷ count p.nodes ∷ count p.features ∷ []) (of_count 1 p.name.feature, (of_count 1 p.name.number, (of_count 1 p.nodes, (of_count 1 p.features, tt))))

of_edge : (e : Edge) → IsFormedTo 2 (edge e)
of_edge e = of_tuple 1 (count e.from.feature ∷ count e.from.number ∷ count e.to.feature ∷ count e.to.number ∷ []) (of_count 1 e.from.feature, (of_count 1 e.from.number, (of_count 1 e.to.feature, (of_count 1 e.to.number, tt))))

-- ---- refusals

of_edit : (edit : Option ℕ) → HasFormed 3 (edit_member edit)
of_edit None = tt
of_edit (Some edit) = (of_count 3 edit, tt)

of_version : (refusal_fields : Bool) (version : ℕ) → HasFormed 3 (version_member refusal_fields version)
of_version true version = (of_count 3 version, tt)
of_version false version = tt

of_fields : (t : RefusalFields) (edit : Option ℕ) (version : ℕ) → HasFormed 3 t.carried → IsFormedTo 4 (fields_value t edit version)
of_fields t edit version h =
    of_object 3 ((codes "error", count t.error) ∷ (codes "name", string t.name) ∷ t.carried ++ (edit_member edit ++ version_member (has_version t.error) version)) (of_count 3 t.error, (of_text 3 t.name, HasFormed-append 3 t.carried _ h (HasFormed-append 3 (edit_member edit) _ (of_edit edit) (of_version (has_version t.error) version))))

of_place : (place : Option Point) → IsFormedTo 3 (placed place)
of_place None = record { formed = tt; shallow = omega arith }
of_place (Some p) = of_tuple 2 (whole p.x ∷ whole p.y ∷ whole p.z ∷ []) (of_whole 2 p.x, (of_whole 2 p.y, (of_whole 2 p.z, tt)))

pub of_refusal : (r : Refusal) (edit : Option ℕ) (version : ℕ) → IsFormedTo 4 (refusal_value r edit version)
of_refusal refusal.NotJson edit version = of_fields (fields_of refusal.NotJson) edit version tt
of_refusal (refusal.BadRequest place) edit version = of_fields (fields_of (refusal.BadRequest place)) edit version (of_text 3 _, tt)
of_refusal refusal.LineTooLong edit version = of_fields (fields_of refusal.LineTooLong) edit version tt
of_refusal (refusal.BadSchema place) edit version = of_fields (fields_of (refusal.BadSchema place)) edit version (of_text 3 _, tt)
of_refusal (refusal.NoSuchFeature id) edit version = of_fields (fields_of (refusal.NoSuchFeature id)) edit version (of_count 3 _, tt)
of_refusal (refusal.Moved at) edit version = of_fields (fields_of (refusal.Moved at)) edit version (of_count 3 _, tt)
of_refusal (refusal.BadShape place) edit version = of_fields (fields_of (refusal.BadShape place)) edit version (of_count 3 _, tt)
of_refusal (refusal.NoSuchKind kind) edit version = of_fields (fields_of (refusal.NoSuchKind kind)) edit version (of_text 3 _, tt)
of_refusal (refusal.BadAttribute attribute) edit version = of_fields (fields_of (refusal.BadAttribute attribute)) edit version (of_text 3 _, tt)
of_refusal (refusal.BadTerminal feature) edit version = of_fields (fields_of (refusal.BadTerminal feature)) edit version (of_count 3 _, tt)
of_refusal refusal.BadPath edit version = of_fields (fields_of refusal.BadPath) edit version tt
of_refusal (refusal.HasAssociations least) edit version = of_fields (fields_of (refusal.HasAssociations least)) edit version (of_count 3 _, tt)
of_refusal refusal.HasControllers edit version = of_fields (fields_of refusal.HasControllers) edit version tt
of_refusal refusal.NoSuchAssociation edit version = of_fields (fields_of refusal.NoSuchAssociation) edit version tt
of_refusal refusal.WrongKind edit version = of_fields (fields_of refusal.WrongKind) edit version tt
of_refusal (refusal.AlreadyContained by) edit version = of_fields (fields_of (refusal.AlreadyContained by)) edit version (of_count 3 _, tt)
of_refusal refusal.ContainsItself edit version = of_fields (fields_of refusal.ContainsItself) edit version tt
of_refusal refusal.NoSuchTier edit version = of_fields (fields_of refusal.NoSuchTier) edit version tt
of_refusal refusal.NotController edit version = of_fields (fields_of refusal.NotController) edit version tt
of_refusal refusal.ControllerExists edit version = of_fields (fields_of refusal.ControllerExists) edit version tt
of_refusal refusal.NoSuchController edit version = of_fields (fields_of refusal.NoSuchController) edit version tt
of_refusal refusal.NoSuchSubnetwork edit version = of_fields (fields_of refusal.NoSuchSubnetwork) edit version tt
of_refusal (refusal.Conflict subnet feature port) edit version = of_fields (fields_of (refusal.Conflict subnet feature port)) edit version (of_text 3 _, (of_count 3 _, (of_count 3 _, tt)))
of_refusal (refusal.Disjoint feature port) edit version = of_fields (fields_of (refusal.Disjoint feature port)) edit version (of_count 3 _, (of_count 3 _, tt))
of_refusal (refusal.Full what) edit version = of_fields (fields_of (refusal.Full what)) edit version (of_text 3 _, tt)
of_refusal (refusal.Ahead seen latest) edit version = of_fields (fields_of (refusal.Ahead seen latest)) edit version (of_count 3 _, (of_count 3 _, tt))
of_refusal (refusal.NoStart feature port) edit version = of_fields (fields_of (refusal.NoStart feature port)) edit version (of_count 3 _, (of_count 3 _, tt))
of_refusal (refusal.StartIsValve feature terminal) edit version = of_fields (fields_of (refusal.StartIsValve feature terminal)) edit version (of_count 3 _, (of_count 3 _, tt))
of_refusal (refusal.BadCondition place) edit version = of_fields (fields_of (refusal.BadCondition place)) edit version (of_text 3 _, tt)
of_refusal (refusal.DirtyGround area feature port) edit version = of_fields (fields_of (refusal.DirtyGround area feature port)) edit version (of_count 3 _, (of_count 3 _, (of_count 3 _, tt)))
of_refusal (refusal.NotIsolable feature terminal) edit version = of_fields (fields_of (refusal.NotIsolable feature terminal)) edit version (of_count 3 _, (of_count 3 _, tt))
of_refusal (refusal.BadRuleTerminal place) edit version = of_fields (fields_of (refusal.BadRuleTerminal place)) edit version (of_count 3 _, tt)
of_refusal (refusal.RuleExists place) edit version = of_fields (fields_of (refusal.RuleExists place)) edit version (of_count 3 _, tt)
of_refusal (refusal.NotYet at latest) edit version = of_fields (fields_of (refusal.NotYet at latest)) edit version (of_count 3 _, (of_count 3 _, tt))
of_refusal refusal.ServeOnly edit version = of_fields (fields_of refusal.ServeOnly) edit version tt
of_refusal (refusal.WrongPage after at) edit version = of_fields (fields_of (refusal.WrongPage after at)) edit version (of_place after, (of_count 3 _, tt))
of_refusal (refusal.BadSpan since upto) edit version = of_fields (fields_of (refusal.BadSpan since upto)) edit version (of_count 3 _, (of_count 3 _, tt))
of_refusal refusal.Memory edit version = record { formed = (tt, (tt, tt)); shallow = omega arith }

-- ---- replies

of_feature : (f : FeatureReply) (version : ℕ) → IsFormedTo 4 (feature_value f version)
of_feature f version = of_object 3
    ((codes "attrs", object_of (map attribute f.attrs)) ∷ (codes "base", count f.base) ∷ (codes "ends", counts f.ends) ∷ (codes "flow", string (flow_text f.flow)) ∷ (codes "id", count f.id) ∷ (codes "kind", string f.kind) ∷ (codes "note", string f.note) ∷ (codes "ok", string (codes "feature")) ∷ (codes "path", string (path_text f.path)) ∷ (codes "points", list point f.points) ∷ (codes "version", count version) ∷ [])
    (of_object 2 (map attribute f.attrs) (of_attributes 2 f.attrs), (of_count 3 _, (of_counts 2 _, (of_text 3 _, (of_count 3 _, (of_text 3 _, (of_text 3 _, (of_text 3 _, (of_text 3 _, (of_list 2 point of_point f.points, (of_count 3 _, tt)))))))))))

of_result : (r : ResultReply) (version : ℕ) → IsFormedTo 4 (result_value r version)
of_result r version = of_object 3
    ((codes "containers", counts r.containers) ∷ (codes "content", counts r.content) ∷ (codes "features", list part r.features) ∷ (codes "functions", list total r.functions) ∷ (codes "ok", string (trace_text r.kind)) ∷ (codes "structures", counts r.structures) ∷ (codes "version", count version) ∷ [])
    (of_counts 2 _, (of_counts 2 _, (of_list 2 part of_part r.features, (of_list 2 total of_total r.functions, (of_text 3 _, (of_counts 2 _, (of_count 3 _, tt)))))))

pub of_reply : (r : Reply) → IsFormedTo 4 (reply_value r)
of_reply (reply.Edited areas id word version) = of_object 3
    ((codes "areas", counts areas) ∷ (codes "id", count id) ∷ (codes "ok", string (edit_text word)) ∷ (codes "version", count version) ∷ [])
    (of_counts 2 _, (of_count 3 _, (of_text 3 _, (of_count 3 _, tt))))
of_reply (reply.Batch areas ids version) = of_object 3
    ((codes "areas", counts areas) ∷ (codes "ids", counts ids) ∷ (codes "ok", string (codes "batch")) ∷ (codes "version", count version) ∷ [])
    (of_counts 2 _, (of_counts 2 _, (of_text 3 _, (of_count 3 _, tt))))
of_reply (reply.Ruled areas rules version) = of_object 3
    ((codes "areas", counts areas) ∷ (codes "ok", string (codes "rule")) ∷ (codes "rules", count rules) ∷ (codes "version", count version) ∷ [])
    (of_counts 2 _, (of_text 3 _, (of_count 3 _, (of_count 3 _, tt))))
of_reply (reply.Validated cleared errors version) = of_object 3
    ((codes "cleared", count cleared) ∷ (codes "errors", count errors) ∷ (codes "ok", string (codes "validate")) ∷ (codes "version", count version) ∷ [])
    (of_count 3 _, (of_count 3 _, (of_text 3 _, (of_count 3 _, tt))))
of_reply (reply.Updated row version) = of_object 3
    ((codes "members", count (stored_members row)) ∷ (codes "ok", string (codes "update")) ∷ (codes "status", string (stored_status row)) ∷ (codes "version", count version) ∷ [])
    (of_count 3 _, (of_text 3 _, (of_text 3 _, (of_count 3 _, tt))))
of_reply (reply.Version version) = of_object 3
    ((codes "ok", string (codes "version")) ∷ (codes "version", count version) ∷ [])
    (of_text 3 _, (of_count 3 _, tt))
of_reply (reply.Feature feature version) = of_feature feature version
of_reply (reply.Dirty areas version) = of_object 3
    ((codes "areas", list area areas) ∷ (codes "ok", string (codes "dirty")) ∷ (codes "version", count version) ∷ [])
    (of_list 2 area of_area areas, (of_text 3 _, (of_count 3 _, tt)))
of_reply (reply.Errors errors version) = of_object 3
    ((codes "errors", list placed_error errors) ∷ (codes "ok", string (codes "errors")) ∷ (codes "version", count version) ∷ [])
    (of_list 2 placed_error of_error errors, (of_text 3 _, (of_count 3 _, tt)))
of_reply (reply.Subnet controllers members status subnet tier updated version) = of_object 3
    ((codes "controllers", list port controllers) ∷ (codes "members", counts members) ∷ (codes "ok", string (codes "subnet")) ∷ (codes "status", string (status_text status)) ∷ (codes "subnet", string subnet) ∷ (codes "tier", string tier) ∷ (codes "updated", count updated) ∷ (codes "version", count version) ∷ [])
    (of_list 2 port of_port controllers, (of_counts 2 _, (of_text 3 _, (of_text 3 _, (of_text 3 _, (of_text 3 _, (of_count 3 _, (of_count 3 _, tt))))))))
of_reply (reply.Traced traced version) = of_result traced version
of_reply (reply.Controllers controllers version) = of_object 3
    ((codes "controllers", list controller controllers) ∷ (codes "ok", string (codes "controllers")) ∷ (codes "version", count version) ∷ [])
    (of_list 2 controller of_controller controllers, (of_text 3 _, (of_count 3 _, tt)))
of_reply (reply.Loops segments version) = of_object 3
    ((codes "ok", string (codes "loops")) ∷ (codes "segments", list segment segments) ∷ (codes "version", count version) ∷ [])
    (of_text 3 _, (of_list 2 segment of_segment segments, (of_count 3 _, tt)))
of_reply (reply.Isolation borders features version) = of_object 3
    ((codes "borders", list port borders) ∷ (codes "features", list part features) ∷ (codes "ok", string (codes "isolation")) ∷ (codes "version", count version) ∷ [])
    (of_list 2 port of_port borders, (of_list 2 part of_part features, (of_text 3 _, (of_count 3 _, tt))))
of_reply (reply.Path walk_cost labels nodes version) = of_object 3
    ((codes "cost", cost walk_cost) ∷ (codes "labels", list label labels) ∷ (codes "nodes", list port nodes) ∷ (codes "ok", string (codes "path")) ∷ (codes "version", count version) ∷ [])
    (of_cost walk_cost, (of_list 2 label of_label labels, (of_list 2 port of_port nodes, (of_text 3 _, (of_count 3 _, tt)))))
of_reply (reply.Check valid version) = of_object 3
    ((codes "ok", string (codes "check")) ∷ (codes "valid", boolean valid) ∷ (codes "version", count version) ∷ [])
    (of_text 3 _, (of_truth 3 valid, (of_count 3 _, tt)))
of_reply (reply.Diagram edges kept pieces version) = of_object 3
    ((codes "edges", list edge edges) ∷ (codes "kept", list port kept) ∷ (codes "ok", string (codes "diagram")) ∷ (codes "pieces", list piece pieces) ∷ (codes "version", count version) ∷ [])
    (of_list 2 edge of_edge edges, (of_list 2 port of_port kept, (of_text 3 _, (of_list 2 piece of_piece pieces, (of_count 3 _, tt)))))
of_reply (reply.Refused refusal edit version) = of_refusal refusal edit version

-- the reply to a query at a past version has one level more
pub of_past : (past : Reply) (version : ℕ) → IsFormedTo 5 (past_value past version)
of_past past version = of_object 4
    ((codes "ok", string (codes "past")) ∷ (codes "past", reply_value past) ∷ (codes "version", count version) ∷ [])
    (of_text 4 _, (of_reply past, (of_count 4 _, tt)))
