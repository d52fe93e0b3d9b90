-- Each reply's texts are UTF-8 where its names and its note are.
use Rattle.std.proofs.Common.{ℕ, ℤ, List, ◌∷◌, ◌++◌, map, codes, Option, Some, None, Bool, true, false, IfSome, All, IsUtf8, refl}
use Rattle.std.proofs.lemmas.Str.{IsUtf8-nil}
use Rattle.serde_json.specs.Data.{string}
use Rattle.un_geom.specs.declared.point.Point.{Point}
use Rattle.un_schema.specs.declared.place.Place.{Place}
use Rattle.un_schema.specs.declared.place.Place.TheVariants as place
use Rattle.un_schema.specs.Places.{place_text}
use Rattle.un_defs.specs.declared.row.Flow.{Flow}
use Rattle.un_defs.specs.declared.row.Flow.TheVariants as flow
use Rattle.un_defs.specs.declared.star.ErrorKind.{ErrorKind}
use Rattle.un_defs.specs.declared.star.ErrorKind.TheVariants as kind
use Rattle.un_defs.specs.declared.assoc.Controller.{Controller}
use Rattle.un_defs.specs.declared.refusal.Limit.{Limit}
use Rattle.un_defs.specs.declared.refusal.Limit.TheVariants as limit
use Rattle.un_defs.specs.declared.refusal.Refusal.{Refusal}
use Rattle.un_defs.specs.declared.refusal.Refusal.TheVariants as refusal
use Rattle.un_ask.specs.Words.{edit_text, trace_text}
use Rattle.un_ask.specs.declared.word.EditWord.{EditWord}
use Rattle.un_ask.specs.declared.word.EditWord.TheVariants as word
use Rattle.un_ask.specs.declared.trace.TraceKind.{TraceKind}
use Rattle.un_ask.specs.declared.trace.TraceKind.TheVariants as trace
use Rattle.un_ask.specs.declared.stored.Status.{Status}
use Rattle.un_ask.specs.declared.stored.Status.TheVariants as status
use Rattle.un_ask.specs.declared.stored.StoredSubnet.{StoredSubnet}
use Rattle.un_ask.specs.declared.reply.FeatureReply.{FeatureReply}
use Rattle.un_ask.specs.declared.reply.ResultReply.{ResultReply}
use Rattle.un_ask.specs.declared.reply.Reply.{Reply}
use Rattle.un_ask.specs.declared.reply.Reply.TheVariants as reply
use Rattle.un_values.specs.Values.{count, list, attribute}
use Rattle.un_values.specs.ReadBack.{EachText}
use Rattle.un_values.proofs.Utf8.{ascii, of_list, of_each, of_counts, of_object, AreUtf8, AreUtf8-append, of_attributes, compact_text_utf8}
use Rattle.un_replies.specs.Refusals.{RefusalFields, fields_of, limit_text, edit_member, version_member, has_version, fields_value, placed, refusal_value}
use Rattle.un_replies.specs.Replies.{error_text, flow_text, stored_status, status_text, path_text, point, port, area, placed_error, part, segment, controller, total, cost, label, piece, edge, feature_value, result_value, reply_value, past_value}
use Rattle.un_replies.specs.ReadBack.{HasUtf8Name, FeatureHasUtf8, HasUtf8Texts, Utf8Law, PastUtf8Law}

-- ---- words

edit_utf8 : (x : EditWord) → IsUtf8 (edit_text x)
edit_utf8 word.Insert = ascii refl
edit_utf8 word.Reshape = ascii refl
edit_utf8 word.Attrs = ascii refl
edit_utf8 word.Kind = ascii refl
edit_utf8 word.Path = ascii refl
edit_utf8 word.Flow = ascii refl
edit_utf8 word.Ends = ascii refl
edit_utf8 word.Note = ascii refl
edit_utf8 word.Delete = ascii refl
edit_utf8 word.Connect = ascii refl
edit_utf8 word.Contain = ascii refl
edit_utf8 word.Attach = ascii refl
edit_utf8 word.Detach = ascii refl
edit_utf8 word.Controller = ascii refl
edit_utf8 word.Uncontroller = ascii refl

trace_utf8 : (x : TraceKind) → IsUtf8 (trace_text x)
trace_utf8 trace.Connected = ascii refl
trace_utf8 trace.Subnetwork = ascii refl
trace_utf8 trace.Controllers = ascii refl
trace_utf8 trace.Upstream = ascii refl
trace_utf8 trace.Downstream = ascii refl
trace_utf8 trace.Loops = ascii refl
trace_utf8 trace.Isolation = ascii refl

flow_utf8 : (x : Flow) → IsUtf8 (flow_text x)
flow_utf8 flow.With = ascii refl
flow_utf8 flow.Against = ascii refl
flow_utf8 flow.Both = ascii refl

status_utf8 : (x : Status) → IsUtf8 (status_text x)
status_utf8 status.Clean = ascii refl
status_utf8 status.Dirty = ascii refl

kind_utf8 : (x : ErrorKind) → IsUtf8 (error_text x)
kind_utf8 kind.Stacked = ascii refl
kind_utf8 kind.MissingJunction = ascii refl
kind_utf8 kind.NoRule = ascii refl
kind_utf8 kind.BadTerminal = ascii refl
kind_utf8 kind.MidspanTerminal = ascii refl
kind_utf8 kind.AssociationRule = ascii refl

limit_utf8 : (x : Limit) → IsUtf8 (limit_text x)
limit_utf8 limit.Numbers = ascii refl
limit_utf8 limit.Features = ascii refl
limit_utf8 limit.Areas = ascii refl
limit_utf8 limit.Associations = ascii refl
limit_utf8 limit.Contents = ascii refl
limit_utf8 limit.Controllers = ascii refl
limit_utf8 limit.Subnetworks = ascii refl
limit_utf8 limit.Rules = ascii refl

place_utf8 : (x : Place) → IsUtf8 (place_text x)
place_utf8 place.Whole = ascii refl
place_utf8 place.Line = ascii refl
place_utf8 place.Schema = ascii refl
place_utf8 place.Attributes = ascii refl
place_utf8 place.Categories = ascii refl
place_utf8 place.Configs = ascii refl
place_utf8 place.Kinds = ascii refl
place_utf8 place.Rules = ascii refl
place_utf8 place.Tiers = ascii refl
place_utf8 place.Do = ascii refl
place_utf8 place.Ask = ascii refl
place_utf8 place.Extra = ascii refl
place_utf8 place.Kind = ascii refl
place_utf8 place.Points = ascii refl
place_utf8 place.Attrs = ascii refl
place_utf8 place.Flow = ascii refl
place_utf8 place.Ends = ascii refl
place_utf8 place.Note = ascii refl
place_utf8 place.Id = ascii refl
place_utf8 place.Base = ascii refl
place_utf8 place.Path = ascii refl
place_utf8 place.From = ascii refl
place_utf8 place.To = ascii refl
place_utf8 place.Container = ascii refl
place_utf8 place.Content = ascii refl
place_utf8 place.Structure = ascii refl
place_utf8 place.Assoc = ascii refl
place_utf8 place.Terminal = ascii refl
place_utf8 place.Tier = ascii refl
place_utf8 place.Subnet = ascii refl
place_utf8 place.Rule = ascii refl
place_utf8 place.Edits = ascii refl
place_utf8 place.Extent = ascii refl
place_utf8 place.Seen = ascii refl
place_utf8 place.Type = ascii refl
place_utf8 place.Starts = ascii refl
place_utf8 place.Isolators = ascii refl
place_utf8 place.Barriers = ascii refl
place_utf8 place.Stops = ascii refl
place_utf8 place.Consistent = ascii refl
place_utf8 place.Include = ascii refl
place_utf8 place.Functions = ascii refl
place_utf8 place.Weight = ascii refl
place_utf8 place.Certificate = ascii refl
place_utf8 place.Nodes = ascii refl
place_utf8 place.Labels = ascii refl
place_utf8 place.Keep = ascii refl
place_utf8 place.At = ascii refl
place_utf8 place.Query = ascii refl
place_utf8 place.Since = ascii refl
place_utf8 place.Upto = ascii refl
place_utf8 place.After = ascii refl
place_utf8 place.Most = ascii refl
place_utf8 place.Changes = ascii refl
place_utf8 place.More = ascii refl
place_utf8 place.Ok = ascii refl
place_utf8 place.Version = ascii refl

stored_status_utf8 : (row : Option StoredSubnet) → IsUtf8 (stored_status row)
stored_status_utf8 None = ascii refl
stored_status_utf8 (Some row) = ascii refl

path_utf8 : (path : Option (List ℕ)) → IfSome path IsUtf8 → IsUtf8 (path_text path)
path_utf8 None h = IsUtf8-nil
path_utf8 (Some name) h = h

-- ---- parts

of_total : (t : Option ℤ) → EachText IsUtf8 (total t)
of_total None = tt
of_total (Some z) = tt

of_cost : (c : Option ℕ) → EachText IsUtf8 (cost c)
of_cost None = tt
of_cost (Some n) = tt

of_controllers : (cs : List Controller) → All (λ c. IsUtf8 c.subnet) cs → EachText IsUtf8 (list controller cs)
of_controllers cs h = of_each (λ c. IsUtf8 c.subnet) controller (λ c text. (tt, (tt, (text, tt)))) cs h

-- ---- refusals

of_edit : (edit : Option ℕ) → AreUtf8 (edit_member edit)
of_edit None = tt
of_edit (Some edit) = ((ascii refl, tt), tt)

of_version : (refusal_fields : Bool) (version : ℕ) → AreUtf8 (version_member refusal_fields version)
of_version true version = ((ascii refl, tt), tt)
of_version false version = tt

of_fields : (t : RefusalFields) (edit : Option ℕ) (version : ℕ) → IsUtf8 t.name → AreUtf8 t.carried → EachText IsUtf8 (fields_value t edit version)
of_fields t edit version name h =
    of_object ((codes "error", count t.error) ∷ (codes "name", string t.name) ∷ t.carried ++ (edit_member edit ++ version_member (has_version t.error) version))
    ((ascii refl, tt), ((ascii refl, name), AreUtf8-append t.carried _ h (AreUtf8-append (edit_member edit) _ (of_edit edit) (of_version (has_version t.error) version))))

of_place : (place : Option Point) → EachText IsUtf8 (placed place)
of_place None = tt
of_place (Some p) = (tt, (tt, (tt, tt)))

of_refusal : (r : Refusal) (edit : Option ℕ) (version : ℕ) → HasUtf8Name r → EachText IsUtf8 (refusal_value r edit version)
of_refusal refusal.NotJson edit version h = of_fields (fields_of refusal.NotJson) edit version (ascii refl) tt
of_refusal (refusal.BadRequest place) edit version h = of_fields (fields_of (refusal.BadRequest place)) edit version (ascii refl) ((ascii refl, place_utf8 place), tt)
of_refusal refusal.LineTooLong edit version h = of_fields (fields_of refusal.LineTooLong) edit version (ascii refl) tt
of_refusal (refusal.BadSchema place) edit version h = of_fields (fields_of (refusal.BadSchema place)) edit version (ascii refl) ((ascii refl, place_utf8 place), tt)
of_refusal (refusal.NoSuchFeature id) edit version h = of_fields (fields_of (refusal.NoSuchFeature id)) edit version (ascii refl) ((ascii refl, tt), tt)
of_refusal (refusal.Moved at) edit version h = of_fields (fields_of (refusal.Moved at)) edit version (ascii refl) ((ascii refl, tt), tt)
of_refusal (refusal.BadShape place) edit version h = of_fields (fields_of (refusal.BadShape place)) edit version (ascii refl) ((ascii refl, tt), tt)
of_refusal (refusal.NoSuchKind kind) edit version h = of_fields (fields_of (refusal.NoSuchKind kind)) edit version (ascii refl) ((ascii refl, h), tt)
of_refusal (refusal.BadAttribute attribute) edit version h = of_fields (fields_of (refusal.BadAttribute attribute)) edit version (ascii refl) ((ascii refl, h), tt)
of_refusal (refusal.BadTerminal feature) edit version h = of_fields (fields_of (refusal.BadTerminal feature)) edit version (ascii refl) ((ascii refl, tt), tt)
of_refusal refusal.BadPath edit version h = of_fields (fields_of refusal.BadPath) edit version (ascii refl) tt
of_refusal (refusal.HasAssociations least) edit version h = of_fields (fields_of (refusal.HasAssociations least)) edit version (ascii refl) ((ascii refl, tt), tt)
of_refusal refusal.HasControllers edit version h = of_fields (fields_of refusal.HasControllers) edit version (ascii refl) tt
of_refusal refusal.NoSuchAssociation edit version h = of_fields (fields_of refusal.NoSuchAssociation) edit version (ascii refl) tt
of_refusal refusal.WrongKind edit version h = of_fields (fields_of refusal.WrongKind) edit version (ascii refl) tt
of_refusal (refusal.AlreadyContained by) edit version h = of_fields (fields_of (refusal.AlreadyContained by)) edit version (ascii refl) ((ascii refl, tt), tt)
of_refusal refusal.ContainsItself edit version h = of_fields (fields_of refusal.ContainsItself) edit version (ascii refl) tt
of_refusal refusal.NoSuchTier edit version h = of_fields (fields_of refusal.NoSuchTier) edit version (ascii refl) tt
of_refusal refusal.NotController edit version h = of_fields (fields_of refusal.NotController) edit version (ascii refl) tt
of_refusal refusal.ControllerExists edit version h = of_fields (fields_of refusal.ControllerExists) edit version (ascii refl) tt
of_refusal refusal.NoSuchController edit version h = of_fields (fields_of refusal.NoSuchController) edit version (ascii refl) tt
of_refusal refusal.NoSuchSubnetwork edit version h = of_fields (fields_of refusal.NoSuchSubnetwork) edit version (ascii refl) tt
of_refusal (refusal.Conflict subnet feature port) edit version h = of_fields (fields_of (refusal.Conflict subnet feature port)) edit version (ascii refl) ((ascii refl, h), ((ascii refl, tt), ((ascii refl, tt), tt)))
of_refusal (refusal.Disjoint feature port) edit version h = of_fields (fields_of (refusal.Disjoint feature port)) edit version (ascii refl) ((ascii refl, tt), ((ascii refl, tt), tt))
of_refusal (refusal.Full what) edit version h = of_fields (fields_of (refusal.Full what)) edit version (ascii refl) ((ascii refl, limit_utf8 what), tt)
of_refusal (refusal.Ahead seen latest) edit version h = of_fields (fields_of (refusal.Ahead seen latest)) edit version (ascii refl) ((ascii refl, tt), ((ascii refl, tt), tt))
of_refusal (refusal.NoStart feature port) edit version h = of_fields (fields_of (refusal.NoStart feature port)) edit version (ascii refl) ((ascii refl, tt), ((ascii refl, tt), tt))
of_refusal (refusal.StartIsValve feature terminal) edit version h = of_fields (fields_of (refusal.StartIsValve feature terminal)) edit version (ascii refl) ((ascii refl, tt), ((ascii refl, tt), tt))
of_refusal (refusal.BadCondition place) edit version h = of_fields (fields_of (refusal.BadCondition place)) edit version (ascii refl) ((ascii refl, place_utf8 place), tt)
of_refusal (refusal.DirtyGround area feature port) edit version h = of_fields (fields_of (refusal.DirtyGround area feature port)) edit version (ascii refl) ((ascii refl, tt), ((ascii refl, tt), ((ascii refl, tt), tt)))
of_refusal (refusal.NotIsolable feature terminal) edit version h = of_fields (fields_of (refusal.NotIsolable feature terminal)) edit version (ascii refl) ((ascii refl, tt), ((ascii refl, tt), tt))
of_refusal (refusal.BadRuleTerminal place) edit version h = of_fields (fields_of (refusal.BadRuleTerminal place)) edit version (ascii refl) ((ascii refl, tt), tt)
of_refusal (refusal.RuleExists place) edit version h = of_fields (fields_of (refusal.RuleExists place)) edit version (ascii refl) ((ascii refl, tt), tt)
of_refusal (refusal.NotYet at latest) edit version h = of_fields (fields_of (refusal.NotYet at latest)) edit version (ascii refl) ((ascii refl, tt), ((ascii refl, tt), tt))
of_refusal refusal.ServeOnly edit version h = of_fields (fields_of refusal.ServeOnly) edit version (ascii refl) tt
of_refusal (refusal.WrongPage after at) edit version h = of_fields (fields_of (refusal.WrongPage after at)) edit version (ascii refl) ((ascii refl, of_place after), ((ascii refl, tt), tt))
of_refusal (refusal.BadSpan since upto) edit version h = of_fields (fields_of (refusal.BadSpan since upto)) edit version (ascii refl) ((ascii refl, tt), ((ascii refl, tt), tt))
of_refusal refusal.Memory edit version h = (ascii refl, (tt, tt))

-- ---- replies

of_feature : (f : FeatureReply) (version : ℕ) → FeatureHasUtf8 f → EachText IsUtf8 (feature_value f version)
of_feature f version h =
    (ascii refl, (of_object (map attribute f.attrs) (of_attributes f.attrs h.attrs), (ascii refl, (tt, (ascii refl, (of_counts f.ends, (ascii refl, (flow_utf8 f.flow, (ascii refl, (tt, (ascii refl, (h.kind, (ascii refl, (h.note, (ascii refl, (ascii refl, (ascii refl, (path_utf8 f.path h.path, (ascii refl, (of_list point (λ p. (tt, (tt, (tt, tt)))) f.points, (ascii refl, (tt, tt))))))))))))))))))))))

of_result : (r : ResultReply) (version : ℕ) → EachText IsUtf8 (result_value r version)
of_result r version =
    (ascii refl, (of_counts r.containers, (ascii refl, (of_counts r.content, (ascii refl, (of_list part (λ p. (tt, (of_counts p.numbers, tt))) r.features, (ascii refl, (of_list total of_total r.functions, (ascii refl, (trace_utf8 r.kind, (ascii refl, (of_counts r.structures, (ascii refl, (tt, tt))))))))))))))

of_reply : (r : Reply) → HasUtf8Texts r → EachText IsUtf8 (reply_value r)
of_reply (reply.Edited areas id word version) h =
    (ascii refl, (of_counts areas, (ascii refl, (tt, (ascii refl, (edit_utf8 word, (ascii refl, (tt, tt))))))))
of_reply (reply.Batch areas ids version) h =
    (ascii refl, (of_counts areas, (ascii refl, (of_counts ids, (ascii refl, (ascii refl, (ascii refl, (tt, tt))))))))
of_reply (reply.Ruled areas rules version) h =
    (ascii refl, (of_counts areas, (ascii refl, (ascii refl, (ascii refl, (tt, (ascii refl, (tt, tt))))))))
of_reply (reply.Validated cleared errors version) h =
    (ascii refl, (tt, (ascii refl, (tt, (ascii refl, (ascii refl, (ascii refl, (tt, tt))))))))
of_reply (reply.Updated row version) h =
    (ascii refl, (tt, (ascii refl, (ascii refl, (ascii refl, (stored_status_utf8 row, (ascii refl, (tt, tt))))))))
of_reply (reply.Version version) h =
    (ascii refl, (ascii refl, (ascii refl, (tt, tt))))
of_reply (reply.Feature feature version) h = of_feature feature version h
of_reply (reply.Dirty areas version) h =
    (ascii refl, (of_list area (λ a. (tt, (tt, (tt, (tt, (tt, tt)))))) areas, (ascii refl, (ascii refl, (ascii refl, (tt, tt))))))
of_reply (reply.Errors errors version) h =
    (ascii refl, (of_list placed_error (λ e. (tt, (tt, (tt, (kind_utf8 e.1.kind, (tt, (tt, (tt, tt)))))))) errors, (ascii refl, (ascii refl, (ascii refl, (tt, tt))))))
of_reply (reply.Subnet controllers members status subnet tier updated version) h =
    (ascii refl, (of_list port (λ p. (tt, (tt, tt))) controllers, (ascii refl, (of_counts members, (ascii refl, (ascii refl, (ascii refl, (status_utf8 status, (ascii refl, (h.0, (ascii refl, (h.1, (ascii refl, (tt, (ascii refl, (tt, tt))))))))))))))))
of_reply (reply.Traced traced version) h = of_result traced version
of_reply (reply.Controllers controllers version) h =
    (ascii refl, (of_controllers controllers h, (ascii refl, (ascii refl, (ascii refl, (tt, tt))))))
of_reply (reply.Loops segments version) h =
    (ascii refl, (ascii refl, (ascii refl, (of_list segment (λ s. (tt, (tt, tt))) segments, (ascii refl, (tt, tt))))))
of_reply (reply.Isolation borders features version) h =
    (ascii refl, (of_list port (λ p. (tt, (tt, tt))) borders, (ascii refl, (of_list part (λ p. (tt, (of_counts p.numbers, tt))) features, (ascii refl, (ascii refl, (ascii refl, (tt, tt))))))))
of_reply (reply.Path walk_cost labels nodes version) h =
    (ascii refl, (of_cost walk_cost, (ascii refl, (of_list label (λ l. (tt, (tt, (tt, tt)))) labels, (ascii refl, (of_list port (λ p. (tt, (tt, tt))) nodes, (ascii refl, (ascii refl, (ascii refl, (tt, tt))))))))))
of_reply (reply.Check valid version) h =
    (ascii refl, (ascii refl, (ascii refl, (tt, (ascii refl, (tt, tt))))))
of_reply (reply.Diagram edges kept pieces version) h =
    (ascii refl, (of_list edge (λ e. (tt, (tt, (tt, (tt, tt))))) edges, (ascii refl, (of_list port (λ p. (tt, (tt, tt))) kept, (ascii refl, (ascii refl, (ascii refl, (of_list piece (λ p. (tt, (tt, (tt, (tt, tt))))) pieces, (ascii refl, (tt, tt))))))))))
of_reply (reply.Refused refusal edit version) h = of_refusal refusal edit version h

pub replies_are_utf8 : Utf8Law
replies_are_utf8 r h = compact_text_utf8 (reply_value r) (of_reply r h)

pub pasts_are_utf8 : PastUtf8Law
pasts_are_utf8 past version h = compact_text_utf8 (past_value past version) (ascii refl, (ascii refl, (ascii refl, (of_reply past h, (ascii refl, (tt, tt))))))
