-- The commands and the queries are those of requests that leave out what they may.
use Rattle.std.specs.Prelude.{◌≡◌, codes, Ok}
use Rattle.std.proofs.Common.{refl}
use Rattle.std.specs.Str.{is_utf8, chars}
use Rattle.serde_json.proofs.OnLiterals.{serde_json_on_literals}
use Rattle.un_ask.specs.declared.request.Request.TheVariants as request
use Rattle.un_ask.specs.declared.request.Command.TheVariants.{Validate}
use Rattle.un_ask.specs.declared.trace.TraceKind.TheVariants.{Connected, Loops}
use Rattle.un_json.specs.Rows.{required_member, optional_member, required_member_when, optional_member_when, no_others, is_named}
use Rattle.un_json.specs.Table.{required_members, optional_members}
use Rattle.un_json.specs.Requests.{ask}
use Rattle.un_gen.specs.Generator.{joint_at, pipe_between, whole}
use Rattle.un_script.specs.Made.{trace_of}

joint_request : ask (codes "{\"do\":\"insert\",\"kind\":\"joint\",\"points\":[[1000,0,0]]}") ≡ Ok (request.Command (joint_at 1))
unfolding is_utf8 chars serde_json_on_literals required_member optional_member no_others is_named
joint_request = refl

pipe_request : ask (codes "{\"do\":\"insert\",\"kind\":\"pipe\",\"points\":[[1000,0,0],[1000,1000,0]]}") ≡ Ok (request.Command (pipe_between 1 21))
unfolding is_utf8 chars serde_json_on_literals required_member optional_member no_others is_named
pipe_request = refl

validate_request : ask (codes "{\"do\":\"validate\",\"extent\":[0,0,1000000000,1000000000]}") ≡ Ok (request.Command (Validate whole))
unfolding is_utf8 chars serde_json_on_literals required_member optional_member no_others is_named
validate_request = refl

connected_request : ask (codes "{\"ask\":\"trace\",\"type\":\"connected\",\"starts\":[[1,1]]}") ≡ Ok (request.Query (trace_of Connected))
unfolding is_utf8 chars serde_json_on_literals required_member optional_member required_member_when optional_member_when no_others is_named required_members optional_members trace_of
connected_request = refl

loops_request : ask (codes "{\"ask\":\"trace\",\"type\":\"loops\",\"starts\":[[1,1]]}") ≡ Ok (request.Query (trace_of Loops))
unfolding is_utf8 chars serde_json_on_literals required_member optional_member required_member_when optional_member_when no_others is_named required_members optional_members trace_of
loops_request = refl
