-- Names in a path.
use Rattle.std.proofs.Common.{◌≡◌, ◌<◌, ◌≤◌, ◌+◌, ℕ, true, List, [], ◌∷◌, ◌++◌, length, drop, codes, ◌∙◌, ap, arith, length-append}
use Rattle.std.specs.Prelude.{slice_range}
use Rattle.std.specs.List.{list_all}
use Rattle.std.specs.Str.{IsAscii, IsUtf8}
use Rattle.std.proofs.lemmas.Bool.Decides.{nat_tests}
use Rattle.std.proofs.lemmas.Grind.{common_steps}
use Rattle.std.proofs.lemmas.Str.{IsUtf8-from_ascii}
use Rattle.std.proofs.lemmas.Str.Ascii.{IsAscii-nil, IsAscii-cons}
use Rattle.std.proofs.Math.Seq.{drop-append-add}
use Rattle.un_io.proofs.Chains.{take_rest}
use Rattle.un_http.specs.Routes.{is_name, is_name_byte, IsRoute}
use Rattle.un_http.specs.declared.route.Route.TheVariants.{Subnetwork}

name_low : (b : ℕ) → is_name_byte b ≡ true → b < 128
name_low b h = grind (arith, nat_tests)

name_ascii : (text : List ℕ) → list_all is_name_byte text ≡ true → IsAscii text
name_ascii [] all = IsAscii-nil
name_ascii (b ∷ text) all = IsAscii-cons b text (name_low b (grind (arith, nat_tests))) (name_ascii text (grind (arith, nat_tests)))

-- a name is text
pub names_are_text : (text : List ℕ) → is_name text ≡ true → IsUtf8 text
names_are_text text h = IsUtf8-from_ascii text (name_ascii text (grind (arith, nat_tests)))

-- the two names in the path of a subnetwork
pub record AreNames (path : List ℕ) (tier subnet : ℕ × ℕ) : Type 0 where
  pub tier_within : (tier.0 ≤ tier.1) × (tier.1 ≤ length path)
  pub subnet_within : (subnet.0 ≤ subnet.1) × (subnet.1 ≤ length path)
  pub tier_name : is_name (slice_range path tier.0 tier.1) ≡ true
  pub subnet_name : is_name (slice_range path subnet.0 subnet.1) ≡ true

pub subnetwork_names : (path : List ℕ) (tier subnet : ℕ × ℕ) → IsRoute path (Subnetwork tier subnet) → AreNames path tier subnet
subnetwork_names path tier subnet h =
    let a = h.0 in
    let b = h.1 in
    let prefix = codes "/subnetworks/" in
    let names = a ++ 47 ∷ b in
    let size : length (prefix ++ names) ≡ 13 + (length a + (length b + 1)) =
    let one = length-append prefix names in
    let two = length-append a (47 ∷ b) in
    omega (arith, one, two) in
    let from : slice_range (prefix ++ names) 13 (13 + length a) ≡ a = grind (arith, common_steps) in
    let at : 14 + length a ≡ length prefix + (length a + 1) = omega arith in
    let to : slice_range (prefix ++ names) (14 + length a) (length (prefix ++ names)) ≡ b =
    take_rest (14 + length a) (prefix ++ names) ∙ ap (λ (n : ℕ). drop n (prefix ++ names)) at ∙ drop-append-add prefix names (length a + 1) ∙ drop-append-add a (47 ∷ b) 1 in
    rw (h.2.3, h.2.4, h.2.0) (record {
      tier_within = (omega arith, omega (arith, size));
      subnet_within = (omega (arith, size), omega arith);
      tier_name = rw from h.2.1;
      subnet_name = rw to h.2.2;
    })
