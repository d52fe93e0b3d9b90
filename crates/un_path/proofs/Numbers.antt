-- How numbers compare.
use Rattle.std.proofs.Common.{◌≡◌, ℕ, ◌<◌, nat_cmp, Less, Equal, rules}

pub less_by : (a b : ℕ) → a < b → nat_cmp a b ≡ Less
less_by a b h = search rules

pub equal_by : (a : ℕ) → nat_cmp a a ≡ Equal
equal_by a = search rules
