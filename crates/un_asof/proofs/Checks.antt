-- Small pasts: what is kept, what goes, and what changes nothing.
use Rattle.std.specs.Prelude.{◌≡◌, ℕ, List, [], ◌∷◌, refl}
use Rattle.un_asof.specs.Pasts.{keeping}

-- the state of a version is here the number 100 more
abbrev opened : List (ℕ × ℕ)
opened = (0, 100) ∷ []

abbrev three : List (ℕ × ℕ)
three = (0, 100) ∷ (4, 104) ∷ (9, 109) ∷ []

-- 16 pairs, of versions 0, 2, 4 and so on
abbrev full : List (ℕ × ℕ)
full = (0, 100) ∷ (2, 102) ∷ (4, 104) ∷ (6, 106) ∷ (8, 108) ∷ (10, 110) ∷ (12, 112) ∷ (14, 114) ∷ (16, 116) ∷ (18, 118) ∷ (20, 120) ∷ (22, 122) ∷ (24, 124) ∷ (26, 126) ∷ (28, 128) ∷ (30, 130) ∷ []

kept_after_the_opening : keeping (4, 104) opened ≡ (0, 100) ∷ (4, 104) ∷ []
kept_after_the_opening = refl

kept_between : keeping (7, 107) three ≡ (0, 100) ∷ (4, 104) ∷ (7, 107) ∷ (9, 109) ∷ []
kept_between = refl

-- a version that is kept stays with its state
kept_already : keeping (4, 999) three ≡ three
kept_already = refl

opening_stays : keeping (0, 999) three ≡ three
opening_stays = refl

-- of 16 the least version other than 0 goes, and the opening state stays
oldest_goes : keeping (31, 131) full
    ≡ (0, 100) ∷ (4, 104) ∷ (6, 106) ∷ (8, 108) ∷ (10, 110) ∷ (12, 112) ∷ (14, 114) ∷ (16, 116) ∷ (18, 118) ∷ (20, 120) ∷ (22, 122) ∷ (24, 124) ∷ (26, 126) ∷ (28, 128) ∷ (30, 130) ∷ (31, 131) ∷ []
oldest_goes = refl

-- also where the new version is less than that one
less_comes_in : keeping (1, 101) full
    ≡ (0, 100) ∷ (1, 101) ∷ (4, 104) ∷ (6, 106) ∷ (8, 108) ∷ (10, 110) ∷ (12, 112) ∷ (14, 114) ∷ (16, 116) ∷ (18, 118) ∷ (20, 120) ∷ (22, 122) ∷ (24, 124) ∷ (26, 126) ∷ (28, 128) ∷ (30, 130) ∷ []
less_comes_in = refl

-- of 16, a version that is kept takes no place from another one
full_stays : keeping (30, 999) full ≡ full
full_stays = refl
