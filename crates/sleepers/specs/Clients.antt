-- Calls in progress by their clients. This project's own.
use Rattle.std.specs.Prelude.{◌≡◌, Bool, false, not, ◌&&◌, nat_eq, ◌<◌, List, [], ◌∷◌, filter, find}
use Rattle.std.specs.List.{list_any}
use Rattle.std.specs.declared.option.Option.{Option}
use Rattle.pcm_base.specs.declared.ids.ClientId.{ClientId}
use Rattle.pcm_base.specs.declared.sleeper.Sleeper.{Sleeper}

-- it is the client's call
abbrev pub is_of : ClientId → Sleeper → Bool
is_of c x = nat_eq x.client.0 c.0

-- the client has a call in progress here, and it is asleep
abbrev pub has_client : ClientId → List Sleeper → Bool
has_client c xs = list_any (is_of c) xs

abbrev pub is_asleep_of : ClientId → List Sleeper → Bool
is_asleep_of c xs = list_any (λ x. is_of c x && x.asleep) xs

-- the client's call, and those of the others in order
abbrev pub sleeper_of : ClientId → List Sleeper → Option Sleeper
sleeper_of c xs = find (is_of c) xs

abbrev pub others_than : ClientId → List Sleeper → List Sleeper
others_than c xs = filter (λ x. not (is_of c x)) xs

-- clients are numbered from 0 to 15, and none has two calls
abbrev pub AreApart : List Sleeper → Type 0
AreApart [] = Unit {0}
AreApart (x ∷ xs) = (x.client.0 < 16) × (has_client x.client xs ≡ false) × AreApart xs
