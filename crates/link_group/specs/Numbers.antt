-- Numbers of the members of a group.
use Rattle.std.specs.Prelude.{ℕ, ◌+◌, nat_eq, List, [], ◌∷◌, if◌then◌else◌}
use Rattle.pcm_base.specs.declared.ids.SubId.{SubId}

-- the place of a number
abbrev pub first_of : SubId → List SubId → ℕ
first_of k [] = 0
first_of k (j ∷ js) = if nat_eq j.0 k.0 then 0 else first_of k js + 1
