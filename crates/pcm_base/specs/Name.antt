-- Names of files on the shelf. This project's own.
use Rattle.std.specs.Prelude.{ℕ, Bool, not, ◌&&◌, ◌||◌, nat_le, List, length, get_or, if◌then◌else◌, ◌==◌}
use Rattle.std.specs.List.{list_all}
use Rattle.std.specs.declared.option.Option.{Option}
use Rattle.std.specs.declared.option.Option.TheVariants.{Some, None}
use Rattle.pcm_base.specs.model.Words.{◌then◌}

-- a to z, 0 to 9, '.', '_', '-'
abbrev pub is_name_byte_of : ℕ → Bool
is_name_byte_of b = (nat_le 97 b && nat_le b 122) || ((nat_le 48 b && nat_le b 57) || (b == 46 || (b == 95 || b == 45)))

-- 1 to 64 of these bytes, the first not '.'
abbrev pub is_name : List ℕ → Bool
is_name bytes = nat_le 1 (length bytes) && (nat_le (length bytes) 64 && (not (get_or bytes 0 0 == 46) && list_all is_name_byte_of bytes))

-- the value, where the test holds
abbrev pub option_if : {A : Type 0} → Bool → A → Option A
option_if b x = if b then Some x else None
