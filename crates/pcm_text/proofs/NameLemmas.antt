-- Names are ASCII, and so they are text.
use Rattle.std.proofs.Common.{◌≡◌, ℕ, ◌<◌, true, not, ◌&&◌, ◌==◌, nat_le, List, [], ◌∷◌, length, get_or, zero, suc, arith}
use Rattle.std.proofs.lemmas.Bool.{and_parts}
use Rattle.std.proofs.lemmas.Bool.Decides.{nat_tests}
use Rattle.std.proofs.lemmas.Str.{IsUtf8-from_ascii}
use Rattle.std.specs.List.{list_all}
use Rattle.std.specs.Str.{IsAscii, IsUtf8}
use Rattle.pcm_base.specs.Name.{is_name, is_name_byte_of}

name_byte-ascii : (b : ℕ) → is_name_byte_of b ≡ true → b < 128
name_byte-ascii b h = grind (arith, nat_tests)

name_bytes-ascii : (bytes : List ℕ) → list_all is_name_byte_of bytes ≡ true → IsAscii bytes
name_bytes-ascii [] h i = omega arith
name_bytes-ascii (b ∷ bytes) h zero = name_byte-ascii b (and_parts (is_name_byte_of b) (list_all is_name_byte_of bytes) h).0
name_bytes-ascii (b ∷ bytes) h (suc i) = name_bytes-ascii bytes (and_parts (is_name_byte_of b) (list_all is_name_byte_of bytes) h).1 i

pub name-utf8 : (bytes : List ℕ) → is_name bytes ≡ true → IsUtf8 bytes
name-utf8 bytes h =
    let all = list_all is_name_byte_of bytes in
    let first = not (get_or bytes 0 0 == 46) in
    let within = and_parts (nat_le 1 (length bytes)) (nat_le (length bytes) 64 && (first && all)) h in
    let begun = and_parts (nat_le (length bytes) 64) (first && all) within.1 in
    IsUtf8-from_ascii bytes (name_bytes-ascii bytes (and_parts first all begun.1).1)
