-- The script that `gen` runs. This project's own.
use Rattle.std.specs.Prelude.{ℕ, zero, suc, List, [], ◌∷◌, ◌++◌, take, ◌+◌, ◌*◌, ◌/◌, ◌%◌, codes, decimal, ◌==◌, if◌then◌else◌}
use Rattle.pcm_text.specs.Hex.{hex_text}

-- the number after x
abbrev pub next_number : ℕ → ℕ
next_number x = (x * 1103515245 + 12345) % 2147483648

-- two cards, opened, configured alike, linked and prepared
abbrev pub beginning : List ℕ
beginning =
    codes "long 1023\ncard s0 duplex p\ncard s1 duplex p\nopen c0 s0\nopen c1 s1\n"
    ++ codes "hw c0 s0 RW_INTERLEAVED U8 1 8000 4 4\nhw c1 s1 RW_INTERLEAVED U8 1 8000 4 4\nlink c0 s0 s1\nprepare c0 s0\n"

-- the bytes that round j may write: they go on seven further with each round
abbrev pub seven_bytes : ℕ → List ℕ
seven_bytes j = 7 * j % 256 ∷ (7 * j + 1) % 256 ∷ (7 * j + 2) % 256 ∷ (7 * j + 3) % 256 ∷ (7 * j + 4) % 256 ∷ (7 * j + 5) % 256 ∷ (7 * j + 6) % 256 ∷ []

abbrev pub write_line : List ℕ → List ℕ → List ℕ
write_line words bytes = words ++ hex_text bytes ++ codes "\n"

-- each card moves m frames and interrupts
abbrev pub moves : ℕ → List ℕ
moves m = codes "move s0 " ++ decimal m ++ codes "\nirq s0\nmove s1 " ++ decimal m ++ codes "\nirq s1\n"

-- each eighth round prepares both anew
abbrev pub last_line : ℕ → List ℕ
last_line j = if j % 8 == 7 then codes "prepare c0 s0\n" else codes "status c1 s1\n"

-- Round j with the number x: both substreams are written as many frames, and both cards move as many.
abbrev pub round : ℕ → ℕ → List ℕ
round j x =
    let bytes = take (1 + x / 65536 % 7) (seven_bytes j) in
    write_line (codes "writei c0 s0 n ") bytes ++ write_line (codes "writei c1 s1 n ") bytes ++ moves (1 + x / 1024 % 6) ++ last_line j

-- k rounds from round j on, where the number before it was x
abbrev pub rounds : ℕ → ℕ → ℕ → List ℕ
rounds zero j x = []
rounds (suc k) j x = round j (next_number x) ++ rounds k (j + 1) (next_number x)

abbrev pub script : ℕ → List ℕ
script n = beginning ++ rounds (100 * n) 0 n
