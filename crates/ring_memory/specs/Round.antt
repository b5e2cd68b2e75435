-- Lists that are written and read in a round, as the memory of a ring buffer.
use Rattle.std.specs.Prelude.{ℕ, List, ◌++◌, length, take, drop, ◌+◌, ◌-◌}

-- ys with xs written over it from a place on
abbrev pub over : {A : Type 0} → ℕ → List A → List A → List A
over at xs ys = take at ys ++ (xs ++ drop (at + length xs) ys)

-- ys with xs written over it from a place on, and on from the front where ys ends
abbrev pub written_round : {A : Type 0} → ℕ → List A → List A → List A
written_round at xs ys = over 0 (drop (length ys - at) xs) (over at (take (length ys - at) xs) ys)

-- the n items of ys from a place on, and on from the front where ys ends
abbrev pub read_round : {A : Type 0} → ℕ → ℕ → List A → List A
read_round at n ys = take n (drop at ys) ++ take (n - (length ys - at)) ys

-- the n items from the first on
abbrev pub part : {A : Type 0} → ℕ → ℕ → List A → List A
part first n xs = take n (drop first xs)
