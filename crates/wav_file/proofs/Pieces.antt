-- A chunk at the front of some bytes, taken apart and put together.
use Rattle.std.proofs.Common.{◌≡◌, ◌≢◌, true, false, ℕ, ◌+◌, ◌-◌, ◌%◌, ◌≤◌, List, ◌++◌, length, take, drop, refl, sym, ap, ◌∙◌, append_assoc, arith}
use Rattle.std.proofs.lemmas.List.{length-append, length-drop, length-take, take-append-drop, take_at, drop_at, drop-drop, drop-take, take_rest}
use Rattle.std.specs.Str.{bytes_eq}
use Rattle.std.proofs.lemmas.Bool.{false_from_ne_true}
use Rattle.std.proofs.lemmas.Slice.Eq.{bytes_eq-Decides}
use Rattle.byteorder.specs.Endian.{little_number}
use Rattle.byteorder.specs.Numbers.{little_from-append, little_from-take}
use Rattle.wav_file.specs.Recordings.{number_at}
use Rattle.wav_file.specs.Chunks.{size_at, past_chunk, body_at}
use Rattle.wav_file.specs.Grammar.{WholeChunk, IsWhole, chunk_bytes}

-- a number reads only its own bytes
pub number_at-take : (n place len : ℕ) (bytes : List ℕ) → place + n ≤ len → number_at n place (take len bytes) ≡ number_at n place bytes
number_at-take n place len bytes fits =
    let split : len ≡ place + (len - place) = omega arith in
    let rest : drop place (take len bytes) ≡ take (len - place) (drop place bytes) = ap (λ (k : ℕ). drop place (take k bytes)) split ∙ drop-take place (len - place) bytes in
    ap (little_number n) rest ∙ little_from-take 0 n (len - place) (drop place bytes) (omega arith)

pub number_at-drop : (n place skip : ℕ) (bytes : List ℕ) → number_at n place (drop skip bytes) ≡ number_at n (skip + place) bytes
number_at-drop n place skip bytes = ap (little_number n) (drop-drop place skip bytes)

-- a number that is read from the bytes from a place on
pub number_read : (n place x : ℕ) (bytes : List ℕ) → x ≡ little_number n (take (length bytes - place) (drop place bytes)) → number_at n place bytes ≡ x
number_read n place x bytes e = sym (e ∙ ap (little_number n) (take_rest bytes place))

-- a number of four bytes in front of others
pub front_number : (four rest : List ℕ) → length four ≡ 4 → little_number 4 (four ++ rest) ≡ little_number 4 four
front_number four rest len = little_from-append 4 four rest (omega arith)

-- what stands at the front of some bytes: an id, a size, and what follows
pub record Opens (bytes id size rest : List ℕ) : Type 0 where
  pub id_is : take 4 bytes ≡ id
  pub size_is : size_at bytes ≡ little_number 4 size
  pub rest_is : drop 8 bytes ≡ rest
  pub long : length bytes ≡ 8 + length rest

pub head_opens : (id size rest : List ℕ) → length id ≡ 4 → length size ≡ 4 → Opens (id ++ (size ++ rest)) id size rest
head_opens id size rest id_len size_len =
    let joined : length (id ++ size) ≡ 8 = omega (arith, length-append id size) in
    let grouped : id ++ (size ++ rest) ≡ (id ++ size) ++ rest = sym (append_assoc id size rest) in
    record {
      id_is = take_at id (size ++ rest) 4 id_len;
      size_is = ap (little_number 4) (drop_at id (size ++ rest) 4 id_len) ∙ front_number size rest size_len;
      rest_is = ap (drop 8) grouped ∙ drop_at (id ++ size) rest 8 joined;
      long = omega (arith, length-append id (size ++ rest), length-append size rest);
    }

-- a whole chunk in front of other bytes
pub record Begins (bytes : List ℕ) (c : WholeChunk) (tail : List ℕ) : Type 0 where
  pub id_is : take 4 bytes ≡ c.id
  pub size_is : size_at bytes ≡ length c.body
  pub body_is : body_at bytes ≡ c.body
  pub tail_is : drop (past_chunk bytes) bytes ≡ tail
  pub long : 8 + length c.body + length tail ≤ length bytes

pub chunk_begins : (c : WholeChunk) (tail : List ℕ) → IsWhole c → Begins (chunk_bytes c ++ tail) c tail
chunk_begins c tail whole =
    let more = c.body ++ (c.pad ++ tail) in
    let grouped : chunk_bytes c ++ tail ≡ c.id ++ (c.size ++ more) =
    append_assoc c.id (c.size ++ (c.body ++ c.pad)) tail
    ∙ ap (λ (x : List ℕ). c.id ++ x) (append_assoc c.size (c.body ++ c.pad) tail ∙ ap (λ (x : List ℕ). c.size ++ x) (append_assoc c.body c.pad tail)) in
    let opens = head_opens c.id c.size more whole.id whole.size in
    let size : size_at (chunk_bytes c ++ tail) ≡ length c.body = ap size_at grouped ∙ opens.size_is ∙ whole.body in
    let body : body_at (chunk_bytes c ++ tail) ≡ c.body =
    ap (λ (n : ℕ). take n (drop 8 (chunk_bytes c ++ tail))) size ∙ ap (λ (x : List ℕ). take (length c.body) (drop 8 x)) grouped
    ∙ ap (take (length c.body)) opens.rest_is ∙ take_at c.body (c.pad ++ tail) (length c.body) refl in
    let len : length (chunk_bytes c) ≡ past_chunk (chunk_bytes c ++ tail) =
    rw size (omega (arith, length-append c.id (c.size ++ (c.body ++ c.pad)), length-append c.size (c.body ++ c.pad), length-append c.body c.pad, whole.id, whole.size, whole.pad)) in
    record {
      id_is = ap (take 4) grouped ∙ opens.id_is;
      size_is = size;
      body_is = body;
      tail_is = drop_at (chunk_bytes c) tail (past_chunk (chunk_bytes c ++ tail)) len;
      long = omega (arith, length-append (chunk_bytes c) tail, len, size);
    }

-- the chunk at the front of some bytes
abbrev pub chunk_at : List ℕ → WholeChunk
chunk_at bytes = record { id = take 4 bytes; size = take 4 (drop 4 bytes); body = body_at bytes; pad = take (size_at bytes % 2) (drop (8 + size_at bytes) bytes) }

pub body_at-length : (bytes : List ℕ) → 8 + size_at bytes ≤ length bytes → length (body_at bytes) ≡ size_at bytes
body_at-length bytes fits = omega (arith, length-take (size_at bytes) (drop 8 bytes), length-drop 8 bytes)

pub chunk_at-whole : (bytes : List ℕ) → past_chunk bytes ≤ length bytes → IsWhole (chunk_at bytes)
chunk_at-whole bytes fits =
    let n = size_at bytes in
    let len = body_at-length bytes (omega arith) in
    record {
      id = omega (arith, length-take 4 bytes);
      size = omega (arith, length-take 4 (drop 4 bytes), length-drop 4 bytes);
      body = little_from-take 0 4 4 (drop 4 bytes) (omega arith) ∙ sym len;
      pad = rw len (omega (arith, length-take (n % 2) (drop (8 + n) bytes), length-drop (8 + n) bytes));
    }

-- the bytes after the first n, and those after m more
pub split_again : (n m : ℕ) (bytes : List ℕ) → drop n bytes ≡ take m (drop n bytes) ++ drop (n + m) bytes
split_again n m bytes = sym (take-append-drop m (drop n bytes)) ∙ ap (λ (x : List ℕ). take m (drop n bytes) ++ x) (drop-drop m n bytes)

-- an id and a size, and what follows them
pub head_joins : (bytes : List ℕ) → bytes ≡ take 4 bytes ++ (take 4 (drop 4 bytes) ++ drop 8 bytes)
head_joins bytes = sym (take-append-drop 4 bytes) ∙ ap (λ (x : List ℕ). take 4 bytes ++ x) (split_again 4 4 bytes)

pub chunk_at-joins : (bytes : List ℕ) → bytes ≡ chunk_bytes (chunk_at bytes) ++ drop (past_chunk bytes) bytes
chunk_at-joins bytes =
    let n = size_at bytes in
    let m = n % 2 in
    let id = take 4 bytes in
    let size = take 4 (drop 4 bytes) in
    let body = body_at bytes in
    let pad = take m (drop (8 + n) bytes) in
    let tail = drop (past_chunk bytes) bytes in
    let body_pad : drop 8 bytes ≡ body ++ (pad ++ tail) = split_again 8 n bytes ∙ ap (λ (x : List ℕ). body ++ x) (split_again (8 + n) m bytes) in
    let grouped : chunk_bytes (chunk_at bytes) ++ tail ≡ id ++ (size ++ (body ++ (pad ++ tail))) =
    append_assoc id (size ++ (body ++ pad)) tail
    ∙ ap (λ (x : List ℕ). id ++ x) (append_assoc size (body ++ pad) tail ∙ ap (λ (x : List ℕ). size ++ x) (append_assoc body pad tail)) in
    head_joins bytes ∙ ap (λ (x : List ℕ). id ++ (size ++ x)) body_pad ∙ sym grouped

-- ---- an id at the front

pub id_true : (id bytes : List ℕ) → bytes_eq id bytes ≡ true → bytes ≡ id
id_true id bytes e = sym ((bytes_eq-Decides id bytes).0 e)

pub id_same : (id : List ℕ) → bytes_eq id id ≡ true
id_same id = (bytes_eq-Decides id id).1 refl

pub id_false : (id bytes : List ℕ) → bytes ≢ id → bytes_eq id bytes ≡ false
id_false id bytes other = false_from_ne_true (bytes_eq id bytes) (λ e. other (id_true id bytes e))
