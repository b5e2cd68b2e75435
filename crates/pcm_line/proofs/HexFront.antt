-- Hex at the front of bytes is the first piece.
use Rattle.std.specs.Prelude.{◌==◌, Option, Some, None, Ok, Err}
use Rattle.std.proofs.lemmas.Bool.{eqb-true}
use Rattle.std.proofs.lemmas.List.{take_all}
use Rattle.std.proofs.Math.Dec.{eqb-suc-zero}
use Rattle.std.proofs.Common.{◌≡◌, Bool, true, false, cond, ℕ, suc, ◌+◌, ◌-◌, ◌≤◌, List, [], ◌∷◌, length, take, drop, refl, sym, ◌∙◌, ap, arith}
use Rattle.pcm_line.specs.declared.error.LineError.TheVariants.{Word}
use Rattle.pcm_line.specs.Kinds.{OfHex}
use Rattle.pcm_line.specs.Pieces.{onto_first, pieces_of, pieces_left, Place, place_at}
use Rattle.pcm_line.specs.Reading.{hex_value, hex_pair, hex_of, hex_bytes, read_value}
use Rattle.pcm_line.specs.Hex.{pair_then, pairs_in_front, is_piece_end, some_bytes, hex_in_front}
use Rattle.pcm_line.proofs.Cutting.{first_piece}

-- what a run took is a piece
pub record Run (text bytes rest : List ℕ) : Type 0 where
  pub piece : List ℕ
  pub others : List (List ℕ)
  pub cut_is : pieces_of text ≡ piece ∷ others
  pub ended : is_piece_end rest ≡ true → (others ≡ pieces_left rest) × (hex_of piece ≡ Some bytes) × (length text ≡ length piece + length rest)
  pub went_on : is_piece_end rest ≡ false → hex_of piece ≡ None

-- a digit is no space
digit-no_space : (a v : ℕ) (t : Bool) → hex_value a ≡ Some v → (a == 32) ≡ t → t ≡ false
digit-no_space a v true e s =
    let is : a ≡ 32 = eqb-true a 32 s in
    let none : hex_value a ≡ None = rw is refl in
    absurd cc
digit-no_space a v false e s = refl

hex-first : (a : ℕ) (p : List ℕ) → hex_value a ≡ None → hex_of (a ∷ p) ≡ None
hex-first a [] h = refl
hex-first a (b ∷ p) h = rw h refl

single : (a : ℕ) (t : Bool) → (a == 32) ≡ t → Run (a ∷ []) [] (a ∷ [])
single a true e = record { piece = []; others = [] ∷ []; cut_is = rw e refl; ended = λ f. (refl, refl, refl); went_on = λ f. absurd cc }
single a false e = record { piece = a ∷ []; others = []; cut_is = rw e refl; ended = λ f. absurd cc; went_on = λ f. refl }

stop : (a : ℕ) (more : List ℕ) (t : Bool) → hex_value a ≡ None → (a == 32) ≡ t → Run (a ∷ more) [] (a ∷ more)
stop a more true h e = record { piece = []; others = pieces_of more; cut_is = rw e refl; ended = λ f. (refl, refl, omega arith); went_on = λ f. absurd cc }
stop a more false h e =
    let f = first_piece more in
    record { piece = a ∷ f.0; others = f.1; cut_is = rw (e, f.2) refl; ended = λ g. absurd cc; went_on = λ g. hex-first a f.0 h }

stop_second : (a b v : ℕ) (rest : List ℕ) (t : Bool) → hex_value a ≡ Some v → hex_value b ≡ None → (a == 32) ≡ false → (b == 32) ≡ t → Run (a ∷ b ∷ rest) [] (a ∷ b ∷ rest)
stop_second a b v rest true ha hb na e = record { piece = a ∷ []; others = pieces_of rest; cut_is = rw (na, e) refl; ended = λ g. absurd cc; went_on = λ g. refl }
stop_second a b v rest false ha hb na e =
    let f = first_piece rest in
    record { piece = a ∷ b ∷ f.0; others = f.1; cut_is = rw (na, e, f.2) refl; ended = λ g. absurd cc; went_on = λ g. rw (ha, hb) refl }

pair_run : (a b : ℕ) (rest : List ℕ) (x y : Option ℕ) → hex_value a ≡ x → hex_value b ≡ y → Run rest (pairs_in_front rest).0 (pairs_in_front rest).1
    → Run (a ∷ b ∷ rest) (pair_then x y (a ∷ b ∷ rest) (pairs_in_front rest)).0 (pair_then x y (a ∷ b ∷ rest) (pairs_in_front rest)).1
pair_run a b rest None y ha hb r = stop a (b ∷ rest) (a == 32) ha refl
pair_run a b rest (Some high) None ha hb r = stop_second a b high rest (b == 32) ha hb (digit-no_space a high (a == 32) ha refl) refl
pair_run a b rest (Some high) (Some low) ha hb r =
    let na = digit-no_space a high (a == 32) ha refl in
    let nb = digit-no_space b low (b == 32) hb refl in
    record {
      piece = a ∷ b ∷ r.piece;
      others = r.others;
      cut_is = rw (na, nb, r.cut_is) refl;
      ended = λ e. let q = r.ended e in (q.0, rw (ha, hb, q.1) refl, omega (arith, q.2));
      went_on = λ e. rw (ha, hb, r.went_on e) refl;
    }

run : (text : List ℕ) → Run text (pairs_in_front text).0 (pairs_in_front text).1
run [] = record { piece = []; others = []; cut_is = refl; ended = λ e. (refl, refl, refl); went_on = λ e. absurd cc }
run (a ∷ []) = single a (a == 32) refl
run (a ∷ b ∷ rest) = pair_run a b rest (hex_value a) (hex_value b) refl refl (run rest)

-- ---- a whole piece

end-cut : (more : List ℕ) → is_piece_end more ≡ true → pieces_of more ≡ [] ∷ pieces_left more
end-cut [] e = refl
end-cut (b ∷ more) e = rw e refl

first_is : (b c : ℕ) (q : List ℕ) (ps : List (List ℕ)) (others : List (List ℕ)) → onto_first b others ≡ (c ∷ q) ∷ ps → b ≡ c
first_is b c q ps [] e = cc
first_is b c q ps (p ∷ others) e = cc

first_byte : (b c : ℕ) (more q : List ℕ) (ps : List (List ℕ)) (t : Bool) → (b == 32) ≡ t → cond t ([] ∷ pieces_of more) (onto_first b (pieces_of more)) ≡ (c ∷ q) ∷ ps → b ≡ c
first_byte b c more q ps true e f = absurd cc
first_byte b c more q ps false e f = first_is b c q ps (pieces_of more) f

-- hex of at least one pair is no dash
whole_cons : (c : ℕ) (p : List ℕ) (b : ℕ) (bytes : List ℕ) (t : Bool) → (c == 45) ≡ t → hex_of (c ∷ p) ≡ Some (b ∷ bytes) → hex_bytes (c ∷ p) ≡ Some (b ∷ bytes)
whole_cons c p b bytes true s e =
    let is : c ≡ 45 = eqb-true c 45 s in
    let none : hex_value c ≡ None = rw is refl in
    let no : hex_of (c ∷ p) ≡ None = hex-first c p none in
    absurd cc
whole_cons c p b bytes false s e = rw s e

whole : (p : List ℕ) (b : ℕ) (bytes : List ℕ) → hex_of p ≡ Some (b ∷ bytes) → hex_bytes p ≡ Some (b ∷ bytes)
whole [] b bytes e = absurd cc
whole (c ∷ p) b bytes e = whole_cons c p b bytes (c == 45) refl e

-- what reading a piece of hex gives
abbrev pub Given : ℕ → List ℕ → Option (List ℕ × List ℕ) → Type 0
Given at text None = read_value OfHex (record { at = at; pieces = pieces_of text }) ≡ Err (Word at)
Given at text (Some x) = (read_value OfHex (record { at = at; pieces = pieces_of text }) ≡ Ok (x.0, place_at (at + (length text - length x.1 + 1)) x.1)) × (length x.1 ≤ length text)

read_some : (at : ℕ) (p bytes : List ℕ) (others : List (List ℕ)) (text : List ℕ) → pieces_of text ≡ p ∷ others → hex_bytes p ≡ Some bytes → read_value OfHex (record { at = at; pieces = pieces_of text }) ≡ Ok (bytes, record { at = at + length p + 1; pieces = others })
read_some at p bytes others text e h = rw (e, h) refl

read_none : (at : ℕ) (p : List ℕ) (others : List (List ℕ)) (text : List ℕ) → pieces_of text ≡ p ∷ others → hex_bytes p ≡ None → read_value OfHex (record { at = at; pieces = pieces_of text }) ≡ Err (Word at)
read_none at p others text e h = rw (e, h) refl

dash : (at : ℕ) (more : List ℕ) (t : Bool) → is_piece_end more ≡ t → Given at (45 ∷ more) (cond t (Some ([], more)) None)
dash at more true e =
    let c : pieces_of (45 ∷ more) ≡ (45 ∷ []) ∷ pieces_left more = rw (end-cut more e) refl in
    let r = read_some at (45 ∷ []) [] (pieces_left more) (45 ∷ more) c refl in
    let n : at + 1 + 1 ≡ at + (length (45 ∷ more) - length more + 1) = omega arith in
    (r ∙ ap (λ (k : ℕ). Ok ([], place_at k more)) n, omega arith)
dash at [] false e = absurd cc
dash at (c ∷ m) false e =
    let f = first_piece m in
    let z : (suc (length f.0) == 0) ≡ false = eqb-suc-zero (length f.0) in
    let h : hex_bytes (45 ∷ c ∷ f.0) ≡ None = rw z (hex-first 45 (c ∷ f.0) refl) in
    read_none at (45 ∷ c ∷ f.0) f.1 (45 ∷ c ∷ m) (rw (e, f.2) refl) h

not_dash : (b c : ℕ) (p : List ℕ) → (b == 45) ≡ false → b ≡ c → hex_of (c ∷ p) ≡ None → hex_bytes (c ∷ p) ≡ None
not_dash b c p n e h =
    let k : (c == 45) ≡ false = ap (λ (x : ℕ). x == 45) (sym e) ∙ n in
    rw k h

no_piece : (b : ℕ) (more p : List ℕ) (ps : List (List ℕ)) → (b == 45) ≡ false → pieces_of (b ∷ more) ≡ p ∷ ps → hex_of p ≡ None → hex_bytes p ≡ None
no_piece b more [] ps n e h = refl
no_piece b more (c ∷ p) ps n e h = not_dash b c p n (first_byte b c more p ps (b == 32) refl e) h

no_pairs : (x y : Option ℕ) (r : Option (List ℕ)) → hex_pair x y r ≡ Some [] → ⊥
no_pairs None y r e = cc
no_pairs (Some x) None r e = cc
no_pairs (Some x) (Some y) None e = cc
no_pairs (Some x) (Some y) (Some r) e = cc

nothing : (p : List ℕ) → hex_of p ≡ Some [] → p ≡ []
nothing [] e = refl
nothing (a ∷ []) e = absurd cc
nothing (a ∷ b ∷ rest) e = absurd (no_pairs (hex_value a) (hex_value b) (hex_of rest) e)

after_run : (at b : ℕ) (more bytes rest : List ℕ) (t : Bool) → (b == 45) ≡ false → Run (b ∷ more) bytes rest → is_piece_end rest ≡ t → Given at (b ∷ more) (some_bytes (bytes, rest))
after_run at b more [] rest true n r e =
    let q = r.ended e in
    read_none at r.piece r.others (b ∷ more) r.cut_is (ap hex_bytes (nothing r.piece q.1))
after_run at b more [] rest false n r e = read_none at r.piece r.others (b ∷ more) r.cut_is (no_piece b more r.piece r.others n r.cut_is (r.went_on e))
after_run at b more (x ∷ bytes) rest true n r e =
    let q = r.ended e in
    let read = read_some at r.piece (x ∷ bytes) r.others (b ∷ more) r.cut_is (whole r.piece x bytes q.1) in
    let k : at + length r.piece + 1 ≡ at + (length (b ∷ more) - length rest + 1) = omega (arith, q.2) in
    let moved : record { at = at + length r.piece + 1; pieces = r.others } ≡ place_at (at + (length (b ∷ more) - length rest + 1)) rest = rw (k, q.0) refl in
    rw e (read ∙ ap (λ (p : Place). Ok (x ∷ bytes, p)) moved, omega (arith, q.2))
after_run at b more (x ∷ bytes) rest false n r e = rw e (read_none at r.piece r.others (b ∷ more) r.cut_is (no_piece b more r.piece r.others n r.cut_is (r.went_on e)))

begun : (at b : ℕ) (more : List ℕ) (t : Bool) → (b == 45) ≡ t → Given at (b ∷ more) (cond t (cond (is_piece_end more) (Some ([], more)) None) (some_bytes (pairs_in_front (b ∷ more))))
begun at b more true e =
    let is : b ≡ 45 = eqb-true b 45 e in
    rw is (dash at more (is_piece_end more) refl)
begun at b more false e = after_run at b more (pairs_in_front (b ∷ more)).0 (pairs_in_front (b ∷ more)).1 (is_piece_end (pairs_in_front (b ∷ more)).1) e (run (b ∷ more)) refl

pub front : (at : ℕ) (text : List ℕ) → Given at text (hex_in_front text)
front at [] = refl
front at (b ∷ more) = begun at b more (b == 45) refl

-- the same, for what is pieces_left with a space in front
abbrev pub GivenRest : ℕ → List ℕ → List ℕ → Option (List ℕ × List ℕ) → Type 0
GivenRest at rest text None = read_value OfHex (place_at at rest) ≡ Err (Word at)
GivenRest at rest text (Some x) = (read_value OfHex (place_at at rest) ≡ Ok (x.0, place_at (at + (length text - length x.1 + 1)) x.1)) × (length x.1 ≤ length text)

moved : (at b : ℕ) (text : List ℕ) (o : Option (List ℕ × List ℕ)) → Given at text o → GivenRest at (b ∷ text) text o
moved at b text None g = g
moved at b text (Some x) g = g

pub front_rest : (at : ℕ) (rest : List ℕ) (o : Option (List ℕ × List ℕ)) → 1 ≤ length rest → o ≡ hex_in_front (take (length rest - 1) (drop 1 rest)) → GivenRest at rest (take (length rest - 1) (drop 1 rest)) o
front_rest at [] o le e = absurd (omega arith)
front_rest at (b ∷ text) o le e =
    let all : take (length (b ∷ text) - 1) text ≡ text = take_all _ text (omega arith) in
    rw all (moved at b text o (rw (e, all) (front at text)))
