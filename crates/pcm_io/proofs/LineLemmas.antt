-- Line feeds among bytes, and what is read ahead of them.
use Rattle.std.proofs.Common.{◌≡◌, ◌==◌, ℕ, zero, suc, ◌+◌, ◌-◌, ◌≤◌, ◌<◌, List, [], ◌∷◌, ◌++◌, length, take, drop, get_or, Bool, true, false, ◌||◌, refl, sym, ◌∙◌, ap, subst, arith, inl, inr, ◌⊎◌, add-one, append_assoc, append-nil, length-append, Some, None}
use Rattle.std.specs.declared.option.Option.{Option}
use Rattle.std.specs.Prelude.{MatchOption}
use Rattle.std.specs.Io.KnownBytes.{Consumes, IsAtEnd, Keeps}
use Rattle.std.proofs.Math.Seq.{drop-cons}
use Rattle.std.proofs.lemmas.Bool.{eqb-true}
use Rattle.std.proofs.lemmas.List.{take-append-drop, take_all, drop_all}
use Rattle.memchr.specs.Find.{IsFirstByte, is_byte}
use Rattle.pcm_io.specs.Lines.{Ahead, LineState, HasRead, HasTopped, IsMore, IsNextLine, has_feed, IsFeedAt}
use Rattle.pcm_io.proofs.Taken.{consumes_more}

abbrev is_feed : ℕ → Bool
is_feed b = b == 10

bool_cases : (b : Bool) → (b ≡ true) ⊎ (b ≡ false)
bool_cases true = inl refl
bool_cases false = inr refl

false_true : {A : Type 0} → false ≡ true → A
false_true e = cc

is_ten : (b : ℕ) → is_feed b ≡ true → b ≡ 10
is_ten b e = eqb-true b 10 e

-- no line feed before a place where none stands
pub plain_front : (bytes : List ℕ) (n : ℕ) → n ≤ length bytes → ((k : ℕ) → k < n → is_feed (get_or bytes k 0) ≡ true → ⊥) → has_feed (take n bytes) ≡ false
plain_front bytes zero le none = refl
plain_front [] (suc n) le none = absurd (omega arith)
plain_front (b ∷ bytes) (suc n) le none = elim (bool_cases (is_feed b)) [
  | inl e ↦ absurd (none 0 (omega arith) e)
  | inr e ↦ rw e (plain_front bytes n (omega arith) (λ k less. none (suc k) (omega arith)))
]

pub feed_found : (bytes : List ℕ) (r : Option ℕ) → IsFirstByte (is_byte 10) bytes r
    → MatchOption r (has_feed bytes ≡ false) (λ at. (at < length bytes) × IsFeedAt bytes (take at bytes) (drop (at + 1) bytes))
feed_found bytes None h =
    subst (λ (l : List ℕ). has_feed l ≡ false) (take_all (length bytes) bytes (omega arith))
    (plain_front bytes (length bytes) (omega arith) (λ k less e. h k (omega arith) less e))
feed_found bytes (Some at) h =
    let first = h.0 in
    let here : get_or bytes at 0 ≡ 10 = is_ten _ h.1 in (
      first.high,
      record {
        plain = plain_front bytes at (omega (arith, first.high)) (λ k less e. first.before k (omega arith) less e);
        cut = sym (take-append-drop at bytes) ∙ ap (λ (l : List ℕ). take at bytes ++ l) (drop-cons bytes at 0 first.high ∙ ap (λ (b : ℕ). b ∷ drop (suc at) bytes) here ∙ ap (λ (n : ℕ). 10 ∷ drop n bytes) (sym (add-one at)));
      },
    )

pub feeds-append : (front more : List ℕ) → has_feed front ≡ false → has_feed more ≡ false → has_feed (front ++ more) ≡ false
feeds-append [] more f m = m
feeds-append (b ∷ front) more f m = elim (bool_cases (is_feed b)) [
  | inl e ↦ false_true (sym f ∙ ap (λ (x : Bool). x || has_feed front) e)
  | inr e ↦ rw e (feeds-append front more (sym (ap (λ (x : Bool). x || has_feed front) e) ∙ f) m)
]

-- ---- what was read, part by part

consumes_nothing : (l : Option (List ℕ)) → Consumes l l []
consumes_nothing None = tt
consumes_nothing (Some xs) = refl

consumes_kept : (l m : Option (List ℕ)) → Keeps l m → Consumes l m []
consumes_kept None m h = tt
consumes_kept (Some xs) None h = absurd h
consumes_kept (Some xs) (Some ys) h = sym h

pub read-nothing : (a b : Ahead) (l : Option (List ℕ)) → b.room ≡ a.room → b.ended ≡ a.ended → HasRead a b l l []
read-nothing a b l room ended = record {
  consumed = consumes_nothing l;
  room = omega (arith, room);
  known = λ e. ended ∙ e;
  ended = λ e. inl (sym ended ∙ e, refl);
}

pub read-failed : (a b : Ahead) (l m : Option (List ℕ)) → b ≡ a → a.ended ≡ false → Keeps l m → HasRead a b l m []
read-failed a b l m same before kept = record {
  consumed = consumes_kept l m kept;
  room = (let e : b.room ≡ a.room = ap (λ (x : Ahead). x.room) same in omega arith);
  known = λ e. false_true (sym before ∙ e);
  ended = λ e. false_true (sym before ∙ (ap (λ (x : Ahead). x.ended) (sym same) ∙ e));
}

pub read-more : (a b c : Ahead) (l m n : Option (List ℕ)) (xs ys : List ℕ) → HasRead a b l m xs → HasRead b c m n ys → HasRead a c l n (xs ++ ys)
read-more a b c l m n xs ys h k = record {
  consumed = consumes_more l m n xs ys h.consumed k.consumed;
  room = omega (arith, length-append xs ys, h.room, k.room);
  known = λ e. k.known (h.known e);
  ended = λ e. elim (k.ended e) [
    | inl s ↦ elim (h.ended s.0) [
      | inl t ↦ inl (t.0, s.1 ∙ t.1)
      | inr at_end ↦ inr (subst IsAtEnd (sym s.1) at_end)
    ]
    | inr at_end ↦ inr at_end
  ];
}

read-same : (a b d : Ahead) (l m : Option (List ℕ)) (xs : List ℕ) → HasRead a b l m xs → d.room ≡ b.room → d.ended ≡ b.ended → HasRead a d l m xs
read-same a b d l m xs h room ended = record {
  consumed = h.consumed;
  room = (let r = h.room in omega arith);
  known = λ e. ended ∙ h.known e;
  ended = λ e. h.ended (sym ended ∙ e);
}

-- all that was there went to the front, and a piece more was read, or the source failed
pub seek-read : (a b d e : Ahead) (l m n : Option (List ℕ)) (xs : List ℕ) → HasRead a b l m xs → d ≡ record b { bytes = [] } → HasRead d e m n e.bytes → HasRead a e l n (xs ++ e.bytes)
seek-read a b d e l m n xs h is k =
    read-more a d e l m n xs e.bytes (read-same a b d l m xs h (ap (λ (x : Ahead). x.room) is) (ap (λ (x : Ahead). x.ended) is)) k

pub seek-failed : (a b d e : Ahead) (l m n : Option (List ℕ)) (xs : List ℕ) → HasRead a b l m xs → d ≡ record b { bytes = [] } → e ≡ d → d.ended ≡ false → Keeps m n → HasRead a e l n xs
seek-failed a b d e l m n xs h is same before kept =
    subst (HasRead a e l n) (append-nil xs)
    (read-more a d e l m n xs [] (read-same a b d l m xs h (ap (λ (x : Ahead). x.room) is) (ap (λ (x : Ahead). x.ended) is)) (read-failed d e m n same before kept))

pub seek-same : (bytes xs front old new more : List ℕ) → bytes ++ xs ≡ front ++ old → new ≡ front ++ old → bytes ++ (xs ++ more) ≡ new ++ more
seek-same bytes xs front old new more same is = sym (append_assoc bytes xs more) ∙ ap (λ (x : List ℕ). x ++ more) (same ∙ sym is)

pub skipped-all : (b d : Ahead) (n : ℕ) → d ≡ record b { bytes = drop n b.bytes } → n ≡ length b.bytes → d ≡ record b { bytes = [] }
skipped-all b d n is e = is ∙ ap (λ (x : List ℕ). let r : Ahead = record b { bytes = x } in r) (drop_all n b.bytes (omega arith))

-- ---- a line, and what is behind it

pub next-fed : (old : LineState) (a b : Ahead) (l m : Option (List ℕ)) (bytes front line : List ℕ) (at : ℕ) → HasRead a b l m bytes → a ≡ old.ahead → a.bytes ++ bytes ≡ front ++ b.bytes → has_feed front ≡ false
    → IsFeedAt b.bytes (take at b.bytes) (drop (at + 1) b.bytes) → line ≡ front ++ take at b.bytes → IsNextLine old (record { line = line; ahead = record b { bytes = drop (at + 1) b.bytes } }) l m
next-fed old a b l m bytes front line at h is same plain feed line_is = record {
  bytes = bytes;
  read = subst (λ (x : Ahead). HasRead x (record b { bytes = drop (at + 1) b.bytes }) l m bytes) is (read-same a b (record b { bytes = drop (at + 1) b.bytes }) l m bytes h refl refl);
  plain = subst (λ (x : List ℕ). has_feed x ≡ false) (sym line_is) (feeds-append front (take at b.bytes) plain feed.plain);
  cut = inl (ap (λ (x : Ahead). x.bytes ++ bytes) (sym is) ∙ same ∙ ap (λ (x : List ℕ). front ++ x) feed.cut
      ∙ sym (append_assoc front (take at b.bytes) (10 ∷ drop (at + 1) b.bytes)) ∙ ap (λ (x : List ℕ). x ++ 10 ∷ drop (at + 1) b.bytes) (sym line_is));
}

pub more-topped : (old : LineState) (a b : Ahead) (l m : Option (List ℕ)) (line : List ℕ) → HasTopped a b l m → a ≡ old.ahead → line ≡ [] → IsMore old (record { line = line; ahead = b }) l m
more-topped old a b l m line h is none = record {
  bytes = h.bytes;
  read = subst (λ (x : Ahead). HasRead x b l m h.bytes) is h.read;
  line = none;
  ahead = h.ahead ∙ ap (λ (x : Ahead). x.bytes ++ h.bytes) is;
  done = h.done;
}

pub plain-more : (front bytes new : List ℕ) → has_feed front ≡ false → has_feed bytes ≡ false → new ≡ front ++ bytes → has_feed new ≡ false
plain-more front bytes new f b is = subst (λ (x : List ℕ). has_feed x ≡ false) (sym is) (feeds-append front bytes f b)
