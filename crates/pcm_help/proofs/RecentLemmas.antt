-- The last bytes stay the last bytes, however they are cut.
use Rattle.std.proofs.Common.{◌≡◌, ℕ, ◌+◌, ◌≤◌, List, [], ◌∷◌, ◌++◌, length, take, drop, Bool, true, refl, sym, ◌∙◌, ap, arith, inl, inr, ◌⊎◌, add-zero, append_assoc, append-nil, length-append}
use Rattle.std.proofs.lemmas.List.{take-append-drop}
use Rattle.pcm_help.specs.Lines.{begins_after, feeds_in, IsFirstAt}
use Rattle.pcm_help.specs.Recent.{Kept, Holds, IsBehind, IsFirstLine, IsFrom}
use Rattle.pcm_help.proofs.LineLemmas.{begins_after-append, begins-feed, feeds-append, feeds-le}

one_feed : feeds_in (10 ∷ []) ≡ 1
one_feed = refl

-- the line feeds before the bytes kept are no more than the bytes
pub feeds-few : (kept : Kept) (all : List ℕ) → Holds kept all → kept.feeds + length kept.bytes ≤ length all
feeds-few kept all h =
    let long : length all ≡ length h.gone + length kept.bytes = ap length h.cut ∙ length-append h.gone kept.bytes in
    let few = feeds-le h.gone in
    omega (arith, h.feeds, long, few)

-- bytes go from the front of those that are kept
pub holds-forget : (old new : Kept) (all gone : List ℕ) → Holds old all → old.bytes ≡ gone ++ new.bytes → new.feeds ≡ old.feeds + feeds_in gone → new.begins ≡ begins_after old.begins gone → Holds new all
holds-forget old new all gone h cut feeds begins = record {
  gone = h.gone ++ gone;
  cut = h.cut ∙ ap (λ (l : List ℕ). h.gone ++ l) cut ∙ sym (append_assoc h.gone gone new.bytes);
  feeds = feeds ∙ ap (λ (n : ℕ). n + feeds_in gone) h.feeds ∙ sym (feeds-append h.gone gone);
  begins = begins ∙ ap (λ (b : Bool). begins_after b gone) h.begins ∙ sym (begins_after-append true h.gone gone);
}

-- bytes come behind those that are kept
pub holds-keep : (old new : Kept) (all more : List ℕ) → Holds old all → new.bytes ≡ old.bytes ++ more → new.feeds ≡ old.feeds → new.begins ≡ old.begins → Holds new (all ++ more)
holds-keep old new all more h bytes feeds begins = record {
  gone = h.gone;
  cut = ap (λ (l : List ℕ). l ++ more) h.cut ∙ append_assoc h.gone old.bytes more ∙ ap (λ (l : List ℕ). h.gone ++ l) (sym bytes);
  feeds = feeds ∙ h.feeds;
  begins = begins ∙ h.begins;
}

-- none is kept, and none of these
pub holds-pass : (old new : Kept) (all more : List ℕ) → Holds old all → (more ≡ []) ⊎ (old.bytes ≡ []) → new.bytes ≡ old.bytes → new.feeds ≡ old.feeds + feeds_in more → new.begins ≡ begins_after old.begins more → Holds new (all ++ more)
holds-pass old new all more h (inl e) bytes feeds begins =
    holds-keep old new all more h (bytes ∙ sym (append-nil old.bytes) ∙ ap (λ (l : List ℕ). old.bytes ++ l) (sym e))
    (feeds ∙ ap (λ (l : List ℕ). old.feeds + feeds_in l) e ∙ add-zero old.feeds) (begins ∙ ap (λ (l : List ℕ). begins_after old.begins l) e)
holds-pass old new all more h (inr e) bytes feeds begins = record {
  gone = h.gone ++ more;
  cut = ap (λ (l : List ℕ). l ++ more) (h.cut ∙ ap (λ (l : List ℕ). h.gone ++ l) e ∙ append-nil h.gone)
      ∙ sym (append-nil (h.gone ++ more)) ∙ ap (λ (l : List ℕ). (h.gone ++ more) ++ l) (sym (bytes ∙ e));
  feeds = feeds ∙ ap (λ (n : ℕ). n + feeds_in more) h.feeds ∙ sym (feeds-append h.gone more);
  begins = begins ∙ ap (λ (b : Bool). begins_after b more) h.begins ∙ sym (begins_after-append true h.gone more);
}

-- the bytes behind so many line feeds of those that are kept begin a line
pub line-at : (kept : Kept) (all rest : List ℕ) (number skipped : ℕ) → Holds kept all → number ≡ kept.feeds + skipped + 1 → IsBehind skipped kept.bytes rest → (skipped ≡ 0 → kept.begins ≡ true) → IsFrom number all rest
line-at kept all rest number skipped h is b first = record {
  front = h.gone ++ b.front;
  cut = h.cut ∙ ap (λ (l : List ℕ). h.gone ++ l) b.cut ∙ sym (append_assoc h.gone b.front rest);
  place = is ∙ (omega (arith, h.feeds, b.count, feeds-append h.gone b.front));
  begins = begins_after-append true h.gone b.front ∙ elim b.begins [
    | inl e ↦ ap (λ (l : List ℕ). begins_after (begins_after true h.gone) l) e ∙ sym h.begins ∙ first (sym b.count ∙ ap feeds_in e)
    | inr every ↦ every (begins_after true h.gone)
  ];
}

-- nothing is skipped yet
pub behind-none : (bytes : List ℕ) → IsBehind 0 bytes bytes
behind-none bytes = record { front = []; cut = refl; count = refl; begins = inl refl }

-- one line feed more
pub behind-more : (feeds : ℕ) (bytes rest : List ℕ) (at : ℕ) → IsBehind feeds bytes rest → IsFirstAt 10 rest at → IsBehind (feeds + 1) bytes (drop (at + 1) rest)
behind-more feeds bytes rest at b f =
    let line = take at rest in
    let cut : rest ≡ (line ++ 10 ∷ []) ++ drop (at + 1) rest = sym (take-append-drop at rest) ∙ ap (λ (l : List ℕ). line ++ l) f.here ∙ sym (append_assoc line (10 ∷ []) (drop (at + 1) rest)) in
    record {
      front = b.front ++ (line ++ 10 ∷ []);
      cut = b.cut ∙ ap (λ (l : List ℕ). b.front ++ l) cut ∙ sym (append_assoc b.front (line ++ 10 ∷ []) (drop (at + 1) rest));
      count = omega (arith, feeds-append b.front (line ++ 10 ∷ []), feeds-append line (10 ∷ []), f.plain, b.count, one_feed);
      begins = inr (λ x. begins_after-append x b.front (line ++ 10 ∷ []) ∙ begins-feed (begins_after x b.front) line);
    }

-- there are no more line feeds than those that are skipped
pub behind-few : (feeds : ℕ) (bytes rest : List ℕ) → IsBehind feeds bytes rest → feeds_in bytes ≡ feeds + feeds_in rest
behind-few feeds bytes rest b = ap feeds_in b.cut ∙ feeds-append b.front rest ∙ ap (λ (n : ℕ). n + feeds_in rest) b.count

-- the line up to the first line feed
pub first-line-some : (bytes : List ℕ) (at : ℕ) → IsFirstAt 10 bytes at → IsFirstLine bytes (take at bytes)
first-line-some bytes at f = record {
  behind = drop at bytes;
  cut = sym (take-append-drop at bytes);
  plain = f.plain;
  end = rw f.here refl;
}

pub first-line-all : (bytes : List ℕ) → feeds_in bytes ≡ 0 → IsFirstLine bytes bytes
first-line-all bytes none = record { behind = []; cut = sym (append-nil bytes); plain = none; end = tt }
