-- The recs of a room with its members.
use Rattle.std.proofs.Common.{◌≡◌, ◌≢◌, ℕ, zero, suc, Bool, true, false, ◌||◌, nat_eq, eq-eqb, ne_eqb, List, [], ◌∷◌, ◌++◌, length, map, slice_get, Some, refl, sym, ap, ◌∙◌, subst}
use Rattle.std.specs.Prelude.{if◌then◌else◌}
use Rattle.std.proofs.lemmas.Option.{same_Some}
use Rattle.card_emul.specs.declared.any_card.AnyCard.{AnyCard}
use Rattle.card_emul.specs.contracts.any_card.AnyCardCard.TheImpl.{ghosts}
use Rattle.pcm_base.specs.declared.config.CardModel.{CardModel}
use Rattle.pcm_base.specs.declared.ids.SubId.{SubId}
use Rattle.pcm_base.specs.declared.state.Dir.{Dir}
use Rattle.pcm_base.specs.model.Acts.{subs}
use Rattle.pcm_base.specs.model.Group.{stream_of}
use Rattle.pcm_base.specs.model.Replay.{Distinct, is_member}
use Rattle.pcm_base.specs.model.Stream.{Stream, Member as ModelMember}
use Rattle.pcm_stream.specs.MembersStand.{AllStandFor}
use Rattle.pcm_stream.specs.StandsFor.{StandsFor}
use Rattle.pcm_stream.specs.declared.members.Member.{Member}
use Rattle.floor_rule.specs.declared.rule.Marked.{Marked}
use Rattle.room_book.specs.Logs.{PlaysLog, Replayed, nothing}
use Rattle.room_book.specs.Rooms.{EachFits, LogFits, fresh_streams, joints_now, start}
use Rattle.room_book.specs.declared.book.BookEntry.{BookEntry}
use Rattle.room_parts.specs.Recs.{RecView, subs_of}
use Rattle.live_gather.specs.Pieces.{FitInRoom, HasPlayed, log_of, with_logs}

-- the stream of each of some members that differ in their numbers

is_there : (k : SubId) (xs : List ModelMember) (i : ℕ) (x : ModelMember) → slice_get xs i ≡ Some x → x.sub.0 ≡ k.0 → is_member k (subs xs) ≡ true
is_there k [] i x at e = absurd (cc)
is_there k (y ∷ xs) zero x at e = ap (λ b. b || is_member k (subs xs)) (eq-eqb y.sub.0 k.0 (ap (λ (z : ModelMember). z.sub.0) (same_Some y x at) ∙ e))
is_there k (y ∷ xs) (suc i) x at e = ap (λ b. nat_eq y.sub.0 k.0 || b) (is_there k xs i x at e) ∙ or_true (nat_eq y.sub.0 k.0)
  where
    or_true : (b : Bool) → (b || true) ≡ true
    or_true true = refl
    or_true false = refl

own_stream : (xs : List ModelMember) → Distinct (subs xs) → (i : ℕ) (x : ModelMember) → slice_get xs i ≡ Some x → stream_of x.sub xs ≡ x.stream
own_stream [] d i x at = absurd (cc)
own_stream (y ∷ xs) d zero x at =
    let same = same_Some y x at in
    ap (λ b. if b then y.stream else stream_of x.sub xs) (eq-eqb y.sub.0 x.sub.0 (ap (λ (z : ModelMember). z.sub.0) same)) ∙ ap (λ (z : ModelMember). z.stream) same
own_stream (y ∷ xs) d (suc i) x at =
    ap (λ b. if b then y.stream else stream_of x.sub xs) (ne_eqb y.sub.0 x.sub.0 apart) ∙ own_stream xs d.1 i x at
  where
    apart : y.sub.0 ≢ x.sub.0
    apart e = let no : true ≡ false = sym (is_there y.sub xs i x at (sym e)) ∙ d.0 in absurd (cc)

module _ (cards : List (CardModel × Dir)) (long_max number : ℕ) (book : List BookEntry) (all : List ModelMember) where
  one_played : (r : RecView) (m : Member AnyCard ghosts) (x : ModelMember) → (let k : SubId = record { 0 = r.knows.sub } in k) ≡ x.sub → StandsFor m.stream x.stream → LogFits (fresh_streams cards long_max) number book x.sub r.knows.log (stream_of x.sub all)
      → stream_of x.sub all ≡ x.stream → HasPlayed cards long_max (log_of r.knows) m.stream
  one_played r m x sub stands fits own =
      let after : Replayed = record { stream = stream_of x.sub all; room = number; since = joints_now x.sub number book; due = nothing } in
      record {
        replayed = after;
        plays = subst (λ (k : SubId). PlaysLog k (start (fresh_streams cards long_max) k) r.knows.log after) (sym sub) fits;
        settled = refl;
        stands = subst (λ (s : Stream). StandsFor m.stream s) (sym own) stands;
      }

  each_played : (rs : List RecView) (ms : List (Member AnyCard ghosts)) (xs : List ModelMember) → AllStandFor ms xs → subs_of rs ≡ subs xs → EachFits (fresh_streams cards long_max) number book all (subs xs) (map (λ r. r.knows.log) rs)
      → ((i : ℕ) (x : ModelMember) → slice_get xs i ≡ Some x → stream_of x.sub all ≡ x.stream) → (i : ℕ) (r : RecView) (m : Member AnyCard ghosts) → slice_get rs i ≡ Some r → slice_get ms i ≡ Some m → HasPlayed cards long_max (log_of r.knows) m.stream
  each_played rs [] xs st subs_ fits own i r m at_r at_m = absurd (cc)
  each_played rs (n ∷ ms) [] st subs_ fits own i r m at_r at_m = absurd st
  each_played [] (n ∷ ms) (x ∷ xs) st subs_ fits own i r m at_r at_m = absurd (cc)
  each_played (q ∷ rs) (n ∷ ms) (x ∷ xs) st subs_ fits own zero r m at_r at_m =
      let first : (let k : SubId = record { 0 = q.knows.sub } in k) ≡ x.sub = cc in
      let here = one_played q n x first st.0.stream fits.0 (own 0 x refl) in
      subst (λ (z : RecView × Member AnyCard ghosts). HasPlayed cards long_max (log_of z.0.knows) z.1.stream) (λ k. (same_Some q r at_r k, same_Some n m at_m k)) here
  each_played (q ∷ rs) (n ∷ ms) (x ∷ xs) st subs_ fits own (suc i) r m at_r at_m =
      let rest : subs_of rs ≡ subs xs = cc in each_played rs ms xs st.1 rest fits.1 (λ k. own (suc k)) i r m at_r at_m

pub all_played : (cards : List (CardModel × Dir)) (long_max : ℕ) (rs : List RecView) (ms : List (Member AnyCard ghosts)) → FitInRoom cards long_max rs ms → (i : ℕ) (r : RecView) (m : Member AnyCard ghosts) → slice_get rs i ≡ Some r → slice_get ms i ≡ Some m
    → HasPlayed cards long_max (log_of r.knows) m.stream
all_played cards long_max rs ms f = each_played cards long_max f.number f.book f.streams rs ms f.streams f.stand f.recs_are f.each (own_stream f.streams f.apart)

-- as many members as recs

pub same_count : (rs : List RecView) (ms : List (Member AnyCard ghosts)) (xs : List ModelMember) → AllStandFor ms xs → subs_of rs ≡ subs xs → length rs ≡ length ms
same_count [] [] xs st e = refl
same_count (r ∷ rs) [] [] st e = absurd (cc)
same_count (r ∷ rs) [] (x ∷ xs) st e = absurd st
same_count rs (m ∷ ms) [] st e = absurd st
same_count [] (m ∷ ms) (x ∷ xs) st e = absurd (cc)
same_count (r ∷ rs) (m ∷ ms) (x ∷ xs) st e = let rest : subs_of rs ≡ subs xs = cc in ap suc (same_count rs ms xs st.1 rest)

-- the last of the recs goes in front of the others
pub with_last_log : (ls : List (ℕ × List Marked)) (rs : List RecView) (r : RecView) → with_logs ls (rs ++ r ∷ []) ≡ with_logs (ls ++ log_of r.knows ∷ []) rs
with_last_log ls [] r = refl
with_last_log ls (q ∷ rs) r = ap (λ l. l ++ log_of q.knows ∷ []) (with_last_log ls rs r)
