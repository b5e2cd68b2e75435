-- New rooms: what is in them fits.
use Rattle.std.proofs.Common.{◌≡◌, ◌⊎◌, inl, ◌≤◌, ◌<◌, ℕ, zero, suc, Bool, true, false, cond, nat_eq, nat_lt, List, [], ◌∷◌, ◌++◌, length, slice_get, Some, refl, sym, ap, ◌∙◌, subst, arith}
use Rattle.std.specs.Prelude.{MatchBool}
use Rattle.std.proofs.lemmas.Bool.Decides.{nat_tests}
use Rattle.card_emul.specs.declared.any_card.AnyCard.{AnyCard}
use Rattle.card_emul.specs.contracts.any_card.AnyCardCard.TheImpl.{ghosts}
use Rattle.pcm_base.specs.declared.config.CardModel.{CardModel}
use Rattle.pcm_base.specs.declared.ids.SubId.{SubId}
use Rattle.pcm_base.specs.declared.state.Dir.{Dir}
use Rattle.pcm_base.specs.model.Group.{stream_of}
use Rattle.pcm_base.specs.model.Stream.{Member as ModelMember, Stream, fresh, no_stream}
use Rattle.std.specs.declared.option.Option.TheVariants.{None}
use Rattle.pcm_base.specs.declared.sleeper.Sleeper.{Sleeper}
use Rattle.pcm_stream.specs.MembersStand.{AllStandFor, CallsFit, MemberStandsFor}
use Rattle.pcm_stream.specs.StandsFor.{StandsFor}
use Rattle.pcm_stream.specs.declared.members.Member.{Member}
use Rattle.pcm_stream.specs.declared.substream.Substream.{Substream}
use Rattle.sleepers.specs.Clients.{AreApart}
use Rattle.sleepers.specs.Marks.{AreMarks, waiting}
use Rattle.floor_rule.specs.declared.entry.Joint.{Joint}
use Rattle.floor_rule.specs.declared.rule.Marked.{Marked}
use Rattle.room_book.specs.Logs.{Replayed, nothing}
use Rattle.room_book.specs.Rooms.{IsOwnOrNone, LogFits, RightSize, fresh_streams, joints_now}
use Rattle.room_book.specs.declared.book.BookEntry.TheVariants.{In}
use Rattle.room_parts.specs.Recs.{RecView}
use Rattle.room_lock.specs.InRoom.{FitsIn}

-- nobody is of the right number everywhere
pub none_right : (number : ℕ) → RightSize number []
none_right number = by (nat_lt number 16)
  where
    by : (b : Bool) → MatchBool b (IsOwnOrNone number []) ((length {A = SubId} [] ≡ 0) ⊎ (2 ≤ length {A = SubId} []))
    by true = tt
    by false = inl refl

pub empty_fits : (origin : SubId → Stream) (cards number : ℕ) → FitsIn origin cards 0 number [] [] []
empty_fits origin cards number = record {
  recs_are = refl;
  fits = record {
    fits = record { members = refl; apart = tt; is_book = tt; each = tt };
    size = none_right number;
    asleep = tt;
  };
  placed = λ i r at. absurd (let no : ⊥ = cc in no);
  acts = refl;
}

-- the stream of the only member
only_stream : (k : SubId) (s : Stream) → stream_of k (record { sub = k; stream = s; asleep = [] } ∷ []) ≡ s
only_stream k s = by (nat_eq k.0 k.0) (let same : nat_eq k.0 k.0 ≡ true = grind (arith, nat_tests) in same)
  where
    by : (b : Bool) → b ≡ true → cond b s (stream_of k []) ≡ s
    by true e = refl
    by false e = absurd (let no : ⊥ = cc in no)

-- it has made no joints since it came in
no_joints : (k : SubId) (number : ℕ) → joints_now k number (In k ∷ []) ≡ []
no_joints k number = by (nat_eq k.0 k.0)
  where
    by : (b : Bool) → ◌≡◌ {A = List Joint} (cond b [] []) []
    by true = refl
    by false = refl

pub alone_right : (k : SubId) → k.0 < 16 → RightSize k.0 (k ∷ [])
alone_right k low = by (nat_lt k.0 16) (let is : nat_lt k.0 16 ≡ true = grind (arith, nat_tests, low) in is)
  where
    by : (b : Bool) → b ≡ true → MatchBool b (IsOwnOrNone k.0 (k ∷ [])) ((length (k ∷ []) ≡ 0) ⊎ (2 ≤ length (k ∷ [])))
    by true e = refl
    by false e = absurd (let no : ⊥ = cc in no)

card_stream : (cards : List (CardModel × Dir)) (long_max : ℕ) (k : SubId) (model : CardModel) (dir : Dir) → slice_get cards k.0 ≡ Some (model, dir) → fresh_streams cards long_max k ≡ fresh model dir long_max
card_stream cards long_max k model dir at = ap (λ o. elim o [ Some c ↦ fresh c.0 c.1 long_max | None ↦ no_stream ]) at

alone_log : (cards : List (CardModel × Dir)) (long_max : ℕ) (k : SubId) (model : CardModel) (dir : Dir) → slice_get cards k.0 ≡ Some (model, dir)
    → LogFits (fresh_streams cards long_max) k.0 (In k ∷ []) k [] (stream_of k (record { sub = k; stream = fresh model dir long_max; asleep = [] } ∷ []))
alone_log cards long_max k model dir at =
    ap (λ (z : Stream × List Joint). let r : Replayed = record { stream = z.0; room = k.0; since = z.1; due = nothing } in r)
    (λ i. ((card_stream cards long_max k model dir at ∙ sym (only_stream k (fresh model dir long_max))) i, sym (no_joints k k.0) i))

pub alone_fits : (cards : List (CardModel × Dir)) (long_max : ℕ) (k : SubId) (model : CardModel) (dir : Dir) (r : RecView) → slice_get cards k.0 ≡ Some (model, dir) → k.0 < length cards → length cards ≤ 16
    → r.knows.sub ≡ k.0 → r.knows.log ≡ [] → r.knows.place ≡ r.knows.sub
    → FitsIn (fresh_streams cards long_max) (length cards) 0 k.0 (record { sub = k; stream = fresh model dir long_max; asleep = [] } ∷ []) (r ∷ []) (In k ∷ [])
alone_fits cards long_max k model dir r at card few sub_is none placed = record {
  recs_are = ap (λ (n : ℕ). let j : SubId = record { 0 = n } in j ∷ []) sub_is;
  fits = record {
    fits = record {
      members = refl;
      apart = (refl, tt);
      is_book = tt;
      each = (subst (λ (l : List Marked). LogFits (fresh_streams cards long_max) k.0 (In k ∷ []) k l (stream_of k (record { sub = k; stream = fresh model dir long_max; asleep = [] } ∷ []))) (sym none) (alone_log cards long_max k model dir at), tt);
    };
    size = alone_right k (omega (arith, card, few));
    asleep = ((λ c h. absurd (let no : ⊥ = cc in no)), tt);
  };
  placed = λ i s there. only i s there;
  acts = refl;
}
  where
    only : (i : ℕ) (s : RecView) → slice_get (r ∷ []) i ≡ Some s → (s.knows.place ≡ k.0) × (s.knows.sub < length cards)
    only zero s there = (let e : r ≡ s = cc in subst (λ (x : RecView). (x.knows.place ≡ k.0) × (x.knows.sub < length cards)) e (placed ∙ sub_is, subst (λ (n : ℕ). n < length cards) (sym sub_is) card))
    only (suc i) s there = absurd (let no : ⊥ = cc in no)

-- a member with no call in progress stands for one with this stream
pub alone_stands : (sub : SubId) (stream : Substream AnyCard ghosts) (sleepers : List Sleeper) (s : Stream) → StandsFor stream s → s.sleepers ≡ [] → sleepers ≡ []
    → MemberStandsFor (let m : Member AnyCard ghosts = record { sub = sub; stream = stream; sleepers = sleepers } in m) (record { sub = sub; stream = s; asleep = [] })
alone_stands sub stream sleepers s h none empty = record {
  member = record {
    number = refl;
    apart = subst AreApart (sym empty) tt;
    calls = ap waiting empty ∙ sym none;
    marks = subst (AreMarks []) (sym empty) (λ k d lt. absurd (let no : ⊥ = omega (arith, lt) in no));
    fit = subst (CallsFit s) (sym none) tt;
  };
  stream = h;
}

pub one_stands : (ms ns : List (Member AnyCard ghosts)) (m : Member AnyCard ghosts) (x : ModelMember) → ns ≡ ms ++ m ∷ [] → ms ≡ [] → MemberStandsFor m x → AllStandFor ns (x ∷ [])
one_stands ms ns m x is none h = subst (λ (l : List (Member AnyCard ghosts)). AllStandFor l (x ∷ [])) (sym (is ∙ ap (λ (l : List (Member AnyCard ghosts)). l ++ m ∷ []) none)) (h, tt)
