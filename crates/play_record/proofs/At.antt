-- A device as the one member of its group.
use Rattle.std.proofs.Common.{ℕ, zero, suc, cond, slice_get, ◌≡◌, Bool, true, false, ◌&&◌, ◌||◌, nat_eq, List, [], ◌∷◌, map, refl, sym, ap, ◌∙◌, subst, arith}
use Rattle.std.specs.List.{All}
use Rattle.std.specs.Option.{ForSome}
use Rattle.std.proofs.lemmas.Bool.Decides.{nat_tests}
use Rattle.std.specs.declared.option.Option.{Option}
use Rattle.std.specs.declared.option.Option.TheVariants.{Some, None}
use Rattle.pcm_base.specs.declared.call.Call.{Call}
use Rattle.pcm_base.specs.declared.card.Card.{Ghosts}
use Rattle.pcm_base.specs.declared.config.CardModel.{CardModel}
use Rattle.pcm_base.specs.declared.config.Config.{Config}
use Rattle.pcm_base.specs.declared.ids.ClientId.{ClientId}
use Rattle.pcm_base.specs.declared.ids.SubId.{SubId}
use Rattle.pcm_base.specs.declared.sleeper.Sleeper.{Sleeper}
use Rattle.pcm_base.specs.declared.state.Dir.{Dir}
use Rattle.pcm_base.specs.declared.state.State.{State}
use Rattle.pcm_base.specs.declared.state.State.TheVariants as state
use Rattle.pcm_base.specs.model.Frame.{Frame}
use Rattle.pcm_base.specs.model.Group.{stream_of}
use Rattle.pcm_base.specs.model.Replay.{is_member}
use Rattle.pcm_base.specs.model.Sound.{IsBare, Sound, SoundAt, may_be_set_up}
use Rattle.pcm_base.specs.model.Standing.{Put}
use Rattle.pcm_base.specs.model.Stream.{Member as ModelMember, Positions, Setup, Stream, Waiting, all_at, no_plan, no_setup, no_stream}
use Rattle.card_emul.specs.Limits.{duplex}
use Rattle.sleepers.specs.Clients.{has_client}
use Rattle.sleepers.specs.Marks.{AreMarks, waiting}
use Rattle.pcm_stream.specs.declared.members.Member.{Member}
use Rattle.pcm_stream.specs.declared.runtime.Runtime.{Runtime}
use Rattle.pcm_stream.specs.Members.{numbers_of}
use Rattle.pcm_stream.specs.MembersStand.{AllStandFor, CallsFit, IsMember, MemberStandsFor}
use Rattle.pcm_stream.specs.StandsFor.{StandsFor}
use Rattle.group_trigger.specs.Votes.{all_tell}
use Rattle.pcm_group.specs.Stepped.{all_true}
use Rattle.pcm_group.specs.Waiting.{IsFreeFor, is_its_own}
use Rattle.play_record.specs.Devices.{IsAt, IsDevice, IsOpen}
use Rattle.play_record.specs.Stages.{lone, long_max, opened_with}

-- nobody waits
no_calls : (l : List Sleeper) → waiting l ≡ [] → l ≡ []
no_calls [] h = refl
no_calls (x ∷ l) h = absurd (cc)

all_one : {A : Type 0} (P : A → Type 0) (m : A) → P m → All P (m ∷ [])
all_one P m h zero d l = h
all_one P m h (suc k) d l = absurd (omega (arith, l))

no_marks : AreMarks [] []
no_marks k d l = absurd (omega (arith, l))

module _ {C : Type 0} {g : Ghosts C} where
  pub numbers-one : (ms : List (Member C g)) (x : ModelMember) → AllStandFor ms (x ∷ []) → numbers_of ms ≡ x.sub ∷ []
  numbers-one [] x h = absurd h
  numbers-one (m ∷ []) x h = ap (λ k. k ∷ []) h.0.member.number
  numbers-one (m ∷ n ∷ ms) x h = absurd h.1

  pub numbers-at : (ms : List (Member C g)) (k : SubId) (s : Stream) → IsAt k s ms → numbers_of ms ≡ k ∷ []
  numbers-at ms k s h = numbers-one ms (lone k s) h.stands

  pub member-at : (ms : List (Member C g)) (k : SubId) (s : Stream) → IsAt k s ms → is_member k (numbers_of ms) ≡ true
  member-at ms k s h =
      let same : nat_eq k.0 k.0 ≡ true = grind (arith, nat_tests) in
      ap (is_member k) (numbers-at ms k s h) ∙ ap (λ b. b || false) same

  pub free-at : (ms : List (Member C g)) (k : SubId) (s : Stream) (e : Call) (c : ClientId) → IsAt k s ms → IsFreeFor e k c ms
  free-at [] k s e c h = absurd h.stands
  free-at (m ∷ []) k s e c h =
      let none : m.sleepers ≡ [] = no_calls m.sleepers (h.stands.0.member.calls ∙ h.calls) in
      let free : has_client c m.sleepers ≡ false = ap (has_client c) none in
      all_one (λ n. is_its_own e k n.sub ≡ false → has_client c n.sleepers ≡ false) m (λ other. free)
  free-at (m ∷ n ∷ ms) k s e c h = absurd h.stands.1

  -- a member that stands for another member of the model too
  member_also : (m : Member C g) (k : SubId) (s : Stream) (x : ModelMember) → MemberStandsFor m (lone k s) → s.sleepers ≡ [] → MemberStandsFor m x → MemberStandsFor m (lone k x.stream)
  member_also m k s x h calls other =
      let none : m.sleepers ≡ [] = no_calls m.sleepers (h.member.calls ∙ calls) in
      let marks : AreMarks [] m.sleepers = subst (λ l. AreMarks [] l) (sym none) no_marks in
      record {
        member = record { number = h.member.number; apart = h.member.apart; calls = other.member.calls; marks = marks; fit = other.member.fit };
        stream = other.stream;
      }

  -- every list of members that it stands for is such a device
  pub also-at : (ms : List (Member C g)) (k : SubId) (s : Stream) (xs : List ModelMember) → IsAt k s ms → AllStandFor ms xs → IsAt k (stream_of k xs) ms
  also-at [] k s xs h other = absurd h.stands
  also-at (m ∷ n ∷ ms) k s xs h other = absurd h.stands.1
  also-at (m ∷ []) k s [] h other = absurd other
  also-at (m ∷ []) k s (x ∷ y ∷ xs) h other = absurd other.1
  also-at (m ∷ []) k s (x ∷ []) h other =
      let is : nat_eq x.sub.0 k.0 ≡ true = ap (λ j. nat_eq j.0 k.0) (sym other.0.member.number ∙ h.stands.0.member.number) ∙ grind (arith, nat_tests) in
      let named : stream_of k (x ∷ []) ≡ x.stream = ap (λ b. cond b x.stream no_stream) is in
      let none : m.sleepers ≡ [] = no_calls m.sleepers (h.stands.0.member.calls ∙ h.calls) in
      let calls : x.stream.sleepers ≡ [] = sym other.0.member.calls ∙ ap waiting none in
      let there : IsAt k x.stream (m ∷ []) = record { stands = (member_also m k s x h.stands.0 h.calls other.0, tt); tells = h.tells; calls = calls } in
      subst (λ v. IsAt k v (m ∷ [])) (sym named) there

  pub only-member : (ms : List (Member C g)) (x : ModelMember) (m : Member C g) → AllStandFor ms (x ∷ []) → slice_get ms 0 ≡ Some m → ms ≡ m ∷ []
  only-member [] x m h is = absurd h
  only-member (n ∷ []) x m h is = cc
  only-member (n ∷ l ∷ ms) x m h is = absurd h.1

-- a stream that is open is not set up
bare : (c : Option Config) (s : Stream) → s.state ≡ state.Opened → SoundAt c s → IsBare s
bare None s h sound = sound
bare (Some g) s h sound = absurd (let e : may_be_set_up state.Opened ≡ true = ap may_be_set_up (sym h) ∙ sound.state in cc)

same_stream : (d d' : Dir) (m m' : CardModel) (n n' : ℕ) (t t' : State) (k k' : Option State) (p p' : Setup) (u u' : ℕ) (a a' : Positions) (qs : List Put) (v v' : ℕ) (r r' : Bool) (f f' : List Bool) (x x' y y' : List Frame) (w w' : List Waiting)
    → d ≡ d' → m ≡ m' → n ≡ n' → t ≡ t' → k ≡ k' → p ≡ p' → u ≡ u' → a ≡ a' → v ≡ v' → r ≡ r' → f ≡ f' → x ≡ x' → y ≡ y' → w ≡ w'
    → ◌≡◌ {A = Stream} (record { dir = d; model = m; long_max = n; state = t; kept = k; setup = p; mappings = u; at = a; puts = qs; moved = v; card = record { runs = r; plan = f; taken = x; to_give = y }; sleepers = w })
    (record { dir = d'; model = m'; long_max = n'; state = t'; kept = k'; setup = p'; mappings = u'; at = a'; puts = qs; moved = v'; card = record { runs = r'; plan = f'; taken = x'; to_give = y' }; sleepers = w' })
same_stream d d' m m' n n' t t' k k' p p' u u' a a' qs v v' r r' f f' x x' y y' w w' e1 e2 e3 e4 e5 e6 e7 e8 e9 e10 e11 e12 e13 e14 = cc

-- a stream that is open is known but for its puts
is_opened : (d : Dir) (s : Stream) → IsOpen d s → Sound s → s ≡ opened_with d s.puts
is_opened d s o sound =
    let b : IsBare s = bare s.setup.config s o.state sound in
    same_stream s.dir d s.model duplex s.long_max long_max s.state state.Opened s.kept None s.setup no_setup s.mappings 0 s.at (all_at 0) s.puts s.moved 0 s.card.runs false s.card.plan no_plan s.card.taken [] s.card.to_give [] s.sleepers []
    o.dir o.model o.long_max o.state b.kept b.setup b.unmapped b.at b.moved b.stands o.plan b.taken b.to_give o.calls

module _ {C : Type 0} {g : Ghosts C} where
  named : (m : Member C g) (k : SubId) → m.sub ∷ [] ≡ k ∷ [] → m.sub ≡ k
  named m k h = cc

  -- a new device
  pub opened-at : (ms : List (Member C g)) (d : Dir) (k : SubId) (dev : IsDevice d ms) → numbers_of ms ≡ k ∷ [] → IsAt k (opened_with d dev.member.stream.puts) ms
  opened-at [] d k dev h = absurd dev.stands
  opened-at (m ∷ n ∷ ms) d k dev h = absurd dev.stands.1
  opened-at (m ∷ []) d k dev h =
      let x : ModelMember = dev.member in
      let s : Stream = opened_with d x.stream.puts in
      let one : MemberStandsFor m x = dev.stands.0 in
      let is : x.stream ≡ s = is_opened d x.stream dev.is_open one.stream.sound in
      let none : m.sleepers ≡ [] = no_calls m.sleepers (one.member.calls ∙ dev.is_open.calls) in
      record {
        stands = (
          record {
            member = record { number = named m k h; apart = one.member.apart; calls = ap waiting none; marks = subst (λ l. AreMarks [] l) (sym none) no_marks; fit = tt };
            stream = subst (λ t. StandsFor m.stream t) is one.stream;
          },
          tt,
        );
        tells = dev.tells;
        calls = refl;
      }

module _ {C : Type 0} {g : Ghosts C} where
  frame_by : (m : Member C g) (s t : Stream) (h : Config) (o : Option Runtime) → m.stream.runtime ≡ o → StandsFor m.stream s → StandsFor m.stream t → s.setup.config ≡ Some h → t.setup.frame_bytes ≡ s.setup.frame_bytes
  frame_by m s t h None e a b is = absurd (let unset : s.setup.config ≡ None = (a.shows.unset e).unset in cc)
  frame_by m s t h (Some r) e a b is = (b.shows.runs_for r e).setup.frame_bytes ∙ sym (a.shows.runs_for r e).setup.frame_bytes

  -- the frames of a device that is set up have one width
  pub frame-at : (ms : List (Member C g)) (k : SubId) (s t : Stream) (h : Config) → IsAt k s ms → IsAt k t ms → s.setup.config ≡ Some h → t.setup.frame_bytes ≡ s.setup.frame_bytes
  frame-at [] k s t h a b is = absurd a.stands
  frame-at (m ∷ n ∷ ms) k s t h a b is = absurd a.stands.1
  frame-at (m ∷ []) k s t h a b is = frame_by m s t h m.stream.runtime refl a.stands.0.stream b.stands.0.stream is
