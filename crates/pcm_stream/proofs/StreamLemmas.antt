-- Configured streams.
use Rattle.std.proofs.Common.{ℕ, ◌≡◌, ◌+◌, ◌%◌, Bool, true, false, List, replicate, refl, sym, ◌∙◌, ap, subst}
use Rattle.std.specs.Prelude.{Result, Ok, Err, IsOk, OnOk, if◌then◌else◌, nat_eq}
use Rattle.std.specs.declared.option.Option.{Option}
use Rattle.std.specs.declared.option.Option.TheVariants.{Some, None}
use Rattle.pcm_base.specs.declared.config.Config.{Config}
use Rattle.pcm_base.specs.declared.reply.Page.{Page}
use Rattle.pcm_base.specs.declared.state.State.{State}
use Rattle.pcm_base.specs.declared.act.Trigger.{Trigger}
use Rattle.pcm_base.specs.declared.act.Updated.TheVariants as updated
use Rattle.pcm_base.specs.declared.state.Dir.{Dir}
use Rattle.pcm_base.specs.declared.state.Dir.TheVariants as dir
use Rattle.pcm_base.specs.CardFacts.{consults, plan_after, moved_on}
use Rattle.pcm_base.specs.model.Standing.{put_at}
use Rattle.pcm_base.specs.model.Stream.{Stream, avail, shown}
use Rattle.pcm_base.specs.model.Update.{Refreshed, update, moved_up, found, found_in, lap, reported, settled, fill, fill_start, fill_count_at, silent_frame}
use Rattle.pcm_base.specs.model.Events.{page, page_by}
use Rattle.pcm_base.specs.declared.state.State.TheVariants as state
use Rattle.pcm_base.specs.model.Sound.{Sound, SoundAt, IsConfigured, IsPlaced, is_set_up}
use Rattle.pcm_laws.proofs.KeptByMoves.{Sound-as, IsConfigured-settled, IsPlaced-lap}
use Rattle.pcm_laws.proofs.Sizes.{sizes}

pub configured : (c : Config) (s : Stream) → s.setup.config ≡ Some c → Sound s → IsConfigured c s
configured c s e h = subst (λ (o : Option Config). SoundAt o s) e h

pub sound_configured : (c : Config) (s : Stream) → s.setup.config ≡ Some c → IsConfigured c s → Sound s
sound_configured c s e h = subst (λ (o : Option Config). SoundAt o s) (sym e) h

pub page-configured : (c : Config) (s : Stream) → s.setup.config ≡ Some c → page s ≡ record { state = s.state; hw = shown s s.at.hw; appl = shown s s.at.appl; avail = avail s }
page-configured c s e = ap (λ (o : Option Config). page_by o s) e

pub page-unset : (s : Stream) → s.setup.config ≡ None → page s ≡ record { state = s.state; hw = 0; appl = 0; avail = 0 }
page-unset s e = ap (λ (o : Option Config). page_by o s) e

-- pages with the same parts
abbrev pub same_parts : State → ℕ → ℕ → ℕ → State → ℕ → ℕ → ℕ → Type 0
same_parts a b c d x y z w =
    let p : Page = record { state = a; hw = b; appl = c; avail = d } in
    let q : Page = record { state = x; hw = y; appl = z; avail = w } in
    p ≡ q

pub same_page : (a x : State) (b y c z d w : ℕ) → a ≡ x → b ≡ y → c ≡ z → d ≡ w → same_parts a b c d x y z w
same_page a x b y c z d w ea eb ec ed =
    let p : ℕ → Page = λ n. record { state = a; hw = n; appl = c; avail = d } in
    let q : ℕ → Page = λ n. record { state = a; hw = y; appl = n; avail = d } in
    let r : ℕ → Page = λ n. record { state = a; hw = y; appl = z; avail = n } in
    let t : State → Page = λ n. record { state = n; hw = y; appl = z; avail = w } in
    ap p eb ∙ ap q ec ∙ ap r ed ∙ ap t ea

-- a position that is shown
pub shown-as : (s : Stream) (x p l : ℕ) → s.setup.boundary ≡ l → x ≡ p % l → x ≡ shown s p
shown-as s x p l e h = h ∙ ap (λ n. p % n) (sym e)

-- ---- triggers

pub fact_of_ok : {T E : Type 0} (P : Type 0) (r : Result T E) → IsOk r → OnOk r P → P
fact_of_ok P (Ok x) h k = k
fact_of_ok P (Err e) h k = absurd (cc)

-- a trigger that looks at no plan leaves it
pub plan_after-kept : (t : Trigger) (p : Option (List Bool)) → consults t ≡ false → plan_after t p ≡ p
plan_after-kept t None h = refl
plan_after-kept t (Some p) h = ap (λ b. Some (if b then moved_on p else p)) h

-- ---- updates

pub found-update : (s : Stream) → s.card.runs ≡ true → (update s).found ≡ found (moved_up s)
found-update s e = ap (λ b. let r : Refreshed = if b then record { found = found (moved_up s); stream = settled (found (moved_up s)) (moved_up s) } else record { found = updated.Nothing; stream = s } in r.found) e

pub stream-update : (s : Stream) → s.card.runs ≡ true → (update s).stream ≡ settled (found (moved_up s)) (moved_up s)
stream-update s e = ap (λ b. let r : Refreshed = if b then record { found = found (moved_up s); stream = settled (found (moved_up s)) (moved_up s) } else record { found = updated.Nothing; stream = s } in r.stream) e

-- silence is put on playback alone
pub fill-capture : (s : Stream) → s.dir ≡ dir.Capture → fill s ≡ s
fill-capture s e = ap (λ (d : Dir).
    let n : ℕ = elim d as (λ _. ℕ) [ dir.Playback ↦ fill_count_at (fill_start s) s | dir.Capture ↦ 0 ] in
    let t : Stream = record s { puts = put_at (fill_start s) (replicate n (silent_frame s)) s.puts; at = record s.at { filled = if nat_eq n 0 then s.at.filled else fill_start s + n } } in
    t) e

not_drained : (t : State) (b stop a : ℕ) → is_set_up t ≡ false → found_in t b stop a ≡ updated.DrainDone → ⊥
not_drained state.Closed b stop a h e = cc
not_drained state.Opened b stop a h e = cc
not_drained _ b stop a h e = cc

-- a drain that has ended leaves a sound stream
pub settle-sound : (s : Stream) → Sound s → found s ≡ updated.DrainDone → Sound (settled updated.DrainDone s)
settle-sound s h e = Sound-as s (settled updated.DrainDone s) refl (λ c k. IsConfigured-settled c updated.DrainDone s e k) (λ k. absurd (not_drained s.state s.setup.buffer s.setup.sw.stop_threshold (avail s) k.state e)) h

-- ---- what holds of an option's value

pub for_some : {A : Type 0} (P : A → Type 0) (a : A) → P a → (x : A) → Some a ≡ Some x → P x
for_some P a h x e = let k : a ≡ x = cc in subst P k h

pub no_none : {A : Type 0} (P : Type 0) (a : A) → Some a ≡ None → P
no_none P a e = absurd (cc)

-- the stream where the card is reported
pub placed-reported : (c : Config) (s : Stream) → IsConfigured c s → IsPlaced (lap (reported s))
placed-reported c s h = IsPlaced-lap s (sizes c s h.shaped) h.placed
